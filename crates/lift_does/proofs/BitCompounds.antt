-- Compound assignments to bit-fields, and their `++` and `--` (ISO C99, 6.5.2.4, 6.5.3.1 and 6.5.16.2).
use Rattle.std.proofs.Common.{◌≡◌, ◌⊎◌, ◌++◌, inl, inr, ℕ, ◌-◌, ◌≤◌, ◌==◌, nat_le, nat_lt, pos, Bool, true, false, not, if◌then◌else◌, List, [], ◌∷◌, Option, Some, None, option_map, slice_get, Ok, refl, sym, ap, subst, ◌∙◌, arith}
use Rattle.std.proofs.lemmas.Bool.{le-leb}
use Rattle.std.proofs.lemmas.Bool.Decides.{nat_tests}
use Rattle.cr_base.specs.declared.layout.Spot.{Spot}
use Rattle.cr_base.specs.declared.refusal.Place.{Place}
use Rattle.cr_base.specs.declared.scalar.Scalar.{Scalar}
use Rattle.cr_base.specs.declared.scalar.Scalar.TheVariants as scalars
use Rattle.cr_world.specs.World.{World, blocks_of}
use Rattle.cx_core.specs.Conversions.{promoted, promoted_basic, basic_of_enum, scalar_of_basic, scalar_of as c_scalar_of, IsIntegerType}
use Rattle.cx_core.specs.Trees.{CTy, ty, CTyForm, void, basic, enum_type, pointer, array, record_type, function, form_of_type, CExpr, expr, member, assign_by, step, type_of, unqualified, CProgram}
use Rattle.cx_core.specs.Typing.{IsTyped, IsLvalue, IsStepOf, IsElementPointer, width_of}
use Rattle.cx_core.specs.declared.expr.Op2.{Op2}
use Rattle.cx_core.specs.declared.expr.Op2.TheVariants as op2
use Rattle.cx_core.specs.declared.ty.Basic.{Basic}
use Rattle.cx_core.specs.declared.ty.Basic.TheVariants as basics
use Rattle.cx_mean.specs.Accesses.{CLoaded, loaded, field_value}
use Rattle.cx_mean.specs.Leftmost.{c_update, c_updates}
use Rattle.cx_mean.specs.Marks.{Marks, no_marks}
use Rattle.cx_mean.specs.Nodes.{CUpdating, CChange, node_updating, update_loaded, changes, typed_value}
use Rattle.cx_mean.specs.Operands.{needed, CValue, designates_bits, COperand, scalar_value, united_operands}
use Rattle.cx_mean.specs.Settings.{scalar_in_type}
use Rattle.cx_mean.specs.Values.{CTyped}
use Rattle.cx_typed_values.specs.Outcomes.{Comes}
use Rattle.cx_typed_work.proofs.Accesses.{IsLoadedOf}
use Rattle.cx_typed_work.proofs.Bits.{bits_loaded}
use Rattle.cx_typed_work.proofs.Computing.{stepped_run}
use Rattle.cx_typed_work.proofs.Fields.{FitsKind, field_at}
use Rattle.cx_typed_work.proofs.Given.{place_given}
use Rattle.cx_typed_work.proofs.Lvalues.{field_of_place}
use Rattle.cx_typed_work.proofs.Updates.{step_changing}
use Rattle.cx_typed_work.specs.ExternalCalls.{KeepsObjects}
use Rattle.cx_typed_work.specs.Operands.{IsFieldPlace, IsPlaceOf, IsScalarIn}
use Rattle.lift_calls.specs.Programs.{setting_in}
use Rattle.lift_does.proofs.Around.{Around, scope, At, DidOf, OweAs, value_in}
use Rattle.lift_does.proofs.Assignments.{pair_of}
use Rattle.lift_does.proofs.BitAssignments.{base_at, needed_is, field_target, target_bits, field_store}
use Rattle.lift_does.proofs.BitLoads.{LoadedBits, bits_loaded_is, loads_again, bytes_there, setting_kind, kind_same, unqualified_kind}
use Rattle.lift_does.proofs.BitPlaces.{bits_there}
use Rattle.lift_does.proofs.BitUpdates.{BitsUpdating, bits_first, bits_behind}
use Rattle.lift_does.proofs.CompoundAssignments.{typed_as, assigned_change, same_change, updating_of, same_updating, assigned_operator, lvalue_in}
use Rattle.lift_does.proofs.Lvalues.{some_width}
use Rattle.lift_does.proofs.Nodes.{and_then_is, PartOwes, OneDid, one_owes, two_owes}
use Rattle.lift_does.proofs.Operands.{scalar_is, scalar_in, scalar_given}
use Rattle.lift_does.proofs.Binary.{typed_value_is}
use Rattle.lift_does.proofs.Reaching.{reached_then, later_itself}
use Rattle.lift_does.proofs.Loads.{same_unqualified}
use Rattle.lift_does.proofs.BinaryTypes.{points_there}
use Rattle.lift_does.proofs.StepsByOne.{one_typed, Computes, IsMover, adds, subtracts, one_operator, one_stands, steps_in, of_program}
use Rattle.lift_does.proofs.Types.{kind_there}
use Rattle.lift_does.proofs.Runs.{step_owes, same_events}
use Rattle.lift_does.proofs.Unary.{form_fixed, ExprOwes, FormOwes}
use Rattle.lift_does.proofs.Updates.{same_scalar, IsOperator, change_of, kept_type}
use Rattle.lift_does.specs.Does.{is_fixed}
use Rattle.lift_does.specs.Gives.{GivesBase, GivesOperand}
use Rattle.lift_does.specs.Later.{TemporariesStay}
use Rattle.lift_exprs.specs.Names.{type_in}
use Rattle.lift_forms.specs.Given.{Given}
use Rattle.lift_forms_laws.specs.Gives.{OperandStands}
use Rattle.mem_bytes.specs.Coding.{IsValueOf}
use Rattle.lift_exprs.specs.Lifted.{operand_of, lifted}
use Rattle.lift_exprs.specs.Stores.{Target, a_field, changed, changed_first, field_form, held_store, settled, promoted_type, one_of, up_or_down, stepped, step_by_one, target_type}
use Rattle.lift_exprs.specs.Written.{Written, in_turn, temporary_place, address_of_given}
use Rattle.lift_forms.specs.BitFields.{bit_write}
use Rattle.lift_forms.specs.Given as given_form
use Rattle.lift_forms.specs.Operators.{Operand, given_value}
use Rattle.lift_held.specs.Held.{operand}
use Rattle.lift_held.specs.declared.asked.Asked.{Asked}
use Rattle.lift_stands.specs.Stands.{Images}
use Rattle.mem_bytes.specs.declared.value.Ptr.{Ptr}
use Rattle.mem_bytes.specs.declared.value.Value.{Value}
use Rattle.mem_bytes.specs.declared.value.Value.TheVariants.{Whole as Number}
use Rattle.rs_mean.specs.Run.{Flow}
use Rattle.rs_mean.specs.Scalars.{scalar_of}
use Rattle.rs_text.specs.declared.integer.IntegerTy.{IntegerTy}
use Rattle.rs_text.specs.declared.integer.IntegerTy.TheVariants.{I8, I16, I32, I64, U8, U16, U32, U64, Isize, Usize}
use Rattle.rs_text.specs.Tree.{Ty, Integer, Expr, Read, Stmt, Assign}

enum_int : (which : IntegerTy) → scalar_of (Integer which) ≡ Some (scalar_of_basic basics.Int) → which ≡ I32
enum_int I8 e = let clash : Some (scalars.Whole 8 true) ≡ Some (scalars.Whole 32 true) = e in cc (clash)
enum_int I16 e = let clash : Some (scalars.Whole 16 true) ≡ Some (scalars.Whole 32 true) = e in cc (clash)
enum_int I32 e = refl
enum_int I64 e = let clash : Some (scalars.Whole 64 true) ≡ Some (scalars.Whole 32 true) = e in cc (clash)
enum_int U8 e = let clash : Some (scalars.Whole 8 false) ≡ Some (scalars.Whole 32 true) = e in cc (clash)
enum_int U16 e = let clash : Some (scalars.Whole 16 false) ≡ Some (scalars.Whole 32 true) = e in cc (clash)
enum_int U32 e = let clash : Some (scalars.Whole 32 false) ≡ Some (scalars.Whole 32 true) = e in cc (clash)
enum_int U64 e = let clash : Some (scalars.Whole 64 false) ≡ Some (scalars.Whole 32 true) = e in cc (clash)
enum_int Isize e = let clash : Some (scalars.Whole 64 true) ≡ Some (scalars.Whole 32 true) = e in cc (clash)
enum_int Usize e = let clash : Some (scalars.Whole 64 false) ≡ Some (scalars.Whole 32 true) = e in cc (clash)

enum_unsigned : (which : IntegerTy) → scalar_of (Integer which) ≡ Some (scalar_of_basic basics.Unsigned) → which ≡ U32
enum_unsigned I8 e = let clash : Some (scalars.Whole 8 true) ≡ Some (scalars.Whole 32 false) = e in cc (clash)
enum_unsigned I16 e = let clash : Some (scalars.Whole 16 true) ≡ Some (scalars.Whole 32 false) = e in cc (clash)
enum_unsigned I32 e = let clash : Some (scalars.Whole 32 true) ≡ Some (scalars.Whole 32 false) = e in cc (clash)
enum_unsigned I64 e = let clash : Some (scalars.Whole 64 true) ≡ Some (scalars.Whole 32 false) = e in cc (clash)
enum_unsigned U8 e = let clash : Some (scalars.Whole 8 false) ≡ Some (scalars.Whole 32 false) = e in cc (clash)
enum_unsigned U16 e = let clash : Some (scalars.Whole 16 false) ≡ Some (scalars.Whole 32 false) = e in cc (clash)
enum_unsigned U32 e = refl
enum_unsigned U64 e = let clash : Some (scalars.Whole 64 false) ≡ Some (scalars.Whole 32 false) = e in cc (clash)
enum_unsigned Isize e = let clash : Some (scalars.Whole 64 true) ≡ Some (scalars.Whole 32 false) = e in cc (clash)
enum_unsigned Usize e = let clash : Some (scalars.Whole 64 false) ≡ Some (scalars.Whole 32 false) = e in cc (clash)

module _ (x : Around) where
  -- what a load of a bit-field goes on with
  pub record LoadedBitsUpdate (type : CTy) (change : CChange) (place : Ptr) (spot : Spot) (marks : Marks) (c2 : World) (now : CUpdating) : Type 0 where
    pub kind : Scalar
    pub kind_is : scalar_in_type (setting_in x.s) type ≡ Some kind
    pub one : CLoaded
    pub what : LoadedBits (blocks_of c2) place spot.bit spot.width marks kind one
    pub old_in : IsScalarIn x.home.program type what.of_c
    pub now_is : updating_of change what.of_c one.marks ≡ now

  scalar_same_type : (own type : CTy) (value : Value) → type ≡ unqualified own → IsScalarIn x.home.program own value → IsScalarIn x.home.program type value
  scalar_same_type own type value same is = record {
    kind = is.kind;
    kind_is = ap (λ (t : CTy). c_scalar_of x.home.program.types (form_of_type t)) same ∙ (unqualified_kind x own ∙ is.kind_is);
    of_kind = is.of_kind;
    leads = is.leads;
  }

  loaded_bits_update : (type own : CTy) (here_at : Place) (of : CExpr) (spot : Spot) (place : Ptr) (change : CChange) (marks : Marks) (last : Images) (c2 w2 : World) (now : CUpdating) → At x last c2 w2 → IsLvalue x.home (expr own here_at (member of spot)) →
      IsFieldPlace (expr own here_at (member of spot)) place spot.bit spot.width → change.target.value ≡ designates_bits place spot.bit spot.width → change.target.type ≡ own → type ≡ unqualified own →
      update_loaded (setting_in x.s) (scope x) (blocks_of c2) marks change ≡ Ok now → LoadedBitsUpdate type change place spot marks c2 now
  loaded_bits_update type own here_at of spot place change marks last c2 w2 now here lvalue there target_is target_type type_is e =
      let C = setting_in x.s in
      let one = and_then_is (loaded C (scope x) (blocks_of c2) (unqualified change.target.type) change.target.value marks) _ now e in
      let old = and_then_is (scalar_value one.0.value) _ now one.2 in
      let in_type = subst (λ (t : CTy). loaded C (scope x) (blocks_of c2) t change.target.value marks ≡ Ok one.0) (ap unqualified target_type ∙ sym type_is) one.1 in
      let in_bits = subst (λ (v : CValue). loaded C (scope x) (blocks_of c2) type v marks ≡ Ok one.0) target_is in_type in
      let kind = and_then_is (needed (scalar_in_type C type)) _ one.0 in_bits in
      let kind_is = needed_is (scalar_in_type C type) kind.0 kind.1 in
      let what = bits_loaded_is (blocks_of c2) place spot.bit spot.width marks kind.0 one.0 kind.2 in
      let field = field_of_place x.home (expr own here_at (member of spot)) place spot.bit spot.width here.typed.scene.linked.types lvalue there in
      let own_kind = sym (unqualified_kind x own) ∙ (ap (λ (t : CTy). c_scalar_of x.home.program.types (form_of_type t)) (sym type_is) ∙ setting_kind x type kind.0 kind_is) in
      let same = kind_same (c_scalar_of x.home.program.types (form_of_type own)) field.kind kind.0 field.kind_is own_kind in
      let loads_it = loads_again (blocks_of c2) place spot.bit spot.width what.bits field.kind what.of_c what.profile what.found (subst (λ (k : Scalar). field_value k spot.width what.bits ≡ Ok what.of_c) (sym same) what.means) in
      let typed = subst (Comes (IsLoadedOf x.home.program own)) loads_it (bits_loaded x.home.program own (blocks_of c2) place spot.bit spot.width no_marks field there.of_profile) in
      let old_is : old.0 ≡ what.of_c = same_scalar old.0 what.of_c (sym (scalar_is one.0.value old.0 old.1) ∙ what.value_is) in
      record {
        kind = kind.0;
        kind_is = kind_is;
        one = one.0;
        what = what;
        old_in = scalar_same_type own type what.of_c type_is typed;
        now_is = ap (λ (v : Value). updating_of change v one.0.marks) (sym old_is) ∙ same_updating (updating_of change old.0 one.0.marks) now old.2;
      }

  -- ---- what is ready behind it

  pub record BitsReady (type : CTy) (op : Op2) (computes : CTy) (postfix : Bool) (of_right : CTyped) (holder : Ty) (given : Given) (spot : Spot) (right : Operand) (next : ℕ) (last : Images) (c2 w2 : World) (now : CUpdating) : Type 0 where
    pub op_is : now.update.op ≡ op
    pub computes_is : now.update.computes ≡ computes
    pub postfix_is : now.update.is_postfix ≡ postfix
    pub right_is : now.update.right ≡ of_right
    pub is : BitsUpdating x type now.update holder given spot right next last c2 w2

  bits_ready : (type own : CTy) (here_at : Place) (of : CExpr) (spot : Spot) (place : Ptr) (change : CChange) (marks : Marks) (given : Given) (right : Operand) (next : ℕ) (last : Images) (c2 w2 : World) (now : CUpdating) → At x last c2 w2 →
      IsLvalue x.home (expr own here_at (member of spot)) → not (spot.width == 0) ≡ true → IsFieldPlace (expr own here_at (member of spot)) place spot.bit spot.width → change.target.value ≡ designates_bits place spot.bit spot.width → change.target.type ≡ own → type ≡ unqualified own →
      IsOperator x type change.computes change.op change.right right →
      ((c_later later : World) → At x last c_later later → TemporariesStay x.kept x.frame next w2 later → KeepsObjects c2.held c_later.held → GivesBase last x.frame later (type_in x.names (type_of of)) given spot place) →
      OperandStands last x.frame w2 right change.right.value →
      update_loaded (setting_in x.s) (scope x) (blocks_of c2) marks change ≡ Ok now → BitsReady type change.op change.computes change.is_postfix change.right (type_in x.names (type_of of)) given spot right next last c2 w2 now
  bits_ready type own here_at of spot place change marks given right next last c2 w2 now here lvalue bits there target_is target_type type_is operator bases right_gave e =
      let loads = loaded_bits_update type own here_at of spot place change marks last c2 w2 now here lvalue there target_is target_type type_is e in
      let known = field_target x own type here_at of spot place loads.kind lvalue here.typed.scene.linked.types there type_is loads.kind_is in
      let old_kind = kind_same (c_scalar_of x.home.program.types (form_of_type type)) loads.old_in.kind loads.kind loads.old_in.kind_is (setting_kind x type loads.kind loads.kind_is) in
      subst (BitsReady type change.op change.computes change.is_postfix change.right (type_in x.names (type_of of)) given spot right next last c2 w2) loads.now_is (record {
        op_is = refl;
        computes_is = refl;
        postfix_is = refl;
        right_is = refl;
        is = record {
          kind = loads.kind;
          kind_is = loads.kind_is;
          type_is = ap unqualified target_type ∙ sym type_is;
          place = place;
          target_is = target_is;
          old_in = loads.old_in;
          old_of_kind = subst (λ (k : Scalar). IsValueOf k loads.what.of_c) old_kind loads.old_in.of_kind;
          operator = operator;
          profile = loads.what.profile;
          near = there.near;
          bits = loads.what.bits;
          found = loads.what.found;
          means = loads.what.means;
          few = known.few;
          values = known.values;
          in_bytes = bytes_there x last c2 w2 (type_of of) own spot here lvalue.2.1 (some_width spot.width bits);
          base = bases;
          right_gave = right_gave;
        };
      })

  -- ---- `op=`

  pub assign_by_bits_owes : (asked : Asked) (form : CTyForm) (is_const : Bool) (at : Place) (op : Op2) (computes : CTy) (own : CTy) (here_at : Place) (of : CExpr) (spot : Spot) (value : CExpr) (from : ℕ) (images : Images) (c0 w0 : World) → At x images c0 w0 →
      IsTyped x.home (expr (ty form is_const) at (assign_by op computes (expr own here_at (member of spot)) value)) → not (spot.width == 0) ≡ true →
      from ≤ (pair_of x (expr own here_at (member of spot)) value from).first.next → (pair_of x (expr own here_at (member of spot)) value from).first.next ≤ (pair_of x (expr own here_at (member of spot)) value from).second.next →
      kept_type x (pair_of x (expr own here_at (member of spot)) value from).second.next (ty form is_const) →
      PartOwes x true true (expr own here_at (member of spot)) (pair_of x (expr own here_at (member of spot)) value from).first from images c0 w0 →
      ((later : Images) (c1 w1 : World) → At x later c1 w1 → ExprOwes x operand value (pair_of x (expr own here_at (member of spot)) value from).first.next later c1 w1) →
      FormOwes x asked (ty form is_const) at (assign_by op computes (expr own here_at (member of spot)) value) from images c0 w0
  assign_by_bits_owes asked form is_const at op computes own here_at of spot value from images c0 w0 here typed bits rises more kept_is owes others =
      let type = ty form is_const in
      let target = expr own here_at (member of spot) in
      let T = type_in x.names type in
      let two = pair_of x target value from in
      let base_is = address_of_given two.first.given in
      let right = operand_of x.names value two.second.given in
      let temporary = temporary_place x.names two.second.next in
      let both = in_turn two given_form.nothing in
      let to = a_field base_is spot T in
      let fixed = form_fixed type (assign_by op computes target value) in
      let node = expr type at (assign_by op computes target value) in
      let new_e : Op2 → CTy → Expr = λ o c. changed (change_of x o c right) T (field_form base_is spot T) in
      let rest : Op2 → CTy → List Stmt = λ o c. Assign temporary (settled asked.used to (new_e o c)) ∷ bit_write base_is spot (Read temporary) in
      let Good : Op2 → CTy → COperand → World → Flow → World → Type 0 = λ o c. DidOf x asked.used fixed node (held_store x.names asked.used to (new_e o c) both) from images c0 w0 in
      subst (λ (t : Target). PartOwes x asked.used fixed node (changed_first x.names asked.used t (change_of x op computes right) both) from images c0 w0) (sym (target_bits x.names type own here_at of spot two.first.given bits))
      (subst (λ (written : Written). PartOwes x asked.used fixed node written from images c0 w0) (sym (field_store x.names asked.used base_is spot T (new_e op computes) both))
      (two_owes x (Good op computes) (λ one other later. c_updates (setting_in x.s) (scope x) at type later (node_updating (setting_in x.s) (assign_by op computes target value) (scope x) (blocks_of later) (one ∷ other ∷ []))) (rest op computes) true true target two.first
      true (is_fixed operand value) value two.second from images c0 w0 here (inr typed.1.0) (inl typed.1.1) owes others (λ one other mid last c1 w1 c2 w2 did.
      step_owes x (Good op computes) at (node_updating (setting_in x.s) (assign_by op computes target value) (scope x) (blocks_of c2) (one ∷ other ∷ [])) (c_update (setting_in x.s) (scope x) at type) (rest op computes) c2 w2
      (same_events last c2 w2 did.second_did.reached.at.worlds) (λ now e.
      let at2 = did.second_did.reached.at in
      let parts = and_then_is (united_operands (one ∷ other ∷ [])) _ now e in
      let change_found = and_then_is (changes (setting_in x.s) (assign_by op computes target value) (one ∷ other ∷ [])) _ now parts.2 in
      let typed_right = and_then_is (typed_value other) _ change_found.0 change_found.1 in
      let right_is = typed_value_is x other typed_right.0 typed_right.1 in
      let of_right = scalar_in x value other right_is.0 typed.1.1 did.second_did.knows_is.0.operand_is right_is.1 in
      let typed_is : typed_right.0 ≡ typed_as (type_of value) right_is.0 = right_is.2 ∙ ap (λ (t : CTy). typed_as t right_is.0) did.second_did.knows_is.0.operand_is.type_is in
      let change = assigned_change op computes (typed_as (type_of value) right_is.0) one in
      let change_is : change ≡ change_found.0 = ap (λ (t : CTyped). assigned_change op computes t one) (sym typed_is) ∙ same_change (assigned_change op computes typed_right.0 one) change_found.0 typed_right.2 in
      let is_place = place_given x.home target one.value typed.1.0 did.first_did.knows_is.0.operand_is.given in
      let there = bits_there own here_at of spot one.value bits is_place in
      let field_place = subst (IsPlaceOf target) there.1 is_place in
      let reached = reached_then x from two.first.next two.second.next images mid last c0 w0 c1 w1 c2 w2 rises more here did.first_did.reached did.second_did.reached in
      let gave = did.second_did.gives last c2 w2 (later_itself x last two.second.next (is_fixed operand value) other.marks.reads c2 w2 at2) in
      let ready = bits_ready type own here_at of spot there.0 change parts.0 two.first.given right two.second.next last c2 w2 now at2 typed.1.0 bits field_place there.1 did.first_did.knows_is.0.operand_is.type_is typed.1.2.type_is
      (assigned_operator x type at op computes target value right_is.0 two.second.given last c2 w2 at2 typed of_right)
      (base_at x target value own here_at of spot there.0 from images mid last c0 w0 c1 w1 c2 w2 one other refl did there.1 more) (scalar_given x last w2 value two.second.given other.value right_is.0 right_is.1 gave).stands
      (subst (λ (c : CChange). update_loaded (setting_in x.s) (scope x) (blocks_of c2) parts.0 c ≡ Ok now) (sym change_is) change_found.2) in
      subst (λ (o : Op2). OweAs x (Good o computes) (c_update (setting_in x.s) (scope x) at type now c2) (rest o computes) w2) ready.op_is
      (subst (λ (c : CTy). OweAs x (Good now.update.op c) (c_update (setting_in x.s) (scope x) at type now c2) (rest now.update.op c) w2) ready.computes_is
      (bits_first x asked.used fixed type at (assign_by op computes target value) both from images last c0 w0 c2 w2 (type_in x.names (type_of of)) two.first.given spot right now here reached (omega (arith, rises, more)) kept_is (λ _. ready.postfix_is) ready.is))))))

  -- ---- `++` and `--`

  few_bits : (n : ℕ) → n ≤ 31 → nat_le n 31 ≡ true
  few_bits n p = le-leb n 31 p

  -- the type in which they compute
  basic_width : (which : Basic) (is_const : Bool) (width : ℕ) → FitsKind (scalar_of_basic which) width → width ≤ 32 → type_in x.names (ty (basic (promoted_basic which (Some width))) false) ≡ promoted_type (type_in x.names (ty (basic which) is_const)) (Some width)
  basic_width basics.Truth is_const width fits most = rw (few_bits width (omega (arith, fits))) refl
  basic_width basics.Char is_const width fits most = rw (few_bits (width - 1) (omega (arith, fits))) refl
  basic_width basics.SignedChar is_const width fits most = rw (few_bits (width - 1) (omega (arith, fits))) refl
  basic_width basics.UnsignedChar is_const width fits most = rw (few_bits width (omega (arith, fits))) refl
  basic_width basics.Short is_const width fits most = rw (few_bits (width - 1) (omega (arith, fits))) refl
  basic_width basics.UnsignedShort is_const width fits most = rw (few_bits width (omega (arith, fits))) refl
  basic_width basics.Int is_const width fits most = rw (few_bits (width - 1) (omega (arith, fits))) refl
  basic_width basics.Unsigned is_const width fits most = by (nat_lt width 32) (nat_le width 31) refl refl
    where
      by : (less few : Bool) → nat_lt width 32 ≡ less → nat_le width 31 ≡ few →
          type_in x.names (ty (basic (if nat_le width 31 then basics.Int else basics.Unsigned)) false) ≡ Integer (if nat_lt width 32 then I32 else U32)
      by true true e f = rw (e, f) refl
      by false false e f = rw (e, f) refl
      by true false e f = absurd (grind (arith, nat_tests, e, f))
      by false true e f = absurd (grind (arith, nat_tests, e, f))
  basic_width basics.Long is_const width fits most = refl
  basic_width basics.UnsignedLong is_const width fits most = refl
  basic_width basics.LongLong is_const width fits most = refl
  basic_width basics.UnsignedLongLong is_const width fits most = refl

  number_width : (own : CTy) (kind : Scalar) (width : ℕ) → c_scalar_of x.home.program.types (form_of_type own) ≡ Some kind → FitsKind kind width → width ≤ 32 →
      type_in x.names (promoted x.home.program.types own (Some width)) ≡ promoted_type (type_in x.names own) (Some width)
  number_width (ty (basic which) is_const) kind width e fits most = let same : scalar_of_basic which ≡ kind = cc (e) in basic_width which is_const width (subst (λ (k : Scalar). FitsKind k width) (sym same) fits) most
  number_width (ty (enum_type number) is_const) kind width e fits most = by (slice_get x.home.program.types.enums number) refl
    where
      by : (found : Option Bool) → slice_get x.home.program.types.enums number ≡ found → type_in x.names (promoted x.home.program.types (ty (enum_type number) is_const) (Some width)) ≡ promoted_type (type_in x.names (ty (enum_type number) is_const)) (Some width)
      by None f = let clash : None ≡ Some kind = sym (ap (option_map (λ b. scalar_of_basic (basic_of_enum b))) f) ∙ e in cc (clash)
      by (Some true) f =
          let kind_is = kind_there x (ty (enum_type number) is_const) (scalar_of_basic basics.Int) (ap (option_map (λ b. scalar_of_basic (basic_of_enum b))) f) in
          let int_is : x.names.types.enums number ≡ I32 = enum_int (x.names.types.enums number) kind_is in
          ap (λ (found : Option Bool). type_in x.names (elim (option_map basic_of_enum found) as (λ _. CTy) [ None ↦ ty (enum_type number) false | Some one ↦ ty (basic (promoted_basic one (Some width))) false ])) f
          ∙ (rw (few_bits (width - 1) (omega (arith, most))) refl ∙ ap (λ (w : IntegerTy). promoted_type (Integer w) (Some width)) (sym int_is))
      by (Some false) f =
          let kind_is = kind_there x (ty (enum_type number) is_const) (scalar_of_basic basics.Unsigned) (ap (option_map (λ b. scalar_of_basic (basic_of_enum b))) f) in
          let unsigned_is : x.names.types.enums number ≡ U32 = enum_unsigned (x.names.types.enums number) kind_is in
          ap (λ (found : Option Bool). type_in x.names (elim (option_map basic_of_enum found) as (λ _. CTy) [ None ↦ ty (enum_type number) false | Some one ↦ ty (basic (promoted_basic one (Some width))) false ])) f
          ∙ (basic_width basics.Unsigned is_const width most most ∙ ap (λ (w : IntegerTy). promoted_type (Integer w) (Some width)) (sym unsigned_is))
  number_width (ty (pointer (ty (function result params variadic) const)) is_const) kind width e fits most = let same : scalars.Code ≡ kind = cc (e) in absurd (subst (λ (k : Scalar). FitsKind k width) (sym same) fits)
  number_width (ty (pointer (ty void const)) is_const) kind width e fits most = let same : scalars.Object ≡ kind = cc (e) in absurd (subst (λ (k : Scalar). FitsKind k width) (sym same) fits)
  number_width (ty (pointer (ty (basic which) const)) is_const) kind width e fits most = let same : scalars.Object ≡ kind = cc (e) in absurd (subst (λ (k : Scalar). FitsKind k width) (sym same) fits)
  number_width (ty (pointer (ty (enum_type number) const)) is_const) kind width e fits most = let same : scalars.Object ≡ kind = cc (e) in absurd (subst (λ (k : Scalar). FitsKind k width) (sym same) fits)
  number_width (ty (pointer (ty (pointer to) const)) is_const) kind width e fits most = let same : scalars.Object ≡ kind = cc (e) in absurd (subst (λ (k : Scalar). FitsKind k width) (sym same) fits)
  number_width (ty (pointer (ty (array element length) const)) is_const) kind width e fits most = let same : scalars.Object ≡ kind = cc (e) in absurd (subst (λ (k : Scalar). FitsKind k width) (sym same) fits)
  number_width (ty (pointer (ty (record_type number) const)) is_const) kind width e fits most = let same : scalars.Object ≡ kind = cc (e) in absurd (subst (λ (k : Scalar). FitsKind k width) (sym same) fits)
  number_width (ty void is_const) kind width e fits most = cc (e)
  number_width (ty (array element length) is_const) kind width e fits most = cc (e)
  number_width (ty (record_type number) is_const) kind width e fits most = cc (e)
  number_width (ty (function result params variadic) is_const) kind width e fits most = cc (e)

  width_is : (own : CTy) (here_at : Place) (of : CExpr) (spot : Spot) → not (spot.width == 0) ≡ true → width_of (expr own here_at (member of spot)) ≡ Some spot.width
  width_is own here_at of spot bits = by (spot.width == 0) bits
    where
      by : (test : Bool) → not test ≡ true → (if test then None else Some spot.width) ≡ Some spot.width
      by true e = cc (e)
      by false e = refl

  step_bits_ready : (op : Op2) (form : CTyForm) (is_const post : Bool) (own : CTy) (here_at : Place) (of : CExpr) (spot : Spot) (written : Written) (from : ℕ) (images last : Images) (c0 w0 c2 w2 : World) (one : COperand) (marks : Marks) (now : CUpdating) → IsMover x op →
      IsLvalue x.home (expr own here_at (member of spot)) → IsStepOf x.home.program.types (ty form is_const) own → Computes x op (steps_in x (expr own here_at (member of spot))) → not (spot.width == 0) ≡ true →
      OneDid x true true (expr own here_at (member of spot)) written from images last c0 w0 one c2 w2 →
      update_loaded (setting_in x.s) (scope x) (blocks_of c2) marks (of_program x x.home.program op post (expr own here_at (member of spot)) one) ≡ Ok now →
      BitsReady (ty form is_const) op (steps_in x (expr own here_at (member of spot))) post (one_typed x (steps_in x (expr own here_at (member of spot)))) (type_in x.names (type_of of)) written.given spot
      (one_of (type_in x.names (steps_in x (expr own here_at (member of spot))))) written.next last c2 w2 now
      × ((w : World) → OperandStands last x.frame w (one_of (type_in x.names (steps_in x (expr own here_at (member of spot))))) (Number (pos 1)))
  step_bits_ready op form is_const post own here_at of spot written from images last c0 w0 c2 w2 one marks now moves lvalue step_is comes bits did e =
      let type = ty form is_const in
      let on = expr own here_at (member of spot) in
      let types = x.home.program.types in
      let computes = steps_in x on in
      let here = did.reached.at in
      let is_place = place_given x.home on one.value lvalue did.knows_is.0.operand_is.given in
      let there = bits_there own here_at of spot one.value bits is_place in
      let field_place = subst (IsPlaceOf on) there.1 is_place in
      let run = stepped_run types own (width_of on) (subst (λ (t : CTy). IsIntegerType types t ⊎ IsElementPointer types t) step_is.type_is step_is.stepped) in
      let rights : (w : World) → OperandStands last x.frame w (one_of (type_in x.names computes)) (Number (pos 1)) =
      λ w. one_stands x last w types own computes run (λ is. let points = points_there x last c2 w2 here computes is in (type_in x.names points.to, points.there)) in (
        bits_ready type own here_at of spot there.0 (of_program x x.home.program op post on one) marks written.given (one_of (type_in x.names computes)) written.next last c2 w2 now here lvalue bits field_place there.1 did.knows_is.0.operand_is.type_is step_is.type_is
            (one_operator x op type computes own last c2 w2 here moves run (lvalue_in x on lvalue) step_is.type_is comes)
            (λ c_later later at stay keeps.
            subst (λ (v : CValue). GivesOperand x.s x.names last x.c_frame x.frame later on written.given v) there.1
            (did.gives last c_later later (record { extends = record { blocks = λ number image f. f; functions = refl; in_bytes = refl }; here = at; temporaries = stay; lasts = keeps })))
            (rights w2) e,
        rights,
      )

  step_bits_by : (up post : Bool) (form : CTyForm) (is_const : Bool) (at : Place) (own : CTy) (here_at : Place) (of : CExpr) (spot : Spot) (written : Written) (from : ℕ) (images last : Images) (c0 w0 c2 w2 : World) (one : COperand) (now : CUpdating) →
      IsTyped x.home (expr (ty form is_const) at (step up post (expr own here_at (member of spot)))) → not (spot.width == 0) ≡ true → OneDid x true true (expr own here_at (member of spot)) written from images last c0 w0 one c2 w2 →
      node_updating (setting_in x.s) (step up post (expr own here_at (member of spot))) (scope x) (blocks_of c2) (one ∷ []) ≡ Ok now →
      BitsReady (ty form is_const) (up_or_down up) (steps_in x (expr own here_at (member of spot))) post (one_typed x (steps_in x (expr own here_at (member of spot)))) (type_in x.names (type_of of)) written.given spot
      (one_of (type_in x.names (steps_in x (expr own here_at (member of spot))))) written.next last c2 w2 now
      × ((w : World) → OperandStands last x.frame w (one_of (type_in x.names (steps_in x (expr own here_at (member of spot))))) (Number (pos 1)))
  step_bits_by true post form is_const at own here_at of spot written from images last c0 w0 c2 w2 one now typed bits did e =
      let on = expr own here_at (member of spot) in
      let parts = and_then_is (united_operands (one ∷ [])) _ now e in
      let changing = step_changing x.home (ty form is_const) at true post on typed (record { target = on; op = op2.Add; computes = steps_in x on; right = None; is_postfix = post }) refl in
      step_bits_ready op2.Add form is_const post own here_at of spot written from images last c0 w0 c2 w2 one parts.0 now (adds x) typed.1.0 typed.1.1 (λ blocks left objects first. changing.operator blocks left (one_typed x (steps_in x on)) objects first refl) bits did
      (subst (λ (program : CProgram). update_loaded (setting_in x.s) (scope x) (blocks_of c2) parts.0 (of_program x program op2.Add post on one) ≡ Ok now) (sym x.means.program) parts.2)
  step_bits_by false post form is_const at own here_at of spot written from images last c0 w0 c2 w2 one now typed bits did e =
      let on = expr own here_at (member of spot) in
      let parts = and_then_is (united_operands (one ∷ [])) _ now e in
      let changing = step_changing x.home (ty form is_const) at false post on typed (record { target = on; op = op2.Subtract; computes = steps_in x on; right = None; is_postfix = post }) refl in
      step_bits_ready op2.Subtract form is_const post own here_at of spot written from images last c0 w0 c2 w2 one parts.0 now (subtracts x) typed.1.0 typed.1.1 (λ blocks left objects first. changing.operator blocks left (one_typed x (steps_in x on)) objects first refl) bits did
      (subst (λ (program : CProgram). update_loaded (setting_in x.s) (scope x) (blocks_of c2) parts.0 (of_program x program op2.Subtract post on one) ≡ Ok now) (sym x.means.program) parts.2)

  -- the steps behind the operand
  stepping_bits : (Good : Op2 → CTy → COperand → World → Flow → World → Type 0) (rest : Op2 → CTy → List Stmt) (up post : Bool) (form : CTyForm) (is_const : Bool) (at : Place) (own : CTy) (here_at : Place) (of : CExpr) (spot : Spot) (written : Written) (from : ℕ) (images : Images) (c0 w0 : World) →
      At x images c0 w0 → IsTyped x.home (expr (ty form is_const) at (step up post (expr own here_at (member of spot)))) → not (spot.width == 0) ≡ true → PartOwes x true true (expr own here_at (member of spot)) written from images c0 w0 →
      ((one : COperand) (last : Images) (c2 w2 : World) (now : CUpdating) → OneDid x true true (expr own here_at (member of spot)) written from images last c0 w0 one c2 w2 → now.update.is_postfix ≡ post →
      BitsUpdating x (ty form is_const) now.update (type_in x.names (type_of of)) written.given spot (one_of (type_in x.names (steps_in x (expr own here_at (member of spot))))) written.next last c2 w2 →
      ((w : World) → OperandStands last x.frame w (one_of (type_in x.names (steps_in x (expr own here_at (member of spot))))) now.update.right.value) →
      OweAs x (Good now.update.op now.update.computes) (c_update (setting_in x.s) (scope x) at (ty form is_const) now c2) (rest now.update.op now.update.computes) w2) →
      OweAs x (Good (up_or_down up) (steps_in x (expr own here_at (member of spot)))) (value_in x (expr (ty form is_const) at (step up post (expr own here_at (member of spot)))) c0)
      (written.body ++ rest (up_or_down up) (steps_in x (expr own here_at (member of spot)))) w0
  stepping_bits Good rest up post form is_const at own here_at of spot written from images c0 w0 here typed bits owes all =
      let type = ty form is_const in
      let on = expr own here_at (member of spot) in
      let op = up_or_down up in
      let computes = steps_in x on in
      one_owes x (Good op computes) (λ one later. c_updates (setting_in x.s) (scope x) at type later (node_updating (setting_in x.s) (step up post on) (scope x) (blocks_of later) (one ∷ []))) (rest op computes) true true on written from images c0 w0 here (inr typed.1.0) owes
      (λ one last c2 w2 did.
      step_owes x (Good op computes) at (node_updating (setting_in x.s) (step up post on) (scope x) (blocks_of c2) (one ∷ [])) (c_update (setting_in x.s) (scope x) at type) (rest op computes) c2 w2 (same_events last c2 w2 did.reached.at.worlds) (λ now e.
      let ready = step_bits_by up post form is_const at own here_at of spot written from images last c0 w0 c2 w2 one now typed bits did e in
      subst (λ (o : Op2). OweAs x (Good o computes) (c_update (setting_in x.s) (scope x) at type now c2) (rest o computes) w2) ready.0.op_is
      (subst (λ (c : CTy). OweAs x (Good now.update.op c) (c_update (setting_in x.s) (scope x) at type now c2) (rest now.update.op c) w2) ready.0.computes_is
      (all one last c2 w2 now did ready.0.postfix_is ready.0.is (λ w. subst (λ (r : CTyped). OperandStands last x.frame w (one_of (type_in x.names computes)) r.value) (sym ready.0.right_is) (ready.1 w))))))

  abbrev stepped_bits : (used post up : Bool) → (own : CTy) → Place → CExpr → Spot → CTy → Ty → Written → Written
  stepped_bits used post up own here_at of spot type t one = stepped x.names used post (a_field (address_of_given one.given) spot (type_in x.names type)) (step_by_one up t) one

  -- the new value is given
  front_bits_owes : (used post up fixed : Bool) (form : CTyForm) (is_const : Bool) (at : Place) (own : CTy) (here_at : Place) (of : CExpr) (spot : Spot) (written : Written) (from : ℕ) (images : Images) (c0 w0 : World) → At x images c0 w0 →
      IsTyped x.home (expr (ty form is_const) at (step up post (expr own here_at (member of spot)))) → not (spot.width == 0) ≡ true → from ≤ written.next → kept_type x written.next (ty form is_const) →
      PartOwes x true true (expr own here_at (member of spot)) written from images c0 w0 → (used ≡ true → post ≡ false) →
      PartOwes x used fixed (expr (ty form is_const) at (step up post (expr own here_at (member of spot))))
      (held_store x.names used (a_field (address_of_given written.given) spot (type_in x.names (ty form is_const)))
      (changed (change_of x (up_or_down up) (steps_in x (expr own here_at (member of spot))) (one_of (type_in x.names (steps_in x (expr own here_at (member of spot))))))
      (type_in x.names (ty form is_const)) (field_form (address_of_given written.given) spot (type_in x.names (ty form is_const)))) written) from images c0 w0
  front_bits_owes used post up fixed form is_const at own here_at of spot written from images c0 w0 here typed bits rises kept_is owes front =
      let type = ty form is_const in
      let on = expr own here_at (member of spot) in
      let T = type_in x.names type in
      let base_is = address_of_given written.given in
      let right = one_of (type_in x.names (steps_in x on)) in
      let node = expr type at (step up post on) in
      let to = a_field base_is spot T in
      let temporary = temporary_place x.names written.next in
      let new_e : Op2 → CTy → Expr = λ o c. changed (change_of x o c right) T (field_form base_is spot T) in
      stepping_bits (λ o c. DidOf x used fixed node (held_store x.names used to (new_e o c) written) from images c0 w0) (λ o c. Assign temporary (settled used to (new_e o c)) ∷ bit_write base_is spot (Read temporary))
      up post form is_const at own here_at of spot written from images c0 w0 here typed bits owes
      (λ one last c2 w2 now did post_is is rights. bits_first x used fixed type at (step up post on) written from images last c0 w0 c2 w2 (type_in x.names (type_of of)) written.given spot right now here did.reached rises kept_is (λ same. post_is ∙ front same) is)

  -- the old value is given
  behind_bits_owes : (up fixed : Bool) (form : CTyForm) (is_const : Bool) (at : Place) (own : CTy) (here_at : Place) (of : CExpr) (spot : Spot) (written : Written) (from : ℕ) (images : Images) (c0 w0 : World) → At x images c0 w0 →
      IsTyped x.home (expr (ty form is_const) at (step up true (expr own here_at (member of spot)))) → not (spot.width == 0) ≡ true → from ≤ written.next → kept_type x written.next (ty form is_const) →
      PartOwes x true true (expr own here_at (member of spot)) written from images c0 w0 →
      PartOwes x true fixed (expr (ty form is_const) at (step up true (expr own here_at (member of spot)))) (stepped_bits true true up own here_at of spot (ty form is_const) (type_in x.names (steps_in x (expr own here_at (member of spot)))) written) from images c0 w0
  behind_bits_owes up fixed form is_const at own here_at of spot written from images c0 w0 here typed bits rises kept_is owes =
      let type = ty form is_const in
      let on = expr own here_at (member of spot) in
      let T = type_in x.names type in
      let base_is = address_of_given written.given in
      let right = one_of (type_in x.names (steps_in x on)) in
      let node = expr type at (step up true on) in
      let temporary = temporary_place x.names written.next in
      let rest : Op2 → CTy → List Stmt = λ o c. Assign temporary (given_value (field_form base_is spot T)) ∷ bit_write base_is spot (changed (change_of x o c right) T (given_form.value (Read temporary))) in
      stepping_bits (λ o c. DidOf x true fixed node (stepped_bits true true up own here_at of spot type (type_in x.names (steps_in x on)) written) from images c0 w0) rest
      up true form is_const at own here_at of spot written from images c0 w0 here typed bits owes
      (λ one last c2 w2 now did post_is is rights. bits_behind x fixed type at (step up true on) written (rest (up_or_down up) (steps_in x on)) from images last c0 w0 c2 w2 (type_in x.names (type_of of)) written.given spot right now here did.reached rises kept_is post_is is rights)

  stepped_bits_owes : (used post up fixed : Bool) (form : CTyForm) (is_const : Bool) (at : Place) (own : CTy) (here_at : Place) (of : CExpr) (spot : Spot) (written : Written) (from : ℕ) (images : Images) (c0 w0 : World) → At x images c0 w0 →
      IsTyped x.home (expr (ty form is_const) at (step up post (expr own here_at (member of spot)))) → not (spot.width == 0) ≡ true → from ≤ written.next → kept_type x written.next (ty form is_const) →
      PartOwes x true true (expr own here_at (member of spot)) written from images c0 w0 →
      PartOwes x used fixed (expr (ty form is_const) at (step up post (expr own here_at (member of spot)))) (stepped_bits used post up own here_at of spot (ty form is_const) (type_in x.names (steps_in x (expr own here_at (member of spot)))) written) from images c0 w0
  stepped_bits_owes true true up fixed form is_const at own here_at of spot written from images c0 w0 here typed bits rises kept_is owes =
      behind_bits_owes up fixed form is_const at own here_at of spot written from images c0 w0 here typed bits rises kept_is owes
  stepped_bits_owes true false up fixed form is_const at own here_at of spot written from images c0 w0 here typed bits rises kept_is owes =
      front_bits_owes true false up fixed form is_const at own here_at of spot written from images c0 w0 here typed bits rises kept_is owes (λ _. refl)
  stepped_bits_owes false post up fixed form is_const at own here_at of spot written from images c0 w0 here typed bits rises kept_is owes =
      front_bits_owes false post up fixed form is_const at own here_at of spot written from images c0 w0 here typed bits rises kept_is owes (λ same. cc (same))

  pub by_one_bits_owes : (asked : Asked) (form : CTyForm) (is_const : Bool) (at : Place) (up post : Bool) (own : CTy) (here_at : Place) (of : CExpr) (spot : Spot) (from : ℕ) (images : Images) (c0 w0 : World) → At x images c0 w0 →
      IsTyped x.home (expr (ty form is_const) at (step up post (expr own here_at (member of spot)))) → not (spot.width == 0) ≡ true → from ≤ (lifted x.names operand (expr own here_at (member of spot)) from).next →
      kept_type x (lifted x.names operand (expr own here_at (member of spot)) from).next (ty form is_const) →
      PartOwes x true true (expr own here_at (member of spot)) (lifted x.names operand (expr own here_at (member of spot)) from) from images c0 w0 →
      FormOwes x asked (ty form is_const) at (step up post (expr own here_at (member of spot))) from images c0 w0
  by_one_bits_owes asked form is_const at up post own here_at of spot from images c0 w0 here typed bits rises kept_is owes =
      let type = ty form is_const in
      let on = expr own here_at (member of spot) in
      let written = lifted x.names operand on from in
      let T = type_in x.names type in
      let to = a_field (address_of_given written.given) spot T in
      let node = expr type at (step up post on) in
      let fixed = form_fixed type (step up post on) in
      let field = (field_at x.home.program.types (type_of of) spot own here.typed.scene.linked.types typed.1.0.2.1 (some_width spot.width bits)).field in
      let computes_is : type_in x.names (steps_in x on) ≡ promoted_type T (width_of on) =
      ap (λ (w : Option ℕ). type_in x.names (promoted x.home.program.types own w)) (width_is own here_at of spot bits)
      ∙ (number_width own field.kind spot.width field.kind_is field.fits field.narrow
      ∙ (ap (λ (t : Ty). promoted_type t (Some spot.width)) (sym (ap (type_in x.names) typed.1.1.type_is ∙ same_unqualified x.names own)) ∙ ap (promoted_type T) (sym (width_is own here_at of spot bits)))) in
      subst (λ (t : Target). PartOwes x asked.used fixed node (stepped x.names asked.used post t (step_by_one up (promoted_type (target_type t) (width_of on))) written) from images c0 w0) (sym (target_bits x.names type own here_at of spot written.given bits))
      (subst (λ (t : Ty). PartOwes x asked.used fixed node (stepped x.names asked.used post to (step_by_one up t) written) from images c0 w0) computes_is
      (stepped_bits_owes asked.used post up fixed form is_const at own here_at of spot written from images c0 w0 here typed bits rises kept_is owes))
