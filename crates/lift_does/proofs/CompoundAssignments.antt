-- Compound assignments to scalars (ISO C99, 6.5.16.2).
use Rattle.cr_base.specs.declared.refusal.Place.{Place}
use Rattle.cr_base.specs.declared.scalar.Scalar.{Scalar}
use Rattle.cr_world.specs.World.{World, blocks_of}
use Rattle.cx_core.specs.Conversions.{promoted}
use Rattle.cx_core.specs.Trees.{CExpr, CProgram, CTy, CTyForm, assign_by, expr, ty, type_of, unqualified}
use Rattle.cx_core.specs.Typing.{IsConversion, IsLvalue, IsTyped, is_bit_field, width_of}
use Rattle.cx_core.specs.ValidTypes.{IsModifiable, IsTypeIn}
use Rattle.cx_core.specs.declared.expr.Op2.{Op2}
use Rattle.cx_mean.specs.Accesses.{CKind, CLoaded, kind_of, loaded, loaded_kind, of_record, of_scalar}
use Rattle.cx_mean.specs.Leftmost.{c_update, c_updates}
use Rattle.cx_mean.specs.Marks.{Marks}
use Rattle.cx_mean.specs.Nodes.{CChange, CUpdating, changes, node_updating, typed_value, update_loaded}
use Rattle.cx_mean.specs.Operands.{COperand, CWhy, place_in, scalar, scalar_value, united_operands}
use Rattle.cx_mean.specs.Settings.{setting_of}
use Rattle.cx_mean.specs.Values.{CTyped}
use Rattle.cx_typed_values.specs.Outcomes.{Comes}
use Rattle.cx_typed_work.proofs.Accesses.{IsLoadedOf}
use Rattle.cx_typed_work.proofs.Computing.{assigned_binary, computes_in, to_computes, to_target}
use Rattle.cx_typed_work.proofs.Given.{place_given}
use Rattle.cx_typed_work.proofs.Updates.{assign_changing, load_comes}
use Rattle.cx_typed_work.specs.Operands.{IsPlaceOf, IsScalarIn, IsValueOfType}
use Rattle.lift_calls.specs.Programs.{setting_in}
use Rattle.lift_does.proofs.Around.{Around, At, DidOf, OweAs, scope}
use Rattle.lift_does.proofs.Assignments.{both_give, pair_of, target_lvalue, target_plain}
use Rattle.lift_does.proofs.Binary.{before_fixed, near, typed_value_is}
use Rattle.lift_does.proofs.BinaryTypes.{binary_there}
use Rattle.lift_does.proofs.Loads.{IsNoField, IsScalarKind, loaded_is, no_field, of_record_kind, of_scalar_kind, scalar_loaded_is}
use Rattle.lift_does.proofs.Nodes.{PartOwes, TwoDid, and_then_is, two_owes, united_two}
use Rattle.lift_does.proofs.Operands.{lvalue_given, scalar_given, scalar_in, scalar_is}
use Rattle.lift_does.proofs.Reaching.{reached_then}
use Rattle.lift_does.proofs.Runs.{same_events, step_owes}
use Rattle.lift_does.proofs.Types.{value_there}
use Rattle.lift_does.proofs.Unary.{ExprOwes, FormOwes, form_fixed}
use Rattle.lift_does.proofs.Updates.{IsOperator, IsUpdating, change_of, kept_type, read_given, same_scalar, update_first, update_plain}
use Rattle.lift_does.proofs.Used.{left_has}
use Rattle.lift_does.specs.Does.{is_fixed}
use Rattle.lift_exprs.specs.Lifted.{operand_of}
use Rattle.lift_exprs.specs.Names.{type_in}
use Rattle.lift_exprs.specs.Stores.{Target, a_scalar, changed, changed_first}
use Rattle.lift_exprs.specs.Written.{Written, in_turn, place_of_given, temporary_place}
use Rattle.lift_forms.proofs.SameTypes.{type_is}
use Rattle.lift_forms.specs.Given.{Given, nothing}
use Rattle.lift_forms.specs.Operators.{Operand}
use Rattle.lift_held.specs.Held.{holds_call, is_record, operand, operand_before}
use Rattle.lift_held.specs.declared.asked.Asked.{Asked}
use Rattle.lift_stands.specs.Stands.{Images}
use Rattle.mem_bytes.specs.Access.{value_at}
use Rattle.mem_bytes.specs.declared.value.Ptr.{Ptr}
use Rattle.mem_bytes.specs.declared.value.Value.{Value}
use Rattle.mem_bytes.specs.declared.value.Value.TheVariants.{Object}
use Rattle.rs_mean.specs.Values.{typed}
use Rattle.rs_text.specs.Tree.{Assign, Read, Stmt}
use Rattle.std.proofs.Common.{Bool, List, Ok, Result, [], ap, arith, false, inl, inr, refl, subst, sym, true, ℕ, ◌∙◌, ◌∷◌, ◌≡◌, ◌≤◌}
use Rattle.lift_forms.specs.Given as given_form

-- ---- results, turned round

abbrev pub typed_as : CTy → Value → CTyped
typed_as type value = record { type = type; value = value }

abbrev pub assigned_change : Op2 → CTy → CTyped → COperand → CChange
assigned_change op computes right one = record { op = op; computes = computes; right = right; target = one; is_postfix = false }

abbrev ok_change : CChange → Result CChange CWhy
ok_change change = Ok change

pub same_change : (one other : CChange) → ok_change one ≡ ok_change other → one ≡ other
same_change one other e = cc (e)

-- what a change goes on with behind its load
abbrev pub updating_of : CChange → Value → Marks → CUpdating
updating_of change old marks = record {
  update = record {
    op = change.op;
    computes = change.computes;
    right = change.right;
    target_type = unqualified change.target.type;
    target = change.target.value;
    is_postfix = change.is_postfix;
    old = old;
  };
  marks = marks;
}

abbrev ok_updating : CUpdating → Result CUpdating CWhy
ok_updating now = Ok now

pub same_updating : (one other : CUpdating) → ok_updating one ≡ ok_updating other → one ≡ other
same_updating one other e = cc (e)

module _ (x : Around) where
  -- ---- the load

  pub record LoadedUpdate (type : CTy) (change : CChange) (c2 : World) (now : CUpdating) : Type 0 where
    pub kind : Scalar
    pub kind_of_is : kind_of (setting_in x.s) type ≡ Ok (of_scalar kind)
    pub kind_is : IsScalarKind (setting_in x.s) type kind
    pub at : Ptr
    pub place_is : place_in (scope x) change.target.value ≡ Ok (Object at)
    pub old : Value
    pub found : value_at (blocks_of c2) at kind ≡ Ok old
    pub old_in : IsScalarIn x.home.program type old
    pub marks : Marks
    pub now_is : updating_of change old marks ≡ now

  pub loaded_update_is : (form : CTyForm) (is_const : Bool) (target : CExpr) (change : CChange) (marks : Marks) (last : Images) (c2 w2 : World) (now : CUpdating) → At x last c2 w2 → IsLvalue x.home target → IsPlaceOf target change.target.value →
      IsModifiable x.home.program.types (type_of target) → IsNoField change.target.value → change.target.type ≡ type_of target → ty form is_const ≡ unqualified (type_of target) → is_record (ty form is_const) ≡ false →
      update_loaded (setting_in x.s) (scope x) (blocks_of c2) marks change ≡ Ok now → LoadedUpdate (ty form is_const) change c2 now
  loaded_update_is form is_const target change marks last c2 w2 now here lvalue place_of modifiable plainly target_type_is type_is no_record e =
      let type = ty form is_const in
      let C = setting_in x.s in
      let one = and_then_is (loaded C (scope x) (blocks_of c2) (unqualified change.target.type) change.target.value marks) _ now e in
      let old = and_then_is (scalar_value one.0.value) _ now one.2 in
      let same_type : unqualified change.target.type ≡ type = ap unqualified target_type_is ∙ sym type_is in
      let loads = subst (λ (t : CTy). loaded C (scope x) (blocks_of c2) t change.target.value marks ≡ Ok one.0) same_type one.1 in
      let is = loaded_is C (scope x) (blocks_of c2) type change.target.value marks one.0 plainly loads in
      let old_is = scalar_is one.0.value old.0 old.1 in
      let there : IsLoadedOf x.home.program type one.0 =
      subst (Comes (IsLoadedOf x.home.program type)) loads
      (subst (λ (program : CProgram). Comes (IsLoadedOf x.home.program type) (loaded (setting_of program) (scope x) (blocks_of c2) type change.target.value marks)) x.means.program
      (subst (λ (t : CTy). Comes (IsLoadedOf x.home.program t) (loaded (setting_of x.home.program) (scope x) (blocks_of c2) t change.target.value marks)) (sym type_is)
      (load_comes x.home (scope x) (blocks_of c2) target change.target.value marks here.typed.scene lvalue place_of modifiable))) in
      by is.kind is.kind_is is.at is.place_is one.0 old.0 old_is is.loads (subst (IsValueOfType x.home.program type) old_is there) (same_updating (updating_of change old.0 one.0.marks) now old.2)
    where
      by : (kind : CKind) → kind_of (setting_in x.s) (ty form is_const) ≡ Ok kind → (at : Ptr) → place_in (scope x) change.target.value ≡ Ok (Object at) → (one : CLoaded) (old : Value) → one.value ≡ scalar old → loaded_kind (blocks_of c2) at marks kind ≡ Ok one →
          IsScalarIn x.home.program (ty form is_const) old → updating_of change old one.marks ≡ now → LoadedUpdate (ty form is_const) change c2 now
      by (of_record laid) kind_is at place_is one old old_is loads old_in same =
          let clash : true ≡ false = sym (of_record_kind (setting_in x.s) form is_const laid kind_is).of_record_type ∙ no_record in cc (clash)
      by (of_scalar kind) kind_is at place_is one old old_is loads old_in same =
          let found = scalar_loaded_is (blocks_of c2) at marks kind one loads in
          record {
            kind = kind;
            kind_of_is = kind_is;
            kind_is = of_scalar_kind (setting_in x.s) form is_const kind kind_is;
            at = at;
            place_is = place_is;
            old = old;
            found = found.found ∙ ap Ok (same_scalar found.of_c old (sym found.value_is ∙ old_is));
            old_in = old_in;
            marks = one.marks;
            now_is = same;
          }

  -- ---- the operator

  pub lvalue_in : (e : CExpr) → IsLvalue x.home e → IsTypeIn x.home.program.types x.home.unit (type_of e)
  lvalue_in (expr type at form) is = is.0

  pub assigned_operator : (type : CTy) (at : Place) (op : Op2) (computes : CTy) (target value : CExpr) (of_c : Value) (given : Given) (last : Images) (c2 w2 : World) → At x last c2 w2 → IsTyped x.home (expr type at (assign_by op computes target value)) →
      IsScalarIn x.home.program (type_of value) of_c → IsOperator x type computes op (record { type = type_of value; value = of_c }) (operand_of x.names value given)
  assigned_operator type at op computes target value of_c given last c2 w2 here typed of =
      let types = x.home.program.types in
      let changing = assign_changing x.home type at op computes target value typed in
      let there = binary_there x last c2 w2 here op computes computes (type_of value) (assigned_binary types op computes (promoted types (type_of target) (width_of target)) (type_of value) typed.1.2.computed) in
      record {
        there = computes_in types x.home.unit (type_of target) computes changing.run (lvalue_in target typed.1.0);
        forth = subst (λ (t : CTy). IsConversion types t computes) (sym typed.1.2.type_is) (to_computes types (type_of target) computes changing.run);
        back = subst (λ (t : CTy). IsConversion types computes t) (sym typed.1.2.type_is) (to_target types (type_of target) computes changing.run);
        has = left_has x op computes computes (type_of value) there;
        comes = λ blocks left objects first. changing.operator blocks left (record { type = type_of value; value = of_c }) objects first (refl, of);
        right_of = value_there x (type_of value) of_c of;
        right_near = near x (type_of value) of_c of;
        result = there.result;
        kind = there.kind;
        elements = there.elements;
      }

  -- ---- the operands

  pub record IsReady (type : CTy) (op : Op2) (computes : CTy) (postfix : Bool) (given : Given) (right : Operand) (next : ℕ) (last : Images) (c2 w2 : World) (now : CUpdating) : Type 0 where
    pub op_is : now.update.op ≡ op
    pub computes_is : now.update.computes ≡ computes
    pub postfix_is : now.update.is_postfix ≡ postfix
    pub is : IsUpdating x type now.update given right next last c2 w2

  assigned_ready : (form : CTyForm) (is_const : Bool) (at : Place) (op : Op2) (computes : CTy) (target value : CExpr) (from : ℕ) (images mid last : Images) (c0 w0 c1 w1 c2 w2 : World) (one other : COperand) (now : CUpdating) →
      IsTyped x.home (expr (ty form is_const) at (assign_by op computes target value)) → is_bit_field target ≡ false → is_record (ty form is_const) ≡ false → (pair_of x target value from).first.next ≤ (pair_of x target value from).second.next →
      TwoDid x true (before_fixed target value) target (pair_of x target value from).first true (is_fixed operand value) value (pair_of x target value from).second from images c0 w0 one other mid last c1 w1 c2 w2 →
      node_updating (setting_in x.s) (assign_by op computes target value) (scope x) (blocks_of c2) (one ∷ other ∷ []) ≡ Ok now →
      IsReady (ty form is_const) op computes false (pair_of x target value from).first.given (operand_of x.names value (pair_of x target value from).second.given) (pair_of x target value from).second.next last c2 w2 now
  assigned_ready form is_const at op computes target value from images mid last c0 w0 c1 w1 c2 w2 one other now typed plainly no_record more did e =
      let type = ty form is_const in
      let two = pair_of x target value from in
      let here = did.second_did.reached.at in
      let parts = and_then_is (united_operands (one ∷ other ∷ [])) _ now e in
      let apart = (united_two one other parts.0 parts.1).apart in
      let own = and_then_is (changes (setting_in x.s) (assign_by op computes target value) (one ∷ other ∷ [])) _ now parts.2 in
      let typed_right = and_then_is (typed_value other) _ own.0 own.1 in
      let right = typed_value_is x other typed_right.0 typed_right.1 in
      let of = scalar_in x value other right.0 typed.1.1 did.second_did.knows_is.0.operand_is right.1 in
      let typed_is : typed_right.0 ≡ record { type = type_of value; value = right.0 } = right.2 ∙ ap (λ (t : CTy). typed_as t right.0) did.second_did.knows_is.0.operand_is.type_is in
      let change_is : assigned_change op computes (typed_as (type_of value) right.0) one ≡ own.0 = ap (λ (t : CTyped). assigned_change op computes t one) (sym typed_is) ∙ same_change (assigned_change op computes typed_right.0 one) own.0 typed_right.2 in
      let change = assigned_change op computes (typed_as (type_of value) right.0) one in
      let there = place_given x.home target one.value typed.1.0 did.first_did.knows_is.0.operand_is.given in
      let no_bits = no_field target one.value plainly there in
      let loads = loaded_update_is form is_const target change parts.0 last c2 w2 now here typed.1.0 there typed.1.2.modifiable no_bits did.first_did.knows_is.0.operand_is.type_is typed.1.2.type_is no_record
      (subst (λ (c : CChange). update_loaded (setting_in x.s) (scope x) (blocks_of c2) parts.0 c ≡ Ok now) (sym change_is) own.2) in
      subst (IsReady type op computes false two.first.given (operand_of x.names value two.second.given) two.second.next last c2 w2) loads.now_is (record {
        op_is = refl;
        computes_is = refl;
        postfix_is = refl;
        is = record {
          kind = loads.kind;
          kind_of_is = loads.kind_of_is;
          kind_is = loads.kind_is;
          type_is = ap unqualified did.first_did.knows_is.0.operand_is.type_is ∙ sym typed.1.2.type_is;
          at = loads.at;
          place_is = loads.place_is;
          plainly = no_bits;
          found = loads.found;
          old_in = loads.old_in;
          operator = assigned_operator type at op computes target value right.0 two.second.given last c2 w2 here typed of;
          gives = λ w later.
              let gave = both_give x target value from images mid last c0 w0 c1 w1 c2 w2 one other last c2 w did apart more later in (
                target_lvalue x last w type target two.first.given (Object loads.at) typed.1.2.type_is (lvalue_given x last w target two.first.given one.value (Object loads.at) loads.place_is gave.0),
                (scalar_given x last w value two.second.given other.value right.0 right.1 gave.1).stands,
              );
        };
      })

  -- ---- an assignment, used or not

  abbrev by_written : Bool → CTy → Op2 → CTy → CExpr → CExpr → ℕ → Written
  by_written used type op computes target value from =
      changed_first x.names used (a_scalar (place_of_given (pair_of x target value from).first.given) (type_in x.names type)) (change_of x op computes (operand_of x.names value (pair_of x target value from).second.given)) (in_turn (pair_of x target value from) given_form.nothing)

  assigned_by_owes : (used fixed : Bool) (form : CTyForm) (is_const : Bool) (at : Place) (op : Op2) (computes : CTy) (target value : CExpr) (from : ℕ) (images : Images) (c0 w0 : World) → At x images c0 w0 →
      IsTyped x.home (expr (ty form is_const) at (assign_by op computes target value)) →
      is_bit_field target ≡ false → is_record (ty form is_const) ≡ false → from ≤ (pair_of x target value from).first.next → (pair_of x target value from).first.next ≤ (pair_of x target value from).second.next →
      (used ≡ true → kept_type x (pair_of x target value from).second.next (ty form is_const)) → ExprOwes x (operand_before (holds_call value)) target from images c0 w0 →
      ((later : Images) (c1 w1 : World) → At x later c1 w1 → ExprOwes x operand value (pair_of x target value from).first.next later c1 w1) →
      PartOwes x used fixed (expr (ty form is_const) at (assign_by op computes target value)) (by_written used (ty form is_const) op computes target value from) from images c0 w0
  assigned_by_owes false fixed form is_const at op computes target value from images c0 w0 here typed plainly no_record rises more kept_is owes others =
      let type = ty form is_const in
      let two = pair_of x target value from in
      let p = place_of_given two.first.given in
      let right = operand_of x.names value two.second.given in
      let written = by_written false type op computes target value from in
      let Good = DidOf x false fixed (expr type at (assign_by op computes target value)) written from images c0 w0 in
      let rest : Op2 → CTy → List Stmt = λ o c. Assign p (changed (change_of x o c right) (type_in x.names type) (read_given x two.first.given)) ∷ [] in
      two_owes x Good (λ one other later. c_updates (setting_in x.s) (scope x) at type later (node_updating (setting_in x.s) (assign_by op computes target value) (scope x) (blocks_of later) (one ∷ other ∷ []))) (rest op computes) true (before_fixed target value) target two.first
      true (is_fixed operand value) value two.second from images c0 w0 here (inr typed.1.0) (inl typed.1.1) owes others (λ one other mid last c1 w1 c2 w2 did.
      step_owes x Good at (node_updating (setting_in x.s) (assign_by op computes target value) (scope x) (blocks_of c2) (one ∷ other ∷ [])) (c_update (setting_in x.s) (scope x) at type) (rest op computes) c2 w2
      (same_events last c2 w2 did.second_did.reached.at.worlds) (λ now e.
      let ready = assigned_ready form is_const at op computes target value from images mid last c0 w0 c1 w1 c2 w2 one other now typed plainly no_record more did e in
      let reached = reached_then x from two.first.next two.second.next images mid last c0 w0 c1 w1 c2 w2 rises more here did.first_did.reached did.second_did.reached in
      subst (λ (o : Op2). OweAs x Good (c_update (setting_in x.s) (scope x) at type now c2) (rest o computes) w2) ready.op_is
      (subst (λ (c : CTy). OweAs x Good (c_update (setting_in x.s) (scope x) at type now c2) (rest now.update.op c) w2) ready.computes_is
      (update_plain x fixed (expr type at (assign_by op computes target value)) written from images last c0 w0 c2 w2 at type two.first.given right now here reached ready.is))))
  assigned_by_owes true fixed form is_const at op computes target value from images c0 w0 here typed plainly no_record rises more kept_is owes others =
      let type = ty form is_const in
      let two = pair_of x target value from in
      let p = place_of_given two.first.given in
      let right = operand_of x.names value two.second.given in
      let temporary = temporary_place x.names two.second.next in
      let written = by_written true type op computes target value from in
      let Good = DidOf x true fixed (expr type at (assign_by op computes target value)) written from images c0 w0 in
      let rest : Op2 → CTy → List Stmt = λ o c. Assign temporary (changed (change_of x o c right) (type_in x.names type) (read_given x two.first.given)) ∷ Assign p (Read temporary) ∷ [] in
      two_owes x Good (λ one other later. c_updates (setting_in x.s) (scope x) at type later (node_updating (setting_in x.s) (assign_by op computes target value) (scope x) (blocks_of later) (one ∷ other ∷ []))) (rest op computes) true (before_fixed target value) target two.first
      true (is_fixed operand value) value two.second from images c0 w0 here (inr typed.1.0) (inl typed.1.1) owes others (λ one other mid last c1 w1 c2 w2 did.
      step_owes x Good at (node_updating (setting_in x.s) (assign_by op computes target value) (scope x) (blocks_of c2) (one ∷ other ∷ [])) (c_update (setting_in x.s) (scope x) at type) (rest op computes) c2 w2
      (same_events last c2 w2 did.second_did.reached.at.worlds) (λ now e.
      let ready = assigned_ready form is_const at op computes target value from images mid last c0 w0 c1 w1 c2 w2 one other now typed plainly no_record more did e in
      let reached = reached_then x from two.first.next two.second.next images mid last c0 w0 c1 w1 c2 w2 rises more here did.first_did.reached did.second_did.reached in
      subst (λ (o : Op2). OweAs x Good (c_update (setting_in x.s) (scope x) at type now c2) (rest o computes) w2) ready.op_is
      (subst (λ (c : CTy). OweAs x Good (c_update (setting_in x.s) (scope x) at type now c2) (rest now.update.op c) w2) ready.computes_is
      (update_first x fixed type at (assign_by op computes target value) (in_turn two given_form.nothing) (rest op computes) from images last c0 w0 c2 w2 two.first.given right now here reached (omega (arith, rises, more)) (kept_is refl) ready.postfix_is ready.is))))

  pub assign_by_owes : (asked : Asked) (form : CTyForm) (is_const : Bool) (at : Place) (op : Op2) (computes : CTy) (target value : CExpr) (from : ℕ) (images : Images) (c0 w0 : World) → At x images c0 w0 →
      IsTyped x.home (expr (ty form is_const) at (assign_by op computes target value)) →
      is_bit_field target ≡ false → is_record (ty form is_const) ≡ false → from ≤ (pair_of x target value from).first.next → (pair_of x target value from).first.next ≤ (pair_of x target value from).second.next →
      (asked.used ≡ true → kept_type x (pair_of x target value from).second.next (ty form is_const)) → ExprOwes x (operand_before (holds_call value)) target from images c0 w0 →
      ((later : Images) (c1 w1 : World) → At x later c1 w1 → ExprOwes x operand value (pair_of x target value from).first.next later c1 w1) →
      FormOwes x asked (ty form is_const) at (assign_by op computes target value) from images c0 w0
  assign_by_owes asked form is_const at op computes target value from images c0 w0 here typed plainly no_record rises more kept_is owes others =
      subst (λ (to : Target). PartOwes x asked.used (form_fixed (ty form is_const) (assign_by op computes target value)) (expr (ty form is_const) at (assign_by op computes target value))
      (changed_first x.names asked.used to (change_of x op computes (operand_of x.names value (pair_of x target value from).second.given)) (in_turn (pair_of x target value from) given_form.nothing)) from images c0 w0)
      (sym (target_plain x.names (ty form is_const) target (pair_of x target value from).first.given plainly no_record))
      (assigned_by_owes asked.used (form_fixed (ty form is_const) (assign_by op computes target value)) form is_const at op computes target value from images c0 w0 here typed plainly no_record rises more kept_is owes others)
