-- Assignments to bit-fields (ISO C99, 6.5.16.1).
use Rattle.std.proofs.Common.{◌≡◌, inl, inr, ℕ, ◌^◌, ◌≤◌, ◌==◌, ℤ, Bool, true, false, not, [], ◌∷◌, Option, Some, None, Ok, refl, sym, ap, subst, ◌∙◌, arith}
use Rattle.std.proofs.lemmas.Nat.{pow_pos}
use Rattle.cr_base.proofs.Residues.{residue_below}
use Rattle.cr_base.specs.Scalar.{residue}
use Rattle.cr_base.specs.declared.layout.Spot.{Spot}
use Rattle.cr_base.specs.declared.refusal.Place.{Place}
use Rattle.cr_base.specs.declared.scalar.Scalar.{Scalar}
use Rattle.cr_base.specs.declared.scalar.Scalar.TheVariants as scalars
use Rattle.cr_runs.specs.Runs.{came}
use Rattle.cr_world.specs.World.{World, blocks_of, with_memory}
use Rattle.cx_core.specs.Conversions.{scalar_of as c_scalar_of}
use Rattle.cx_core.specs.Trees.{CTy, ty, CTyForm, form_of_type, CExpr, expr, member, assign, type_of, unqualified}
use Rattle.cx_core.specs.Typing.{IsTyped, IsLvalue}
use Rattle.cx_core.specs.ValidTypes.{AreTypes}
use Rattle.cx_mean.specs.Accesses.{stored, field_value}
use Rattle.cx_mean.specs.Leftmost.{gives_operand, c_done}
use Rattle.cx_mean.specs.Nodes.{CDone, done, node_done}
use Rattle.cx_mean.specs.Operands.{needed, CValue, designates_bits, COperand}
use Rattle.cx_mean.specs.Settings.{scalar_in_type}
use Rattle.cx_typed_values.specs.Outcomes.{Comes}
use Rattle.cx_typed_work.proofs.Bits.{field_means}
use Rattle.cx_typed_work.proofs.Fields.{FitsKind}
use Rattle.cx_typed_work.proofs.Given.{place_given}
use Rattle.cx_typed_work.proofs.Lvalues.{field_of_place}
use Rattle.cx_typed_work.specs.ExternalCalls.{KeepsObjects}
use Rattle.cx_typed_work.specs.Operands.{IsFieldPlace, IsPlaceOf, IsScalarIn}
use Rattle.lift_calls.specs.Programs.{setting_in}
use Rattle.lift_does.proofs.Around.{Around, scope, At, DidOf, OweAs}
use Rattle.lift_does.proofs.Assignments.{pair_of}
use Rattle.lift_does.proofs.BitEnds.{bits_end}
use Rattle.lift_does.proofs.BitLoads.{profile_is, bytes_there, setting_kind, kind_same, unqualified_kind}
use Rattle.lift_does.proofs.BitPlaces.{bits_there, width_test}
use Rattle.lift_does.proofs.BitStores.{bits_stored_is}
use Rattle.lift_does.proofs.Lasting.{objects_stay}
use Rattle.lift_does.proofs.Lvalues.{some_width}
use Rattle.lift_does.proofs.Nodes.{and_then_is, PartOwes, TwoDid, two_owes}
use Rattle.lift_does.proofs.Operands.{node_two, scalar_given}
use Rattle.lift_does.proofs.Reaching.{reached_then, later_itself, later_then}
use Rattle.lift_does.proofs.Runs.{step_owes, same_events}
use Rattle.lift_does.proofs.Unary.{form_fixed, ExprOwes, FormOwes}
use Rattle.lift_does.specs.Does.{is_fixed}
use Rattle.lift_does.specs.Gives.{GivesBase, GivesOperand}
use Rattle.lift_does.specs.Later.{TemporariesStay}
use Rattle.lift_exprs.specs.Names.{Names, type_in}
use Rattle.lift_exprs.specs.Stores.{Target, a_field, target_of, stored as stored_as_written, stored_value, held_store, settled}
use Rattle.lift_exprs.specs.Written.{Written, in_turn, temporary_place, address_of_given}
use Rattle.lift_forms.specs.BitFields.{bit_write}
use Rattle.lift_forms.specs.Given.{Given}
use Rattle.lift_forms.specs.Given as given_form
use Rattle.lift_forms.specs.Operators.{given_value}
use Rattle.lift_forms_laws.proofs.Operands.{value_gives}
use Rattle.lift_forms_laws.specs.Gives.{GivesAt}
use Rattle.lift_held.specs.Held.{operand}
use Rattle.lift_held.specs.declared.asked.Asked.{Asked}
use Rattle.lift_stands.proofs.Forms.{number_below}
use Rattle.lift_stands.specs.Stands.{Images}
use Rattle.mem_bytes.specs.Coding.{IsValueOf}
use Rattle.mem_bytes.specs.declared.value.Ptr.{Ptr}
use Rattle.mem_bytes.specs.declared.value.Value.{Value}
use Rattle.mem_bytes.specs.declared.value.Value.TheVariants.{Whole}
use Rattle.rs_text.specs.Tree.{Ty, Expr, Read, Assign}

pub target_bits : (names_of : Names) (type own : CTy) (at : Place) (of : CExpr) (spot : Spot) (given : Given) → not (spot.width == 0) ≡ true →
    target_of names_of type (expr own at (member of spot)) given ≡ a_field (address_of_given given) spot (type_in names_of type)
target_bits names_of type own at of spot given bits = rw (width_test spot.width bits) refl

pub needed_is : (found : Option Scalar) (one : Scalar) → needed found ≡ Ok one → found ≡ Some one
needed_is (Some other) one e = let same : other ≡ one = cc (e) in ap Some same
needed_is None one e = cc (e)

-- what is stored in a bit-field is held, whether its value is used or not
pub field_store : (names_of : Names) (used : Bool) (base : Expr) (spot : Spot) (one : Ty) (e : Expr) (written : Written) → stored_as_written names_of used (a_field base spot one) e written ≡ held_store names_of used (a_field base spot one) e written
field_store names_of true base spot one e written = refl
field_store names_of false base spot one e written = refl

truth_few : (kind : Scalar) (width : ℕ) → FitsKind kind width → kind ≡ scalars.Truth → width ≤ 1
truth_few kind width fits same = subst (λ (k : Scalar). FitsKind k width) same fits

module _ (x : Around) where
  -- what is known of a bit-field into which a number is stored
  pub record FieldTarget (target : CExpr) (spot : Spot) (place : Ptr) (type : CTy) (kind : Scalar) : Type 0 where
    pub kind_is : scalar_in_type (setting_in x.s) type ≡ Some kind
    pub few : kind ≡ scalars.Truth → spot.width ≤ 1
    pub values : (number : ℤ) (of_c : Value) → field_value kind spot.width (residue number (2 ^ spot.width)) ≡ Ok of_c → IsValueOf kind of_c

  pub field_target : (own type : CTy) (here_at : Place) (of : CExpr) (spot : Spot) (place : Ptr) (kind : Scalar) → IsLvalue x.home (expr own here_at (member of spot)) → AreTypes x.home.program.types → IsFieldPlace (expr own here_at (member of spot)) place spot.bit spot.width →
      type ≡ unqualified own → scalar_in_type (setting_in x.s) type ≡ Some kind → FieldTarget (expr own here_at (member of spot)) spot place type kind
  field_target own type here_at of spot place kind lvalue are there type_is kind_is =
      let field = field_of_place x.home (expr own here_at (member of spot)) place spot.bit spot.width are lvalue there in
      let own_kind = sym (unqualified_kind x own) ∙ (ap (λ (t : CTy). c_scalar_of x.home.program.types (form_of_type t)) (sym type_is) ∙ setting_kind x type kind kind_is) in
      let same : field.kind ≡ kind = kind_same (c_scalar_of x.home.program.types (form_of_type own)) field.kind kind field.kind_is own_kind in
      record {
        kind_is = kind_is;
        few = λ truth. truth_few kind spot.width (subst (λ (k : Scalar). FitsKind k spot.width) same field.fits) truth;
        values = λ number of_c means.
            let typed = subst (Comes (IsScalarIn x.home.program own)) (subst (λ (k : Scalar). field_value k spot.width (residue number (2 ^ spot.width)) ≡ Ok of_c) (sym same) means)
            (field_means x.home.program own spot.width (residue number (2 ^ spot.width)) field (residue_below number (2 ^ spot.width) (pow_pos spot.width))) in
            subst (λ (k : Scalar). IsValueOf k of_c) (kind_same (c_scalar_of x.home.program.types (form_of_type own)) typed.kind kind typed.kind_is own_kind) typed.of_kind;
      }

  -- the base is given wherever both have come
  pub base_at : (target value : CExpr) (own : CTy) (here_at : Place) (of : CExpr) (spot : Spot) (place : Ptr) (from : ℕ) (images mid last : Images) (c0 w0 c1 w1 c2 w2 : World) (one other : COperand) → target ≡ expr own here_at (member of spot) →
      TwoDid x true true target (pair_of x target value from).first true (is_fixed operand value) value (pair_of x target value from).second from images c0 w0 one other mid last c1 w1 c2 w2 → one.value ≡ designates_bits place spot.bit spot.width →
      (pair_of x target value from).first.next ≤ (pair_of x target value from).second.next → (c_later later : World) → At x last c_later later → TemporariesStay x.kept x.frame (pair_of x target value from).second.next w2 later → KeepsObjects c2.held c_later.held →
      GivesBase last x.frame later (type_in x.names (type_of of)) (pair_of x target value from).first.given spot place
  base_at target value own here_at of spot place from images mid last c0 w0 c1 w1 c2 w2 one other target_is did value_is more c_later later at stay keeps =
      let two = pair_of x target value from in
      let gave = did.first_did.gives last c_later later
      (later_then x two.first.next two.second.next two.second.next mid last last true true one.marks.reads one.marks.reads c1 w1 c2 w2 c_later later did.first_did.reached.at did.second_did.reached did.second_did.knows_is.0.keeps more (λ f. f) (λ r. r)
      (record { extends = record { blocks = λ number image e. e; functions = refl; in_bytes = refl }; here = at; temporaries = stay; lasts = keeps })) in
      subst (λ (v : CValue). GivesOperand x.s x.names last x.c_frame x.frame later (expr own here_at (member of spot)) two.first.given v) value_is
      (subst (λ (e : CExpr). GivesOperand x.s x.names last x.c_frame x.frame later e two.first.given one.value) target_is gave)

  pub assign_bits_owes : (asked : Asked) (form : CTyForm) (is_const : Bool) (at : Place) (own : CTy) (here_at : Place) (of : CExpr) (spot : Spot) (value : CExpr) (from : ℕ) (images : Images) (c0 w0 : World) → At x images c0 w0 →
      IsTyped x.home (expr (ty form is_const) at (assign (expr own here_at (member of spot)) value)) → not (spot.width == 0) ≡ true →
      from ≤ (pair_of x (expr own here_at (member of spot)) value from).first.next → (pair_of x (expr own here_at (member of spot)) value from).first.next ≤ (pair_of x (expr own here_at (member of spot)) value from).second.next →
      x.kept.temporaries (pair_of x (expr own here_at (member of spot)) value from).second.next
      ≡ Some (record { name = x.names.temporary (pair_of x (expr own here_at (member of spot)) value from).second.next; ty = type_in x.names (ty form is_const) }) →
      PartOwes x true true (expr own here_at (member of spot)) (pair_of x (expr own here_at (member of spot)) value from).first from images c0 w0 →
      ((later : Images) (c1 w1 : World) → At x later c1 w1 → ExprOwes x operand value (pair_of x (expr own here_at (member of spot)) value from).first.next later c1 w1) →
      FormOwes x asked (ty form is_const) at (assign (expr own here_at (member of spot)) value) from images c0 w0
  assign_bits_owes asked form is_const at own here_at of spot value from images c0 w0 here typed bits rises more kept_is owes others =
      let type = ty form is_const in
      let target = expr own here_at (member of spot) in
      let two = pair_of x target value from in
      let base_is = address_of_given two.first.given in
      let to = a_field base_is spot (type_in x.names type) in
      let e = given_value two.second.given in
      let temporary = temporary_place x.names two.second.next in
      let fixed = form_fixed type (assign target value) in
      let node = expr type at (assign target value) in
      let rest = Assign temporary (settled asked.used to e) ∷ bit_write base_is spot (Read temporary) in
      let Good = DidOf x asked.used fixed node (held_store x.names asked.used to e (in_turn two given_form.nothing)) from images c0 w0 in
      subst (λ (t : Target). PartOwes x asked.used fixed node (stored_as_written x.names asked.used t (stored_value t two.second.given) (in_turn two given_form.nothing)) from images c0 w0)
      (sym (target_bits x.names type own here_at of spot two.first.given bits))
      (subst (λ (written : Written). PartOwes x asked.used fixed node written from images c0 w0) (sym (field_store x.names asked.used base_is spot (type_in x.names type) e (in_turn two given_form.nothing)))
      (two_owes x Good (λ one other later. c_done at type later (node_done (setting_in x.s) type (assign target value) (scope x) (blocks_of later) (one ∷ other ∷ []))) rest true true target two.first
      true (is_fixed operand value) value two.second from images c0 w0 here (inr typed.1.0) (inl typed.1.1) owes others (λ one other mid last c1 w1 c2 w2 did.
      step_owes x Good at (node_done (setting_in x.s) type (assign target value) (scope x) (blocks_of c2) (one ∷ other ∷ [])) (λ made after. gives_operand type made.value made.marks (with_memory made.blocks after)) rest c2 w2
      (same_events last c2 w2 did.second_did.reached.at.worlds) (λ made is.
      let at2 = did.second_did.reached.at in
      let node_is = node_two (setting_in x.s) type (assign target value) (scope x) (blocks_of c2) one other made is in
      let found = and_then_is (stored (setting_in x.s) (scope x) (blocks_of c2) type one.value other.value node_is.0) _ made node_is.2 in
      let same : done found.0.value found.0.marks found.0.blocks ≡ made = cc (found.2) in
      let is_place = place_given x.home target one.value typed.1.0 did.first_did.knows_is.0.operand_is.given in
      let there = bits_there own here_at of spot one.value bits is_place in
      let field_place = subst (IsPlaceOf target) there.1 is_place in
      let in_bits = subst (λ (v : CValue). stored (setting_in x.s) (scope x) (blocks_of c2) type v other.value node_is.0 ≡ Ok found.0) there.1 found.1 in
      let kind = and_then_is (needed (scalar_in_type (setting_in x.s) type)) _ found.0 in_bits in
      let kind_is = needed_is (scalar_in_type (setting_in x.s) type) kind.0 kind.1 in
      let what = bits_stored_is (blocks_of c2) there.0 spot.bit spot.width node_is.0 other.value kind.0 found.0 kind.2 in
      let known = field_target own type here_at of spot there.0 kind.0 typed.1.0 at2.typed.scene.linked.types field_place typed.1.2.type_is kind_is in
      let reached = reached_then x from two.first.next two.second.next images mid last c0 w0 c1 w1 c2 w2 rises more here did.first_did.reached did.second_did.reached in
      let gave = did.second_did.gives last c2 w2 (later_itself x last two.second.next (is_fixed operand value) other.marks.reads c2 w2 at2) in
      let below = value_gives last x.frame w2 (record { ty = type_in x.names (type_of value); given = two.second.given }) (Whole what.number) (scalar_given x last w2 value two.second.given other.value (Whole what.number) what.new_is gave).stands in
      let number_gave = subst (λ (t : CTy). GivesAt x.frame w2 e (type_in x.names t) (Whole what.number)) typed.1.2.value_is
      (subst (GivesAt x.frame w2 e (type_in x.names (type_of value))) (number_below last what.number below.other below.below) below.gives) in
      let bases = base_at target value own here_at of spot there.0 from images mid last c0 w0 c1 w1 c2 w2 one other refl did there.1 more in
      let base = bases c2 w2 at2 (λ number kept_one local p is_kept is_local. refl) (objects_stay c2) in
      subst (λ (d : CDone). OweAs x Good (came (record { type = type; value = d.value; marks = d.marks }) (with_memory d.blocks c2)) rest w2) same
      (bits_end x asked.used fixed type at (assign target value) (in_turn two given_form.nothing) from images last c0 w0 c2 w2 (type_in x.names (type_of of)) two.first.given spot there.0 node_is.0 other.value kind.0 e found.0 found.0.value found.0.marks (λ is_used. refl) what (known.values what.number what.of_c what.means) here reached (omega (arith, rises, more))
      (bytes_there x last c2 w2 (type_of of) own spot at2 typed.1.0.2.1 (some_width spot.width bits))
      (profile_is x spot last there.0 base.base what.profile field_place.near base.below) (x.means.scalars type kind.0 kind_is) known.few kept_is bases number_gave)))))
