-- Where an lvalue is, is held in a temporary.
use Rattle.std.proofs.Common.{◌≡◌, inr, ℕ, suc, ◌≤◌, Bool, true, false, [], ◌∷◌, Option, Some, None, refl, sym, subst, ◌∙◌, arith}
use Rattle.cr_base.specs.declared.scalar.Scalar.TheVariants as scalars
use Rattle.cr_world.specs.World.{World}
use Rattle.cx_core.specs.Trees.{CExpr, type_of}
use Rattle.cx_core.specs.Typing.{IsLvalue, is_bit_field}
use Rattle.cx_mean.specs.Operands.{CValue, scalar, cells, names, designates, designates_bits, missing, slot_of}
use Rattle.cx_typed_work.proofs.Given.{place_given}
use Rattle.cx_typed_work.specs.Operands.{IsPlaceOf, IsObjectPointer}
use Rattle.lift_does.proofs.Around.{Around, scope, At, DidOf, value_in}
use Rattle.lift_does.proofs.Nodes.{PartOwes}
use Rattle.lift_does.proofs.Operands.{other_based, where_used, points_at}
use Rattle.lift_does.proofs.Reaching.{Knows, knows, reached_by, reached_then, later_itself}
use Rattle.lift_does.proofs.Runs.{behind_owes, end_owes, known_owes}
use Rattle.lift_does.proofs.Temporaries.{stores_temporary, reads_temporary}
use Rattle.lift_does.specs.Gives.{GivesLvalue, GivesObject, GivesOperand, GivesWhere}
use Rattle.lift_exprs.specs.Names.{type_in}
use Rattle.lift_exprs.specs.Written.{Written, temporary_place, a_place, address_of_given, then_held}
use Rattle.lift_forms.specs.Given.{Given, address_of}
use Rattle.lift_forms.specs.Given as given_form
use Rattle.lift_forms_laws.proofs.Constants.{addresses}
use Rattle.lift_forms_laws.specs.Gives.{GivesAt}
use Rattle.lift_stands.proofs.Images.{value_stays}
use Rattle.lift_stands.specs.Stands.{Images, ValueBelow}
use Rattle.mem_bytes.specs.Coding.{IsValueOf}
use Rattle.mem_bytes.specs.declared.value.Ptr.{Ptr}
use Rattle.mem_bytes.specs.declared.value.Value.{Value}
use Rattle.mem_bytes.specs.declared.value.Value.TheVariants.{Whole as Number, Null, Object, Code as Function}
use Rattle.lift_stands_values.proofs.Ranges.{given_in_range}
use Rattle.rs_mean.specs.Run.{normal}
use Rattle.rs_text.specs.Tree.{Ty, Pointer, Place, Deref, Read, Assign}

module _ (x : Around) where
  -- the place of an lvalue that is no bit-field
  pub record PlaceGiven (e : CExpr) (given : Given) (of_c : CValue) (images : Images) (world : World) : Type 0 where
    pub to : Value
    pub of_kind : IsValueOf scalars.Object to
    pub gave : GivesLvalue images x.frame world (type_in x.names (type_of e)) given to
    pub back : (last : Images) (later : World) (other : Given) → GivesLvalue last x.frame later (type_in x.names (type_of e)) other to → GivesOperand x.s x.names last x.c_frame x.frame later e other of_c

  object_kind_of : (to : Value) → IsObjectPointer to → IsValueOf scalars.Object to
  object_kind_of (Object at) is = tt
  object_kind_of Null is = tt
  object_kind_of (Number number) is = absurd is
  object_kind_of (Function number) is = absurd is

  named_place : (e : CExpr) (given : Given) (number : ℕ) (images : Images) (world : World) (found : Option Ptr) → slot_of (scope x) number ≡ found → GivesObject images x.frame world (type_in x.names (type_of e)) given found →
      PlaceGiven e given (names number) images world
  named_place e given number images world None same gave = absurd gave
  named_place e given number images world (Some at) same gave = record {
    to = Object at;
    of_kind = tt;
    gave = gave;
    back = λ last later other place. subst (GivesObject last x.frame later (type_in x.names (type_of e)) other) (sym same) place;
  }

  pub place_there : (e : CExpr) (given : Given) (of_c : CValue) (images : Images) (world : World) → is_bit_field e ≡ false → IsPlaceOf e of_c → GivesOperand x.s x.names images x.c_frame x.frame world e given of_c → PlaceGiven e given of_c images world
  place_there e given (names number) images world plainly is gave = named_place e given number images world (slot_of (scope x) number) refl gave
  place_there e given (designates to) images world plainly is gave = record { to = to; of_kind = object_kind_of to is.1; gave = gave; back = λ last later other place. place }
  place_there e given (designates_bits at bit width) images world plainly is gave = let clash : true ≡ false = sym is.is_field ∙ plainly in cc (clash)
  place_there e given (scalar one) images world plainly is gave = absurd is
  place_there e given (cells list from) images world plainly is gave = absurd is
  place_there e given missing images world plainly is gave = absurd is

  -- what a temporary points to
  pub held_lvalue : (number : ℕ) (one : Ty) (to at : Value) (last : Images) (later : World) → ValueBelow last to at → GivesAt x.frame later (Read (temporary_place x.names number)) (Pointer one) at →
      GivesLvalue last x.frame later one (given_form.place (Deref (Read (temporary_place x.names number)))) to
  held_lvalue number one to at last later below reads =
      let points = points_at x last later (Read (temporary_place x.names number)) one at reads (other_based x later _ (λ p same. cc (same))) in
      record { spot = points.spot; gives = points.gives; ty_is = points.ty_is; below = subst (ValueBelow last to) (sym points.at_is) below; based = points.based_is; address = points.address }

  -- the address of an lvalue is stored in the next temporary, and what that points to is given
  pub place_held : (used fixed more : Bool) (e : CExpr) (written : Written) (p : Place) (from : ℕ) (images : Images) (c0 w0 : World) → At x images c0 w0 → IsLvalue x.home e → is_bit_field e ≡ false → written.given ≡ given_form.place p →
      used ≡ true → from ≤ written.next → x.kept.temporaries written.next ≡ Some (record { name = x.names.temporary written.next; ty = Pointer (type_in x.names (type_of e)) }) →
      PartOwes x used fixed e written from images c0 w0 → PartOwes x used more e (then_held x.names (a_place (type_in x.names (type_of e))) written) from images c0 w0
  place_held used fixed more e written p from images c0 w0 at typed plainly given_is is_used rises kept_is owes =
      let one = type_in x.names (type_of e) in
      let Good = DidOf x used more e (then_held x.names (a_place one) written) from images c0 w0 in
      behind_owes x (λ operand c1 flow w1. DidOf x used fixed e written from images c0 w0 operand c1 flow w1 × Knows x e c0 operand c1) Good (value_in x e c0) written.body (Assign (temporary_place x.names written.next) (address_of_given written.given) ∷ []) w0
      (λ operand c1 flow w1 good. good.0.flow_is)
      (known_owes x (DidOf x used fixed e written from images c0 w0) (Knows x e c0) (value_in x e c0) written.body w0 (knows x e images c0 w0 (inr typed) at) owes)
      (λ operand c1 w1 good.
      let did = good.0 in
      let reached = reached_by x used fixed e written from images c0 w0 operand c1 normal w1 at did good.1.0.at in
      let gave = subst (λ (u : Bool). GivesWhere u x.s x.names did.later x.c_frame x.frame w1 e written.given operand.value) is_used
      (did.gives did.later c1 w1 (later_itself x did.later written.next fixed operand.marks.reads c1 w1 reached.at)) in
      let there = place_there e written.given operand.value did.later w1 plainly (place_given x.home e operand.value typed good.1.0.operand_is.given) gave in
      let place_is = subst (λ (g : Given). GivesLvalue did.later x.frame w1 one g there.to) given_is there.gave in
      let gives_it = subst (λ (g : Given). GivesAt x.frame w1 (address_of_given g) (Pointer one) place_is.spot.at) (sym given_is) (addresses x.frame w1 one p place_is.spot place_is.gives place_is.ty_is) in
      let stored = stores_temporary x written.next (Pointer one) scalars.Object (address_of_given written.given) (Pointer one) place_is.spot.at did.later c1 w1 reached.at kept_is refl
      (given_in_range did.later scalars.Object there.to place_is.spot.at place_is.below there.of_kind) gives_it in
      let both = reached_then x from written.next (suc written.next) images did.later did.later c0 w0 c1 w1 c1 stored.after rises (omega arith) at reached stored.reached in
      end_owes x Good operand (Assign (temporary_place x.names written.next) (address_of_given written.given) ∷ []) c1 w1 stored.after stored.comes (record {
        flow_is = refl;
        later = did.later;
        own = both.own;
        are_own = both.are_own;
        keeps = both.keeps;
        worlds = both.at.worlds;
        gives = λ last c_later after later. where_used used x last after e (given_form.place (Deref (Read (temporary_place x.names written.next)))) operand.value (λ _.
            there.back last after (given_form.place (Deref (Read (temporary_place x.names written.next))))
            (held_lvalue written.next one there.to place_is.spot.at last after (value_stays did.later last there.to place_is.spot.at later.extends place_is.below)
            (reads_temporary x written.next (suc written.next) (Pointer one) scalars.Object place_is.spot.at did.later last more operand.marks.reads c1 stored.after c_later after (omega arith) stored.holds later)));
      }))
