-- The lvalue of a bit-field is held where it has to be.
use Rattle.std.proofs.Common.{◌≡◌, ℕ, ◌≤◌, ◌==◌, Bool, true, false, not, Some, refl, sym, subst}
use Rattle.cr_base.specs.declared.layout.Spot.{Spot}
use Rattle.cr_base.specs.declared.refusal.Place.{Place}
use Rattle.cr_world.specs.World.{World}
use Rattle.cx_core.specs.Trees.{CTy, CExpr, expr, member, type_of}
use Rattle.cx_core.specs.Typing.{IsLvalue}
use Rattle.lift_does.proofs.Around.{Around, At}
use Rattle.lift_does.proofs.Asking.{held_test, held_used, held_fixed}
use Rattle.lift_does.proofs.BitPlaces.{bits_held}
use Rattle.lift_does.proofs.Held.{not_held}
use Rattle.lift_does.proofs.Members.{lvalue_is}
use Rattle.lift_does.proofs.Nodes.{PartOwes}
use Rattle.lift_does.proofs.Unary.{form_fixed, ExprOwes, FormOwes}
use Rattle.lift_does.specs.Does.{is_fixed, IsAsked}
use Rattle.lift_exprs.specs.Lifted.{lifted_form}
use Rattle.lift_exprs.specs.Names.{Names, type_in}
use Rattle.lift_exprs.specs.Written.{NodeKind, a_bit_field, kind_in, then_held, held_where}
use Rattle.lift_held.specs.Held.{is_lvalue}
use Rattle.lift_held.specs.declared.asked.Asked.{Asked}
use Rattle.lift_stands.specs.Stands.{Images}
use Rattle.rs_text.specs.Tree.{Pointer}

zero_test : (width : ℕ) → not (width == 0) ≡ true → (width == 0) ≡ false
zero_test width e = by (width == 0) e
  where
    by : (test : Bool) → not test ≡ true → test ≡ false
    by true same = cc (same)
    by false same = refl

pub bits_kind_is : (names_of : Names) (type : CTy) (at : Place) (of : CExpr) (spot : Spot) → is_lvalue of ≡ true → not (spot.width == 0) ≡ true → kind_in names_of type (member of spot) ≡ a_bit_field (type_in names_of (type_of of))
bits_kind_is names_of type at of spot is bits = rw (is, zero_test spot.width bits) refl

module _ (x : Around) where
  -- the lvalue of a bit-field
  pub bits_node_as : (asked : Asked) (fixed more : Bool) (type : CTy) (at : Place) (of : CExpr) (spot : Spot) (from : ℕ) (images : Images) (c0 w0 : World) → At x images c0 w0 → IsLvalue x.home (expr type at (member of spot)) → not (spot.width == 0) ≡ true →
      IsAsked asked (expr type at (member of spot)) → (asked.used ≡ true → more ≡ true → held_test asked type (member of spot) ≡ false → fixed ≡ true) → from ≤ (lifted_form x.names asked type (member of spot) from).next →
      (held_test asked type (member of spot) ≡ true → x.kept.temporaries (lifted_form x.names asked type (member of spot) from).next ≡ Some (record { name = x.names.temporary (lifted_form x.names asked type (member of spot) from).next; ty = Pointer (type_in x.names (type_of of)) })) →
      PartOwes x asked.used fixed (expr type at (member of spot)) (lifted_form x.names asked type (member of spot) from) from images c0 w0 →
      PartOwes x asked.used more (expr type at (member of spot)) (held_where (held_test asked type (member of spot)) x.names (kind_in x.names type (member of spot)) (lifted_form x.names asked type (member of spot) from)) from images c0 w0
  bits_node_as asked fixed more type at of spot from images c0 w0 here typed bits asked_is lasts rises kept_is owes = by (held_test asked type (member of spot)) refl
    where
      kind_is : kind_in x.names type (member of spot) ≡ a_bit_field (type_in x.names (type_of of))
      kind_is = bits_kind_is x.names type at of spot (lvalue_is x.home (expr type at (member of spot)) typed) bits

      by : (test : Bool) → held_test asked type (member of spot) ≡ test →
          PartOwes x asked.used more (expr type at (member of spot))
          (held_where test x.names (kind_in x.names type (member of spot)) (lifted_form x.names asked type (member of spot) from)) from images c0 w0
      by false e = not_held x asked.used fixed more (expr type at (member of spot)) (lifted_form x.names asked type (member of spot) from) from images c0 w0
          (λ used same. lasts used same e) owes
      by true e =
          let used = held_used asked type (member of spot) asked_is.base e in
          subst (λ (kind : NodeKind). PartOwes x asked.used more (expr type at (member of spot)) (then_held x.names kind (lifted_form x.names asked type (member of spot) from)) from images c0 w0) (sym kind_is)
          (bits_held x asked.used fixed more type at of spot (lifted_form x.names asked type (member of spot) from) from images c0 w0 here typed bits used rises (kept_is e) owes)

  pub bits_node : (asked : Asked) (type : CTy) (at : Place) (of : CExpr) (spot : Spot) (from : ℕ) (images : Images) (c0 w0 : World) → At x images c0 w0 → IsLvalue x.home (expr type at (member of spot)) → not (spot.width == 0) ≡ true →
      IsAsked asked (expr type at (member of spot)) → from ≤ (lifted_form x.names asked type (member of spot) from).next →
      (held_test asked type (member of spot) ≡ true → x.kept.temporaries (lifted_form x.names asked type (member of spot) from).next ≡ Some (record { name = x.names.temporary (lifted_form x.names asked type (member of spot) from).next; ty = Pointer (type_in x.names (type_of of)) })) →
      FormOwes x asked type at (member of spot) from images c0 w0 → ExprOwes x asked (expr type at (member of spot)) from images c0 w0
  bits_node asked type at of spot from images c0 w0 here typed bits asked_is rises kept_is owes =
      bits_node_as asked (form_fixed type (member of spot)) (is_fixed asked (expr type at (member of spot))) type at of spot from images c0 w0 here typed bits asked_is (λ used lasts not_it. held_fixed asked type at (member of spot) used lasts not_it) rises kept_is owes
