-- A node is held where it has to be, by what surrounds it.
use Rattle.std.proofs.Common.{◌≡◌, ℕ, ◌≤◌, Bool, true, false, ◌&&◌, ◌||◌, not, ◌==◌, Some, refl, sym, subst}
use Rattle.cr_base.specs.declared.refusal.Place.{Place}
use Rattle.cr_world.specs.World.{World}
use Rattle.cx_core.specs.Trees.{CTy, expr, CForm, member, assign, assign_by, step, call, call_by}
use Rattle.cx_core.specs.Typing.{IsTyped, IsLvalue, is_bit_field}
use Rattle.lift_does.proofs.Around.{Around, At}
use Rattle.lift_does.proofs.Held.{not_held}
use Rattle.lift_does.proofs.HeldPlaces.{place_held}
use Rattle.lift_does.proofs.Members.{lvalue_is}
use Rattle.lift_does.proofs.Nodes.{PartOwes}
use Rattle.lift_does.proofs.Records.{record_taken}
use Rattle.lift_does.proofs.Taken.{scalar_taken, taken_held}
use Rattle.lift_does.proofs.Unary.{form_fixed, ExprOwes, FormOwes}
use Rattle.lift_does.specs.Does.{is_fixed, IsAsked}
use Rattle.lift_exprs.specs.Lifted.{lifted_form, holds_itself}
use Rattle.lift_exprs.specs.Names.{Names, type_in}
use Rattle.lift_exprs.specs.Written.{NodeKind, a_value, a_record, a_place, temporary_place, address_of_given, copied, lvalue_kind, kind_in, then_held, held_where}
use Rattle.lift_forms.specs.Given as given_form
use Rattle.lift_forms.specs.Operators.{given_value}
use Rattle.lift_held.specs.Held.{is_record, is_lvalue_form, is_taken, is_always_held, is_held_form, is_steady_form, is_named_form}
use Rattle.lift_held.specs.declared.asked.Asked.{Asked}
use Rattle.lift_stands.specs.Stands.{Images}
use Rattle.rs_text.specs.Tree.{Pointer, Place as RustPlace, Read, AddressOf, Assign}

-- ---- tests

-- what is held is used
used_by : (used base always rest lvalue itself : Bool) → (base ≡ true → used ≡ true) → (always ≡ true → itself ≡ true) → ((always || ((used && rest) || (base && lvalue))) && not itself) ≡ true → used ≡ true
used_by true base always rest lvalue itself is all e = refl
used_by false true always rest lvalue itself is all e = is refl
used_by false false true rest lvalue true is all e = cc (e)
used_by false false true rest lvalue false is all e = cc (all refl)
used_by false false false rest lvalue itself is all e = cc (e)

-- what isn't held, and has to last over calls, is steady or holds itself
fixed_by : (used pinned steady taken always base lvalue itself : Bool) → used ≡ true → (pinned || steady) ≡ true → ((always || ((used && (taken || (pinned && not steady))) || (base && lvalue))) && not itself) ≡ false → (steady || itself) ≡ true
fixed_by used pinned true taken always base lvalue itself is lasts e = refl
fixed_by used pinned false taken always base lvalue true is lasts e = refl
fixed_by used false false taken always base lvalue false is lasts e = cc (lasts)
fixed_by false true false taken always base lvalue false is lasts e = cc (is)
fixed_by true true false taken true base lvalue false is lasts e = cc (e)
fixed_by true true false true false base lvalue false is lasts e = cc (e)
fixed_by true true false false false base lvalue false is lasts e = cc (e)

always_itself : (type : CTy) (form : CForm) → is_always_held type form ≡ true → holds_itself type form ≡ true
always_itself type (call callee args) e = e
always_itself type (call_by callee args) e = e
always_itself type (step up post on) e = refl
always_itself type (assign target value) e = refl
always_itself type (assign_by op computes target value) e = refl
always_itself type form e = cc (e)

-- whether a node is held
abbrev pub held_test : Asked → CTy → CForm → Bool
held_test asked type form = is_held_form asked type form && not (holds_itself type form)

pub held_used : (asked : Asked) (type : CTy) (form : CForm) → (asked.is_base ≡ true → asked.used ≡ true) → held_test asked type form ≡ true → asked.used ≡ true
held_used asked type form base e =
    used_by asked.used asked.is_base (is_always_held type form) (is_taken type form || (asked.pinned && not (is_steady_form form))) (is_lvalue_form form && not (is_named_form form)) (holds_itself type form) base (always_itself type form) e

pub held_fixed : (asked : Asked) (type : CTy) (at : Place) (form : CForm) → asked.used ≡ true → is_fixed asked (expr type at form) ≡ true → held_test asked type form ≡ false → form_fixed type form ≡ true
held_fixed asked type at form used lasts e =
    fixed_by asked.used asked.pinned (is_steady_form form) (is_taken type form) (is_always_held type form) asked.is_base (is_lvalue_form form && not (is_named_form form)) (holds_itself type form) used lasts e

-- ---- kinds

not_false : (test : Bool) → not test ≡ false → test ≡ true
not_false true e = refl
not_false false e = cc (e)

pub place_kind_is : (names_of : Names) (type : CTy) (at : Place) (form : CForm) → is_bit_field (expr type at form) ≡ false → lvalue_kind names_of type form ≡ a_place (type_in names_of type)
place_kind_is names_of type at (member of spot) plainly = rw (not_false (spot.width == 0) plainly) refl
place_kind_is names_of type at form plainly = refl

module _ (x : Around) where
  -- a node that gives a value, or nothing
  pub value_node : (asked : Asked) (type : CTy) (at : Place) (form : CForm) (from : ℕ) (images : Images) (c0 w0 : World) → At x images c0 w0 → IsTyped x.home (expr type at form) → is_lvalue_form form ≡ false →
      IsAsked asked (expr type at form) → from ≤ (lifted_form x.names asked type form from).next →
      (held_test asked type form ≡ true → x.kept.temporaries (lifted_form x.names asked type form from).next ≡ Some (record { name = x.names.temporary (lifted_form x.names asked type form from).next; ty = type_in x.names type })) →
      FormOwes x asked type at form from images c0 w0 → ExprOwes x asked (expr type at form) from images c0 w0
  value_node asked type at form from images c0 w0 here typed no_lvalue asked_is rises kept_is owes = by (held_test asked type form) (is_record type) refl refl
    where
      by : (test record_type : Bool) → held_test asked type form ≡ test → is_record type ≡ record_type →
          PartOwes x asked.used (is_fixed asked (expr type at form)) (expr type at form) (held_where test x.names (kind_in x.names type form) (lifted_form x.names asked type form from)) from images c0 w0
      by false record_type e r = not_held x asked.used (form_fixed type form) (is_fixed asked (expr type at form)) (expr type at form) (lifted_form x.names asked type form from) from images c0 w0
          (λ used lasts. held_fixed asked type at form used lasts e) owes
      by true false e r =
          let used = held_used asked type form asked_is.base e in
          let one = lifted_form x.names asked type form from in
          let kind_is : kind_in x.names type form ≡ a_value (type_in x.names type) = rw (no_lvalue, r) refl in
          subst (λ (kind : NodeKind). PartOwes x asked.used (is_fixed asked (expr type at form)) (expr type at form) (then_held x.names kind one) from images c0 w0) (sym kind_is)
          (taken_held x asked.used (form_fixed type form) (is_fixed asked (expr type at form)) (expr type at form) one (type_in x.names type) (Assign (temporary_place x.names one.next) (given_value one.given))
          (given_form.value (Read (temporary_place x.names one.next))) from images c0 w0 here typed used rises
          (λ of_c last c1 w1 there given gave. scalar_taken x (expr type at form) of_c one.given one.next last c1 w1 there typed (asked_is.used used) r given (kept_is e) gave) owes)
      by true true e r =
          let used = held_used asked type form asked_is.base e in
          let one = lifted_form x.names asked type form from in
          let kind_is : kind_in x.names type form ≡ a_record (type_in x.names type) (x.names.size_of type) = rw (no_lvalue, r) refl in
          subst (λ (kind : NodeKind). PartOwes x asked.used (is_fixed asked (expr type at form)) (expr type at form) (then_held x.names kind one) from images c0 w0) (sym kind_is)
          (taken_held x asked.used (form_fixed type form) (is_fixed asked (expr type at form)) (expr type at form) one (type_in x.names type)
          (copied (address_of_given one.given) (AddressOf (temporary_place x.names one.next)) (x.names.size_of type)) (given_form.value (AddressOf (temporary_place x.names one.next))) from images c0 w0 here typed used rises
          (λ of_c last c1 w1 there given gave. record_taken x (expr type at form) of_c one.given one.next last c1 w1 there typed r given (kept_is e) gave) owes)

  -- an lvalue that is no bit-field
  pub place_node_as : (asked : Asked) (fixed more : Bool) (type : CTy) (at : Place) (form : CForm) (p : RustPlace) (from : ℕ) (images : Images) (c0 w0 : World) → At x images c0 w0 → IsLvalue x.home (expr type at form) → is_bit_field (expr type at form) ≡ false →
      (lifted_form x.names asked type form from).given ≡ given_form.place p → IsAsked asked (expr type at form) → (asked.used ≡ true → more ≡ true → held_test asked type form ≡ false → fixed ≡ true) → from ≤ (lifted_form x.names asked type form from).next →
      (held_test asked type form ≡ true → x.kept.temporaries (lifted_form x.names asked type form from).next ≡ Some (record { name = x.names.temporary (lifted_form x.names asked type form from).next; ty = Pointer (type_in x.names type) })) →
      PartOwes x asked.used fixed (expr type at form) (lifted_form x.names asked type form from) from images c0 w0 →
      PartOwes x asked.used more (expr type at form) (held_where (held_test asked type form) x.names (kind_in x.names type form) (lifted_form x.names asked type form from)) from images c0 w0
  place_node_as asked fixed more type at form p from images c0 w0 here typed plainly given_is asked_is lasts rises kept_is owes = by (held_test asked type form) refl
    where
      kind_is : kind_in x.names type form ≡ a_place (type_in x.names type)
      kind_is = rw (lvalue_is x.home (expr type at form) typed) (place_kind_is x.names type at form plainly)

      by : (test : Bool) → held_test asked type form ≡ test →
          PartOwes x asked.used more (expr type at form) (held_where test x.names (kind_in x.names type form) (lifted_form x.names asked type form from)) from images c0 w0
      by false e = not_held x asked.used fixed more (expr type at form) (lifted_form x.names asked type form from) from images c0 w0
          (λ used same. lasts used same e) owes
      by true e =
          let used = held_used asked type form asked_is.base e in
          subst (λ (kind : NodeKind). PartOwes x asked.used more (expr type at form) (then_held x.names kind (lifted_form x.names asked type form from)) from images c0 w0) (sym kind_is)
          (place_held x asked.used fixed more (expr type at form) (lifted_form x.names asked type form from) p from images c0 w0 here typed plainly given_is used rises (kept_is e) owes)

  pub place_node : (asked : Asked) (type : CTy) (at : Place) (form : CForm) (p : RustPlace) (from : ℕ) (images : Images) (c0 w0 : World) → At x images c0 w0 → IsLvalue x.home (expr type at form) → is_bit_field (expr type at form) ≡ false →
      (lifted_form x.names asked type form from).given ≡ given_form.place p → IsAsked asked (expr type at form) → from ≤ (lifted_form x.names asked type form from).next →
      (held_test asked type form ≡ true → x.kept.temporaries (lifted_form x.names asked type form from).next ≡ Some (record { name = x.names.temporary (lifted_form x.names asked type form from).next; ty = Pointer (type_in x.names type) })) →
      FormOwes x asked type at form from images c0 w0 → ExprOwes x asked (expr type at form) from images c0 w0
  place_node asked type at form p from images c0 w0 here typed plainly given_is asked_is rises kept_is owes =
      place_node_as asked (form_fixed type form) (is_fixed asked (expr type at form)) type at form p from images c0 w0 here typed plainly given_is asked_is (λ used lasts not_it. held_fixed asked type at form used lasts not_it) rises kept_is owes
