-- Names with linkage are declared, for the first time or once more (ISO C99, 6.2.2, 6.2.7p4).
use Rattle.std.proofs.Common.{◌≡◌, ℕ, ◌<◌, Bool, true, false, if◌then◌else◌, List, [], ◌∷◌, ◌++◌, Some, bytes_eq, refl, sym, ap, ◌∙◌, subst, arith}
use Rattle.std.proofs.lemmas.Slice.Eq.{bytes_eq-Decides}
use Rattle.cx_rules.specs.Declare.{is_linked, thing_named}
use Rattle.cx_rules.specs.Scope.{CThing, CScope}
use Rattle.cx_rules.specs.Types.{is_function}
use Rattle.cx_typed.proofs.Scopes.{grows_not}
use Rattle.cx_typed.specs.Operands.{IsKnownType}
use Rattle.cx_typed_units.proofs.Around.{known_thing}
use Rattle.cx_typed_units.proofs.Named.{kept_in_front, IsFoundBehind, before, behind, found_behind, same_thing, set_thing, found_set, found_before, has_name}
use Rattle.cx_typed_units.proofs.Stretches.{Steps, kept_is, same_itself, thing_on, covered_stays}
use Rattle.cx_typed_units.specs.Stretches.{IsSameThing, IsKept, IsKnownThing, IsOrderly}

-- ---- for the first time

abbrev pub with_new_thing : CThing → CScope → CScope
with_new_thing one scope = record scope { things = scope.things ++ one ∷ [] }

module _ (opens : List ℕ) (scope : CScope) (new : CThing) (known : IsKnownThing opens scope new) where
  thing_kept : (name : List ℕ) (one : CThing) → thing_named name scope.things ≡ Some one → IsKept opens scope.types one (thing_named name (scope.things ++ new ∷ []))
  thing_kept name one is = kept_is opens scope.types one one (thing_named name (scope.things ++ new ∷ [])) (kept_in_front name scope.things (new ∷ []) one is) (same_itself opens scope.types one)

  known_by : (name : List ℕ) (one : CThing) → IsOrderly opens scope → IsFoundBehind name scope.things new one → IsKnownThing opens scope one
  known_by name one orderly (before is) = orderly.things name one is
  known_by name one orderly (behind none is named) = subst (IsKnownThing opens scope) is known

  pub new_thing_leads : Steps opens scope (with_new_thing new scope)
  new_thing_leads = record {
    declares = record {
      unit_is = refl;
      grows = grows_not opens scope.types;
      mentions = λ number x is. is;
      literals = λ number x is. is;
      front = [];
      declared_is = refl;
    };
    begins_is = refl;
    in_function_is = refl;
    functions_are = refl;
    objects_more = omega arith;
    statics = λ number is. is;
    objects = λ number one nothing is. is;
    things = thing_kept;
    covered = λ orderly held index one at. covered_stays opens scope.types scope.types scope.things (scope.things ++ new ∷ []) (grows_not opens scope.types) thing_kept one (held index one at);
    orderly = λ orderly. record {
      objects = λ name number type is_register linkage is linked.
          thing_on opens scope (with_new_thing new scope) (grows_not opens scope.types) thing_kept name number type linkage false (orderly.objects name number type is_register linkage is linked);
      functions = λ name number type linkage is.
          let was = orderly.functions name number type linkage is in
          (was.0, thing_on opens scope (with_new_thing new scope) (grows_not opens scope.types) thing_kept name number type linkage true was.1);
      things = λ name one is. known_thing opens scope (with_new_thing new scope) refl refl refl refl one (known_by name one orderly (found_behind name scope.things new one is));
      numbers = orderly.numbers;
    };
  }

-- ---- once more

abbrev pub with_set_thing : List ℕ → CThing → CScope → CScope
with_set_thing name new scope = record scope { things = set_thing name new scope.things }

module _ (opens : List ℕ) (scope : CScope) (name : List ℕ) (old new : CThing) (there : thing_named name scope.things ≡ Some old) (named : new.name ≡ name)
    (same : IsSameThing opens scope.types old new) (known : IsKnownType opens scope.types scope.unit new.type) (form : is_function new.type ≡ new.is_function) where
  names_same : (other : List ℕ) → bytes_eq new.name other ≡ bytes_eq name other
  names_same other = ap (λ n. bytes_eq n other) named

  same_by : (other : List ℕ) (one : CThing) (is_same : Bool) → bytes_eq one.name name ≡ is_same → thing_named other scope.things ≡ Some one
      → IsSameThing opens scope.types one (if is_same then new else one)
  same_by other one true e is =
      let named_so : other ≡ name = sym (has_name other scope.things one is) ∙ (bytes_eq-Decides one.name name).0 e in
      let old_is : old ≡ one = old_same (sym there ∙ (ap (λ n. thing_named n scope.things) (sym named_so) ∙ is)) in
      subst (λ x. IsSameThing opens scope.types x new) old_is same
    where
      old_same : Some old ≡ Some one → old ≡ one
      old_same e = cc
  same_by other one false e is = same_itself opens scope.types one

  pub set_kept : (other : List ℕ) (one : CThing) → thing_named other scope.things ≡ Some one → IsKept opens scope.types one (thing_named other (set_thing name new scope.things))
  set_kept other one is =
      kept_is opens scope.types one (same_thing name new one) (thing_named other (set_thing name new scope.things)) (found_set name other new scope.things one (names_same other) is)
      (same_by other one (bytes_eq one.name name) refl is)

  old_known : IsOrderly opens scope → IsKnownThing opens scope new
  old_known orderly =
      let was = orderly.things name old there in
      record {
        known = known;
        linked = subst (λ l. is_linked l ≡ true) (sym same.linkage_is) was.linked;
        function_is = form;
        below = λ is_object. subst (λ n. n < scope.next_object) (sym same.number_is) (was.below (sym same.function_is ∙ is_object));
        own = λ is_object index object at number_is. was.own (sym same.function_is ∙ is_object) index object at (number_is ∙ same.number_is);
      }

  known_set : (was one : CThing) (is_same : Bool) → IsOrderly opens scope → IsKnownThing opens scope was → (if is_same then new else was) ≡ one → IsKnownThing opens scope one
  known_set was one true orderly held is = subst (IsKnownThing opens scope) is (old_known orderly)
  known_set was one false orderly held is = subst (IsKnownThing opens scope) is held

  pub set_thing_leads : Steps opens scope (with_set_thing name new scope)
  set_thing_leads = record {
    declares = record {
      unit_is = refl;
      grows = grows_not opens scope.types;
      mentions = λ number x is. is;
      literals = λ number x is. is;
      front = [];
      declared_is = refl;
    };
    begins_is = refl;
    in_function_is = refl;
    functions_are = refl;
    objects_more = omega arith;
    statics = λ number is. is;
    objects = λ number one nothing is. is;
    things = set_kept;
    covered = λ orderly held index one at. covered_stays opens scope.types scope.types scope.things (set_thing name new scope.things) (grows_not opens scope.types) set_kept one (held index one at);
    orderly = λ orderly. record {
      objects = λ other number type is_register linkage is linked.
          thing_on opens scope (with_set_thing name new scope) (grows_not opens scope.types) set_kept other number type linkage false (orderly.objects other number type is_register linkage is linked);
      functions = λ other number type linkage is.
          let was = orderly.functions other number type linkage is in
          (was.0, thing_on opens scope (with_set_thing name new scope) (grows_not opens scope.types) set_kept other number type linkage true was.1);
      things = λ other one is.
          let before = found_before name other new scope.things one (names_same other) is in
          known_thing opens scope (with_set_thing name new scope) refl refl refl refl one
          (known_set before.0 one (bytes_eq before.0.name name) orderly (orderly.things other before.0 before.1) before.2);
      numbers = orderly.numbers;
    };
  }
