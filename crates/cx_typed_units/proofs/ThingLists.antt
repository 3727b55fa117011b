-- The names with linkage, once there is one more, and where one is declared once more (ISO C99, 6.2.2).
use Rattle.std.proofs.Common.{◌≡◌, ◌⊎◌, inl, inr, ℕ, Bool, true, false, if◌then◌else◌, List, [], ◌∷◌, ◌++◌, length, None, Some, slice_get, bytes_eq, refl, sym, ap, ◌∙◌, subst}
use Rattle.std.proofs.lemmas.Slice.Eq.{bytes_eq-Decides}
use Rattle.cx_rules.specs.Declare.{thing_named}
use Rattle.cx_rules.specs.Scope.{CThing}
use Rattle.cx_typed_units.proofs.Named.{kept_in_front, IsFoundBehind, before, behind, found_behind, found_last, same_thing, set_thing, found_set, found_before, has_name}
use Rattle.cx_typed_units.proofs.ObjectNumbers.{got_last}
use Rattle.cx_typed_units.proofs.Steps.{got_mapped}
use Rattle.cx_typed_units.proofs.ThingAccounts.{IsOnward, AreDeclared}
use Rattle.cx_typed_units.specs.Account.{AreNamedApart}

module _ (few : List CThing) (listed_few : (index : ℕ) (one : CThing) → slice_get few index ≡ Some one → thing_named one.name few ≡ Some one) where
  -- ---- one more

  module _ (new : CThing) (none : thing_named new.name few ≡ None) where
    same_name : bytes_eq new.name new.name ≡ true
    same_name = (bytes_eq-Decides new.name new.name).1 refl

    not_new : (other : List ℕ) (one : CThing) → thing_named other few ≡ Some one → other ≡ new.name → ⊥
    not_new other one is same = let h : None ≡ Some one = sym none ∙ (ap (λ n. thing_named n few) (sym same) ∙ is) in cc

    new_were : (other : List ℕ) (one : CThing) → IsFoundBehind other few new one → ((thing_named other few ≡ Some one) × (other ≡ new.name → ⊥)) ⊎ ((other ≡ new.name) × (one ≡ new))
    new_were other one (before is) = inl (is, not_new other one is)
    new_were other one (behind no_other is named) = inr (sym ((bytes_eq-Decides new.name other).0 named), sym is)

    new_listed : (index : ℕ) (one : CThing) → (slice_get few index ≡ Some one) ⊎ ((index ≡ length few) × (new ≡ one)) → thing_named one.name (few ++ new ∷ []) ≡ Some one
    new_listed index one (inl at) = kept_in_front one.name few (new ∷ []) one (listed_few index one at)
    new_listed index one (inr at) = subst (λ (x : CThing). thing_named x.name (few ++ new ∷ []) ≡ Some x) at.1 (found_last new.name few new none same_name)

    differ_by : AreNamedApart few → (first second : ℕ) (one other : CThing) → one.name ≡ other.name → (slice_get few first ≡ Some one) ⊎ ((first ≡ length few) × (new ≡ one))
        → (slice_get few second ≡ Some other) ⊎ ((second ≡ length few) × (new ≡ other)) → first ≡ second
    differ_by held first second one other same (inl at) (inl there) = held first second one other at there same
    differ_by held first second one other same (inl at) (inr there) = absurd (not_new one.name one (listed_few first one at) (same ∙ ap (λ (x : CThing). x.name) (sym there.1)))
    differ_by held first second one other same (inr at) (inl there) = absurd (not_new other.name other (listed_few second other there) (sym same ∙ ap (λ (x : CThing). x.name) (sym at.1)))
    differ_by held first second one other same (inr at) (inr there) = at.0 ∙ sym there.0

    pub one_more_declared : AreDeclared few (few ++ new ∷ []) new.name new
    one_more_declared = record {
      kept = λ other was there. record {
        one = was;
        there = kept_in_front other few (new ∷ []) was there;
        number_is = refl;
        function_is = refl;
        defined = λ is. is;
      };
      were = λ other one there. new_were other one (found_behind other few new one there);
      listed = λ index one at. new_listed index one (got_last few new index one at);
      differ = λ held first second one other at there same. differ_by held first second one other same (got_last few new first one at) (got_last few new second other there);
    }

  -- ---- once more

  module _ (name : List ℕ) (old new : CThing) (there : thing_named name few ≡ Some old) (named : new.name ≡ name) (number_is : new.number ≡ old.number) (function_is : new.is_function ≡ old.is_function)
      (defined : old.is_defined ≡ true → new.is_defined ≡ true) where
    names_same : (other : List ℕ) → bytes_eq new.name other ≡ bytes_eq name other
    names_same other = ap (λ n. bytes_eq n other) named

    name_is : (was : CThing) → bytes_eq was.name name ≡ true → was.name ≡ name
    name_is was e = (bytes_eq-Decides was.name name).0 e

    old_is : (other : List ℕ) (was : CThing) → thing_named other few ≡ Some was → was.name ≡ name → old ≡ was
    old_is other was at is =
        let same : other ≡ name = sym (has_name other few was at) ∙ is in
        let h : Some old ≡ Some was = sym there ∙ (ap (λ n. thing_named n few) (sym same) ∙ at) in cc

    kept_by : (other : List ℕ) (was : CThing) (same : Bool) → bytes_eq was.name name ≡ same → thing_named other few ≡ Some was
        → thing_named other (set_thing name new few) ≡ Some (if same then new else was) → IsOnward other (set_thing name new few) was
    kept_by other was true e at now =
        let is = old_is other was at (name_is was e) in
        record {
          one = new;
          there = now;
          number_is = number_is ∙ ap (λ (x : CThing). x.number) is;
          function_is = function_is ∙ ap (λ (x : CThing). x.is_function) is;
          defined = λ held. defined (ap (λ (x : CThing). x.is_defined) is ∙ held);
        }
    kept_by other was false e at now = record { one = was; there = now; number_is = refl; function_is = refl; defined = λ held. held }

    were_by : (other : List ℕ) (was one : CThing) (same : Bool) → bytes_eq was.name name ≡ same → thing_named other few ≡ Some was → (if same then new else was) ≡ one
        → ((thing_named other few ≡ Some one) × (other ≡ name → ⊥)) ⊎ ((other ≡ name) × (one ≡ new))
    were_by other was one true e at is = inr (sym (has_name other few was at) ∙ name_is was e, sym is)
    were_by other was one false e at is =
        inl (at ∙ ap (λ x. Some x) is, λ same. let h : bytes_eq was.name name ≡ true = (bytes_eq-Decides was.name name).1 (has_name other few was at ∙ same) in let k : false ≡ true = sym e ∙ h in cc)

    name_kept : (was one : CThing) (same : Bool) → bytes_eq was.name name ≡ same → (if same then new else was) ≡ one → was.name ≡ one.name
    name_kept was one true e is = name_is was e ∙ (sym named ∙ ap (λ (x : CThing). x.name) is)
    name_kept was one false e is = ap (λ (x : CThing). x.name) is

    pub set_declared : AreDeclared few (set_thing name new few) name new
    set_declared = record {
      kept = λ other was at. kept_by other was (bytes_eq was.name name) refl at (found_set name other new few was (names_same other) at);
      were = λ other one now.
          let was = found_before name other new few one (names_same other) now in
          were_by other was.0 one (bytes_eq was.0.name name) refl was.1 was.2;
      listed = λ index one at.
          let was = got_mapped (same_thing name new) few index one at in
          subst (λ n. thing_named n (set_thing name new few) ≡ Some one) (name_kept was.0 one (bytes_eq was.0.name name) refl was.2)
          (found_set name was.0.name new few was.0 (names_same was.0.name) (listed_few index was.0 was.1) ∙ ap (λ x. Some x) was.2);
      differ = λ held first second one other at there same.
          let was = got_mapped (same_thing name new) few first one at in
          let also = got_mapped (same_thing name new) few second other there in
          held first second was.0 also.0 was.1 also.1
          (name_kept was.0 one (bytes_eq was.0.name name) refl was.2 ∙ (same ∙ sym (name_kept also.0 other (bytes_eq also.0.name name) refl also.2)));
    }
