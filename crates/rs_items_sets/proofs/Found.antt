-- What was found free is the first candidate that is.
use Rattle.std.proofs.Common.{◌≡◌, ℕ, zero, suc, Bool, true, false, not, List, Option, Some, None, refl, sym, ap, ◌∙◌, arith, subst, Result, Ok, Err, IfOk}
use Rattle.std.proofs.lemmas.List.{length-append}
use Rattle.rs_items_sets.specs.LawsNames.{AreFew}
use Rattle.rs_items_sets.specs.Names.{candidate, free, unless, IsGone, AreGone, IsRustName, rust_name}
use Rattle.rs_items_sets.specs.Scopes.{HoldsAll, IsFree, names_of, taken_in}
use Rattle.rs_items_sets.specs.Sets.{ArePassed, set_of}
use Rattle.rs_items_sets.specs.declared.scope.NameScope.{NameScope}
use Rattle.rs_items_sets.specs.declared.scope.NameScope.TheVariants.{Module, Function, Fields}
use Rattle.rs_items_sets.specs.declared.scopes.Found.{Found}
use Rattle.rs_items_sets.specs.declared.sets.NameSet.{NameSet}
use Rattle.rs_items_sets.proofs.FirstFree.{names_first}
use Rattle.rs_text.specs.Names.{is_among}

-- a candidate that isn't free is gone
gone_of : (taken : List (List ℕ)) (one : Option (List ℕ)) → free taken one ≡ None → IsGone taken one
gone_of taken None none = tt
gone_of taken (Some name) none = by_test (is_among taken name) refl
  where
    by_test : (r : Bool) → is_among taken name ≡ r → is_among taken name ≡ true
    by_test true e = e
    by_test false e = let some : Some name ≡ None = sym (ap (λ r. unless r name) e) ∙ none in cc

-- one that is free is there, and isn't taken
pub record IsFreeOne (taken : List (List ℕ)) (one : Option (List ℕ)) (name : List ℕ) : Type 0 where
  pub is : one ≡ Some name
  pub free : is_among taken name ≡ false

abbrev IsApart : List (List ℕ) → Option (List ℕ) → Type 0
IsApart taken None = Unit {0}
IsApart taken (Some one) = is_among taken one ≡ false

free_of : (taken : List (List ℕ)) (one : Option (List ℕ)) (name : List ℕ) → free taken one ≡ Some name → IsFreeOne taken one name
free_of taken None name is = cc
free_of taken (Some other) name is = by_test (is_among taken other) refl
  where
    by_test : (r : Bool) → is_among taken other ≡ r → IsFreeOne taken (Some other) name
    by_test true e = let none : None ≡ Some name = sym (ap (λ r. unless r other) e) ∙ is in cc
    by_test false e =
        let same : Some other ≡ Some name = sym (ap (λ r. unless r other) e) ∙ is in
        record { is = same; free = subst (IsApart taken) same e }

pub itself_first : (taken : List (List ℕ)) (scope : NameScope) (name one : List ℕ) → Some one ≡ free taken (candidate scope name 0) → IsRustName taken scope name one
itself_first taken scope name one is =
    let found = free_of taken (candidate scope name 0) one (sym is) in
    record { number = 0; is = found.is; free = ap not found.free; first = λ k low. absurd (omega (arith, low)) }

pub none_passed : (taken : List (List ℕ)) (scope : NameScope) (name : List ℕ) → ArePassed taken scope name 0
none_passed taken scope name k low = absurd (omega (arith, low))

behind : (taken : List (List ℕ)) (scope : NameScope) (name : List ℕ) (passed : ℕ) → IsGone taken (candidate scope name 0) → ArePassed taken scope name passed → AreGone taken (candidate scope name) (suc passed)
behind taken scope name passed first passes zero low = first
behind taken scope name passed first passes (suc k) low = passes k (omega (arith, low))

pub suffixed_first : (taken : List (List ℕ)) (scope : NameScope) (name : List ℕ) (passed : ℕ) (one : List ℕ) → None ≡ free taken (candidate scope name 0) → IsFree taken scope name passed one
    → IsRustName taken scope name one
suffixed_first taken scope name passed one none found = record {
  number = suc passed;
  is = found.is;
  free = found.free;
  first = behind taken scope name passed (gone_of taken (candidate scope name 0) (sym none)) found.passes;
}

-- ---- sets are few

pub few_in : (module_set own fields : NameSet) (scope : NameScope) → HoldsAll module_set own fields → AreFew (set_of (taken_in module_set own fields) scope)
few_in module_set own fields Module holds = let few = holds.of_module.few in omega (arith, few)
few_in module_set own fields Function holds =
    let few = holds.of_module.few in
    let more = holds.of_function.few in
    omega (arith, few, more, length-append (names_of module_set) (names_of own))
few_in module_set own fields Fields holds = let few = holds.of_fields.few in omega (arith, few)

pub first_name : (module_set own fields : NameSet) (scope : NameScope) (name one : List ℕ) → HoldsAll module_set own fields → IsRustName (set_of (taken_in module_set own fields) scope) scope name one
    → one ≡ rust_name (set_of (taken_in module_set own fields) scope) scope name
first_name module_set own fields scope name one holds is =
    names_first.only (set_of (taken_in module_set own fields) scope) scope name one (few_in module_set own fields scope holds) is

pub suffixed_ok : {E : Type 0} (taken : List (List ℕ)) (scope : NameScope) (name : List ℕ) (result : Result Found E) → None ≡ free taken (candidate scope name 0)
    → IfOk result (λ found. IsFree taken scope name found.passed found.name.items) → IfOk result (λ found. IsRustName taken scope name found.name.items)
suffixed_ok taken scope name (Ok found) none is = suffixed_first taken scope name found.passed found.name.items none is
suffixed_ok taken scope name (Err why) none is = tt
