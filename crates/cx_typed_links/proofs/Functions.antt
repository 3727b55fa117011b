-- Each function of a program of typed units is one of a unit, and is found there by its number; what a unit only declares is what another defines
-- (ISO C99, 6.2.2p2).
use Rattle.std.proofs.Common.{◌≡◌, ℕ, zero, suc, ◌+◌, ◌==◌, max, Bool, true, false, ◌&&◌, if◌then◌else◌, List, [], ◌∷◌, ◌++◌, map, All, Option, None, Some, slice_get, eqb, bytes_eq, refl, sym, ap, ◌∙◌, arith, subst}
use Rattle.std.specs.Prelude.{◌<◌, cond, IsSome}
use Rattle.std.specs.List.{find, list_any, IsDistinct}
use Rattle.std.proofs.lemmas.Bool.Decides.{nat_tests}
use Rattle.std.proofs.lemmas.List.Elements.{All-nil, All-cons, All-head, All-tail}
use Rattle.cx_core.specs.Linked.{is_external}
use Rattle.cx_core.specs.Trees.{CFun, COuter, CUnit}
use Rattle.cx_core.specs.Typing.{function_with, outer_with}
use Rattle.cx_links.specs.Program.{CFound, defined_function, function_of_name, counts_before, function_at, function_by, function_number, numbers_of, linked}
use Rattle.cx_renumber.specs.Numbers.{counts_of, above, function_there}
use Rattle.cx_typed_links.proofs.Each.{all_given}
use Rattle.cx_typed_links.proofs.Joined.{rows_before, none_on}
use Rattle.cx_typed_links.proofs.OwnObjects.{first_holds, second_holds, any_given}
use Rattle.cx_typed_links.proofs.Places.{AreOther, first_is, found_holds, found_alone, any_found, below_all, same_found, same_number, number_itself, units_apart}
use Rattle.cx_typed_links.proofs.Programs.{linked_functions}
use Rattle.cx_typed_links.proofs.Records.{all_mapped}
use Rattle.cx_typed_links.specs.Laws.{AreTypedUnits}

-- ---- numbers that differ, of two lists together

other_in_first : (number : ℕ) (ns ms : List ℕ) → AreOther number (ns ++ ms) → AreOther number ns
other_in_first number [] ms other = tt
other_in_first number (n ∷ ns) ms other = (other.0, other_in_first number ns ms other.1)

other_in_second : (number : ℕ) (ns ms : List ℕ) → AreOther number (ns ++ ms) → AreOther number ms
other_in_second number [] ms other = other
other_in_second number (n ∷ ns) ms other = other_in_second number ns ms other.1

pub distinct_first : (ns ms : List ℕ) → IsDistinct eqb (ns ++ ms) → IsDistinct eqb ns
unfolding IsDistinct
distinct_first [] ms differ = tt
distinct_first (n ∷ ns) ms differ = (other_in_first n ns ms differ.0, distinct_first ns ms differ.1)

pub distinct_second : (ns ms : List ℕ) → IsDistinct eqb (ns ++ ms) → IsDistinct eqb ms
unfolding IsDistinct
distinct_second [] ms differ = differ
distinct_second (n ∷ ns) ms differ = distinct_second ns ms differ.1

pub distinct_apart : {X : Type 0} (key : X → ℕ) (xs : List X) (ms : List ℕ) → IsDistinct eqb (map key xs ++ ms) → All (λ x. AreOther (key x) ms) xs
unfolding IsDistinct
distinct_apart key [] ms differ = All-nil (λ x. AreOther (key x) ms)
distinct_apart key (x ∷ xs) ms differ =
    All-cons (λ y. AreOther (key y) ms) x xs (other_in_second (key x) (map key xs) ms differ.0) (distinct_apart key xs ms differ.1)

differs_back : (first second : ℕ) → eqb first second ≡ false → (second == first) ≡ false
differs_back first second is = grind (arith, nat_tests, is)

pub none_found : {X : Type 0} (key : X → ℕ) (number : ℕ) (xs : List X) → AreOther number (map key xs) → find (λ x. key x == number) xs ≡ None
none_found key number [] other = refl
none_found key number (x ∷ xs) other =
    ap (λ (passes : Bool). cond passes (Some x) (find (λ y. key y == number) xs)) (differs_back number (key x) other.0) ∙ none_found key number xs other.1

pub less_of_first : (number first second : ℕ) → number < first → number < max first second
less_of_first number first second less = omega arith

pub less_of_second : (number first second : ℕ) → number < second → number < max first second
less_of_second number first second less = omega arith

-- ---- functions of a unit

abbrev pub number_of_function : CFun → ℕ
number_of_function known = known.function

abbrev pub number_of_outer : COuter → ℕ
number_of_outer known = known.function

abbrev pub functions_in : CUnit → ℕ
functions_in one = (counts_of one).functions

pub functions_before : (count : ℕ) (units : List CUnit) → rows_before functions_in count units ≡ (counts_before count units).functions
functions_before zero units = refl
functions_before (suc count) [] = refl
functions_before (suc count) (one ∷ others) = ap (λ n. functions_in one + n) (functions_before count others)

-- a function that a unit defines is found by its number, and no other thing of the unit has it
abbrev pub IsFoundAlone : CUnit → CFun → Type 0
IsFoundAlone home thing = (function_with thing.function home.functions ≡ Some thing) × (outer_with thing.function home.externals ≡ None)

pub record IsOwnFunction (units : List CUnit) (unit : ℕ) (home : CUnit) (thing : CFun) : Type 0 where
  pub unit_is : slice_get units unit ≡ Some home
  pub own : IsFoundAlone home thing

-- a function of the program is one of a unit
pub record IsFunctionOf (units : List CUnit) (one : CFun) : Type 0 where
  pub unit : ℕ
  pub home : CUnit
  pub thing : CFun
  pub in_unit : IsOwnFunction units unit home thing
  pub is : one ≡ function_there (numbers_of units home unit) thing

module _ (units : List CUnit) where
  pub same_function : (unit other : ℕ) (home home_of_other : CUnit) (thing also : CFun) → IsOwnFunction units unit home thing
      → IsOwnFunction units other home_of_other also → function_at units unit thing.function ≡ function_at units other also.function
      → function_there (numbers_of units home unit) thing ≡ function_there (numbers_of units home_of_other other) also
  same_function unit other home home_of_other thing also first second same =
      let place : rows_before functions_in unit units + thing.function ≡ rows_before functions_in other units + also.function =
      ap (λ n. n + thing.function) (functions_before unit units) ∙ same ∙ sym (ap (λ n. n + also.function) (functions_before other units)) in
      let apart = units_apart functions_in units unit other home home_of_other thing.function also.function
      first.unit_is
      (less_of_first thing.function (above (map number_of_function home.functions)) (above (map number_of_outer home.externals))
      (below_all number_of_function home.functions thing.function thing first.own.0))
      second.unit_is
      (less_of_first also.function (above (map number_of_function home_of_other.functions)) (above (map number_of_outer home_of_other.externals))
      (below_all number_of_function home_of_other.functions also.function also second.own.0)) place in
      let homes : home ≡ home_of_other =
      same_found (slice_get units other) home home_of_other (subst (λ n. slice_get units n ≡ Some home) apart.0 first.unit_is) second.unit_is in
      let things : thing ≡ also =
      same_found (function_with also.function home_of_other.functions) thing also
      (subst (λ n. function_with n home_of_other.functions ≡ Some thing) apart.1
      (subst (λ (one : CUnit). function_with thing.function one.functions ≡ Some thing) homes first.own.0)) second.own.0 in
      ap (λ n. function_there (numbers_of units home n) thing) apart.0
      ∙ ap (λ one. function_there (numbers_of units one other) thing) homes
      ∙ ap (λ one. function_there (numbers_of units home_of_other other) one) things

  abbrev number_by : ℕ → Option COuter → ℕ
  number_by own None = own
  number_by own (Some one) = if is_external one.linkage then function_by units one.name own (function_of_name units one.name) else own

  pub own_function_number : (unit : ℕ) (home : CUnit) (number : ℕ) → outer_with number home.externals ≡ None
      → function_number units home unit number ≡ function_at units unit number
  own_function_number unit home number none = ap (number_by (function_at units unit number)) none

  pub outer_number : (unit : ℕ) (home : CUnit) (number : ℕ) (outer : COuter) → outer_with number home.externals ≡ Some outer → is_external outer.linkage ≡ true
      → function_number units home unit number ≡ function_by units outer.name (function_at units unit number) (function_of_name units outer.name)
  outer_number unit home number outer found external =
      ap (number_by (function_at units unit number)) found
      ∙ ap (λ (holds : Bool). if holds then function_by units outer.name (function_at units unit number) (function_of_name units outer.name) else function_at units unit number) external

module _ (units : List CUnit) (typed : AreTypedUnits units) where
  abbrev Of : CFun → Type 0
  Of one = IsFunctionOf units one

  both_of : {X : Type 0} (P Q : X → Type 0) (xs : List X) → All P xs → All Q xs → All (λ x. P x × Q x) xs
  both_of P Q [] first second = All-nil (λ x. P x × Q x)
  both_of P Q (x ∷ xs) first second =
      All-cons (λ y. P y × Q y) x xs (All-head P x xs first, All-head Q x xs second) (both_of P Q xs (All-tail P x xs first) (All-tail Q x xs second))

  none_of : {X : Type 0} (number : X → ℕ) (outers : List COuter) (xs : List X) → All (λ x. AreOther (number x) (map number_of_outer outers)) xs
      → All (λ x. outer_with (number x) outers ≡ None) xs
  none_of number outers [] all = All-nil (λ x. outer_with (number x) outers ≡ None)
  none_of number outers (x ∷ xs) all =
      All-cons (λ y. outer_with (number y) outers ≡ None) x xs
      (none_found number_of_outer (number x) outers (All-head (λ y. AreOther (number y) (map number_of_outer outers)) x xs all))
      (none_of number outers xs (All-tail (λ y. AreOther (number y) (map number_of_outer outers)) x xs all))

  pub all_own_functions : (unit : ℕ) (one : CUnit) → slice_get units unit ≡ Some one → All (IsFoundAlone one) one.functions
  all_own_functions unit one is =
      let differ = (typed unit one is).numbers.functions_differ in
      both_of (λ thing. function_with thing.function one.functions ≡ Some thing) (λ thing. outer_with thing.function one.externals ≡ None) one.functions
      (found_alone number_of_function one.functions
      (distinct_first (map number_of_function one.functions) (map number_of_outer one.externals) differ))
      (none_of number_of_function one.externals one.functions
      (distinct_apart number_of_function one.functions (map number_of_outer one.externals) differ))

  abbrev given : CUnit → ℕ → List CFun
  given one unit = map (function_there (numbers_of units one unit)) one.functions

  pub program_functions : All Of (linked units).functions
  program_functions =
      subst (All Of) (sym (linked_functions units))
      (all_given Of given units
      (λ unit one is. all_mapped (IsFoundAlone one) Of (function_there (numbers_of units one unit)) one.functions
      (λ thing own. record { unit = unit; home = one; thing = thing; in_unit = record { unit_is = is; own = own }; is = refl })
      (all_own_functions unit one is)))

  -- what has the number of a function of a unit is that function, renumbered
  pub function_at_number : (unit : ℕ) (home : CUnit) (thing : CFun) → IsOwnFunction units unit home thing → (found : CFun)
      → function_with (function_at units unit thing.function) (linked units).functions ≡ Some found → found ≡ function_there (numbers_of units home unit) thing
  function_at_number unit home thing own found is =
      let held = found_holds Of (λ one. one.function == function_at units unit thing.function) (linked units).functions found program_functions is in
      let of = held.0 in
      let place : function_at units of.unit of.thing.function ≡ function_at units unit thing.function =
      sym (own_function_number units of.unit of.home of.thing.function of.in_unit.own.1) ∙ sym (ap number_of_function of.is)
      ∙ same_number found.function (function_at units unit thing.function) held.1 in
      of.is ∙ same_function units of.unit unit of.home home of.thing thing of.in_unit own place

  -- ---- it is there

  module _ (unit : ℕ) (home : CUnit) (thing : CFun) (own : IsOwnFunction units unit home thing) where
    abbrev place : ℕ
    place = function_at units unit thing.function

    abbrev has_place : CFun → Bool
    has_place one = one.function == place

    passes_by : (known : CFun) (others : List CFun) (passes : Bool) → (known.function == thing.function) ≡ passes
        → cond passes (Some known) (function_with thing.function others) ≡ Some thing
        → (function_with thing.function others ≡ Some thing → list_any has_place (map (function_there (numbers_of units home unit)) others) ≡ true)
        → list_any has_place (map (function_there (numbers_of units home unit)) (known ∷ others)) ≡ true
    passes_by known others true passes is later =
        first_holds (has_place (function_there (numbers_of units home unit) known)) (list_any has_place (map (function_there (numbers_of units home unit)) others))
        (subst (λ n. (function_number units home unit n == place) ≡ true) (sym (same_number known.function thing.function passes))
        (subst (λ n. (n == place) ≡ true) (sym (own_function_number units unit home thing.function own.own.1)) (number_itself place)))
    passes_by known others false passes is later =
        second_holds (has_place (function_there (numbers_of units home unit) known)) (list_any has_place (map (function_there (numbers_of units home unit)) others)) (later is)

    all_pass : (functions : List CFun) → function_with thing.function functions ≡ Some thing
        → list_any has_place (map (function_there (numbers_of units home unit)) functions) ≡ true
    all_pass [] is = absurd cc
    all_pass (known ∷ others) is = passes_by known others (known.function == thing.function) refl is (all_pass others)

    some_there : IsSome (function_with place (linked units).functions)
    some_there =
        any_found has_place (linked units).functions
        (subst (λ all. list_any has_place all ≡ true) (sym (linked_functions units))
        (any_given has_place given 0 units unit home own.unit_is
        (subst (λ n. list_any has_place (given home n) ≡ true) (sym (none_on unit)) (all_pass home.functions own.own.0))))

    found_by : (other : Option CFun) → function_with place (linked units).functions ≡ other → IsSome other
        → function_with place (linked units).functions ≡ Some (function_there (numbers_of units home unit) thing)
    found_by None is some = absurd cc
    found_by (Some other) is some = is ∙ ap (λ one. Some one) (function_at_number unit home thing own other is)

    pub own_function_there : function_with place (linked units).functions ≡ Some (function_there (numbers_of units home unit) thing)
    own_function_there = found_by (function_with place (linked units).functions) refl some_there

  -- a function that a unit defines
  pub own_function : (unit : ℕ) (one : CUnit) → slice_get units unit ≡ Some one → (number : ℕ) (known : CFun) → function_with number one.functions ≡ Some known
      → function_with (function_number units one unit number) (linked units).functions ≡ Some (function_there (numbers_of units one unit) known)
  own_function unit one is number known found =
      let held = found_holds (IsFoundAlone one) (λ other. other.function == number) one.functions known (all_own_functions unit one is) found in
      subst (λ n. function_with (function_number units one unit n) (linked units).functions ≡ Some (function_there (numbers_of units one unit) known))
      (same_number known.function number held.1)
      (ap (λ n. function_with n (linked units).functions) (own_function_number units unit one known.function held.0.1)
      ∙ own_function_there unit one known (record { unit_is = is; own = held.0 }))

  -- a function that a unit declares, and a unit defines
  pub named_function : (unit : ℕ) (one : CUnit) (number : ℕ) (outer : COuter) → outer_with number one.externals ≡ Some outer
      → is_external outer.linkage ≡ true → (found : CFound CFun) → function_of_name units outer.name ≡ Some found
      → function_with (function_number units one unit number) (linked units).functions ≡ Some (function_there (numbers_of units found.home found.unit) found.thing)
  named_function unit one number outer is_outer external found is =
      let first = first_is (defined_function outer.name) 0 units found is in
      let unit_is : slice_get units found.unit ≡ Some found.home =
      subst (λ n. slice_get units n ≡ Some found.home) (sym (first.unit_is ∙ none_on first.at)) first.home_is in
      let held = found_holds (IsFoundAlone found.home) (λ known. is_external known.linkage && bytes_eq outer.name known.name) found.home.functions found.thing
      (all_own_functions found.unit found.home unit_is) first.thing_is in
      ap (λ n. function_with n (linked units).functions)
      (outer_number units unit one number outer is_outer external ∙ ap (function_by units outer.name (function_at units unit number)) is)
      ∙ own_function_there found.unit found.home found.thing (record { unit_is = unit_is; own = held.0 })
