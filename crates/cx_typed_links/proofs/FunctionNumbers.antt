-- No two functions of a program of typed units have one number.
use Rattle.std.proofs.Common.{◌≡◌, ℕ, ◌+◌, Bool, true, false, if◌then◌else◌, List, [], ◌∷◌, ◌++◌, map, All, Some, slice_get, eqb, refl, sym, ap, ◌∙◌, arith, subst}
use Rattle.std.specs.Prelude.{◌<◌}
use Rattle.std.specs.List.{IsDistinct}
use Rattle.std.proofs.lemmas.List.Elements.{All-nil, All-cons, All-head, All-tail, All-append}
use Rattle.cx_core.specs.Trees.{CFun, COuter, CUnit}
use Rattle.cx_links.specs.Program.{counts_before, function_at, function_number, numbers_of, is_left, outers_from, linked}
use Rattle.cx_renumber.specs.Numbers.{above, function_there, outer_there}
use Rattle.cx_typed_links.proofs.Callees.{not_defined_by}
use Rattle.cx_typed_links.proofs.Distinct.{not_same_back, distinct_joined, other_all, all_made, units_differ}
use Rattle.cx_typed_links.proofs.Functions.{number_of_function, number_of_outer, functions_in, functions_before, less_of_first, less_of_second, distinct_first, distinct_second, own_function_number, IsFoundAlone, IsFunctionOf, all_own_functions, program_functions}
use Rattle.cx_typed_links.proofs.Outers.{IsLeftOf, IsFoundOuter, all_own_outers, left_own, left_place, linked_externals, program_externals}
use Rattle.cx_typed_links.proofs.Places.{AreOther, below_all, units_apart}
use Rattle.cx_typed_links.proofs.Programs.{linked_functions}
use Rattle.cx_typed_links.proofs.Records.{all_mapped}
use Rattle.cx_typed_links.specs.Laws.{AreTypedUnits}

-- ---- numbers that are moved alike

same_rest : (base first second : ℕ) → base + first ≡ base + second → first ≡ second
same_rest base first second same = omega (arith, same)

module _ {X Y : Type 0} (base : ℕ) (from : X → ℕ) (to : Y → ℕ) (made : X → Y) where
  -- each is moved by so much
  abbrev IsMoved : X → Type 0
  IsMoved x = to (made x) ≡ base + from x

  others_moved : (x : X) (xs : List X) → IsMoved x → All IsMoved xs → AreOther (from x) (map from xs) → AreOther (to (made x)) (map to (map made xs))
  others_moved x xs is all other = other_all to (to (made x)) (map made xs) (each xs all other)
    where
      each : (xs : List X) → All IsMoved xs → AreOther (from x) (map from xs) → All (λ y. to (made x) ≡ to y → ⊥) (map made xs)
      each [] all other = All-nil (λ y. to (made x) ≡ to y → ⊥)
      each (z ∷ zs) all other =
          All-cons (λ y. to (made x) ≡ to y → ⊥) (made z) (map made zs)
          (λ same. not_same_back (from x) (from z) other.0
          (same_rest base (from x) (from z) (sym is ∙ same ∙ All-head IsMoved z zs all)))
          (each zs (All-tail IsMoved z zs all) other.1)

  pub moved_differ : (xs : List X) → All IsMoved xs → IsDistinct eqb (map from xs) → IsDistinct eqb (map to (map made xs))
  unfolding IsDistinct
  moved_differ [] all differ = tt
  moved_differ (x ∷ xs) all differ =
      (others_moved x xs (All-head IsMoved x xs all) (All-tail IsMoved x xs all) differ.0, moved_differ xs (All-tail IsMoved x xs all) differ.1)

module _ (units : List CUnit) (typed : AreTypedUnits units) where
  -- ---- a number of a unit

  record HasPlace (unit : ℕ) (number : ℕ) : Type 0 where
    home : CUnit
    own : ℕ
    unit_is : slice_get units unit ≡ Some home
    within : own < functions_in home
    number_is : number ≡ function_at units unit own

  one_place : (first second number also : ℕ) → HasPlace first number → HasPlace second also → number ≡ also → first ≡ second
  one_place first second number also one other same =
      (units_apart functions_in units first second one.home other.home one.own other.own one.unit_is one.within other.unit_is other.within
      (ap (λ n. n + one.own) (functions_before first units) ∙ sym one.number_is ∙ same ∙ other.number_is
      ∙ sym (ap (λ n. n + other.own) (functions_before second units)))).0

  -- ---- functions

  abbrev FunctionAt : ℕ → CFun → Type 0
  FunctionAt unit known = HasPlace unit known.function

  abbrev functions_of : CUnit → ℕ → List CFun
  functions_of one unit = map (function_there (numbers_of units one unit)) one.functions

  functions_at : (unit : ℕ) (one : CUnit) → slice_get units unit ≡ Some one → All (FunctionAt unit) (functions_of one unit)
  functions_at unit one is =
      all_mapped (IsFoundAlone one) (FunctionAt unit) (function_there (numbers_of units one unit)) one.functions
      (λ known own. record {
        home = one;
        own = known.function;
        unit_is = is;
        within = less_of_first known.function (above (map number_of_function one.functions)) (above (map number_of_outer one.externals))
            (below_all number_of_function one.functions known.function known own.0);
        number_is = own_function_number units unit one known.function own.1;
      }) (all_own_functions units typed unit one is)

  functions_within : (unit : ℕ) (one : CUnit) → slice_get units unit ≡ Some one → IsDistinct eqb (map number_of_function (functions_of one unit))
  functions_within unit one is =
      moved_differ (counts_before unit units).functions number_of_function number_of_function (function_there (numbers_of units one unit)) one.functions
      (all_made (IsFoundAlone one) (λ known. function_number units one unit known.function ≡ function_at units unit known.function) one.functions
      (λ known own. own_function_number units unit one known.function own.1) (all_own_functions units typed unit one is))
      (distinct_first (map number_of_function one.functions) (map number_of_outer one.externals) (typed unit one is).numbers.functions_differ)

  pub functions_differ : IsDistinct eqb (map number_of_function (linked units).functions)
  functions_differ =
      subst (λ all. IsDistinct eqb (map number_of_function all)) (sym (linked_functions units))
      (units_differ number_of_function functions_of FunctionAt units functions_at functions_within
      (λ first second x y one other same. one_place first second x.function y.function one other same))

  -- ---- functions that no unit defines

  abbrev OuterAt : ℕ → COuter → Type 0
  OuterAt unit known = HasPlace unit known.function

  module _ (unit : ℕ) (one : CUnit) (is : slice_get units unit ≡ Some one) where
    abbrev made : COuter → COuter
    made known = outer_there (numbers_of units one unit) known

    part_at : (known : COuter) → IsFoundOuter one known → (left : Bool) → is_left units unit known ≡ left → All (OuterAt unit) (if left then made known ∷ [] else [])
    part_at known own true left =
        All-cons (OuterAt unit) (made known) []
        (record {
          home = one;
          own = known.function;
          unit_is = is;
          within = less_of_second known.function (above (map number_of_function one.functions)) (above (map number_of_outer one.externals))
              (below_all number_of_outer one.externals known.function known own.0);
          number_is = left_own units typed unit one is known own left;
        }) (All-nil (OuterAt unit))
    part_at known own false left = All-nil (OuterAt unit)

    outers_at : (outers : List COuter) → All (IsFoundOuter one) outers → All (OuterAt unit) (outers_from units one unit outers)
    outers_at [] all = All-nil (OuterAt unit)
    outers_at (known ∷ others) all =
        All-append (OuterAt unit) (if is_left units unit known then made known ∷ [] else []) (outers_from units one unit others)
        (part_at known (All-head (IsFoundOuter one) known others all) (is_left units unit known) refl)
        (outers_at others (All-tail (IsFoundOuter one) known others all))

    -- another declaration of the unit has another number
    other_part : (known other : COuter) → IsFoundOuter one known → is_left units unit known ≡ true → IsFoundOuter one other → eqb known.function other.function ≡ false
        → (left : Bool) → is_left units unit other ≡ left
        → All (λ y. (made known).function ≡ number_of_outer y → ⊥) (if left then made other ∷ [] else [])
    other_part known other own known_left also apart true left =
        All-cons (λ y. (made known).function ≡ number_of_outer y → ⊥) (made other) []
        (λ same. not_same_back known.function other.function apart
        (same_rest (counts_before unit units).functions known.function other.function
        (sym (left_own units typed unit one is known own known_left) ∙ same ∙ left_own units typed unit one is other also left)))
        (All-nil (λ y. (made known).function ≡ number_of_outer y → ⊥))
    other_part known other own known_left also apart false left = All-nil (λ y. (made known).function ≡ number_of_outer y → ⊥)

    other_parts : (known : COuter) → IsFoundOuter one known → is_left units unit known ≡ true → (others : List COuter) → All (IsFoundOuter one) others
        → AreOther known.function (map number_of_outer others) → All (λ y. (made known).function ≡ number_of_outer y → ⊥) (outers_from units one unit others)
    other_parts known own left [] all apart = All-nil (λ y. (made known).function ≡ number_of_outer y → ⊥)
    other_parts known own left (other ∷ others) all apart =
        All-append (λ y. (made known).function ≡ number_of_outer y → ⊥) (if is_left units unit other then made other ∷ [] else []) (outers_from units one unit others)
        (other_part known other own left (All-head (IsFoundOuter one) other others all) apart.0 (is_left units unit other) refl)
        (other_parts known own left others (All-tail (IsFoundOuter one) other others all) apart.1)

    first_part : (known : COuter) (others : List COuter) → IsFoundOuter one known → All (IsFoundOuter one) others → AreOther known.function (map number_of_outer others)
        → IsDistinct eqb (map number_of_outer (outers_from units one unit others)) → (left : Bool) → is_left units unit known ≡ left
        → IsDistinct eqb (map number_of_outer ((if left then made known ∷ [] else []) ++ outers_from units one unit others))
    unfolding IsDistinct
    first_part known others own all apart rest true left =
        (other_all number_of_outer (made known).function (outers_from units one unit others) (other_parts known own left others all apart), rest)
    first_part known others own all apart rest false left = rest

    outers_within : (outers : List COuter) → All (IsFoundOuter one) outers → IsDistinct eqb (map number_of_outer outers)
        → IsDistinct eqb (map number_of_outer (outers_from units one unit outers))
    unfolding IsDistinct
    outers_within [] all differ = tt
    outers_within (known ∷ others) all differ =
        first_part known others (All-head (IsFoundOuter one) known others all) (All-tail (IsFoundOuter one) known others all) differ.0
        (outers_within others (All-tail (IsFoundOuter one) known others all) differ.1) (is_left units unit known) refl

  pub outers_differ : IsDistinct eqb (map number_of_outer (linked units).externals)
  outers_differ =
      subst (λ all. IsDistinct eqb (map number_of_outer all)) (sym (linked_externals units typed))
      (units_differ number_of_outer (λ one unit. outers_from units one unit one.externals) OuterAt units
      (λ unit one is. outers_at unit one is one.externals (all_own_outers units typed unit one is))
      (λ unit one is. outers_within unit one is one.externals (all_own_outers units typed unit one is)
      (distinct_second (map number_of_function one.functions) (map number_of_outer one.externals) (typed unit one is).numbers.functions_differ))
      (λ first second x y one other same. one_place first second x.function y.function one other same))

  -- ---- both

  no_outer : (known : CFun) → IsFunctionOf units known → (outers : List COuter) → All (IsLeftOf units) outers
      → AreOther known.function (map number_of_outer outers)
  no_outer known of outers all =
      other_all number_of_outer known.function outers
      (all_made (IsLeftOf units) (λ y. known.function ≡ y.function → ⊥) outers
      (λ y left same. not_defined_by units typed left.found.thing.name left.found left.found_is left.undefined known of
      (same ∙ left_place units typed y left)) all)

  apart_all : (functions : List CFun) → All (IsFunctionOf units) functions
      → All (λ n. AreOther n (map number_of_outer (linked units).externals)) (map number_of_function functions)
  apart_all [] all = All-nil (λ n. AreOther n (map number_of_outer (linked units).externals))
  apart_all (known ∷ others) all =
      All-cons (λ n. AreOther n (map number_of_outer (linked units).externals)) known.function (map number_of_function others)
      (no_outer known (All-head (IsFunctionOf units) known others all) (linked units).externals (program_externals units typed))
      (apart_all others (All-tail (IsFunctionOf units) known others all))

  pub all_functions_differ : IsDistinct eqb (map number_of_function (linked units).functions ++ map number_of_outer (linked units).externals)
  all_functions_differ =
      distinct_joined (map number_of_function (linked units).functions) (map number_of_outer (linked units).externals) functions_differ outers_differ
      (apart_all (linked units).functions (program_functions units typed))
