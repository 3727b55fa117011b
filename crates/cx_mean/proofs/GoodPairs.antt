-- The pairs of records that a setting holds are the largest good set, so two types are compatible by them where they are compatible.
use Rattle.std.proofs.Common.{◌≡◌, ℕ, zero, suc, ◌<◌, ◌≤◌, ◌==◌, ◌&&◌, ◌||◌, Bool, true, false, if◌then◌else◌, List, [], ◌∷◌, map, filter, length, Option, Some, None, refl, sym, ap, ◌∙◌, subst, slice_get, arith, ◌⊎◌, inl, inr}
use Rattle.std.proofs.Math.Path.{fun_ext}
use Rattle.std.proofs.lemmas.Bool.{and_from, and_parts, or_left, or_right, or_cases, eqb-true}
use Rattle.std.proofs.lemmas.Bool.Decides.{nat_tests}
use Rattle.std.proofs.lemmas.List.Folds.{list_any-append}
use Rattle.std.proofs.lemmas.Option.{slice_get_within}
use Rattle.std.specs.List.{list_all, list_any}
use Rattle.cx_core.proofs.Agree.{counts_pair, covers, agree_needed, pair_needed_is}
use Rattle.cx_core.specs.Compatible.{agree, of_two_units, records_agree, pair_agrees, in_pairs, AreCompatible}
use Rattle.cx_core.specs.Needed.{Need, needed, needed_by_pair}
use Rattle.cx_core.specs.Trees.{CTy, CRecordTag, CTypes}
use Rattle.cx_mean.specs.Laws.{CompatibleTypesAreFound}
use Rattle.cx_mean.specs.Settings.{CPair, pairs_below, all_pairs, pairs_of_two_units, is_pair_in, agrees_with, agreeing, compatible_records}

-- ---- where more pairs count, more agrees

-- what counts by the first counts by the second
abbrev Below : (ℕ → ℕ → Bool) → (ℕ → ℕ → Bool) → Type 0
Below few many = (m n : ℕ) → few m n ≡ true → many m n ≡ true

all_more : {A : Type 0} (test other : A → Bool) → ((one : A) → test one ≡ true → other one ≡ true) → (xs : List A) → list_all test xs ≡ true → list_all other xs ≡ true
all_more test other more [] all = refl
all_more test other more (x ∷ xs) all =
    let parts = and_parts (test x) (list_all test xs) all in
    and_from _ _ (more x parts.0) (all_more test other more xs parts.1)

covers_more : (few many : ℕ → ℕ → Bool) (need : Need) → Below few many → covers few need ≡ true → covers many need ≡ true
covers_more few many None below holds = holds
covers_more few many (Some pairs) below holds = all_more (counts_pair few) (counts_pair many) (λ pair. below pair.first pair.second) pairs holds

agrees_more : (types : CTypes) (few many : ℕ → ℕ → Bool) (a b : CTy) → Below few many → agree types few a b ≡ true → agree types many a b ≡ true
agrees_more types few many a b below holds =
    agree_needed types many a b ∙ covers_more few many (needed types a b) below (sym (agree_needed types few a b) ∙ holds)

-- two records are of two units and meet 6.2.7p1 where some count as compatible
abbrev meets : CTypes → (ℕ → ℕ → Bool) → ℕ → ℕ → Bool
meets types counts i j = pair_agrees types counts (record { first = i; second = j })

meets_more : (types : CTypes) (few many : ℕ → ℕ → Bool) (i j : ℕ) → Below few many → meets types few i j ≡ true → meets types many i j ≡ true
meets_more types few many i j below holds =
    pair_needed_is types many (record { first = i; second = j })
    ∙ covers_more few many (needed_by_pair types (record { first = i; second = j })) below (sym (pair_needed_is types few (record { first = i; second = j })) ∙ holds)

-- ---- pairs that are kept

abbrev is_numbered : ℕ → ℕ → CPair → Bool
is_numbered i j pair = pair.first == i && pair.second == j

same_pair : (i j : ℕ) (pair : CPair) → is_numbered i j pair ≡ true → pair ≡ record { first = i; second = j }
same_pair i j pair same =
    let parts = and_parts (pair.first == i) (pair.second == j) same in
    ap (λ m. record { first = m; second = pair.second }) (eqb-true _ _ parts.0) ∙ ap (λ n. record { first = i; second = n }) (eqb-true _ _ parts.1)

any_if : {A : Type 0} (test : A → Bool) (kept : Bool) (x : A) (xs : List A)
    → list_any test (if kept then x ∷ xs else xs) ≡ (if kept then test x || list_any test xs else list_any test xs)
any_if test true x xs = refl
any_if test false x xs = refl

kept_in : (keeps : CPair → Bool) (i j : ℕ) (pairs : List CPair) → keeps (record { first = i; second = j }) ≡ true
    → is_pair_in pairs i j ≡ true → is_pair_in (filter keeps pairs) i j ≡ true
kept_in keeps i j [] passes found = absurd cc
kept_in keeps i j (pair ∷ pairs) passes found =
    any_if (is_numbered i j) (keeps pair) pair (filter keeps pairs) ∙ by (keeps pair) refl (or_cases _ _ found) (kept_in keeps i j pairs passes) where
      by : (kept : Bool) → keeps pair ≡ kept → (is_numbered i j pair ≡ true) ⊎ (is_pair_in pairs i j ≡ true)
          → (is_pair_in pairs i j ≡ true → is_pair_in (filter keeps pairs) i j ≡ true)
          → (if kept then is_numbered i j pair || is_pair_in (filter keeps pairs) i j else is_pair_in (filter keeps pairs) i j) ≡ true
      by true is (inl here) behind = or_left _ _ here
      by true is (inr later) behind = or_right _ _ (behind later)
      by false is (inl here) behind =
          let fails : true ≡ false = sym passes ∙ sym (ap keeps (same_pair i j pair here)) ∙ is in cc
      by false is (inr later) behind = behind later

all_kept : {A : Type 0} (keeps : A → Bool) (xs : List A) → list_all keeps xs ≡ true → filter keeps xs ≡ xs
all_kept keeps [] all = refl
all_kept keeps (x ∷ xs) all =
    let parts = and_parts (keeps x) (list_all keeps xs) all in
    ap (λ b. if b then x ∷ filter keeps xs else filter keeps xs) parts.0 ∙ ap (λ others. x ∷ others) (all_kept keeps xs parts.1)

kept_few : {A : Type 0} (keeps : A → Bool) (xs : List A) → length (filter keeps xs) ≤ length xs
kept_few keeps [] = omega arith
kept_few keeps (x ∷ xs) = by (keeps x) (kept_few keeps xs) where
  by : (kept : Bool) → length (filter keeps xs) ≤ length xs → length (if kept then x ∷ filter keeps xs else filter keeps xs) ≤ suc (length xs)
  by true few = omega arith
  by false few = omega arith

some_fell : {A : Type 0} (keeps : A → Bool) (xs : List A) → list_all keeps xs ≡ false → length (filter keeps xs) < length xs
some_fell keeps [] some = absurd cc
some_fell keeps (x ∷ xs) some = by (keeps x) some (some_fell keeps xs) (kept_few keeps xs) where
  by : (kept : Bool) → kept && list_all keeps xs ≡ false → (list_all keeps xs ≡ false → length (filter keeps xs) < length xs)
      → length (filter keeps xs) ≤ length xs → length (if kept then x ∷ filter keeps xs else filter keeps xs) < suc (length xs)
  by true some behind few = let less = behind some in omega (arith, less)
  by false some behind few = omega (arith, few)

-- ---- what is left agrees

-- every pair agrees where every pair of the list counts
abbrev AllAgree : CTypes → List CPair → Type 0
AllAgree types pairs = list_all (agrees_with types pairs) pairs ≡ true

nothing_falls : (types : CTypes) (times : ℕ) (pairs : List CPair) → AllAgree types pairs → agreeing types times pairs ≡ pairs
nothing_falls types zero pairs all = refl
nothing_falls types (suc times) pairs all =
    ap (λ left. agreeing types times left) (all_kept (agrees_with types pairs) pairs all) ∙ nothing_falls types times pairs all

left_agrees : (types : CTypes) (times : ℕ) (pairs : List CPair) → length pairs ≤ times → AllAgree types (agreeing types times pairs)
left_agrees types zero [] few = refl
left_agrees types zero (pair ∷ pairs) few = absurd (omega (arith, few))
left_agrees types (suc times) pairs few =
    by (list_all (agrees_with types pairs) pairs) refl (left_agrees types times (filter (agrees_with types pairs) pairs)) where
      by : (all : Bool) → list_all (agrees_with types pairs) pairs ≡ all
          → (length (filter (agrees_with types pairs) pairs) ≤ times → AllAgree types (agreeing types times (filter (agrees_with types pairs) pairs)))
          → AllAgree types (agreeing types times (filter (agrees_with types pairs) pairs))
      by true all behind = subst (λ left. AllAgree types left) (sym (nothing_falls types (suc times) pairs all)) all
      by false some behind = let fewer = some_fell (agrees_with types pairs) pairs some in behind (omega (arith, few, fewer))

-- ---- what is left of every good set is all of it

module _ (types : CTypes) (counts : ℕ → ℕ → Bool)
    (good : (i j : ℕ) → counts i j ≡ true → meets types counts i j ≡ true) where
  none_falls : (times : ℕ) (pairs : List CPair) → Below counts (is_pair_in pairs) → Below counts (is_pair_in (agreeing types times pairs))
  none_falls zero pairs below = below
  none_falls (suc times) pairs below =
      none_falls times (filter (agrees_with types pairs) pairs) (λ i j counted.
      kept_in (agrees_with types pairs) i j pairs
      (meets_more types counts (is_pair_in pairs) i j below (good i j counted)) (below i j counted))

-- ---- all pairs

number_left : (i n : ℕ) → i < suc n → (n == i) ≡ false → i < n
number_left i n less differ = grind (arith, nat_tests, less, differ)

same_number : (n : ℕ) → (n == n) ≡ true
same_number n = grind (arith, nat_tests)

with_second : (first count j : ℕ) → j < count → is_pair_in (pairs_below first count) first j ≡ true
with_second first zero j less = absurd (omega (arith, less))
with_second first (suc n) j less = by (n == j) refl (with_second first n j) where
  by : (same : Bool) → (n == j) ≡ same → (j < n → is_pair_in (pairs_below first n) first j ≡ true)
      → (first == first && n == j) || is_pair_in (pairs_below first n) first j ≡ true
  by true same behind = or_left _ _ (and_from _ _ (same_number first) same)
  by false differ behind = or_right _ _ (behind (number_left j n less differ))

all_there : (first_count count i j : ℕ) → i < first_count → j < count → is_pair_in (all_pairs first_count count) i j ≡ true
all_there zero count i j less second = absurd (omega (arith, less))
all_there (suc n) count i j less second =
    list_any-append (is_numbered i j) (pairs_below n count) (all_pairs n count) ∙ by (n == i) refl (all_there n count i j) where
      by : (same : Bool) → (n == i) ≡ same → (i < n → j < count → is_pair_in (all_pairs n count) i j ≡ true)
          → is_pair_in (pairs_below n count) i j || is_pair_in (all_pairs n count) i j ≡ true
      by true same behind =
          or_left _ _ (subst (λ m. is_pair_in (pairs_below n count) m j ≡ true) (eqb-true _ _ same) (with_second n count j second))
      by false differ behind = or_right _ _ (behind (number_left i n less differ) second)

-- ---- good sets

has_tags : (types : CTypes) (counts : ℕ → ℕ → Bool) (i j : ℕ) (first second : Option CRecordTag) → slice_get types.record_tags i ≡ first → slice_get types.record_tags j ≡ second
    → records_agree types counts i j first second ≡ true → (i < length types.record_tags) × (j < length types.record_tags)
has_tags types counts i j (Some a) (Some b) first second meet = (slice_get_within types.record_tags i a first, slice_get_within types.record_tags j b second)
has_tags types counts i j (Some a) None first second meet = cc
has_tags types counts i j None second_tag first second meet = cc

-- a pair that agrees is one of two units
is_of_two_units : (types : CTypes) (counts : ℕ → ℕ → Bool) (i j : ℕ) → meets types counts i j ≡ true
    → is_pair_in (pairs_of_two_units types) i j ≡ true
is_of_two_units types counts i j meet =
    let parts = and_parts (of_two_units types.record_units i j) (records_agree types counts i j (slice_get types.record_tags i) (slice_get types.record_tags j)) meet in
    let within = has_tags types counts i j _ _ refl refl parts.1 in
    kept_in (λ pair. of_two_units types.record_units pair.first pair.second) i j (all_pairs (length types.record_tags) (length types.record_tags)) parts.0
    (all_there (length types.record_tags) (length types.record_tags) i j within.0 within.1)

abbrev counted : {P : Type 0} → List P → (P → ℕ) → (P → ℕ) → ℕ → ℕ → Bool
counted pairs first second i j = list_any (λ pair. (first pair == i) && (second pair == j)) pairs

-- what holds of each pair of a list holds of the numbers that it counts
all_counted : {P : Type 0} (pairs : List P) (first second : P → ℕ) (test : ℕ → ℕ → Bool) → list_all (λ pair. test (first pair) (second pair)) pairs ≡ true
    → (i j : ℕ) → counted pairs first second i j ≡ true → test i j ≡ true
all_counted [] first second test all i j found = cc
all_counted (pair ∷ pairs) first second test all i j found =
    by (or_cases _ _ found) (all_counted pairs first second test (and_parts _ _ all).1 i j) where
      here : (first pair == i) && (second pair == j) ≡ true → test i j ≡ true
      here same =
          let parts = and_parts (first pair == i) (second pair == j) same in
          subst (λ n. test i n ≡ true) (eqb-true _ _ parts.1) (subst (λ m. test m (second pair) ≡ true) (eqb-true _ _ parts.0) (and_parts _ _ all).0)

      by : ((first pair == i) && (second pair == j) ≡ true) ⊎ (counted pairs first second i j ≡ true) → (counted pairs first second i j ≡ true → test i j ≡ true) → test i j ≡ true
      by (inl same) behind = here same
      by (inr later) behind = behind later

-- the pairs of a good set are among those of the setting
good_below : (types : CTypes) (a b : CTy) (by : AreCompatible types a b) → Below (in_pairs by.pairs) (is_pair_in (compatible_records types))
good_below types a b by =
    let good : (i j : ℕ) → in_pairs by.pairs i j ≡ true → meets types (in_pairs by.pairs) i j ≡ true =
    all_counted by.pairs (λ pair. pair.first) (λ pair. pair.second) (meets types (in_pairs by.pairs)) by.good in
    none_falls types (in_pairs by.pairs) good (length (pairs_of_two_units types)) (pairs_of_two_units types)
    (λ i j counted. is_of_two_units types (in_pairs by.pairs) i j (good i j counted))

pub by_good_set : (types : CTypes) (a b : CTy) → AreCompatible types a b → agree types (is_pair_in (compatible_records types)) a b ≡ true
by_good_set types a b by = agrees_more types (in_pairs by.pairs) (is_pair_in (compatible_records types)) a b (good_below types a b by) by.meet

-- ---- the pairs of the setting are a good set

any_mapped : {A B : Type 0} (test : B → Bool) (f : A → B) (xs : List A) → list_any test (map f xs) ≡ list_any (λ x. test (f x)) xs
any_mapped test f [] = refl
any_mapped test f (x ∷ xs) = ap (λ b. test (f x) || b) (any_mapped test f xs)

all_mapped : {A B : Type 0} (test : B → Bool) (f : A → B) (xs : List A) → list_all test (map f xs) ≡ list_all (λ x. test (f x)) xs
all_mapped test f [] = refl
all_mapped test f (x ∷ xs) = ap (λ b. test (f x) && b) (all_mapped test f xs)

by_pairs : (types : CTypes) (a b : CTy) (pairs : List CPair) → AllAgree types pairs → agree types (is_pair_in pairs) a b ≡ true → AreCompatible types a b
by_pairs types a b pairs all meet =
    let same : in_pairs (map (λ (pair : CPair). record { first = pair.first; second = pair.second }) pairs) ≡ is_pair_in pairs =
    fun_ext (λ i. fun_ext (λ j. any_mapped _ _ pairs)) in
    record {
      pairs = map (λ (pair : CPair). record { first = pair.first; second = pair.second }) pairs;
      good = all_mapped _ _ pairs ∙ subst (λ counts. list_all (λ (pair : CPair). meets types counts pair.first pair.second) pairs ≡ true) (sym same) all;
      meet = subst (λ counts. agree types counts a b ≡ true) (sym same) meet;
    }

at_most_itself : (n : ℕ) → n ≤ n
at_most_itself n = omega arith

pub has_good_set : (types : CTypes) (a b : CTy) → agree types (is_pair_in (compatible_records types)) a b ≡ true → AreCompatible types a b
has_good_set types a b meet =
    by_pairs types a b (compatible_records types)
    (left_agrees types (length (pairs_of_two_units types)) (pairs_of_two_units types) (at_most_itself (length (pairs_of_two_units types)))) meet

pub compatible_types_are_found : CompatibleTypesAreFound
compatible_types_are_found program a b = (has_good_set program.types a b, by_good_set program.types a b)
