-- Two types are compatible by some good set of pairs of records where the program's definition says so.
use Rattle.std.proofs.Common.{rules, ◌≡◌, ℕ, zero, suc, ◌<◌, ◌==◌, ◌&&◌, ◌||◌, not, Bool, true, false, if◌then◌else◌, List, [], ◌∷◌, ◌++◌, map, filter, length, Option, Some, None, IsTrue, ◌↔◌, refl, sym, ap, ◌∙◌, subst, slice_get, arith, ◌⊎◌, inl, inr}
use Rattle.std.proofs.Math.Path.{fun_ext}
use Rattle.std.proofs.lemmas.Bool.{and_from, and_parts, or_left, or_right, or_cases, eqb-true}
use Rattle.std.proofs.lemmas.Bool.Decides.{nat_tests}
use Rattle.std.proofs.lemmas.List.Folds.{list_all-append, list_any-append}
use Rattle.std.proofs.lemmas.Option.{slice_get_within}
use Rattle.std.specs.List.{list_all, list_any}
use Rattle.cx_core.specs.Compatible.{agree, of_two_units, records_agree, in_pairs, AreCompatible}
use Rattle.cx_core.specs.Trees.{CTy, CRecordTag, CTypes}
use Rattle.cx_links.specs.Rules.{CPair, all_pairs, below, pairs_with, pairs_from, choices, counts_in, pair_agrees, is_good, compatible_in}

-- ---- choices

any_mapped : {A B : Type 0} (test : B → Bool) (f : A → B) (xs : List A) → list_any test (map f xs) ≡ list_any (λ x. test (f x)) xs
any_mapped test f [] = refl
any_mapped test f (x ∷ xs) = ap (λ b. test (f x) || b) (any_mapped test f xs)

-- what a test keeps is a choice
pub kept_is_chosen : {A : Type 0} (keeps : A → Bool) (xs : List A) (test : List A → Bool) → test (filter keeps xs) ≡ true → list_any test (choices xs) ≡ true
kept_is_chosen {A = A} keeps [] test passes = or_left _ _ passes
kept_is_chosen {A = A} keeps (x ∷ xs) test passes = by (keeps x) refl (kept_is_chosen keeps xs) where
  with_it : list_any test (map (λ chosen. x ∷ chosen) (choices xs)) ≡ true → list_any test (choices xs ++ map (λ chosen. x ∷ chosen) (choices xs)) ≡ true
  with_it found = list_any-append test (choices xs) (map (λ chosen. x ∷ chosen) (choices xs)) ∙ or_right _ _ found

  without : list_any test (choices xs) ≡ true → list_any test (choices xs ++ map (λ chosen. x ∷ chosen) (choices xs)) ≡ true
  without found = list_any-append test (choices xs) (map (λ chosen. x ∷ chosen) (choices xs)) ∙ or_left _ _ found

  by : (kept : Bool) → keeps x ≡ kept → ((other : List A → Bool) → other (filter keeps xs) ≡ true → list_any other (choices xs) ≡ true)
      → list_any test (choices xs ++ map (λ chosen. x ∷ chosen) (choices xs)) ≡ true
  by true kept more =
      with_it (any_mapped test (λ chosen. x ∷ chosen) (choices xs) ∙ more (λ chosen. test (x ∷ chosen))
      (subst (λ ys. test ys ≡ true) (ap (λ b. if b then x ∷ filter keeps xs else filter keeps xs) kept) passes))
  by false kept more = without (more test (subst (λ ys. test ys ≡ true) (ap (λ b. if b then x ∷ filter keeps xs else filter keeps xs) kept) passes))

-- ---- pairs of numbers

abbrev pub counted : {P : Type 0} → List P → (P → ℕ) → (P → ℕ) → ℕ → ℕ → Bool
counted pairs first second i j = list_any (λ pair. (first pair == i) && (second pair == j)) pairs

-- what holds of each pair of a list holds of the numbers that it counts
all_counted : {P : Type 0} (pairs : List P) (first second : P → ℕ) (test : ℕ → ℕ → Bool) → list_all (λ pair. test (first pair) (second pair)) pairs ≡ true
    → (i j : ℕ) → counted pairs first second i j ≡ true → test i j ≡ true
all_counted [] first second test all i j found = cc
all_counted (pair ∷ pairs) first second test all i j found =
    by (or_cases _ _ found) (all_counted pairs first second test (and_parts _ _ all).1 i j) where
      here : (first pair == i) && (second pair == j) ≡ true → test i j ≡ true
      here same =
          let parts = and_parts (first pair == i) (second pair == j) same in
          subst (λ n. test i n ≡ true) (eqb-true _ _ parts.1) (subst (λ m. test m (second pair) ≡ true) (eqb-true _ _ parts.0) (and_parts _ _ all).0)

      by : ((first pair == i) && (second pair == j) ≡ true) ⊎ (counted pairs first second i j ≡ true) → (counted pairs first second i j ≡ true → test i j ≡ true) → test i j ≡ true
      by (inl same) behind = here same
      by (inr later) behind = behind later

kept_by : (test kept ij rest : Bool) → (test ≡ true → kept ≡ ij)
    → (if kept then test || (ij && rest) else ij && rest) ≡ ij && (test || rest)
kept_by true true ij rest same = by ij (same refl) where
  by : (b : Bool) → true ≡ b → true || (b && rest) ≡ b && (true || rest)
  by true is = refl
  by false is = cc
kept_by true false ij rest same = by ij (same refl) where
  by : (b : Bool) → false ≡ b → b && rest ≡ b && (true || rest)
  by true is = cc
  by false is = refl
kept_by false true ij rest same = refl
kept_by false false ij rest same = refl

any_if : {A : Type 0} (test : A → Bool) (kept : Bool) (x : A) (xs : List A)
    → list_any test (if kept then x ∷ xs else xs) ≡ (if kept then test x || list_any test xs else list_any test xs)
any_if test true x xs = refl
any_if test false x xs = refl

-- the pairs that a test keeps count as it says
counted_kept : (test : ℕ → ℕ → Bool) (i j : ℕ) (pairs : List CPair)
    → counts_in (filter (λ pair. test pair.first pair.second) pairs) i j ≡ test i j && counts_in pairs i j
counted_kept test i j [] = and_false (test i j) where
  and_false : (b : Bool) → false ≡ b && false
  and_false true = refl
  and_false false = refl
counted_kept test i j (pair ∷ pairs) =
    any_if (λ one. (one.first == i) && (one.second == j)) (test pair.first pair.second) pair (filter (λ one. test one.first one.second) pairs)
    ∙ ap (λ rest. if test pair.first pair.second then (pair.first == i) && (pair.second == j) || rest else rest) (counted_kept test i j pairs)
    ∙ kept_by ((pair.first == i) && (pair.second == j)) (test pair.first pair.second) (test i j) (counts_in pairs i j)
    (λ same. ap (λ m. test m pair.second) (eqb-true _ _ (and_parts (pair.first == i) (pair.second == j) same).0)
    ∙ ap (λ n. test i n) (eqb-true _ _ (and_parts (pair.first == i) (pair.second == j) same).1))

-- ---- all pairs of so many numbers

abbrev has_number : ℕ → List ℕ → Bool
has_number i numbers = list_any (λ number. number == i) numbers

still_below : (count i : ℕ) → i < suc count → (count == i) ≡ false → i < count
still_below count i less differ = grind (arith, nat_tests, less, differ)

number_below : (count i : ℕ) → i < count → has_number i (below count) ≡ true
number_below zero i less = absurd (omega (arith, less))
number_below (suc count) i less = list_any-append (λ number. number == i) (below count) (count ∷ []) ∙ by (count == i) refl (number_below count i) where
  by : (same : Bool) → (count == i) ≡ same → (i < count → has_number i (below count) ≡ true) → has_number i (below count) || has_number i (count ∷ []) ≡ true
  by true same behind = or_right _ _ (or_left _ _ same)
  by false differ behind = or_left _ _ (behind (still_below count i less differ))

counted_with : (first i j : ℕ) (seconds : List ℕ) → counts_in (pairs_with first seconds) i j ≡ (first == i) && has_number j seconds
counted_with first i j [] = and_false (first == i) where
  and_false : (b : Bool) → false ≡ b && false
  and_false true = refl
  and_false false = refl
counted_with first i j (second ∷ seconds) =
    ap (λ rest. ((first == i) && (second == j)) || rest) (counted_with first i j seconds) ∙ by (first == i) (second == j) (has_number j seconds) where
      by : (a b c : Bool) → (a && b) || (a && c) ≡ a && (b || c)
      by true b c = refl
      by false b c = refl

counted_from : (i j : ℕ) (firsts seconds : List ℕ) → counts_in (pairs_from firsts seconds) i j ≡ has_number i firsts && has_number j seconds
counted_from i j [] seconds = refl
counted_from i j (first ∷ firsts) seconds =
    list_any-append (λ pair. (pair.first == i) && (pair.second == j)) (pairs_with first seconds) (pairs_from firsts seconds)
    ∙ ap (λ b. b || counts_in (pairs_from firsts seconds) i j) (counted_with first i j seconds)
    ∙ ap (λ b. ((first == i) && has_number j seconds) || b) (counted_from i j firsts seconds)
    ∙ by (first == i) (has_number i firsts) (has_number j seconds) where
      by : (a b c : Bool) → (a && c) || (b && c) ≡ (a || b) && c
      by true true true = refl
      by true true false = refl
      by true false true = refl
      by true false false = refl
      by false b c = refl

all_are_counted : (count i j : ℕ) → i < count → j < count → counts_in (all_pairs count) i j ≡ true
all_are_counted count i j first second =
    counted_from i j (below count) (below count) ∙ and_from _ _ (number_below count i first) (number_below count j second)

-- ---- good sets

-- two records are of two units and meet 6.2.7p1 where some count as compatible
abbrev meets : CTypes → (ℕ → ℕ → Bool) → ℕ → ℕ → Bool
meets types counts first second =
    of_two_units types.record_units first second
    && records_agree types counts first second (slice_get types.record_tags first) (slice_get types.record_tags second)

in_range_by : (types : CTypes) (counts : ℕ → ℕ → Bool) (i j : ℕ) (first second : Option CRecordTag) → slice_get types.record_tags i ≡ first → slice_get types.record_tags j ≡ second
    → records_agree types counts i j first second ≡ true → (i < length types.record_tags) × (j < length types.record_tags)
in_range_by types counts i j (Some a) (Some b) first second meet = (slice_get_within types.record_tags i a first, slice_get_within types.record_tags j b second)
in_range_by types counts i j (Some a) None first second meet = cc
in_range_by types counts i j None second_tag first second meet = cc

in_range : (types : CTypes) (counts : ℕ → ℕ → Bool) (i j : ℕ) → meets types counts i j ≡ true → (i < length types.record_tags) × (j < length types.record_tags)
in_range types counts i j meet = in_range_by types counts i j _ _ refl refl (and_parts _ _ meet).1

and_true : (b : Bool) → b && true ≡ b
and_true true = refl
and_true false = refl

-- what is kept of all pairs counts as a good set does
kept_counts : (types : CTypes) (counts : ℕ → ℕ → Bool) → ((i j : ℕ) → counts i j ≡ true → (i < length types.record_tags) × (j < length types.record_tags))
    → counts_in (filter (λ pair. counts pair.first pair.second) (all_pairs (length types.record_tags))) ≡ counts
kept_counts types counts within = fun_ext (λ i. fun_ext (λ j.
    counted_kept counts i j (all_pairs (length types.record_tags)) ∙ by i j (counts i j) refl)) where
      by : (i j : ℕ) (counted : Bool) → counts i j ≡ counted → counts i j && counts_in (all_pairs (length types.record_tags)) i j ≡ counts i j
      by i j true is =
          ap (λ b. counts i j && b) (all_are_counted (length types.record_tags) i j (within i j is).0 (within i j is).1) ∙ and_true (counts i j)
      by i j false is = ap (λ b. b && counts_in (all_pairs (length types.record_tags)) i j) is ∙ sym is

      and_true : (b : Bool) → b && true ≡ b
      and_true true = refl
      and_true false = refl

all_kept : {A : Type 0} (keeps test : A → Bool) → ((x : A) → keeps x ≡ true → test x ≡ true) → (xs : List A) → list_all test (filter keeps xs) ≡ true
all_kept keeps test holds [] = refl
all_kept keeps test holds (x ∷ xs) = by (keeps x) refl (all_kept keeps test holds xs) where
  by : (kept : Bool) → keeps x ≡ kept → list_all test (filter keeps xs) ≡ true → list_all test (if kept then x ∷ filter keeps xs else filter keeps xs) ≡ true
  by true is others = and_from _ _ (holds x is) others
  by false is others = others

abbrev meets_by : CTypes → CTy → CTy → List CPair → Bool
meets_by types a b pairs = is_good types pairs && agree types (counts_in pairs) a b

-- a good set shows that two types are compatible
pub by_good_set : (types : CTypes) (a b : CTy) → AreCompatible types a b → compatible_in types a b ≡ true
unfolding compatible_in
by_good_set types a b by =
    let counts = in_pairs by.pairs in
    let each : (i j : ℕ) → counts i j ≡ true → meets types counts i j ≡ true =
    all_counted by.pairs (λ pair. pair.first) (λ pair. pair.second) (meets types counts) by.good in
    let kept = filter (λ (pair : CPair). counts pair.first pair.second) (all_pairs (length types.record_tags)) in
    let same : counts ≡ counts_in kept = sym (kept_counts types counts (λ i j is. in_range types counts i j (each i j is))) in
    kept_is_chosen (λ pair. counts pair.first pair.second) (all_pairs (length types.record_tags)) (meets_by types a b)
    (and_from _ _
    (subst (λ known. list_all (λ (pair : CPair). meets types known pair.first pair.second) kept ≡ true) same
    (all_kept (λ pair. counts pair.first pair.second) (λ pair. meets types counts pair.first pair.second) (λ pair is. each pair.first pair.second is) (all_pairs (length types.record_tags))))
    (subst (λ known. agree types known a b ≡ true) same by.meet))

one_of : {A : Type 0} (test : A → Bool) (xs : List A) → list_any test xs ≡ true → (x : A) × (test x ≡ true)
one_of test [] found = cc
one_of test (x ∷ xs) found = by (or_cases _ _ found) (one_of test xs) where
  by : (test x ≡ true) ⊎ (list_any test xs ≡ true) → (list_any test xs ≡ true → (y : _) × (test y ≡ true)) → (y : _) × (test y ≡ true)
  by (inl here) behind = (x, here)
  by (inr later) behind = behind later

all_mapped : {A B : Type 0} (test : B → Bool) (f : A → B) (xs : List A) → list_all test (map f xs) ≡ list_all (λ x. test (f x)) xs
all_mapped test f [] = refl
all_mapped test f (x ∷ xs) = ap (λ b. test (f x) && b) (all_mapped test f xs)

good_set : (types : CTypes) (a b : CTy) (chosen : List CPair) → is_good types chosen ≡ true → agree types (counts_in chosen) a b ≡ true → AreCompatible types a b
good_set types a b chosen good meet =
    let same : in_pairs (map (λ (pair : CPair). record { first = pair.first; second = pair.second }) chosen) ≡ counts_in chosen =
    fun_ext (λ i. fun_ext (λ j. any_mapped _ _ chosen)) in
    record {
      pairs = map (λ (pair : CPair). record { first = pair.first; second = pair.second }) chosen;
      good = all_mapped _ _ chosen ∙ subst (λ known. list_all (λ (pair : CPair). meets types known pair.first pair.second) chosen ≡ true) (sym same) good;
      meet = subst (λ known. agree types known a b ≡ true) (sym same) meet;
    }

-- where two types are compatible there is a good set that shows it
pub has_good_set : (types : CTypes) (a b : CTy) → compatible_in types a b ≡ true → AreCompatible types a b
unfolding compatible_in
has_good_set types a b found =
    let chosen = one_of (meets_by types a b) (choices (all_pairs (length types.record_tags))) found in
    let parts = and_parts (is_good types chosen.0) (agree types (counts_in chosen.0) a b) chosen.1 in
    good_set types a b chosen.0 parts.0 parts.1

-- ---- what the code answers

by_both : (found is : Bool) → (found ≡ true → is ≡ true) → (is ≡ true → found ≡ true) → found ≡ is
by_both true is there back = sym (there refl)
by_both false true there back = back refl
by_both false false there back = refl

pub compatible_is : (types : CTypes) (a b : CTy) (found : Bool) → IsTrue found ↔ AreCompatible types a b → found ≡ compatible_in types a b
compatible_is types a b found told =
    by_both found (compatible_in types a b) (λ is. by_good_set types a b (told.0 is)) (λ is. told.1 (has_good_set types a b is))
