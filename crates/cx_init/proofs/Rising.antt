-- Values of which each stands behind the one before and leaves it are all kept, and are in order.
use Rattle.std.proofs.Common.{arith, ◌≡◌, refl, ap, sym, subst, ◌∙◌, ℕ, ◌==◌, nat_lt, Bool, true, false, not, ◌&&◌, if◌then◌else◌, List, [], ◌∷◌, Option, None, Some}
use Rattle.std.proofs.lemmas.Bool.Decides.{nat_tests}
use Rattle.cx_core.specs.Trees.{CTy, CTypes}
use Rattle.cx_init.specs.Orders.{rises, rises_to, all_rise}
use Rattle.cx_rules.specs.Initial.{CStored, part_type, is_union_type, takes_away, kept_by, kept, comes_before, put_in_order, in_order}

-- ---- what stands behind a path that stands behind another stands behind that one, too

abbrev parted : Bool → Bool → Bool → Bool
parted same rest test = if same then rest else test

before_by : (a b c : ℕ) (ba cb ca one two three : Bool) → (b == a) ≡ ba → (c == b) ≡ cb → (c == a) ≡ ca → (one ≡ false → two ≡ false → three ≡ false)
    → parted ba one (nat_lt b a) ≡ false → parted cb two (nat_lt c b) ≡ false → parted ca three (nat_lt c a) ≡ false
before_by a b c true true true one two three e f g rest is also = rest is also
before_by a b c true true false one two three e f g rest is also = absurd (grind (arith, nat_tests, e, f, g))
before_by a b c true false true one two three e f g rest is also = absurd (grind (arith, nat_tests, e, f, g))
before_by a b c true false false one two three e f g rest is also = grind (arith, nat_tests, e, also)
before_by a b c false true true one two three e f g rest is also = absurd (grind (arith, nat_tests, e, f, g))
before_by a b c false true false one two three e f g rest is also = grind (arith, nat_tests, f, is)
before_by a b c false false true one two three e f g rest is also = absurd (grind (arith, nat_tests, e, g, is, also))
before_by a b c false false false one two three e f g rest is also = grind (arith, nat_tests, is, also)

pub behind_both : (first second third : List ℕ) → comes_before second first ≡ false → comes_before third second ≡ false → comes_before third first ≡ false
behind_both first [] third is also = absurd cc
behind_both first (b ∷ second) [] is also = absurd cc
behind_both [] (b ∷ second) (c ∷ third) is also = refl
behind_both (a ∷ first) (b ∷ second) (c ∷ third) is also =
    before_by a b c (b == a) (c == b) (c == a) (comes_before second first) (comes_before third second) (comes_before third first) refl refl refl (behind_both first second third) is also

-- ---- and leaves what is stored there: where two neighbours part in a record that is no union, so do those further away

left_by : (a b c : ℕ) (ba cb ca one two three before behind union : Bool) → (b == a) ≡ ba → (c == b) ≡ cb → (c == a) ≡ ca
    → (b ≡ c → before ≡ false → behind ≡ false → one ≡ false → two ≡ false → three ≡ false)
    → parted ba before (nat_lt b a) ≡ false → parted cb behind (nat_lt c b) ≡ false → parted ba one union ≡ false → parted cb two union ≡ false → parted ca three union ≡ false
left_by a b c true true true one two three before behind union e f g rest is also left more = rest (grind (arith, nat_tests, f)) is also left more
left_by a b c true true false one two three before behind union e f g rest is also left more = absurd (grind (arith, nat_tests, e, f, g))
left_by a b c true false true one two three before behind union e f g rest is also left more = absurd (grind (arith, nat_tests, e, f, g))
left_by a b c true false false one two three before behind union e f g rest is also left more = more
left_by a b c false true true one two three before behind union e f g rest is also left more = absurd (grind (arith, nat_tests, e, f, g))
left_by a b c false true false one two three before behind union e f g rest is also left more = left
left_by a b c false false true one two three before behind union e f g rest is also left more = absurd (grind (arith, nat_tests, e, g, is, also))
left_by a b c false false false one two three before behind union e f g rest is also left more = left

left_both : (types : CTypes) (type : Option CTy) (first second third : List ℕ) → comes_before second first ≡ false → comes_before third second ≡ false
    → takes_away types type second first ≡ false → takes_away types type third second ≡ false → takes_away types type third first ≡ false
left_both types None first second third is also left more = refl
left_both types (Some type) first [] third is also left more = absurd cc
left_both types (Some type) first (b ∷ second) [] is also left more = absurd cc
left_both types (Some type) [] (b ∷ second) (c ∷ third) is also left more = refl
left_both types (Some type) (a ∷ first) (b ∷ second) (c ∷ third) is also left more =
    left_by a b c (b == a) (c == b) (c == a) (takes_away types (part_type types type b) second first) (takes_away types (part_type types type c) third second)
    (takes_away types (part_type types type c) third first) (comes_before second first) (comes_before third second) (is_union_type types type) refl refl refl
    (λ same before behind one two. left_both types (part_type types type c) first second third before behind (subst (λ n. takes_away types (part_type types type n) second first ≡ false) same one) two)
    is also left more

pub both_of : (one other : Bool) → (one && other) ≡ true → (one ≡ true) × (other ≡ true)
both_of true true is = (refl, refl)
both_of true false is = absurd cc
both_of false other is = absurd cc

-- ---- so of values of which each rises to the next, each rises to all behind it

module _ (types : CTypes) (type : CTy) where
  pub neither : (one other : Bool) → (not one && not other) ≡ true → (one ≡ false) × (other ≡ false)
  neither false false is = (refl, refl)
  neither false true is = absurd cc
  neither true other is = absurd cc

  not_either : (one other : Bool) → one ≡ false → other ≡ false → (not one && not other) ≡ true
  not_either one other is also = rw (is, also) refl

  rises_over : (first second third : List ℕ) → rises types type first second ≡ true → rises types type second third ≡ true → rises types type first third ≡ true
  rises_over first second third is also =
      let one = neither (comes_before second first) (takes_away types (Some type) second first) is in
      let two = neither (comes_before third second) (takes_away types (Some type) third second) also in
      not_either (comes_before third first) (takes_away types (Some type) third first) (behind_both first second third one.0 two.0)
      (left_both types (Some type) first second third one.0 two.0 one.1 two.1)

  pub rises_past : (one next : CStored) (others : List CStored) → rises types type one.path next.path ≡ true → rises_to types type next others ≡ true → rises_to types type one others ≡ true
  rises_past one next [] is also = refl
  rises_past one next (third ∷ others) is also = rises_over one.path next.path third.path is also

  none_takes : (one : CStored) (others : List CStored) → rises_to types type one others ≡ true → all_rise types type others ≡ true → kept_by types type others one ≡ true
  none_takes one [] is all = refl
  none_takes one (next ∷ others) is all =
      let more = both_of (rises_to types type next others) (all_rise types type others) all in
      let left = neither (comes_before next.path one.path) (takes_away types (Some type) next.path one.path) is in
      kept_too (takes_away types (Some type) next.path one.path) left.1 (none_takes one others (rises_past one next others is more.0) more.1)
    where
      kept_too : (taken : Bool) → taken ≡ false → kept_by types type others one ≡ true → (not taken && kept_by types type others one) ≡ true
      kept_too taken is_left rest = rw (is_left, rest) refl

  kept_all : (stored : List CStored) → all_rise types type stored ≡ true → kept types type stored ≡ stored
  kept_all [] all = refl
  kept_all (one ∷ others) all =
      let more = both_of (rises_to types type one others) (all_rise types type others) all in
      kept_first (kept_by types type others one) (none_takes one others more.0 more.1) (kept_all others more.1)
    where
      kept_first : (is_kept : Bool) → is_kept ≡ true → kept types type others ≡ others → (if is_kept then one ∷ kept types type others else kept types type others) ≡ one ∷ others
      kept_first is_kept is rest = rw is (ap (λ some. one ∷ some) rest)

  put_first : (one : CStored) (others : List CStored) → rises_to types type one others ≡ true → put_in_order one others ≡ one ∷ others
  put_first one [] is = refl
  put_first one (next ∷ others) is = at_first (comes_before next.path one.path) (neither (comes_before next.path one.path) (takes_away types (Some type) next.path one.path) is).0
    where
      at_first : (before : Bool) → before ≡ false → (if before then next ∷ put_in_order one others else one ∷ next ∷ others) ≡ one ∷ next ∷ others
      at_first before is_behind = rw is_behind refl

  ordered : (stored : List CStored) → all_rise types type stored ≡ true → in_order stored ≡ stored
  ordered [] all = refl
  ordered (one ∷ others) all =
      let more = both_of (rises_to types type one others) (all_rise types type others) all in
      ap (put_in_order one) (ordered others more.1) ∙ put_first one others more.0

  -- values that rise are the answer as they are
  pub risen : (stored : List CStored) → all_rise types type stored ≡ true → stored ≡ in_order (kept types type stored)
  risen stored all = sym (ap in_order (kept_all stored all) ∙ ordered stored all)
