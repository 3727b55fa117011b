-- Labels of statements one behind another (ISO C99, 6.8.1, 6.8.4.2).
use Rattle.std.proofs.Common.{◌≡◌, ℕ, ℤ, ◌+◌, Bool, true, false, ◌||◌, List, [], ◌∷◌, ◌++◌, bytes_eq, Decides, refl, sym, ap, ◌∙◌, subst, arith}
use Rattle.std.proofs.lemmas.Bool.Decides.{Decides-int_eq}
use Rattle.std.proofs.lemmas.Slice.Eq.{bytes_eq-Decides}
use Rattle.std.specs.List.{IsDistinct, AllByRecursion, list_any}
use Rattle.std.specs.Ordering.{int_eq}
use Rattle.cx_rules.specs.Scope.{CLabels}
use Rattle.cx_typed_units.specs.Labels.{AreAmong, AreFresh, Adds, count_of, AddsLabels}

or_right : (a b : Bool) → b ≡ true → (a || b) ≡ true
or_right true b is = refl
or_right false b is = is

or_left : (a b : Bool) → a ≡ true → (a || b) ≡ true
or_left true b is = refl
or_left false b is = absurd cc

or_not : (a b : Bool) → a ≡ false → b ≡ false → (a || b) ≡ false
or_not false b first second = second
or_not true b first second = absurd cc

module _ (A : Type 0) (equal : A → A → Bool) (decides : (one other : A) → Decides (equal one other) (one ≡ other)) where
  -- what is in one list and not in another differs
  apart_by : (all : List A) (one other : A) (same : Bool) → equal one other ≡ same → list_any (equal one) all ≡ true → list_any (equal other) all ≡ false → same ≡ false
  apart_by all one other false is there not_there = refl
  apart_by all one other true is there not_there =
      absurd (let e : one ≡ other = (decides one other).0 is in
      let h : true ≡ false = sym there ∙ (ap (λ x. list_any (equal x) all) e ∙ not_there) in cc)

  apart : (all : List A) (one other : A) → list_any (equal one) all ≡ true → list_any (equal other) all ≡ false → equal one other ≡ false
  apart all one other there not_there = apart_by all one other (equal one other) refl there not_there

  -- the same the other way round
  apart_back : (all : List A) (one other : A) → list_any (equal one) all ≡ false → list_any (equal other) all ≡ true → equal one other ≡ false
  apart_back all one other not_there there = back_by (equal one other) refl
    where
      back_by : (same : Bool) → equal one other ≡ same → same ≡ false
      back_by false is = refl
      back_by true is =
          absurd (let e : one ≡ other = (decides one other).0 is in
          let h : false ≡ true = sym not_there ∙ (ap (λ x. list_any (equal x) all) e ∙ there) in cc)

  pub adds_none : (all : List A) → Adds equal all all []
  unfolding IsDistinct
  adds_none all = record { kept = λ one is. is; among = tt; fresh = tt; differ = tt }

  among_both : (all more some others : List A) → ((one : A) → list_any (equal one) all ≡ true → list_any (equal one) more ≡ true) → AreAmong equal all some → AreAmong equal more others
      → AreAmong equal more (some ++ others)
  among_both all more [] others kept first second = second
  among_both all more (one ∷ some) others kept first second = (kept one first.0, among_both all more some others kept first.1 second)

  not_before_by : (before middle : List A) (one : A) (there : Bool) → list_any (equal one) before ≡ there → ((other : A) → list_any (equal other) before ≡ true → list_any (equal other) middle ≡ true)
      → list_any (equal one) middle ≡ false → there ≡ false
  not_before_by before middle one false is kept not_there = refl
  not_before_by before middle one true is kept not_there = absurd (let h : true ≡ false = sym (kept one is) ∙ not_there in cc)

  not_before : (before middle : List A) (one : A) → ((other : A) → list_any (equal other) before ≡ true → list_any (equal other) middle ≡ true) → list_any (equal one) middle ≡ false
      → list_any (equal one) before ≡ false
  not_before before middle one kept not_there = not_before_by before middle one (list_any (equal one) before) refl kept not_there

  fresh_back : (before middle some : List A) → ((other : A) → list_any (equal other) before ≡ true → list_any (equal other) middle ≡ true) → AreFresh equal middle some → AreFresh equal before some
  fresh_back before middle [] kept fresh = tt
  fresh_back before middle (one ∷ some) kept fresh = (not_before before middle one kept fresh.0, fresh_back before middle some kept fresh.1)

  fresh_both : (before some others : List A) → AreFresh equal before some → AreFresh equal before others → AreFresh equal before (some ++ others)
  fresh_both before [] others first second = second
  fresh_both before (one ∷ some) others first second = (first.0, fresh_both before some others first.1 second)

  differs_all : (all : List A) (one : A) (others : List A) → list_any (equal one) all ≡ true → AreFresh equal all others → AllByRecursion (λ y. equal one y ≡ false) others
  differs_all all one [] there fresh = tt
  differs_all all one (other ∷ others) there fresh = (apart all one other there fresh.0, differs_all all one others there fresh.1)

  differs_behind : (one : A) (some others : List A) → AllByRecursion (λ y. equal one y ≡ false) some → AllByRecursion (λ y. equal one y ≡ false) others
      → AllByRecursion (λ y. equal one y ≡ false) (some ++ others)
  differs_behind one [] others first second = second
  differs_behind one (x ∷ some) others first second = (first.0, differs_behind one some others first.1 second)

  differ_both : (middle some others : List A) → AreAmong equal middle some → AreFresh equal middle others → IsDistinct equal some → IsDistinct equal others → IsDistinct equal (some ++ others)
  unfolding IsDistinct
  differ_both middle [] others among fresh first second = second
  differ_both middle (one ∷ some) others among fresh first second =
      (differs_behind one some others first.0 (differs_all middle one others among.0 fresh), differ_both middle some others among.1 fresh first.1 second)

  pub adds_both : (before middle after some others : List A) → Adds equal before middle some → Adds equal middle after others → Adds equal before after (some ++ others)
  adds_both before middle after some others first second = record {
    kept = λ one is. second.kept one (first.kept one is);
    among = among_both middle after some others second.kept first.among second.among;
    fresh = fresh_both before some others first.fresh (fresh_back before middle others first.kept second.fresh);
    differ = differ_both middle some others first.among second.fresh first.differ second.differ;
  }

  differs_from : (all : List A) (one : A) (others : List A) → list_any (equal one) all ≡ false → AreAmong equal all others → AllByRecursion (λ y. equal one y ≡ false) others
  differs_from all one [] not_there among = tt
  differs_from all one (other ∷ others) not_there among = (apart_back all one other not_there among.0, differs_from all one others not_there among.1)

  among_more : (all : List A) (one : A) (others : List A) → AreAmong equal all others → AreAmong equal (one ∷ all) others
  among_more all one [] among = tt
  among_more all one (other ∷ others) among = (or_right (equal other one) (list_any (equal other) all) among.0, among_more all one others among.1)

  -- one more in front
  pub adds_one : (before middle : List A) (one : A) (others : List A) → Adds equal before middle others → list_any (equal one) middle ≡ false → Adds equal before (one ∷ middle) (one ∷ others)
  unfolding IsDistinct
  adds_one before middle one others held not_there = record {
    kept = λ other is. or_right (equal other one) (list_any (equal other) middle) (held.kept other is);
    among = (or_left (equal one one) (list_any (equal one) middle) ((decides one one).1 refl), among_more middle one others held.among);
    fresh = (not_before before middle one held.kept not_there, held.fresh);
    differ = (differs_from middle one others not_there held.among, held.differ);
  }

-- ---- all labels

pub labels_none : (one : CLabels) → AddsLabels one one [] [] 0
labels_none one = record {
  labels_added = adds_none (List ℕ) bytes_eq bytes_eq-Decides one.labels;
  cases_added = adds_none ℤ int_eq Decides-int_eq one.cases;
  defaults_added = omega arith;
}

pub labels_both : (before middle after : CLabels) (some more : List (List ℕ)) (few many : List ℤ) (first second : ℕ) → AddsLabels before middle some few first → AddsLabels middle after more many second
    → AddsLabels before after (some ++ more) (few ++ many) (first + second)
labels_both before middle after some more few many first second one other = record {
  labels_added = adds_both (List ℕ) bytes_eq bytes_eq-Decides before.labels middle.labels after.labels some more one.labels_added other.labels_added;
  cases_added = adds_both ℤ int_eq Decides-int_eq before.cases middle.cases after.cases few many one.cases_added other.cases_added;
  defaults_added =
      let h : count_of before.has_default + first ≡ count_of middle.has_default = one.defaults_added in
      let k : count_of middle.has_default + second ≡ count_of after.has_default = other.defaults_added in
      omega (arith, h, k);
}

pub label_more : (before middle : CLabels) (name : List ℕ) (labels : List (List ℕ)) (cases : List ℤ) (defaults : ℕ) → AddsLabels before middle labels cases defaults
    → list_any (bytes_eq name) middle.labels ≡ false → AddsLabels before (record middle { labels = name ∷ middle.labels }) (name ∷ labels) cases defaults
label_more before middle name labels cases defaults held fresh = record {
  labels_added = adds_one (List ℕ) bytes_eq bytes_eq-Decides before.labels middle.labels name labels held.labels_added fresh;
  cases_added = held.cases_added;
  defaults_added = held.defaults_added;
}

pub case_more : (before middle : CLabels) (value : ℤ) (labels : List (List ℕ)) (cases : List ℤ) (defaults : ℕ) → AddsLabels before middle labels cases defaults
    → list_any (int_eq value) middle.cases ≡ false → AddsLabels before (record middle { cases = value ∷ middle.cases }) labels (value ∷ cases) defaults
case_more before middle value labels cases defaults held fresh = record {
  labels_added = held.labels_added;
  cases_added = adds_one ℤ int_eq Decides-int_eq before.cases middle.cases value cases held.cases_added fresh;
  defaults_added = held.defaults_added;
}

pub default_more : (before middle : CLabels) (labels : List (List ℕ)) (cases : List ℤ) (defaults : ℕ) → AddsLabels before middle labels cases defaults
    → middle.has_default ≡ false → AddsLabels before (record middle { has_default = true }) labels cases (1 + defaults)
default_more before middle labels cases defaults held fresh = record {
  labels_added = held.labels_added;
  cases_added = held.cases_added;
  defaults_added =
      let h : count_of before.has_default + defaults ≡ count_of middle.has_default = held.defaults_added in
      let k : count_of middle.has_default ≡ 0 = ap count_of fresh in
      omega (arith, h, k);
}

-- labels that are the same by another name
pub labels_from : (before other after : CLabels) (labels : List (List ℕ)) (cases : List ℤ) (defaults : ℕ) → before ≡ other → AddsLabels before after labels cases defaults
    → AddsLabels other after labels cases defaults
labels_from before other after labels cases defaults is held = subst (λ one. AddsLabels one after labels cases defaults) is held

pub labels_to : (before after other : CLabels) (labels : List (List ℕ)) (cases : List ℤ) (defaults : ℕ) → after ≡ other → AddsLabels before after labels cases defaults
    → AddsLabels before other labels cases defaults
labels_to before after other labels cases defaults is held = subst (λ one. AddsLabels before one labels cases defaults) is held
