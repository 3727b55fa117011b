-- Where units break no rule together, no mention of a unit breaks one (ISO C99, 5.1.2.2.1, 6.2.2p2, 6.2.7p2, 6.9p5).
use Rattle.std.proofs.Common.{◌≡◌, ℕ, zero, suc, ◌+◌, nat_lt, Bool, true, false, if◌then◌else◌, List, [], ◌∷◌, ◌++◌, map, length, All, Option, None, Some, slice_get, refl, sym, ap, ◌∙◌, arith, subst}
use Rattle.std.specs.Prelude.{is_none, IsSome}
use Rattle.std.specs.List.{Contains}
use Rattle.std.proofs.lemmas.List.Elements.{All-nil, All-cons, All-head, All-tail, All-contains}
use Rattle.cr_base.specs.declared.refusal.Refusal.{Refusal}
use Rattle.cr_base.specs.declared.rule.Rule.{Rule}
use Rattle.cr_base.specs.declared.rule.Rule.TheVariants.{L1, L2, L3, L4, L5, M2}
use Rattle.cx_core.specs.Linked.{main_of}
use Rattle.cx_core.specs.Trees.{CFun, CTypes, CMention, CProgram, CUnit}
use Rattle.cx_links.specs.Program.{counts_before, from_each, types_of_all, all_mentions, linked}
use Rattle.cx_links.specs.Rules.{second_definition, clashing_declaration, wrong_main, outside_profile, undefined_thing, rule_of, refusal_of, or_later, first_in, nowhere, most_units, main_missing, by_mentions, broken_links}
use Rattle.cx_renumber.specs.Numbers.{mention_there}
use Rattle.cx_typed_links.proofs.Joined.{none_on}

-- ---- what is said of all that the units give is said of what each gives

module _ {A : Type 0} (P : A → Type 0) where
  all_first : (xs ys : List A) → All P (xs ++ ys) → All P xs
  all_first [] ys all = All-nil P
  all_first (x ∷ xs) ys all = All-cons P x xs (All-head P x (xs ++ ys) all) (all_first xs ys (All-tail P x (xs ++ ys) all))

  all_second : (xs ys : List A) → All P (xs ++ ys) → All P ys
  all_second [] ys all = all
  all_second (x ∷ xs) ys all = all_second xs ys (All-tail P x (xs ++ ys) all)

  nothing_on : (n : ℕ) → n + 0 ≡ n
  nothing_on n = omega arith

  one_on : (n at : ℕ) → n + suc at ≡ suc n + at
  one_on n at = omega arith

  pub each_of : (gives : CUnit → ℕ → List A) (start : ℕ) (units : List CUnit) → All P (from_each gives start units) → (at : ℕ) (one : CUnit)
      → slice_get units at ≡ Some one → All P (gives one (start + at))
  each_of gives start [] all at one is = absurd cc
  each_of gives start (first ∷ others) all zero one is =
      let same : first ≡ one = cc (is) in
      subst (λ n. All P (gives one n)) (sym (nothing_on start))
      (subst (λ (unit : CUnit). All P (gives unit start)) same (all_first (gives first start) (from_each gives (suc start) others) all))
  each_of gives start (first ∷ others) all (suc at) one is =
      subst (λ n. All P (gives one n)) (sym (one_on start at))
      (each_of gives (suc start) others (all_second (gives first start) (from_each gives (suc start) others) all) at one is)

all_unmapped : {X Y : Type 0} (P : Y → Type 0) (f : X → Y) (xs : List X) → All P (map f xs) → All (λ x. P (f x)) xs
all_unmapped P f [] all = All-nil (λ x. P (f x))
all_unmapped P f (x ∷ xs) all =
    All-cons (λ y. P (f y)) x xs (All-head P (f x) (map f xs) all) (all_unmapped P f xs (All-tail P (f x) (map f xs) all))

-- ---- rules

-- a mention breaks none of the rules
pub record PassesRules (types : CTypes) (all : List CMention) (one : CMention) : Type 0 where
  pub one_definition : second_definition types all one ≡ false
  pub compatible : clashing_declaration types all one ≡ false
  pub right_main : wrong_main types all one ≡ false
  pub in_profile : outside_profile types all one ≡ false
  pub defined : undefined_thing types all one ≡ false

passes_by : (types : CTypes) (all : List CMention) (one : CMention) (first second third fourth fifth : Bool)
    → second_definition types all one ≡ first → clashing_declaration types all one ≡ second → wrong_main types all one ≡ third
    → outside_profile types all one ≡ fourth → undefined_thing types all one ≡ fifth
    → (if first then Some L1 else if second then Some L2 else if third then Some L3 else if fourth then Some L4 else if fifth then Some L5 else None) ≡ None
    → PassesRules types all one
passes_by types all one true second third fourth fifth a b c d e none = absurd cc
passes_by types all one false true third fourth fifth a b c d e none = absurd cc
passes_by types all one false false true fourth fifth a b c d e none = absurd cc
passes_by types all one false false false true fifth a b c d e none = absurd cc
passes_by types all one false false false false true a b c d e none = absurd cc
passes_by types all one false false false false false a b c d e none =
    record { one_definition = a; compatible = b; right_main = c; in_profile = d; defined = e }

passes : (types : CTypes) (all : List CMention) (one : CMention) → rule_of types all one ≡ None → PassesRules types all one
unfolding rule_of
passes types all one none =
    passes_by types all one (second_definition types all one) (clashing_declaration types all one) (wrong_main types all one) (outside_profile types all one)
    (undefined_thing types all one) refl refl refl refl refl none

no_rule : (types : CTypes) (all : List CMention) (one : CMention) (rule : Option Rule) → refusal_of types all one rule ≡ None → rule ≡ None
no_rule types all one None is = refl
no_rule types all one (Some rule) is = absurd cc

neither_later : (types : CTypes) (all : List CMention) (first later : Option Refusal) → or_later types all first later ≡ None → (first ≡ None) × (later ≡ None)
neither_later types all None later is = (refl, is)
neither_later types all (Some refusal) later is = absurd cc

all_pass : (types : CTypes) (all mentions : List CMention) → first_in types all mentions ≡ None → All (PassesRules types all) mentions
unfolding first_in
all_pass types all [] none = All-nil (PassesRules types all)
all_pass types all (one ∷ others) none =
    let both = neither_later types all (refusal_of types all one (rule_of types all one)) (first_in types all others) none in
    All-cons (PassesRules types all) one others
    (passes types all one (no_rule types all one (rule_of types all one) both.0)) (all_pass types all others both.1)

by_parts : (program : CProgram) (found : Option Refusal) → by_mentions program found ≡ None → (found ≡ None) × (main_missing program ≡ None)
by_parts program None is = (refl, is)
by_parts program (Some refusal) is = absurd cc

unbroken_by : (units : List CUnit) (many : Bool) (found : Option Refusal)
    → (if many then Some (nowhere M2) else by_mentions (linked units) found) ≡ None → (found ≡ None) × (main_missing (linked units) ≡ None)
unbroken_by units true found is = absurd cc
unbroken_by units false found is = by_parts (linked units) found is

unbroken : (units : List CUnit) → broken_links units ≡ None
    → (first_in (types_of_all units) (all_mentions units) (all_mentions units) ≡ None) × (main_missing (linked units) ≡ None)
unfolding broken_links
unbroken units none =
    unbroken_by units (nat_lt most_units (length units)) (first_in (types_of_all units) (all_mentions units) (all_mentions units)) none

-- what is said of all mentions is said of those of each unit, renumbered
pub mention_of : (units : List CUnit) (P : CMention → Type 0) → All P (all_mentions units) → (unit : ℕ) (one : CUnit) → slice_get units unit ≡ Some one
    → (mention : CMention) → Contains one.mentions mention → P (mention_there (counts_before unit units) unit mention)
mention_of units P all unit one is mention among =
    let given = each_of P (λ home n. map (mention_there (counts_before n units) n) home.mentions) 0 units all unit one is in
    All-contains (λ known. P (mention_there (counts_before unit units) unit known)) one.mentions mention
    (all_unmapped P (mention_there (counts_before unit units) unit) one.mentions
    (subst (λ n. All P (map (mention_there (counts_before n units) n) one.mentions)) (none_on unit) given))
    among

-- each mention of a unit, renumbered, breaks no rule
pub mention_passes : (units : List CUnit) → broken_links units ≡ None → (unit : ℕ) (one : CUnit) → slice_get units unit ≡ Some one
    → (mention : CMention) → Contains one.mentions mention
    → PassesRules (types_of_all units) (all_mentions units) (mention_there (counts_before unit units) unit mention)
mention_passes units none =
    mention_of units (PassesRules (types_of_all units) (all_mentions units))
    (all_pass (types_of_all units) (all_mentions units) (all_mentions units) (unbroken units none).0)

some_main : (program : CProgram) (found : Option CFun) → main_of program ≡ found → main_missing program ≡ None → IsSome found
some_main program (Some one) is none = refl
some_main program None is none =
    absurd (let h : Some (nowhere L3) ≡ None = sym (ap (λ (found : Option CFun). if is_none found then Some (nowhere L3) else None) is) ∙ none in cc)

-- there is a `main`
pub main_defined : (units : List CUnit) → broken_links units ≡ None → IsSome (main_of (linked units))
main_defined units none = some_main (linked units) (main_of (linked units)) refl (unbroken units none).1
