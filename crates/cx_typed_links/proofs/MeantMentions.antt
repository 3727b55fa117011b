-- What the mentions of an external name by several units say together, where they break no rule (ISO C99, 6.2.2p2, 6.2.7p2, 6.9p5).
use Rattle.std.proofs.Common.{◌≡◌, ℕ, suc, ◌+◌, nat_lt, ◌==◌, Bool, true, false, not, ◌&&◌, List, [], ◌∷◌, map, Option, None, Some, slice_get, bytes_eq, refl, sym, ap, ◌∙◌, arith, subst, ◌⊎◌, inl, inr}
use Rattle.std.specs.List.{Contains, list_any}
use Rattle.std.proofs.lemmas.Bool.{or_cases}
use Rattle.std.proofs.lemmas.Bool.Decides.{nat_tests}
use Rattle.std.proofs.lemmas.List.Folds.{list_any-append, list_any_at}
use Rattle.std.proofs.lemmas.Slice.Eq.{bytes_eq-Decides}
use Rattle.cx_core.proofs.Relation.{compatible_symmetric}
use Rattle.cx_core.specs.Compatible.{AreCompatible}
use Rattle.cx_core.specs.Linked.{is_external}
use Rattle.cx_core.specs.Trees.{CTy, CDoes, declares, defines, calls, uses, CMention, CUnit}
use Rattle.cx_links.proofs.Compatible.{has_good_set}
use Rattle.cx_links.specs.Program.{counts_before, from_each, types_of_all, all_mentions}
use Rattle.cx_links.specs.Rules.{compatible_in, is_definition, is_declaration, declares_external, defines_external, defines_static, is_kind_of, stands_earlier, clashes, is_defined, is_defined_there, broken_links}
use Rattle.cx_renumber.specs.Numbers.{type_there, does_there, mention_there}
use Rattle.cx_typed_links.proofs.Compatible.{both, together_true}
use Rattle.cx_typed_links.proofs.Joined.{none_on}
use Rattle.cx_typed_links.proofs.Listed.{contains_there}
use Rattle.cx_typed_links.proofs.Mentions.{mention_passes}
use Rattle.cx_typed_links.proofs.OwnObjects.{any_given}
use Rattle.cx_typed_links.proofs.Places.{same_number}

-- ---- tests

-- what passes two tests together doesn't where they fail
pub not_holds : (a : Bool) → a ≡ true → a ≡ false → ⊥
not_holds true is fails = cc
not_holds false is fails = cc

second_fails : (a b : Bool) → a ≡ true → (a && b) ≡ false → b ≡ false
second_fails true b is fails = fails
second_fails false b is fails = absurd cc

denied : (b : Bool) → not b ≡ false → b ≡ true
denied true is = refl
denied false is = absurd cc

lower_or_higher : (first second : ℕ) → (first ≡ second → ⊥) → (nat_lt first second ≡ true) ⊎ (nat_lt second first ≡ true)
lower_or_higher first second differ = by (nat_lt first second) refl (nat_lt second first) refl where
  by : (low : Bool) → nat_lt first second ≡ low → (high : Bool) → nat_lt second first ≡ high → (nat_lt first second ≡ true) ⊎ (nat_lt second first ≡ true)
  by true low high other = inl low
  by false low true other = inr other
  by false low false other = absurd (differ (grind (arith, nat_tests, low, other)))

-- ---- what is found in what units give

any_unmapped : {X Y : Type 0} (test : Y → Bool) (f : X → Y) (xs : List X) → list_any test (map f xs) ≡ true → (x : X) × Contains xs x × (test (f x) ≡ true)
any_unmapped test f [] is = absurd cc
any_unmapped {X} test f (first ∷ others) is = by (or_cases (test (f first)) (list_any test (map f others)) is) (any_unmapped test f others) where
  by : (test (f first) ≡ true) ⊎ (list_any test (map f others) ≡ true) → (list_any test (map f others) ≡ true → (x : X) × Contains others x × (test (f x) ≡ true))
      → (x : X) × Contains (first ∷ others) x × (test (f x) ≡ true)
  by (inl here) later = (first, (0, omega arith, refl), here)
  by (inr there) later = let found = later there in (found.0, (suc found.1.0, (let less = found.1.1 in omega (arith, less)), found.1.2), found.2)

module _ {A : Type 0} (test : A → Bool) (gives : CUnit → ℕ → List A) where
  one_on : (n at : ℕ) → suc n + at ≡ n + suc at
  one_on n at = omega arith

  nothing_on : (n : ℕ) → n ≡ n + 0
  nothing_on n = omega arith

  given_back : (start : ℕ) (units : List CUnit) → list_any test (from_each gives start units) ≡ true
      → (at : ℕ) × (one : CUnit) × (slice_get units at ≡ Some one) × (list_any test (gives one (start + at)) ≡ true)
  given_back start [] is = absurd cc
  given_back start (first ∷ others) is =
      by (or_cases (list_any test (gives first start)) (list_any test (from_each gives (suc start) others)) (sym (list_any-append test (gives first start) (from_each gives (suc start) others)) ∙ is))
      (given_back (suc start) others) where
        by : (list_any test (gives first start) ≡ true) ⊎ (list_any test (from_each gives (suc start) others) ≡ true)
            → (list_any test (from_each gives (suc start) others) ≡ true → (at : ℕ) × (one : CUnit) × (slice_get others at ≡ Some one) × (list_any test (gives one (suc start + at)) ≡ true))
            → (at : ℕ) × (one : CUnit) × (slice_get (first ∷ others) at ≡ Some one) × (list_any test (gives one (start + at)) ≡ true)
        by (inl here) later = (0, first, refl, subst (λ n. list_any test (gives first n) ≡ true) (nothing_on start) here)
        by (inr there) later =
            let found = later there in
            (suc found.0, found.1, found.2, subst (λ n. list_any test (gives found.1 n) ≡ true) (one_on start found.0) found.3)

-- a mention that a unit makes
pub record IsMade (units : List CUnit) (test : CMention → Bool) : Type 0 where
  pub unit : ℕ
  pub home : CUnit
  pub unit_is : slice_get units unit ≡ Some home
  pub mention : CMention
  pub among : Contains home.mentions mention
  pub passes : test (mention_there (counts_before unit units) unit mention) ≡ true

module _ (units : List CUnit) (test : CMention → Bool) where
  abbrev made_by : CUnit → ℕ → List CMention
  made_by one unit = map (mention_there (counts_before unit units) unit) one.mentions

  pub made : list_any test (all_mentions units) ≡ true → IsMade units test
  made is =
      let found = given_back test made_by 0 units is in
      let mention = any_unmapped test (mention_there (counts_before found.0 units) found.0) found.1.mentions
      (subst (λ n. list_any test (made_by found.1 n) ≡ true) (none_on found.0) found.3) in
      record { unit = found.0; home = found.1; unit_is = found.2; mention = mention.0; among = mention.1; passes = mention.2 }

  pub any_made : (unit : ℕ) (home : CUnit) → slice_get units unit ≡ Some home → (mention : CMention) → Contains home.mentions mention
      → test (mention_there (counts_before unit units) unit mention) ≡ true → list_any test (all_mentions units) ≡ true
  any_made unit home is mention among passes =
      let there = contains_there (mention_there (counts_before unit units) unit) home.mentions mention among in
      any_given test made_by 0 units unit home is
      (subst (λ n. list_any test (made_by home n) ≡ true) (sym (none_on unit))
      (list_any_at test (made_by home unit) there.0 (mention_there (counts_before unit units) unit mention) there.1 (ap test there.2 ∙ passes)))

-- ---- what mentions do

pub defines_back : (before : _) (does : CDoes) → is_definition (does_there before does) ≡ true → does ≡ defines
defines_back before defines is = refl
defines_back before declares is = absurd cc
defines_back before (calls trailing) is = absurd cc
defines_back before uses is = absurd cc

declares_on : (before : _) (does : CDoes) → is_declaration does ≡ true → is_declaration (does_there before does) ≡ true
declares_on before defines is = refl
declares_on before declares is = refl
declares_on before (calls trailing) is = is
declares_on before uses is = is

-- a declaration of an external name in a unit
pub record IsDeclaredIn (units : List CUnit) (unit : ℕ) (name : List ℕ) (type : CTy) : Type 0 where
  pub home : CUnit
  pub unit_is : slice_get units unit ≡ Some home
  pub mention : CMention
  pub among : Contains home.mentions mention
  pub name_is : mention.name ≡ name
  pub external : is_external mention.linkage ≡ true
  pub type_is : mention.type ≡ type
  pub declares : is_declaration mention.does ≡ true

-- a definition of one
pub record IsDefinedIn (units : List CUnit) (unit : ℕ) (name : List ℕ) : Type 0 where
  pub home : CUnit
  pub unit_is : slice_get units unit ≡ Some home
  pub mention : CMention
  pub among : Contains home.mentions mention
  pub name_is : mention.name ≡ name
  pub external : is_external mention.linkage ≡ true
  pub does_is : mention.does ≡ defines

module _ (units : List CUnit) (unbroken : broken_links units ≡ None) where
  same_names : (name first second : List ℕ) → first ≡ name → second ≡ name → bytes_eq second first ≡ true
  same_names name first second one other = (bytes_eq-Decides second first).1 (other ∙ sym one)

  -- ---- declarations of one name

  module _ (name : List ℕ) (low high : ℕ) (lower : nat_lt low high ≡ true) where
    declared_before : (first second : CTy) → IsDeclaredIn units low name first → IsDeclaredIn units high name second
        → AreCompatible (types_of_all units) (type_there (counts_before high units) second) (type_there (counts_before low units) first)
    declared_before first second one other =
        let early = mention_there (counts_before low units) low one.mention in
        let late = mention_there (counts_before high units) high other.mention in
        let held = mention_passes units unbroken high other.home other.unit_is other.mention other.among in
        let test : CMention → Bool = λ earlier. is_kind_of declares_external late.name earlier && clashes (types_of_all units) late earlier in
        let late_declares : declares_external late ≡ true = together_true other.external (declares_on (counts_before high units) other.mention.does other.declares) in
        let none : list_any test (all_mentions units) ≡ false = second_fails (declares_external late) (list_any test (all_mentions units)) late_declares held.compatible in
        let kind : is_kind_of declares_external late.name early ≡ true =
        together_true (together_true one.external (declares_on (counts_before low units) one.mention.does one.declares))
        (same_names name other.mention.name one.mention.name other.name_is one.name_is) in
        let fails : test early ≡ false = not_test (test early) refl
        (λ passes. not_holds (list_any test (all_mentions units)) (any_made units test low one.home one.unit_is one.mention one.among passes) none) in
        let same : compatible_in (types_of_all units) late.type early.type ≡ true =
        denied (compatible_in (types_of_all units) late.type early.type)
        (second_fails (stands_earlier late early) (not (compatible_in (types_of_all units) late.type early.type)) lower
        (second_fails (is_kind_of declares_external late.name early) (clashes (types_of_all units) late early) kind fails)) in
        subst (λ type. AreCompatible (types_of_all units) (type_there (counts_before high units) type) (type_there (counts_before low units) first)) other.type_is
        (subst (λ type. AreCompatible (types_of_all units) late.type (type_there (counts_before low units) type)) one.type_is
        (has_good_set (types_of_all units) late.type early.type same))
      where
        not_test : (test : Bool) {of : Bool} → of ≡ test → (of ≡ true → ⊥) → of ≡ false
        not_test false is fails_so = is
        not_test true is fails_so = absurd (fails_so is)

    defined_before : IsDefinedIn units low name → IsDefinedIn units high name → ⊥
    defined_before one other =
        let early = mention_there (counts_before low units) low one.mention in
        let late = mention_there (counts_before high units) high other.mention in
        let held = mention_passes units unbroken high other.home other.unit_is other.mention other.among in
        let test : CMention → Bool = λ earlier. is_kind_of defines_external late.name earlier && stands_earlier late earlier in
        let late_defines : defines_external late ≡ true =
        together_true other.external (ap (λ does. is_definition (does_there (counts_before high units) does)) other.does_is) in
        let none : list_any test (all_mentions units) ≡ false = second_fails (defines_external late) (list_any test (all_mentions units)) late_defines held.one_definition in
        let kind : is_kind_of defines_external late.name early ≡ true =
        together_true (together_true one.external (ap (λ does. is_definition (does_there (counts_before low units) does)) one.does_is))
        (same_names name other.mention.name one.mention.name other.name_is one.name_is) in
        not_holds (list_any test (all_mentions units)) (any_made units test low one.home one.unit_is one.mention one.among (together_true kind lower)) none

  -- declarations of two units are compatible
  pub declared_alike : (name : List ℕ) (unit other : ℕ) → (unit ≡ other → ⊥) → (first second : CTy) → IsDeclaredIn units unit name first → IsDeclaredIn units other name second
      → AreCompatible (types_of_all units) (type_there (counts_before unit units) first) (type_there (counts_before other units) second)
  declared_alike name unit other differ first second one two = by (lower_or_higher unit other differ) where
    by : (nat_lt unit other ≡ true) ⊎ (nat_lt other unit ≡ true)
        → AreCompatible (types_of_all units) (type_there (counts_before unit units) first) (type_there (counts_before other units) second)
    by (inl lower) =
        compatible_symmetric (types_of_all units) (type_there (counts_before other units) second) (type_there (counts_before unit units) first)
        (declared_before name unit other lower first second one two)
    by (inr lower) = declared_before name other unit lower second first two one

  -- and no two units define it
  pub defined_once : (name : List ℕ) (unit other : ℕ) → (unit ≡ other → ⊥) → IsDefinedIn units unit name → IsDefinedIn units other name → ⊥
  defined_once name unit other differ one two = by (lower_or_higher unit other differ) where
    by : (nat_lt unit other ≡ true) ⊎ (nat_lt other unit ≡ true) → ⊥
    by (inl lower) = defined_before name unit other lower one two
    by (inr lower) = defined_before name other unit lower two one

-- ---- what is defined

module _ (units : List CUnit) (unit : ℕ) (mention : CMention) where
  abbrev there : CMention
  there = mention_there (counts_before unit units) unit mention

  -- some unit defines the name
  pub definition : is_defined (all_mentions units) there ≡ true → (other : ℕ) × IsDefinedIn units other mention.name
  definition is =
      let found = made units (is_kind_of defines_external mention.name) is in
      let parts = both found.passes in
      let kinds = both parts.0 in (
        found.unit,
        record {
          home = found.home;
          unit_is = found.unit_is;
          mention = found.mention;
          among = found.among;
          name_is = (bytes_eq-Decides found.mention.name mention.name).0 parts.1;
          external = kinds.0;
          does_is = defines_back (counts_before found.unit units) found.mention.does kinds.1;
        },
      )

-- a definition of a name without external linkage in a unit
pub record IsDefinedHere (one : CUnit) (name : List ℕ) : Type 0 where
  pub mention : CMention
  pub among : Contains one.mentions mention
  pub name_is : mention.name ≡ name
  pub does_is : mention.does ≡ defines

module _ (units : List CUnit) (unit : ℕ) (one : CUnit) (is_one : slice_get units unit ≡ Some one) (mention : CMention) where
  same_home : (other : ℕ) (home : CUnit) → slice_get units other ≡ Some home → other ≡ unit → home ≡ one
  same_home other home is same = by (slice_get units unit) (subst (λ n. slice_get units n ≡ Some home) same is) is_one where
    by : (o : Option CUnit) → o ≡ Some home → o ≡ Some one → home ≡ one
    by None first second = absurd cc
    by (Some x) first second = cc

  -- the unit itself defines the name
  pub definition_here : is_defined_there (all_mentions units) (mention_there (counts_before unit units) unit mention) ≡ true → IsDefinedHere one mention.name
  definition_here is =
      let found = made units (λ other. is_kind_of defines_static mention.name other && (other.place.unit == unit)) is in
      let parts = both found.passes in
      let named = both parts.0 in
      let kinds = both named.0 in
      record {
        mention = found.mention;
        among = subst (λ (home : CUnit). Contains home.mentions found.mention) (same_home found.unit found.home found.unit_is (same_number found.unit unit parts.1)) found.among;
        name_is = (bytes_eq-Decides found.mention.name mention.name).0 named.1;
        does_is = defines_back (counts_before found.unit units) found.mention.does kinds.1;
      }
