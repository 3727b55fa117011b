-- A function that no unit defines is found in the program as the unit has it whose declaration stands for its name (ISO C99, 6.2.2p2, 6.2.7p3).
use Rattle.std.proofs.Common.{◌≡◌, ℕ, Bool, true, false, ◌&&◌, if◌then◌else◌, List, [], ◌∷◌, ◌++◌, map, All, Option, None, Some, slice_get, is_none, bytes_eq, refl, sym, ap, ◌∙◌, subst}
use Rattle.std.specs.Prelude.{cond, ⊤}
use Rattle.std.specs.List.{find, IsDistinct}
use Rattle.std.proofs.lemmas.List.Elements.{All-nil, All-cons, All-head, All-tail, All-append}
use Rattle.std.proofs.lemmas.Slice.Eq.{bytes_eq-Decides}
use Rattle.cx_core.specs.declared.program.Linkage.{Linkage}
use Rattle.cx_core.specs.declared.program.Linkage.TheVariants.{External, Internal, Nothing}
use Rattle.cx_core.specs.Linked.{is_external, has_linkage, names_with}
use Rattle.cx_core.specs.Trees.{CTy, CPuts, CTypes, CObject, CFun, COuter, CProgram, CUnit}
use Rattle.cx_core.specs.Typing.{outer_with}
use Rattle.cx_links.specs.Program.{CFound, declared_function, is_prototype, prototyped_function, first_unit, or_other, function_of_name, outer_of_name, function_at, function_by, outer_by, function_number, numbers_of, is_in, is_left, outers_from, from_each, linked}
use Rattle.cx_renumber.specs.Numbers.{outer_there}
use Rattle.cx_typed_links.proofs.Compatible.{both, together_true}
use Rattle.cx_typed_links.proofs.Each.{all_given}
use Rattle.cx_typed_links.proofs.Functions.{number_of_function, number_of_outer, distinct_second, outer_number}
use Rattle.cx_typed_links.proofs.Joined.{none_on}
use Rattle.cx_typed_links.proofs.Places.{IsFirstIn, first_is, found_holds, found_alone, same_found, same_number}
use Rattle.cx_typed_links.specs.Laws.{AreTypedUnits}

-- ---- names that differ

abbrev pub AreOtherNames : List ℕ → List (List ℕ) → Type 0
AreOtherNames name [] = ⊤
AreOtherNames name (first ∷ others) = (bytes_eq name first ≡ false) × AreOtherNames name others

abbrev names_of_outers : (Linkage → Bool) → List COuter → List (List ℕ)
names_of_outers counts [] = []
names_of_outers counts (one ∷ others) =
    if counts one.linkage then one.name ∷ names_of_outers counts others else names_of_outers counts others

abbrev pub names_of : List COuter → List (List ℕ)
names_of outers = names_of_outers has_linkage outers

-- the names of a unit, without those of its objects and of the functions that it defines
abbrev pub things_of : CTypes → List CObject → List CFun → List COuter → CProgram
things_of types objects functions externals = record { types = types; objects = objects; functions = functions; externals = externals; orders = [] }

pub outers_are : (types : CTypes) (externals : List COuter) → names_with has_linkage (things_of types [] [] externals) ≡ names_of externals
outers_are types [] = refl
outers_are types (one ∷ others) =
    ap (λ names. if has_linkage one.linkage then one.name ∷ names else names) (outers_are types others)

-- an object with these parts
abbrev pub object_of : ℕ → ℕ → Option (List ℕ) → Bool → CTy → Linkage → Option CPuts → CObject
object_of number unit name is_text type linkage puts =
    record { object = number; unit = unit; name = name; is_text = is_text; type = type; linkage = linkage; puts = puts }

pub later_object : (types : CTypes) (others : List CObject) (functions : List CFun) (externals : List COuter)
    (number unit : ℕ) (name : Option (List ℕ)) (is_text : Bool) (type : CTy) (linkage : Linkage) (puts : Option CPuts)
    → IsDistinct bytes_eq (names_with has_linkage (things_of types (object_of number unit name is_text type linkage puts ∷ others) functions externals))
    → IsDistinct bytes_eq (names_with has_linkage (things_of types others functions externals))
unfolding IsDistinct
later_object types others functions externals number unit None is_text type External puts differ = differ
later_object types others functions externals number unit None is_text type Internal puts differ = differ
later_object types others functions externals number unit (Some name) is_text type External puts differ = differ.1
later_object types others functions externals number unit (Some name) is_text type Internal puts differ = differ.1
later_object types others functions externals number unit name is_text type Nothing puts differ = differ

pub later_function : (has : Bool) (name : List ℕ) (names others : List (List ℕ)) → IsDistinct bytes_eq ((if has then name ∷ names else names) ++ others)
    → IsDistinct bytes_eq (names ++ others)
unfolding IsDistinct
later_function true name names others differ = differ.1
later_function false name names others differ = differ

outers_differ : (types : CTypes) (objects : List CObject) (functions : List CFun) (externals : List COuter)
    → IsDistinct bytes_eq (names_with has_linkage (things_of types objects functions externals)) → IsDistinct bytes_eq (names_of externals)
outers_differ types [] [] externals differ = subst (IsDistinct bytes_eq) (outers_are types externals) differ
outers_differ types [] (one ∷ others) externals differ =
    outers_differ types [] others externals (later_function (has_linkage one.linkage) one.name _ _ differ)
outers_differ types (one ∷ others) functions externals differ =
    outers_differ types others functions externals
    (later_object types others functions externals one.object one.unit one.name one.is_text one.type one.linkage one.puts differ)

pub external_has : (linkage : Linkage) → is_external linkage ≡ true → has_linkage linkage ≡ true
external_has External is = refl
external_has Internal is = absurd cc
external_has Nothing is = absurd cc

abbrev pub is_named : List ℕ → COuter → Bool
is_named name known = is_external known.linkage && bytes_eq name known.name

not_both : (a b : Bool) → b ≡ false → (a && b) ≡ false
not_both true b is = is
not_both false b is = refl

pub other_back : (name other : List ℕ) → bytes_eq name other ≡ false → (found : Bool) → bytes_eq other name ≡ found → found ≡ false
other_back name other is false found = refl
other_back name other is true found =
    absurd (let h : true ≡ false = sym ((bytes_eq-Decides name other).1 (sym ((bytes_eq-Decides other name).0 found))) ∙ is in cc)

others_by : (name : List ℕ) (first : COuter) (others : List (List ℕ)) (has : Bool) → has ≡ true → AreOtherNames name (if has then first.name ∷ others else others)
    → bytes_eq name first.name ≡ false
others_by name first others false is apart = absurd cc
others_by name first others true is apart = apart.0

rest_by : (name : List ℕ) (first : COuter) (others : List (List ℕ)) (has : Bool) → AreOtherNames name (if has then first.name ∷ others else others) → AreOtherNames name others
rest_by name first others false apart = apart
rest_by name first others true apart = apart.1

-- what has external linkage is found by its name
abbrev pub IsFoundByName : List COuter → COuter → Type 0
IsFoundByName all known = is_external known.linkage ≡ true → find (is_named known.name) all ≡ Some known

skip_first : (first : COuter) (others all : List COuter) → AreOtherNames first.name (names_of others) → All (IsFoundByName all) others
    → All (IsFoundByName (first ∷ all)) others
skip_first first [] all apart found = All-nil (IsFoundByName (first ∷ all))
skip_first first (known ∷ others) all apart found =
    All-cons (IsFoundByName (first ∷ all)) known others
    (λ external.
    ap (λ (passes : Bool). cond passes (Some first) (find (is_named known.name) all))
    (not_both (is_external first.linkage) (bytes_eq known.name first.name)
    (other_back first.name known.name
    (others_by first.name known (names_of others) (has_linkage known.linkage) (external_has known.linkage external) apart)
    (bytes_eq known.name first.name) refl))
    ∙ All-head (IsFoundByName all) known others found external)
    (skip_first first others all (rest_by first.name known (names_of others) (has_linkage known.linkage) apart) (All-tail (IsFoundByName all) known others found))

skip_unnamed : (first : COuter) (others all : List COuter) → is_external first.linkage ≡ false → All (IsFoundByName all) others → All (IsFoundByName (first ∷ all)) others
skip_unnamed first [] all none found = All-nil (IsFoundByName (first ∷ all))
skip_unnamed first (known ∷ others) all none found =
    All-cons (IsFoundByName (first ∷ all)) known others
    (λ external.
    ap (λ (holds : Bool). cond (holds && bytes_eq known.name first.name) (Some first) (find (is_named known.name) all)) none
    ∙ All-head (IsFoundByName all) known others found external)
    (skip_unnamed first others all none (All-tail (IsFoundByName all) known others found))

first_found : (first : COuter) (others : List COuter) → IsFoundByName (first ∷ others) first
first_found first others external =
    ap (λ (passes : Bool). cond passes (Some first) (find (is_named first.name) others))
    (together_true external ((bytes_eq-Decides first.name first.name).1 refl))

not_external : (linkage : Linkage) → has_linkage linkage ≡ false → is_external linkage ≡ false
not_external External is = is
not_external Internal is = refl
not_external Nothing is = refl

named_by : (first : COuter) (others : List COuter) (has : Bool) → has_linkage first.linkage ≡ has
    → IsDistinct bytes_eq (if has then first.name ∷ names_of others else names_of others)
    → (IsDistinct bytes_eq (names_of others) → All (IsFoundByName others) others) → All (IsFoundByName (first ∷ others)) (first ∷ others)
unfolding IsDistinct
named_by first others true is differ rest =
    All-cons (IsFoundByName (first ∷ others)) first others (first_found first others) (skip_first first others others differ.0 (rest differ.1))
named_by first others false is differ rest =
    All-cons (IsFoundByName (first ∷ others)) first others (first_found first others)
    (skip_unnamed first others others (not_external first.linkage is) (rest differ))

found_by_name : (outers : List COuter) → IsDistinct bytes_eq (names_of outers) → All (IsFoundByName outers) outers
found_by_name [] differ = All-nil (IsFoundByName [])
found_by_name (first ∷ others) differ = named_by first others (has_linkage first.linkage) refl differ (found_by_name others)

both_of : {X : Type 0} (P Q : X → Type 0) (xs : List X) → All P xs → All Q xs → All (λ x. P x × Q x) xs
both_of P Q [] first second = All-nil (λ x. P x × Q x)
both_of P Q (x ∷ xs) first second =
    All-cons (λ y. P y × Q y) x xs (All-head P x xs first, All-head Q x xs second) (both_of P Q xs (All-tail P x xs first) (All-tail Q x xs second))

-- ---- functions that a unit declares

-- found in its unit by its number, and by its name where that is external
abbrev pub IsFoundOuter : CUnit → COuter → Type 0
IsFoundOuter home thing = (outer_with thing.function home.externals ≡ Some thing) × IsFoundByName home.externals thing

-- a function of the program that no unit defines is what the unit has whose declaration stands for its name
pub record IsLeftOf (units : List CUnit) (one : COuter) : Type 0 where
  pub found : CFound COuter
  pub found_is : outer_of_name units found.thing.name ≡ Some found
  pub external : is_external found.thing.linkage ≡ true
  pub undefined : function_of_name units found.thing.name ≡ None
  pub is : one ≡ outer_there (numbers_of units found.home found.unit) found.thing

-- a declaration that stands for a name, in its unit
pub record IsFirstDeclared (units : List CUnit) (name : List ℕ) (found : CFound COuter) : Type 0 where
  pub unit_is : slice_get units found.unit ≡ Some found.home
  pub own : IsFoundOuter found.home found.thing
  pub external : is_external found.thing.linkage ≡ true
  pub name_is : found.thing.name ≡ name

is_none_none : {X : Type 0} (o : Option X) → is_none o ≡ true → o ≡ None
is_none_none None is = refl
is_none_none (Some x) is = absurd cc

module _ (units : List CUnit) (typed : AreTypedUnits units) where
  abbrev Of : COuter → Type 0
  Of one = IsLeftOf units one

  pub all_own_outers : (unit : ℕ) (one : CUnit) → slice_get units unit ≡ Some one → All (IsFoundOuter one) one.externals
  all_own_outers unit one is =
      both_of (λ thing. outer_with thing.function one.externals ≡ Some thing) (IsFoundByName one.externals) one.externals
      (found_alone number_of_outer one.externals
      (distinct_second (map number_of_function one.functions) (map number_of_outer one.externals) (typed unit one is).numbers.functions_differ))
      (found_by_name one.externals (outers_differ one.types one.objects one.functions one.externals (typed unit one is).names_differ))

  declared_by : (name : List ℕ) (found : CFound COuter) (test : COuter → Bool) → ((known : COuter) → test known ≡ true → is_named name known ≡ true)
      → IsFirstIn (λ one. find test one.externals) 0 units found → IsFirstDeclared units name found
  declared_by name found test goes first =
      let unit_is : slice_get units found.unit ≡ Some found.home =
      subst (λ n. slice_get units n ≡ Some found.home) (sym (first.unit_is ∙ none_on first.at)) first.home_is in
      let held = found_holds (IsFoundOuter found.home) test found.home.externals found.thing (all_own_outers found.unit found.home unit_is) first.thing_is in
      let named = both (goes found.thing held.1) in
      record {
        unit_is = unit_is;
        own = held.0;
        external = named.0;
        name_is = sym ((bytes_eq-Decides name found.thing.name).0 named.1);
      }

  without_second : (first second third : Bool) → ((first && second) && third) ≡ true → (first && third) ≡ true
  without_second true true third is = is
  without_second true false third is = cc (is)
  without_second false second third is = cc (is)

  declared_either : (name : List ℕ) (found : CFound COuter) (first : Option (CFound COuter)) → first_unit (prototyped_function name) 0 units ≡ first
      → or_other first (first_unit (declared_function name) 0 units) ≡ Some found → IsFirstDeclared units name found
  declared_either name found None is there =
      declared_by name found (is_named name) (λ known passes. passes) (first_is (declared_function name) 0 units found there)
  declared_either name found (Some one) is there =
      declared_by name found (λ known. (is_external known.linkage && is_prototype known) && bytes_eq name known.name)
      (λ known passes. without_second (is_external known.linkage) (is_prototype known) (bytes_eq name known.name) passes) (first_is (prototyped_function name) 0 units found (is ∙ there))

  pub first_declared : (name : List ℕ) (found : CFound COuter) → outer_of_name units name ≡ Some found → IsFirstDeclared units name found
  first_declared name found is = declared_either name found (first_unit (prototyped_function name) 0 units) refl is

  -- ---- its number

  pub left_number : (unit : ℕ) (home : CUnit) (number : ℕ) (outer : COuter) → outer_with number home.externals ≡ Some outer → is_external outer.linkage ≡ true
      → function_of_name units outer.name ≡ None → (found : CFound COuter) → outer_of_name units outer.name ≡ Some found
      → function_number units home unit number ≡ function_at units found.unit found.thing.function
  left_number unit home number outer is external undefined found found_is =
      outer_number units unit home number outer is external
      ∙ ap (function_by units outer.name (function_at units unit number)) undefined
      ∙ ap (outer_by units (function_at units unit number)) found_is

  pub left_place : (one : COuter) → (of : IsLeftOf units one) → one.function ≡ function_at units of.found.unit of.found.thing.function
  left_place one of =
      ap number_of_outer of.is
      ∙ left_number of.found.unit of.found.home of.found.thing.function of.found.thing (first_declared of.found.thing.name of.found of.found_is).own.0
      of.external of.undefined of.found of.found_is

  -- ---- all that are left

  in_same : (unit : ℕ) (o : Option (CFound COuter)) → is_in unit o ≡ true → (found : CFound COuter) × (o ≡ Some found) × (found.unit ≡ unit)
  in_same unit None is = absurd cc
  in_same unit (Some found) is = (found, refl, same_number found.unit unit is)

  module _ (unit : ℕ) (one : CUnit) (is : slice_get units unit ≡ Some one) where
    -- a declaration that is left is the one that stands for its name
    pub record IsLeftFirst (known : COuter) : Type 0 where
      pub found : CFound COuter
      pub found_is : outer_of_name units known.name ≡ Some found
      pub first : IsFirstDeclared units known.name found
      pub undefined : function_of_name units known.name ≡ None
      pub unit_is : found.unit ≡ unit
      pub home_is : found.home ≡ one
      pub thing_is : found.thing ≡ known

    pub left_first : (known : COuter) → IsFoundOuter one known → is_left units unit known ≡ true → IsLeftFirst known
    left_first known own left =
        let rest = both (both left).1 in
        let found = in_same unit (outer_of_name units known.name) rest.1 in
        let first = first_declared known.name found.0 found.1 in
        let home : found.0.home ≡ one =
        same_found (slice_get units unit) found.0.home one (subst (λ n. slice_get units n ≡ Some found.0.home) found.2 first.unit_is) is in
        let thing : found.0.thing ≡ known =
        same_found (find (is_named known.name) one.externals) found.0.thing known
        (subst (λ (home : CUnit). find (is_named known.name) home.externals ≡ Some found.0.thing) home
        (subst (λ name. find (is_named name) found.0.home.externals ≡ Some found.0.thing) first.name_is (first.own.1 first.external)))
        (own.1 (both left).0) in
        record {
          found = found.0;
          found_is = found.1;
          first = first;
          undefined = is_none_none (function_of_name units known.name) rest.0;
          unit_is = found.2;
          home_is = home;
          thing_is = thing;
        }

    pub left_own : (known : COuter) → IsFoundOuter one known → is_left units unit known ≡ true
        → function_number units one unit known.function ≡ function_at units unit known.function
    left_own known own left =
        let held = left_first known own left in
        left_number unit one known.function known own.0 (both left).0 held.undefined held.found held.found_is
        ∙ ap (λ n. function_at units n held.found.thing.function) held.unit_is
        ∙ ap (λ (outer : COuter). function_at units unit outer.function) held.thing_is

    left_of : (known : COuter) → IsFoundOuter one known → is_left units unit known ≡ true → Of (outer_there (numbers_of units one unit) known)
    left_of known own left =
        let held = left_first known own left in
        record {
          found = held.found;
          found_is = ap (outer_of_name units) held.first.name_is ∙ held.found_is;
          external = held.first.external;
          undefined = ap (function_of_name units) held.first.name_is ∙ held.undefined;
          is =
              ap (λ (home : CUnit). outer_there (numbers_of units home unit) known) (sym held.home_is)
              ∙ ap (λ n. outer_there (numbers_of units held.found.home n) known) (sym held.unit_is)
              ∙ ap (outer_there (numbers_of units held.found.home held.found.unit)) (sym held.thing_is);
        }

    part_of : (known : COuter) → IsFoundOuter one known → (left : Bool) → is_left units unit known ≡ left
        → All Of (if left then outer_there (numbers_of units one unit) known ∷ [] else [])
    part_of known own true left = All-cons Of (outer_there (numbers_of units one unit) known) [] (left_of known own left) (All-nil Of)
    part_of known own false left = All-nil Of

    pub outers_of : (outers : List COuter) → All (IsFoundOuter one) outers → All Of (outers_from units one unit outers)
    outers_of [] all = All-nil Of
    outers_of (known ∷ others) all =
        All-append Of (if is_left units unit known then outer_there (numbers_of units one unit) known ∷ [] else []) (outers_from units one unit others)
        (part_of known (All-head (IsFoundOuter one) known others all) (is_left units unit known) refl)
        (outers_of others (All-tail (IsFoundOuter one) known others all))

  abbrev given : CUnit → ℕ → List COuter
  given one unit = outers_from units one unit one.externals

  pub linked_externals : (linked units).externals ≡ from_each given 0 units
  unfolding linked
  linked_externals = refl

  pub program_externals : All Of (linked units).externals
  program_externals =
      subst (All Of) (sym linked_externals)
      (all_given Of given units (λ unit one is. outers_of unit one is one.externals (all_own_outers unit one is)))
