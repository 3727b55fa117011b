-- The rules over all units of a program (ISO C99, 5.1.2.2.1, 6.2.2p2, 6.2.7p2, 6.9p5), and the functions that the profile takes from
-- outside. Every mention of an external name, and of a static function, is looked at in text order, unit by unit.
use Rattle.std.specs.Prelude.{ℕ, zero, suc, nat_lt, ◌==◌, ◌&&◌, ◌||◌, not, Bool, true, false, if◌then◌else◌, List, [], ◌∷◌, ◌++◌, map, length, Option, Some, None, is_none, codes, bytes_eq, slice_get}
use Rattle.std.specs.List.{list_all, list_any}
use Rattle.cr_base.specs.declared.refusal.Refusal.{Refusal}
use Rattle.cr_base.specs.declared.rule.Rule.{Rule}
use Rattle.cr_base.specs.declared.rule.Rule.TheVariants.{L1, L2, L3, L4, L5, M2}
use Rattle.cx_core.specs.Compatible.{agree, of_two_units, records_agree}
use Rattle.cx_externals.specs.Functions.{is_external_type, is_opaque_trailing, is_main_form}
use Rattle.cx_core.specs.Linked.{is_external, main_of}
use Rattle.cx_core.specs.Trees.{CTy, form_of_type, CTypes, CDoes, declares, defines, calls, uses, CMention, CUnit, CProgram}
use Rattle.cx_links.specs.Program.{linked, all_mentions, types_of_all}
use Rattle.cx_rules.specs.Types.{is_function}

-- ---- compatible types of several units (6.2.7)

-- two records, by their numbers
pub record CPair : Type 0 where
  pub first : ℕ
  pub second : ℕ

-- the numbers below one
abbrev pub below : ℕ → List ℕ
below zero = []
below (suc count) = below count ++ count ∷ []

-- all pairs of so many records
abbrev pub pairs_with : ℕ → List ℕ → List CPair
pairs_with first [] = []
pairs_with first (second ∷ others) = record { first = first; second = second } ∷ pairs_with first others

abbrev pub pairs_from : List ℕ → List ℕ → List CPair
pairs_from [] seconds = []
pairs_from (first ∷ others) seconds = pairs_with first seconds ++ pairs_from others seconds

abbrev pub all_pairs : ℕ → List CPair
all_pairs count = pairs_from (below count) (below count)

-- every choice of some elements of a list
abbrev pub choices : {A : Type 0} → List A → List (List A)
choices [] = [] ∷ []
choices (one ∷ others) = choices others ++ map (λ chosen. one ∷ chosen) (choices others)

abbrev pub counts_in : List CPair → ℕ → ℕ → Bool
counts_in pairs first second = list_any (λ pair. (pair.first == first) && (pair.second == second)) pairs

-- the records of a pair are of two units and meet 6.2.7p1, when the pairs of a set count as compatible
abbrev pub pair_agrees : CTypes → List CPair → CPair → Bool
pair_agrees types pairs pair =
    of_two_units types.record_units pair.first pair.second
    && records_agree types (counts_in pairs) pair.first pair.second
    (slice_get types.record_tags pair.first) (slice_get types.record_tags pair.second)

-- a set of pairs is good: each of its pairs meets 6.2.7p1 when every pair of the set counts as compatible
abbrev pub is_good : CTypes → List CPair → Bool
is_good types pairs = list_all (pair_agrees types pairs) pairs

-- two types are compatible when the pairs of some good set of pairs of records count as compatible
unfoldable pub compatible_in : CTypes → CTy → CTy → Bool
compatible_in types first second =
    list_any (λ pairs. is_good types pairs && agree types (counts_in pairs) first second) (choices (all_pairs (length types.record_tags)))

-- ---- what a mention does

abbrev pub is_definition : CDoes → Bool
is_definition defines = true
is_definition _ = false

abbrev pub is_declaration : CDoes → Bool
is_declaration declares = true
is_declaration defines = true
is_declaration (calls trailing) = false
is_declaration uses = false

abbrev pub is_use : CDoes → Bool
is_use does = not (is_declaration does)

-- a use otherwise than by name in a call
abbrev pub is_other_use : CDoes → Bool
is_other_use uses = true
is_other_use _ = false

abbrev pub trailing_in : CDoes → List CTy
trailing_in (calls trailing) = trailing
trailing_in _ = []

-- ---- kinds of mentions

abbrev pub declares_external : CMention → Bool
declares_external one = is_external one.linkage && is_declaration one.does

abbrev pub defines_external : CMention → Bool
defines_external one = is_external one.linkage && is_definition one.does

-- the definition of a function that is static (6.2.2p3)
abbrev pub defines_static : CMention → Bool
defines_static one = not (is_external one.linkage) && is_definition one.does

-- a mention of a kind, of a name
abbrev pub is_kind_of : (CMention → Bool) → List ℕ → CMention → Bool
is_kind_of kind name one = kind one && bytes_eq one.name name

abbrev pub stands_earlier : CMention → CMention → Bool
stands_earlier one other = nat_lt other.place.unit one.place.unit

abbrev pub stands_in_same_unit : CMention → CMention → Bool
stands_in_same_unit one other = other.place.unit == one.place.unit

-- a unit defines the external name of a mention
abbrev pub is_defined : List CMention → CMention → Bool
is_defined all one = list_any (is_kind_of defines_external one.name) all

-- the unit of a mention defines its static function
abbrev pub is_defined_there : List CMention → CMention → Bool
is_defined_there all one = list_any (λ other. is_kind_of defines_static one.name other && stands_in_same_unit one other) all

-- an earlier unit gives another type
abbrev pub clashes : CTypes → CMention → CMention → Bool
clashes types one other = stands_earlier one other && not (compatible_in types one.type other.type)

-- ---- the rules at a mention

module _ (types : CTypes) (all : List CMention) where
  -- an external name has a definition, tentative or not, in an earlier unit too
  abbrev pub second_definition : CMention → Bool
  second_definition one =
      defines_external one && list_any (λ other. is_kind_of defines_external one.name other && stands_earlier one other) all

  -- an external declaration isn't compatible with one in an earlier unit
  abbrev pub clashing_declaration : CMention → Bool
  clashing_declaration one =
      declares_external one && list_any (λ other. is_kind_of declares_external one.name other && clashes types one other) all

  abbrev pub wrong_main : CMention → Bool
  wrong_main one = declares_external one && (bytes_eq one.name (codes "main") && not (is_main_form (form_of_type one.type)))

  -- a function that no unit defines isn't one of the profile, or is used as it allows none to be
  abbrev pub outside_profile : CMention → Bool
  outside_profile one =
      is_external one.linkage
      && (is_function one.type
      && (not (is_defined all one)
      && (is_other_use one.does
      || (not (is_external_type types one.name (form_of_type one.type))
      || list_any (λ type. not (is_opaque_trailing types type)) (trailing_in one.does)))))

  -- an object or a static function is used and not defined
  abbrev pub undefined_thing : CMention → Bool
  undefined_thing one =
      is_use one.does
      && (if is_external one.linkage then not (is_function one.type) && not (is_defined all one) else not (is_defined_there all one))

  -- the least rule that a mention breaks
  unfoldable pub rule_of : CMention → Option Rule
  rule_of one =
      if second_definition one then Some L1
      else if clashing_declaration one then Some L2
      else if wrong_main one then Some L3
      else if outside_profile one then Some L4
      else if undefined_thing one then Some L5
      else None

  abbrev pub refusal_of : CMention → Option Rule → Option Refusal
  refusal_of one None = None
  refusal_of one (Some rule) = Some (record { rule = rule; unit = one.place.unit; line = one.place.line })

  abbrev pub or_later : Option Refusal → Option Refusal → Option Refusal
  or_later (Some refusal) later = Some refusal
  or_later None later = later

  -- the first broken mention of a list
  unfoldable pub first_in : List CMention → Option Refusal
  first_in [] = None
  first_in (one ∷ others) = or_later (refusal_of one (rule_of one)) (first_in others)

-- ---- all units

-- a refusal that stands at no place has the line 0
abbrev pub nowhere : Rule → Refusal
nowhere rule = record { rule = rule; unit = 0; line = 0 }

-- the most units of a program
abbrev pub most_units : ℕ
most_units = 64

abbrev pub main_missing : CProgram → Option Refusal
main_missing program = if is_none (main_of program) then Some (nowhere L3) else None

abbrev pub by_mentions : CProgram → Option Refusal → Option Refusal
by_mentions program (Some refusal) = Some refusal
by_mentions program None = main_missing program

-- the rule that units break together: too many of them, else the first broken mention, else that there is no `main`
unfoldable pub broken_links : List CUnit → Option Refusal
broken_links units =
    if nat_lt most_units (length units) then Some (nowhere M2)
    else by_mentions (linked units) (first_in (types_of_all units) (all_mentions units) (all_mentions units))
