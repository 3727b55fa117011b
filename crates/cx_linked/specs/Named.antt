-- What is known of the names of units: where each stands first, and what stands there in the program.
use Rattle.std.specs.Prelude.{◌≡◌, ℕ, suc, option_map, ◌+◌, ◌==◌, ◌&&◌, Bool, if◌then◌else◌, List, [], ◌∷◌, map, Option, Some, None, slice_get, is_some}
use Rattle.std.specs.List.{find, flat_map}
use Rattle.cx_core.specs.Linked.{is_external}
use Rattle.cx_core.specs.Trees.{CTypes, CObject, CFun, COuter, CDeclaredOrder, CProgram, CUnit}
use Rattle.cx_core.specs.Views.{view_function, view_object, view_outer, view_unit}
use Rattle.cx_link.specs.Chains.{indexed}
use Rattle.cx_links.specs.Program.{CFound, counts_before, external_object, from_each, function_as, has_name, is_left, is_prototype, numbers_of, object_as}
use Rattle.cx_renumber.specs.Numbers.{CCounts, CNumbers, function_there, object_there, order_there, outer_there}
use Rattle.cx_renumber.specs.Views.{view_counts}
use Rattle.cx_linked.specs.declared.index.Index.{Index}
use Rattle.cx_linked.specs.declared.found.Things.{Things}
use Rattle.cx_linked.specs.declared.named.Named.{Named}
use Rattle.cx_linked.specs.declared.named.Places.{Places}
use Rattle.cx_linked.specs.Found.{all_found, view_found}

-- ---- first places

-- whether something counts and has a name
abbrev pub is_named : {A : Type 0} → (A → Bool) → (A → Option (List ℕ)) → List ℕ → CFound A → Bool
is_named counts name_of name found = counts found.thing && has_name name (name_of found.thing)

abbrev pub declares_object : CObject → Bool
declares_object one = is_external one.linkage

abbrev pub defines_object : CObject → Bool
defines_object one = is_external one.linkage && is_some one.puts

abbrev pub name_of_object : CObject → Option (List ℕ)
name_of_object one = one.name

abbrev pub is_external_function : CFun → Bool
is_external_function one = is_external one.linkage

abbrev pub name_of_function : CFun → Option (List ℕ)
name_of_function one = Some one.name

abbrev pub is_external_outer : COuter → Bool
is_external_outer one = is_external one.linkage

abbrev pub is_external_prototype : COuter → Bool
is_external_prototype one = is_external one.linkage && is_prototype one

abbrev pub name_of_outer : COuter → Option (List ℕ)
name_of_outer one = Some one.name

-- the first place of a list at which a test holds
abbrev pub first_place : {A : Type 0} → (A → Bool) → List A → Option ℕ
first_place test [] = None
first_place test (one ∷ others) = if test one then Some 0 else option_map suc (first_place test others)

-- the index tells of each name the first place of a list that has it
abbrev pub IsIndex : {A : Type 0} → Index → (List ℕ → A → Bool) → List A → Type 0
IsIndex index test all = (name : List ℕ) → indexed index.first name ≡ first_place (test name) all

-- ---- all that is known

abbrev pub units_of : Named → List CUnit
units_of one = map view_unit one.units.now

abbrev pub before_alone : List CUnit → CUnit → ℕ → List CCounts
before_alone units one unit = counts_before unit units ∷ []

-- what the units in front of each one take
abbrev pub all_before : List CUnit → List CCounts
all_before units = from_each (before_alone units) 0 units

-- the first places of the names of things
pub record ArePlaces (places : Places) (things : Things) : Type 0 where
  pub declared_objects : IsIndex places.declared_objects (is_named declares_object name_of_object) (map (view_found view_object) things.objects)
  pub defined_objects : IsIndex places.defined_objects (is_named defines_object name_of_object) (map (view_found view_object) things.objects)
  pub defined_functions : IsIndex places.defined_functions (is_named is_external_function name_of_function) (map (view_found view_function) things.functions)
  pub declared_functions : IsIndex places.declared_functions (is_named is_external_outer name_of_outer) (map (view_found view_outer) things.externals)
  pub prototyped_functions : IsIndex places.prototyped_functions (is_named is_external_prototype name_of_outer) (map (view_found view_outer) things.externals)

pub record IsNamedBy (one : Named) (units : List CUnit) : Type 0 where
  pub objects : map (view_found view_object) one.things.objects ≡ all_found (λ home. home.objects) units
  pub functions : map (view_found view_function) one.things.functions ≡ all_found (λ home. home.functions) units
  pub externals : map (view_found view_outer) one.things.externals ≡ all_found (λ home. home.externals) units
  pub places : ArePlaces one.places one.things
  pub before : map view_counts one.before ≡ all_before units

-- what is kept is what these units say
abbrev pub IsNamed : Named → Type 0
IsNamed one = IsNamedBy one (units_of one)

-- ---- numbers

-- the number in the program of the object with a number of a list, of a unit behind so many
abbrev pub object_number_among : List CUnit → ℕ → List CObject → ℕ → ℕ
object_number_among units before objects number = object_as units (before + number) (find (λ known. known.object == number) objects)

abbrev pub function_number_among : List CUnit → ℕ → List COuter → ℕ → ℕ
function_number_among units before externals number = function_as units (before + number) (find (λ known. known.function == number) externals)

abbrev pub numbers_alone : List CUnit → CUnit → ℕ → List CNumbers
numbers_alone units one unit = numbers_of units one unit ∷ []

-- the numbers of each unit
abbrev pub all_numbers : List CUnit → List CNumbers
all_numbers units = from_each (numbers_alone units) 0 units

-- ---- what the program has of each thing

-- the unit of a thing is that with its number
abbrev pub IsAt : {A : Type 0} → List CUnit → CFound A → Type 0
IsAt units found = slice_get units found.unit ≡ Some found.home

abbrev pub object_renumbered : List CUnit → CFound CObject → CObject
object_renumbered units found = object_there (numbers_of units found.home found.unit) found.thing

abbrev pub function_renumbered : List CUnit → CFound CFun → CFun
function_renumbered units found = function_there (numbers_of units found.home found.unit) found.thing

abbrev pub outer_renumbered : List CUnit → CFound COuter → COuter
outer_renumbered units found = outer_there (numbers_of units found.home found.unit) found.thing

abbrev pub objects_for : List CUnit → CFound CObject → List CObject
objects_for units found =
    if is_external found.thing.linkage then external_object units found.unit found.thing.name else object_renumbered units found ∷ []

abbrev pub outers_for : List CUnit → CFound COuter → List COuter
outers_for units found = if is_left units found.unit found.thing then outer_renumbered units found ∷ [] else []

-- each thing of a list is that of the unit with its number
abbrev pub AreAt : {A : Type 0} → List CUnit → List (CFound A) → Type 0
AreAt {A} units all = (place : ℕ) (found : CFound A) → slice_get all place ≡ Some found → IsAt units found

abbrev pub order_alone : List CUnit → CUnit → ℕ → List CDeclaredOrder
order_alone units one unit = order_there (numbers_of units one unit) one.order ∷ []

-- the order of declarations of each unit
abbrev pub all_orders : List CUnit → List CDeclaredOrder
all_orders units = from_each (order_alone units) 0 units

-- the program of these things beside types and orders of declarations
abbrev pub with_things : List CUnit → CTypes → List CDeclaredOrder → CProgram
with_things units types orders = record {
  types = types;
  objects = flat_map (objects_for units) (all_found (λ (home : CUnit). home.objects) units);
  functions = map (function_renumbered units) (all_found (λ (home : CUnit). home.functions) units);
  externals = flat_map (outers_for units) (all_found (λ (home : CUnit). home.externals) units);
  orders = orders;
}
