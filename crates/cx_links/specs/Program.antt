-- The program of a list of units (ISO C99, 5.1.1.1, 6.2.2p2): what has external linkage and one name is one thing.
use Rattle.std.specs.Prelude.{ℕ, zero, suc, ◌+◌, ◌==◌, ◌&&◌, Bool, true, false, if◌then◌else◌, List, [], ◌∷◌, ◌++◌, map, Option, Some, None, is_some, is_none, option_map, bytes_eq}
use Rattle.std.specs.List.{find}
use Rattle.cx_core.specs.Linked.{is_external}
use Rattle.cx_core.specs.Trees.{CTyForm, function, listed, form_of_type, CTypes, no_types_yet, CObject, CFun, COuter, CProgram, CMention, CUnit}
use Rattle.cx_renumber.specs.Numbers.{CCounts, no_counts, together, counts_of, CNumbers, record_there, object_there, function_there, outer_there, order_there, mention_there}

-- ---- the thing of an external name

-- something of a unit, with the unit and its number from 0
pub record CFound (A : Type 0) : Type 0 where
  pub unit : ℕ
  pub home : CUnit
  pub thing : A

abbrev pub found_or : {A : Type 0} → ℕ → CUnit → Option A → Option (CFound A) → Option (CFound A)
found_or unit home (Some thing) others = Some (record { unit = unit; home = home; thing = thing })
found_or unit home None others = others

-- in the first unit that has it, where the first of the list has a number
abbrev pub first_unit : {A : Type 0} → (CUnit → Option A) → ℕ → List CUnit → Option (CFound A)
first_unit finds unit [] = None
first_unit finds unit (one ∷ others) = found_or unit one (finds one) (first_unit finds (suc unit) others)

abbrev pub or_other : {A : Type 0} → Option A → Option A → Option A
or_other (Some one) other = Some one
or_other None other = other

abbrev pub has_name : List ℕ → Option (List ℕ) → Bool
has_name name None = false
has_name name (Some other) = bytes_eq name other

-- an object and a function with an external name, in a unit
abbrev pub is_object_named : List ℕ → CObject → Bool
is_object_named name one = is_external one.linkage && has_name name one.name

abbrev pub declared_object : List ℕ → CUnit → Option CObject
declared_object name one = find (is_object_named name) one.objects

abbrev pub defined_object : List ℕ → CUnit → Option CObject
defined_object name one = find (λ known. is_object_named name known && is_some known.puts) one.objects

abbrev pub defined_function : List ℕ → CUnit → Option CFun
defined_function name one = find (λ known. is_external known.linkage && bytes_eq name known.name) one.functions

abbrev pub declared_function : List ℕ → CUnit → Option COuter
declared_function name one = find (λ known. is_external known.linkage && bytes_eq name known.name) one.externals

-- a function type tells the types of its parameters (6.7.5.3p14)
abbrev pub lists_params : CTyForm → Bool
lists_params (function result (listed params) variadic) = true
lists_params _ = false

abbrev pub is_prototype : COuter → Bool
is_prototype one = lists_params (form_of_type one.type)

abbrev pub prototyped_function : List ℕ → CUnit → Option COuter
prototyped_function name one = find (λ known. (is_external known.linkage && is_prototype known) && bytes_eq name known.name) one.externals

-- what stands for the name of an object: what the unit has that defines it, else the first that declares it
abbrev pub object_of_name : List CUnit → List ℕ → Option (CFound CObject)
object_of_name units name = or_other (first_unit (defined_object name) 0 units) (first_unit (declared_object name) 0 units)

abbrev pub function_of_name : List CUnit → List ℕ → Option (CFound CFun)
function_of_name units name = first_unit (defined_function name) 0 units

-- what stands for the name of a function that no unit defines: the first declaration with a list of parameters, since arguments are passed by it, else the
-- first (6.2.7p3, 6.5.2.2p6)
abbrev pub outer_of_name : List CUnit → List ℕ → Option (CFound COuter)
outer_of_name units name = or_other (first_unit (prototyped_function name) 0 units) (first_unit (declared_function name) 0 units)

-- ---- numbers

-- how many numbers the first units of a list take
abbrev pub counts_before : ℕ → List CUnit → CCounts
counts_before zero units = no_counts
counts_before (suc count) [] = no_counts
counts_before (suc count) (one ∷ others) = together (counts_of one) (counts_before count others)

abbrev pub object_at : List CUnit → ℕ → ℕ → ℕ
object_at units unit number = (counts_before unit units).objects + number

abbrev pub function_at : List CUnit → ℕ → ℕ → ℕ
function_at units unit number = (counts_before unit units).functions + number

abbrev pub object_by : List CUnit → ℕ → Option (CFound CObject) → ℕ
object_by units own None = own
object_by units own (Some found) = object_at units found.unit found.thing.object

abbrev pub object_as : List CUnit → ℕ → Option CObject → ℕ
object_as units own None = own
object_as units own (Some one) = if is_external one.linkage then object_by units own (named one.name) else own
  where
    named : Option (List ℕ) → Option (CFound CObject)
    named None = None
    named (Some name) = object_of_name units name

-- the object of the program for the object with a number of a unit
abbrev pub object_number : List CUnit → CUnit → ℕ → ℕ → ℕ
object_number units one unit number = object_as units (object_at units unit number) (find (λ known. known.object == number) one.objects)

abbrev pub outer_by : List CUnit → ℕ → Option (CFound COuter) → ℕ
outer_by units own None = own
outer_by units own (Some found) = function_at units found.unit found.thing.function

abbrev pub function_by : List CUnit → List ℕ → ℕ → Option (CFound CFun) → ℕ
function_by units name own (Some found) = function_at units found.unit found.thing.function
function_by units name own None = outer_by units own (outer_of_name units name)

-- a function that a unit declares and doesn't define
abbrev pub function_as : List CUnit → ℕ → Option COuter → ℕ
function_as units own None = own
function_as units own (Some one) = if is_external one.linkage then function_by units one.name own (function_of_name units one.name) else own

abbrev pub function_number : List CUnit → CUnit → ℕ → ℕ → ℕ
function_number units one unit number =
    function_as units (function_at units unit number) (find (λ known. known.function == number) one.externals)

-- what the numbers of a unit become, which has a number itself
abbrev pub numbers_of : List CUnit → CUnit → ℕ → CNumbers
numbers_of units one unit = record {
  before = counts_before unit units;
  object_for = object_number units one unit;
  function_for = function_number units one unit;
}

-- ---- the parts of the program

-- what each unit gives, one behind another
abbrev pub from_each : {A : Type 0} → (CUnit → ℕ → List A) → ℕ → List CUnit → List A
from_each gives unit [] = []
from_each gives unit (one ∷ others) = gives one unit ++ from_each gives (suc unit) others

abbrev pub types_with : CTypes → CTypes → CTypes
types_with first second = record {
  records = first.records ++ second.records;
  record_tags = first.record_tags ++ second.record_tags;
  record_units = first.record_units ++ second.record_units;
  enums = first.enums ++ second.enums;
  enum_units = first.enum_units ++ second.enum_units;
}

abbrev pub own_types : CCounts → CTypes → CTypes
own_types before types = record types { records = map (option_map (record_there before)) types.records }

abbrev pub types_from : List CUnit → ℕ → List CUnit → CTypes
types_from units unit [] = no_types_yet
types_from units unit (one ∷ others) = types_with (own_types (counts_before unit units) one.types) (types_from units (suc unit) others)

abbrev pub types_of_all : List CUnit → CTypes
types_of_all units = types_from units 0 units

-- whether something is found in the unit with a number
abbrev pub is_in : {A : Type 0} → ℕ → Option (CFound A) → Bool
is_in unit None = false
is_in unit (Some found) = found.unit == unit

abbrev pub there : List CUnit → Option (CFound CObject) → List CObject
there units None = []
there units (Some found) = object_there (numbers_of units found.home found.unit) found.thing ∷ []

-- the object of an external name stands in the unit that defines it, and where none does, in the first that declares it: there where
-- that unit declares it first (6.2.2p2, 6.2.4)
abbrev pub external_object : List CUnit → ℕ → Option (List ℕ) → List CObject
external_object units unit None = []
external_object units unit (Some name) =
    if is_in unit (object_of_name units name) then there units (object_of_name units name) else []

abbrev pub objects_from : List CUnit → CUnit → ℕ → List CObject → List CObject
objects_from units one unit [] = []
objects_from units one unit (known ∷ others) =
    (if is_external known.linkage then external_object units unit known.name else object_there (numbers_of units one unit) known ∷ [])
    ++ objects_from units one unit others

-- a function that no unit defines stands in the unit whose declaration stands for its name
abbrev pub is_left : List CUnit → ℕ → COuter → Bool
is_left units unit known =
    is_external known.linkage
    && (is_none (function_of_name units known.name) && is_in unit (outer_of_name units known.name))

abbrev pub outers_from : List CUnit → CUnit → ℕ → List COuter → List COuter
outers_from units one unit [] = []
outers_from units one unit (known ∷ others) =
    (if is_left units unit known then outer_there (numbers_of units one unit) known ∷ [] else []) ++ outers_from units one unit others

-- the program
unfoldable pub linked : List CUnit → CProgram
linked units = record {
  types = types_of_all units;
  objects = from_each (λ one unit. objects_from units one unit one.objects) 0 units;
  functions = from_each (λ one unit. map (function_there (numbers_of units one unit)) one.functions) 0 units;
  externals = from_each (λ one unit. outers_from units one unit one.externals) 0 units;
  orders = from_each (λ one unit. order_there (numbers_of units one unit) one.order ∷ []) 0 units;
}

-- all mentions, unit by unit
abbrev pub mentions_from : ℕ → List CUnit → List CUnit → List CMention
mentions_from unit units others = from_each (λ one unit. map (mention_there (counts_before unit units) unit) one.mentions) unit others

abbrev pub all_mentions : List CUnit → List CMention
all_mentions units = mentions_from 0 units units
