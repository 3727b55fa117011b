-- The things of a program of typed units stand unit by unit, and what its units order is there (ISO C99, 6.2.2p2).
use Rattle.std.specs.Prelude.{◌≡◌, ◌⊎◌, ◌<◌, ℕ, false, List, length, map, None, Some, IfSome, slice_get, All}
use Rattle.cx_core.specs.Linked.{is_external, program_of}
use Rattle.cx_core.specs.Trees.{CKey, a_function, an_object, a_record, a_calloc, CUnit}
use Rattle.cx_core.specs.Typing.{function_with, outer_with}
use Rattle.cx_links.specs.Laws.{AscendFrom}
use Rattle.cx_links.specs.Program.{linked, numbers_of}
use Rattle.cx_renumber.specs.Numbers.{key_there}
use Rattle.cx_typed_files.specs.Ordered.{IsKeyOf}
use Rattle.cx_typed_links.specs.Laws.{AreTypedUnits}

-- the objects stand unit by unit, and the unit of each object and of each function is one of those that were linked
abbrev pub TypedUnitsStandInOrder : Type 0
TypedUnitsStandInOrder = (units : List CUnit) → AreTypedUnits units
    → AscendFrom 0 (map (λ object. object.unit) (linked units).objects)
    × All (λ object. object.unit < length units) (linked units).objects
    × All (λ fun. fun.unit < length units) (linked units).functions

-- a static function that a unit declares and doesn't define, which a program hasn't
abbrev pub IsLeftOut : CUnit → CKey → Type 0
IsLeftOut one (a_function number) =
    (function_with number one.functions ≡ None) × IfSome (outer_with number one.externals) (λ outer. is_external outer.linkage ≡ false)
IsLeftOut one (an_object number) = ⊥
IsLeftOut one (a_record number) = ⊥
IsLeftOut one a_calloc = ⊥

-- what a unit orders is there in the program, under its number there
abbrev pub OrderedThingsStand : Type 0
OrderedThingsStand = (units : List CUnit) → AreTypedUnits units → (unit : ℕ) (one : CUnit) → slice_get units unit ≡ Some one
    → (key : CKey) → IsKeyOf (program_of one) key → IsKeyOf (linked units) (key_there (numbers_of units one unit) key) ⊎ IsLeftOut one key
