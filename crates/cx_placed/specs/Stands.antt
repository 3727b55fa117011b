-- What a unit means stands in that unit, and the program of a list of units stands in these (ISO C99, 5.1.1.1).
use Rattle.std.specs.Prelude.{◌≡◌, ℕ, ◌<◌, List, length, Some, slice_get}
use Rattle.cx_core.specs.Trees.{CUnit}
use Rattle.cx_links.specs.Program.{linked}
use Rattle.cx_placed.specs.Places.{StandIn}
use Rattle.cx_rules.specs.Units.{seen_unit}
use Rattle.cx_tree.specs.Trees.{UnitTree}

-- Law: every place in what the tree of a unit means is of the unit with that number, whether or not a node of the tree is broken
abbrev pub MeantTreesStandInTheirUnit : Type 0
MeantTreesStandInTheirUnit = (number : ℕ) (tree : UnitTree)
    → StandIn (λ unit. unit ≡ number) (seen_unit number tree).meaning.objects (seen_unit number tree).meaning.functions

-- each unit of a list stands in itself: in the unit that has its number there, from 0
abbrev pub StandInThemselves : List CUnit → Type 0
StandInThemselves units = (number : ℕ) (one : CUnit) → slice_get units number ≡ Some one → StandIn (λ unit. unit ≡ number) one.objects one.functions

-- Law: every place in their program is of one of them
abbrev pub LinkedTreesStandInUnits : Type 0
LinkedTreesStandInUnits = (units : List CUnit) → StandInThemselves units
    → StandIn (λ unit. unit < length units) (linked units).objects (linked units).functions
