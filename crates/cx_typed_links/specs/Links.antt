-- What units that break no rule together have in common (ISO C99, 6.2.2p2, 6.2.7p2, 6.9p5).
use Rattle.std.specs.Prelude.{◌≡◌, ℕ, List, None, Some, slice_get, All}
use Rattle.cx_core.specs.Linked.{IsLinked, IsTypedOuter}
use Rattle.cx_core.specs.Trees.{CUnit}
use Rattle.cx_links.specs.Program.{linked}
use Rattle.cx_links.specs.Rules.{broken_links}
use Rattle.cx_typed_files.specs.Covered.{IsMentionCovered}
use Rattle.cx_typed_files.specs.Defining.{IsDefinitionThere}
use Rattle.cx_typed_links.specs.Laws.{AreTypedUnits, UsesHoldIn}

-- what a unit declares says all that its mentions say
abbrev pub AreCoveredUnits : List CUnit → Type 0
AreCoveredUnits units = (unit : ℕ) (one : CUnit) → slice_get units unit ≡ Some one → All (IsMentionCovered one) one.mentions

-- what a mention says that a unit defines, the unit defines
abbrev pub AreDefiningUnits : List CUnit → Type 0
AreDefiningUnits units = (unit : ℕ) (one : CUnit) → slice_get units unit ≡ Some one → All (IsDefinitionThere one) one.mentions

-- ---- linked units

-- a use of a name in a unit is one in the program
abbrev pub UsesHoldWhereLinked : Type 0
UsesHoldWhereLinked = (units : List CUnit) → AreTypedUnits units → AreCoveredUnits units → AreDefiningUnits units → broken_links units ≡ None → UsesHoldIn units

-- what no unit defines is an external function of the profile
abbrev pub ExternalsAreTyped : Type 0
ExternalsAreTyped = (units : List CUnit) → AreTypedUnits units → AreDefiningUnits units → broken_links units ≡ None
    → All (IsTypedOuter (linked units).types) (linked units).externals

-- and the units together are a typed and linked program
abbrev pub LinkedUnitsMakePrograms : Type 0
LinkedUnitsMakePrograms = (units : List CUnit) → AreTypedUnits units → AreCoveredUnits units → AreDefiningUnits units → broken_links units ≡ None → IsLinked (linked units)
