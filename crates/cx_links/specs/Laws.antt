-- Laws of linking.
use Rattle.std.specs.Prelude.{◌≡◌, ◌<◌, ◌≤◌, ℕ, suc, List, [], ◌∷◌, length, map, None, IsSome, All}
use Rattle.cx_core.specs.Linked.{main_of}
use Rattle.cx_core.specs.Trees.{CUnit}
use Rattle.cx_links.specs.Program.{linked}
use Rattle.cx_links.specs.Rules.{broken_links}

-- units that break no rule together have a `main`
abbrev pub LinkedUnitsHaveMain : Type 0
LinkedUnitsHaveMain = (units : List CUnit) → broken_links units ≡ None → IsSome (main_of (linked units))

-- each object and each function says the number of its unit, where the first unit of a list has a number
abbrev pub AreHere : ℕ → List CUnit → Type 0
AreHere unit [] = Unit {0}
AreHere unit (one ∷ others) =
    All (λ object. object.unit ≡ unit) one.objects × All (λ fun. fun.unit ≡ unit) one.functions × AreHere (suc unit) others

-- none is less than the one before it, and the first isn't less than a number
abbrev pub AscendFrom : ℕ → List ℕ → Type 0
AscendFrom least [] = Unit {0}
AscendFrom least (number ∷ others) = (least ≤ number) × AscendFrom number others

-- the objects of a program stand unit by unit
abbrev pub ObjectsStandUnitByUnit : Type 0
ObjectsStandUnitByUnit = (units : List CUnit) → AreHere 0 units → AscendFrom 0 (map (λ object. object.unit) (linked units).objects)

-- the unit of each object, and of each function, is one of those that were linked
abbrev pub UnitsAreBelowTheCount : Type 0
UnitsAreBelowTheCount = (units : List CUnit) → AreHere 0 units
    → All (λ object. object.unit < length units) (linked units).objects × All (λ fun. fun.unit < length units) (linked units).functions
