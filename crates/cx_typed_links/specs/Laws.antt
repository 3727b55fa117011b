-- What holds in a unit holds in the program of which the unit is a part (ISO C99, 5.1.1.1, 6.2.7).
use Rattle.std.specs.Prelude.{◌≡◌, ℕ, List, Option, None, Some, slice_get, All}
use Rattle.cr_base.specs.declared.layout.Spot.{Spot}
use Rattle.cx_core.specs.Compatible.{AreCompatible}
use Rattle.cx_core.specs.Conversions.{basic_of, promoted, scalar_of}
use Rattle.cx_core.specs.Layouts.{extent, layouts_of}
use Rattle.cx_core.specs.Linked.{program_of, AreNumbered, IsLinked, IsTypedOuter, IsTypedUnit, IsTypedObject, IsTypedFunction}
use Rattle.cx_core.specs.Trees.{CTy, form_of_type, CExpr, CTypes, CObject, CFun, CProgram, CMention, CUnit}
use Rattle.cx_core.specs.Typing.{IsTyped, IsLvalue}
use Rattle.cx_core.specs.ValidTypes.{IsTypeIn, IsMemberOf, IsPartOf, IsModifiable, AreTypes}
use Rattle.cx_links.specs.Program.{counts_before, types_of_all, numbers_of, linked}
use Rattle.cx_links.specs.Rules.{broken_links}
use Rattle.cx_renumber.specs.Numbers.{CCounts, CNumbers, type_there, expr_there, object_there, function_there}
use Rattle.cx_typed_links.specs.Embedding.{AreUnitTypes}
use Rattle.cx_typed_links.specs.Homes.{home_here, home_there, UsesHold, NamesHold}

-- ---- types

-- what is known of a type of a unit is known of the renumbered type in the program
pub record HoldsOfType (unit : ℕ) (before : CCounts) (one whole : CTypes) (type : CTy) : Type 0 where
  pub type_in : IsTypeIn whole unit (type_there before type)
  pub size : extent (layouts_of whole) (type_there before type) ≡ extent (layouts_of one) type
  pub basic : basic_of whole (form_of_type (type_there before type)) ≡ basic_of one (form_of_type type)
  pub scalar : scalar_of whole (form_of_type (type_there before type)) ≡ scalar_of one (form_of_type type)
  pub promotes : (bits : Option ℕ) → promoted whole (type_there before type) bits ≡ type_there before (promoted one type bits)
  pub compatible : (other : CTy) → AreCompatible one type other → AreCompatible whole (type_there before type) (type_there before other)
  pub members : (spot : Spot) (member : CTy) → IsMemberOf one type spot member → IsMemberOf whole (type_there before type) spot (type_there before member)
  pub parts : (spot : Spot) (part : CTy) → IsPartOf one type spot part → IsPartOf whole (type_there before type) spot (type_there before part)
  pub modifiable : IsModifiable one type → IsModifiable whole (type_there before type)

-- each unit of a list is typed, by its number from 0 on
abbrev pub AreTypedUnits : List CUnit → Type 0
AreTypedUnits units = (unit : ℕ) (one : CUnit) → slice_get units unit ≡ Some one → IsTypedUnit unit one

-- the types of a program are types that C allows
abbrev pub ProgramTypesAreAllowed : Type 0
ProgramTypesAreAllowed = (units : List CUnit) → AreTypedUnits units → AreTypes (types_of_all units)

-- those of each unit stand inside those of the program
abbrev pub UnitTypesStand : Type 0
UnitTypesStand = (units : List CUnit) → AreTypedUnits units → (unit : ℕ) (one : CUnit) → slice_get units unit ≡ Some one
    → AreUnitTypes unit (counts_before unit units) one.types (types_of_all units)

abbrev pub UnitTypesHold : Type 0
UnitTypesHold = (unit : ℕ) (before : CCounts) (one whole : CTypes) → AreUnitTypes unit before one whole
    → (type : CTy) → IsTypeIn one unit type → HoldsOfType unit before one whole type

-- ---- expressions, statements and things, where names mean in the program what they mean in the unit

-- a typed expression of a unit, renumbered, is typed in the program, and an lvalue stays one
abbrev pub ExpressionsStayTyped : Type 0
ExpressionsStayTyped = (unit : ℕ) (numbers : CNumbers) (mentions : Option (List CMention)) (one whole : CProgram) → NamesHold unit numbers mentions one whole
    → (scope : List ℕ) (of : CExpr)
    → (IsTyped (home_here unit numbers mentions one whole scope) of → IsTyped (home_there unit numbers mentions one whole scope) (expr_there numbers of))
    × (IsLvalue (home_here unit numbers mentions one whole scope) of → IsLvalue (home_there unit numbers mentions one whole scope) (expr_there numbers of))

-- an object of a unit, and a function that it defines
abbrev pub ThingsStayTyped : Type 0
ThingsStayTyped = (unit : ℕ) (numbers : CNumbers) (mentions : Option (List CMention)) (one whole : CProgram) → NamesHold unit numbers mentions one whole
    → ((known : CObject) → known.unit ≡ unit → IsTypedObject one mentions known → IsTypedObject whole None (object_there numbers known))
    × ((known : CFun) → known.unit ≡ unit → IsTypedFunction one mentions known → IsTypedFunction whole None (function_there numbers known))

-- ---- programs of units

-- each use of a name in a unit is one in the program
abbrev pub UsesHoldIn : List CUnit → Type 0
UsesHoldIn units = (unit : ℕ) (one : CUnit) → slice_get units unit ≡ Some one
    → UsesHold unit (numbers_of units one unit) (Some one.mentions) (program_of one) (linked units)

-- then what a name means in a unit it means in the program
abbrev pub NamesHoldInPrograms : Type 0
NamesHoldInPrograms = (units : List CUnit) → AreTypedUnits units → UsesHoldIn units → (unit : ℕ) (one : CUnit) → slice_get units unit ≡ Some one
    → NamesHold unit (numbers_of units one unit) (Some one.mentions) (program_of one) (linked units)

-- and the objects and the functions of the program are typed
abbrev pub ProgramThingsAreTyped : Type 0
ProgramThingsAreTyped = (units : List CUnit) → AreTypedUnits units → UsesHoldIn units
    → All (IsTypedObject (linked units) None) (linked units).objects × All (IsTypedFunction (linked units) None) (linked units).functions

-- each number of the program stands for one thing
abbrev pub ProgramsAreNumbered : Type 0
ProgramsAreNumbered = (units : List CUnit) → AreTypedUnits units → AreNumbered (linked units)

-- and units that break no rule together make a typed and linked program, where each use of a name in a unit is one in the program, and what no unit
-- defines is an external function of the profile
abbrev pub UnitsMakePrograms : Type 0
UnitsMakePrograms = (units : List CUnit) → AreTypedUnits units → broken_links units ≡ None → UsesHoldIn units
    → All (IsTypedOuter (linked units).types) (linked units).externals → IsLinked (linked units)
