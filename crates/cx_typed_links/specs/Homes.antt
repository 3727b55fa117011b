-- The place of an expression in a unit by itself, and in the program of which the unit is a part; and what names of the unit mean there (ISO C99,
-- 6.2.2, 6.5.1).
use Rattle.std.specs.Prelude.{◌≡◌, ℕ, List, map, Option, None, Some, IsSome}
use Rattle.cx_core.specs.declared.program.Linkage.TheVariants.{Nothing}
use Rattle.cx_core.specs.Trees.{CTy, CExprs, CObject, CProgram, CMention}
use Rattle.cx_core.specs.Typing.{CHome, object_with, IsNamed, IsCodeOf, IsCallee, AreTyped, IsStaticObject}
use Rattle.cx_core.specs.ValidTypes.{IsTypeIn}
use Rattle.cx_renumber.specs.Numbers.{CNumbers, type_there, exprs_there, object_there}
use Rattle.cx_typed_links.specs.Embedding.{AreUnitTypes}

module _ (unit : ℕ) (numbers : CNumbers) (mentions : Option (List CMention)) (one whole : CProgram) where
  -- in the unit by itself, in blocks with these objects
  abbrev pub home_here : List ℕ → CHome
  home_here scope = record { program = one; mentions = mentions; unit = unit; scope = scope }

  -- in the program
  abbrev pub home_there : List ℕ → CHome
  home_there scope = record { program = whole; mentions = None; unit = unit; scope = map numbers.object_for scope }

  -- a use of a name in the unit is one in the program
  pub record UsesHold : Type 0 where
    pub objects : (scope : List ℕ) (type : CTy) (number : ℕ) → IsTypeIn one.types unit type → IsNamed (home_here scope) type number
        → IsNamed (home_there scope) (type_there numbers.before type) (numbers.object_for number)
    pub codes : (scope : List ℕ) (number : ℕ) (type : CTy) → IsTypeIn one.types unit type → IsCodeOf (home_here scope) number type
        → IsCodeOf (home_there scope) (numbers.function_for number) (type_there numbers.before type)
    pub callees : (scope : List ℕ) (number : ℕ) (type : CTy) (args : CExprs) → IsTypeIn one.types unit type → AreTyped (home_here scope) args
        → IsCallee (home_here scope) number type args
        → IsCallee (home_there scope) (numbers.function_for number) (type_there numbers.before type) (exprs_there numbers args)

  -- what a name of the unit means is what its renumbered name means in the program
  pub record NamesHold : Type 0 where
    pub types : AreUnitTypes unit numbers.before one.types whole.types
    -- an object without linkage is the unit's own
    pub own_objects : (number : ℕ) (known : CObject) → object_with number one.objects ≡ Some known → known.linkage ≡ Nothing
        → object_with (numbers.object_for number) whole.objects ≡ Some (object_there numbers known)
    pub statics : (number : ℕ) → IsSome (object_with number one.objects) → IsStaticObject one number → IsStaticObject whole (numbers.object_for number)
    pub uses : UsesHold
