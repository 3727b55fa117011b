-- What a unit that breaks no rule orders by its first declarations is there (ISO C99, 6.2.2).
use Rattle.std.specs.Prelude.{◌≡◌, ℕ, None, IsSome, All}
use Rattle.cx_core.specs.Linked.{program_of}
use Rattle.cx_core.specs.Trees.{CKey, a_function, an_object, a_record, a_calloc, CProgram}
use Rattle.cx_core.specs.Typing.{callee_with, object_with}
use Rattle.cx_rules.specs.Units.{seen_unit, broken_unit}
use Rattle.cx_tree.specs.Trees.{UnitTree}
use Rattle.cx_typed_files.specs.FileUnits.{AreSpelledExternals}

-- a function that is defined or declared, or an object
abbrev pub IsKeyOf : CProgram → CKey → Type 0
IsKeyOf program (a_function number) = IsSome (callee_with number program)
IsKeyOf program (an_object number) = IsSome (object_with number program.objects)
IsKeyOf program (a_record number) = ⊥
IsKeyOf program a_calloc = ⊥

-- so is each key of a unit that tokens can spell and in which no node is broken
abbrev pub OrderedThingsAreThere : Type 0
OrderedThingsAreThere = (number : ℕ) (tree : UnitTree) → AreSpelledExternals tree.parts → broken_unit number tree ≡ None
    → All (IsKeyOf (program_of (seen_unit number tree).meaning)) (seen_unit number tree).meaning.order.things
