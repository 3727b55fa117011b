-- The type that specifiers give is known (ISO C99, 6.7.2, 6.7.3).
use Rattle.std.specs.Prelude.{ℕ, List}
use Rattle.cx_core.specs.Trees.{CTypes}
use Rattle.cx_rules.specs.Shapes.{CSpecs, base_type}
use Rattle.cx_typed.specs.Operands.{IsKnownType}
use Rattle.cx_typed.specs.Specifiers.{AreKnownTypes}

abbrev pub SpecifiedTypesAreKnown : Type 0
SpecifiedTypesAreKnown = (opens : List ℕ) (types : CTypes) (unit : ℕ) (specs : CSpecs) → AreKnownTypes opens types unit specs.types → IsKnownType opens types unit (base_type specs)
