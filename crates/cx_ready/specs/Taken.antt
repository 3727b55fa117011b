-- Operands that are taken one after the other.
use Rattle.std.specs.Prelude.{◌≡◌, List, [], ◌∷◌, ◌++◌, Option, Some, None}
use Rattle.cx_ready.specs.declared.operands.Pair.{Pair}
use Rattle.cx_work.specs.declared.operand.Operand.{Operand}

abbrev pub IsPaired : Option Operand → Option Operand → Option Pair → Type 0
IsPaired first second None = Unit {0}
IsPaired first second (Some both) = (first ≡ Some both.first) × (second ≡ Some both.second)

abbrev pub IsLonger : Option (List Operand) → Option Operand → Option (List Operand) → Type 0
IsLonger others last None = Unit {0}
IsLonger None last (Some list) = ⊥
IsLonger (Some others) None (Some list) = ⊥
IsLonger (Some others) (Some last) (Some list) = list ≡ others ++ last ∷ []
