-- Which operands are function designators, by their kind.
use Rattle.std.specs.Prelude.{Bool, true, false}
use Rattle.cx_rules.specs.declared.kinds.OperandKind.{OperandKind}
use Rattle.cx_rules.specs.declared.kinds.OperandKind.TheVariants.{Value, Place, Function, VoidPlace}

abbrev pub designates : OperandKind → Bool
designates Function = true
designates Value = false
designates Place = false
designates VoidPlace = false
