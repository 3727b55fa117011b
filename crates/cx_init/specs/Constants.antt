-- Operators of address constants. Named by the contracts of parts alone.
use Rattle.std.specs.Prelude.{Bool, true, false}
use Rattle.cx_core.specs.declared.expr.Op2.{Op2}
use Rattle.cx_core.specs.declared.expr.Op2.TheVariants as op2

abbrev pub adds : Op2 → Bool
adds op2.Add = true
adds op2.Subtract = true
adds _ = false
