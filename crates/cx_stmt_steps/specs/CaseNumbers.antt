-- The value of a `case` label in the innermost `switch`.
use Rattle.std.specs.Prelude.{ℤ, Option, None, Some}
use Rattle.cx_core.specs.Trees.{CTy, CTypes}
use Rattle.cx_rules.specs.Operands.{COperand}
use Rattle.cx_rules.specs.Rules.{case_value}

abbrev pub case_for : CTypes → Option CTy → COperand → Option ℤ
case_for types None value = None
case_for types (Some type) value = case_value types type value
