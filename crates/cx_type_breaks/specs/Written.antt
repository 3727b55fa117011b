-- What rules ask of constants that may be written, each by a word that proofs open only where it is answered. Named by the contracts
-- of parts alone.
use Rattle.std.specs.Prelude.{ℤ, Bool, false, Option, None, Some}
use Rattle.cx_breaks.specs.Asked.{lacks_value, is_fixed}
use Rattle.cx_core.specs.Trees.{CTypes}
use Rattle.cx_rules.specs.Operands.{COperand}
use Rattle.cx_rules.specs.Rules.{is_given, not_constant, constant_in}

unfoldable pub is_unconstant : CTypes → Option COperand → Bool
is_unconstant types written = is_given (not_constant types) written

unfoldable pub constant_written : CTypes → Option COperand → Option ℤ
constant_written types written = constant_in types written

unfoldable pub lacks_written : CTypes → Option COperand → Bool
lacks_written types None = false
lacks_written types (Some one) = lacks_value types one

unfoldable pub is_fixed_written : Option COperand → Bool
is_fixed_written None = false
is_fixed_written (Some one) = is_fixed one
