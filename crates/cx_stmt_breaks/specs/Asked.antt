-- What rules of statements ask of operands, each by a word that proofs open only where it is answered. Named by the contracts of parts
-- alone.
use Rattle.std.specs.Prelude.{ℤ, Bool, not, List, Option}
use Rattle.cx_core.specs.Trees.{CTy, CTypes}
use Rattle.cx_rules.specs.Operands.{COperand, value_of, value_type}
use Rattle.cx_rules.specs.Pairs.{is_assignable}
use Rattle.cx_rules.specs.Rules.{not_case, not_constant}
use Rattle.cx_rules.specs.Types.{is_integer, is_scalar}

unfoldable pub has_scalar : CTypes → COperand → Bool
has_scalar types value = is_scalar types (value_type value)

unfoldable pub has_integer : CTypes → COperand → Bool
has_integer types value = is_integer types (value_type value)

unfoldable pub is_unconstant : CTypes → COperand → Bool
is_unconstant types value = not_constant types value

unfoldable pub is_misfit : CTypes → CTy → COperand → Bool
is_misfit types result value = not (is_assignable types result (value_of value))

unfoldable pub is_no_case : CTypes → Option CTy → COperand → List ℤ → Bool
is_no_case types switch value before = not_case types switch value before
