-- Arguments against a parameter list. Named by the contracts of parts alone.
use Rattle.std.specs.Prelude.{Bool, false, List}
use Rattle.cx_core.specs.Trees.{CTypes, CParams, unlisted, listed}
use Rattle.cx_rules.specs.Operands.{COperand}
use Rattle.cx_rules.specs.Rules.{some_unassignable}

abbrev pub params_unassignable : CTypes → CParams → List COperand → Bool
params_unassignable types unlisted args = false
params_unassignable types (listed params) args = some_unassignable types params args
