-- The types of arguments that no parameter takes, by a parameter list. Named by the contracts of parts alone.
use Rattle.std.specs.Prelude.{List, []}
use Rattle.cx_core.specs.Trees.{CTy, CTypes, CParams, unlisted, listed}
use Rattle.cx_rules.specs.Meanings.{trailing_from}
use Rattle.cx_rules.specs.Operands.{COperand}

abbrev pub trailing_in : CTypes → CParams → List COperand → List CTy
trailing_in types unlisted args = []
trailing_in types (listed params) args = trailing_from types params args
