use Rattle.cx_units.specs.Sources.{AreSpelled, StopsUnit}
use Rattle.cx_units.proofs.Steps.{kept_error, syntax_stops}
use Rattle.cx_units.proofs.checked.typed.Goals as goal

pub returns-in_err-tree-clause-refused : goal.returns-in_err-tree-clause-refused
returns-in_err-tree-clause-refused c =
    kept_error (StopsUnit c.args.unit (AreSpelled c.args.tokens.now)) c.in_err-tree.field-0.0 c.from_residual.result c.from_residual.ensures.1
    (syntax_stops c.args.unit c.args.tokens.now c.in_err-tree.field-0.0 c.in_err-tree.ensures.refused)
