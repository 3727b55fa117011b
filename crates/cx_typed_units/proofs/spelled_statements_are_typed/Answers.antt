use Rattle.cx_typed_units.proofs.SpelledStatements.{spelled_statements}
use Rattle.cx_typed_units.proofs.spelled_statements_are_typed.Goals as goal

pub returns : goal.returns
returns c = spelled_statements
