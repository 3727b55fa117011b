use Rattle.cx_typed.proofs.Params.{params_go}
use Rattle.cx_typed.proofs.parameter_forms_are_known.Goals as goal

pub returns : goal.returns
returns c = params_go
