use Rattle.cx_typed_work.proofs.Resuming.{calls_resume_typed}
use Rattle.cx_typed_work.proofs.calls_resume_typed.Goals as goal

pub returns : goal.returns
returns c = calls_resume_typed
