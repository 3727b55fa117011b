use Rattle.cx_typed_work.proofs.Begun.{typed_work_begun}
use Rattle.cx_typed_work.proofs.expressions_begin_typed.Goals as goal

pub returns : goal.returns
returns c = typed_work_begun
