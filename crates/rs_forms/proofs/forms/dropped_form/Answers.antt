use Rattle.rs_forms.proofs.OpenedExprs.{dropped_runs, dropped_by_runs}
use Rattle.rs_forms.proofs.forms.dropped_form.Goals as goal

pub returns-in-Call : goal.returns-in-Call
returns-in-Call c = λ frame. dropped_runs frame c.args.value.now c.in-Call.path c.in-Call.args c.in-Call.is

pub returns-in-CallBy : goal.returns-in-CallBy
returns-in-CallBy c = λ frame. dropped_by_runs frame c.args.value.now c.in-CallBy.operand c.get.result.now c.in-CallBy.args c.in-CallBy.is c.get.ensures
