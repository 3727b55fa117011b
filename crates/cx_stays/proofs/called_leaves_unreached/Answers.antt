use Rattle.cx_stays.proofs.CalledRuns.{called_leaves_unreached}
use Rattle.cx_stays.proofs.called_leaves_unreached.Goals as goal

pub returns : goal.returns
returns c = called_leaves_unreached
