use Rattle.cx_stays.proofs.QuietRuns.{quiet_calls_leave_rest}
use Rattle.cx_stays.proofs.quiet_calls_leave_rest.Goals as goal

pub returns : goal.returns
returns c = quiet_calls_leave_rest
