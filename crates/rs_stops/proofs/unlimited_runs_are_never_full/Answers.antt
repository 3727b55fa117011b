use Rattle.rs_stops.proofs.Unlimited.{unlimited_runs_are_never_full}
use Rattle.rs_stops.proofs.unlimited_runs_are_never_full.Goals as goal

pub returns : goal.returns
returns c = unlimited_runs_are_never_full
