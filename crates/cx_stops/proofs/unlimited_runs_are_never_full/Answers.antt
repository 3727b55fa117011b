use Rattle.cx_stops.proofs.Full.{unlimited_runs_are_never_full}
use Rattle.cx_stops.proofs.unlimited_runs_are_never_full.Goals as goal

pub returns : goal.returns
returns c = unlimited_runs_are_never_full
