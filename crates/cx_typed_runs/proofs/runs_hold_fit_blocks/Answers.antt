use Rattle.cx_typed_runs.proofs.BlockRuns.{runs_hold_fit_blocks}
use Rattle.cx_typed_runs.proofs.runs_hold_fit_blocks.Goals as goal

pub returns : goal.returns
returns c = runs_hold_fit_blocks
