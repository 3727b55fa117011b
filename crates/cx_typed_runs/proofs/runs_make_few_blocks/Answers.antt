use Rattle.cx_typed_runs.proofs.BlockRuns.{runs_make_few_blocks}
use Rattle.cx_typed_runs.proofs.runs_make_few_blocks.Goals as goal

pub returns : goal.returns
returns c = runs_make_few_blocks
