use Rattle.cx_typed_runs.proofs.BlockRuns.{objects_fit_stores}
use Rattle.cx_typed_runs.proofs.objects_fit_stores.Goals as goal

pub returns : goal.returns
returns c = objects_fit_stores
