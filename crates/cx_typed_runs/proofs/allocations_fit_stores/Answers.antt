use Rattle.cx_typed_runs.proofs.BlockRuns.{allocations_fit_stores}
use Rattle.cx_typed_runs.proofs.allocations_fit_stores.Goals as goal

pub returns : goal.returns
returns c = allocations_fit_stores
