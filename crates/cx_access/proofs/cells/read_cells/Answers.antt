use Rattle.cx_access.proofs.Celled.{read_on, read_at_end}
use Rattle.cx_access.proofs.cells.read_cells.Goals as goal

pub loop-index-preserved : goal.loop-index-preserved
loop-index-preserved g c = read_on _ _ _ _ _ _ _ c.loop-index-test.true c.in_ok-cell_behind.ensures c.in_ok-push.ensures.ok c.loop-index.invariant

pub returns : goal.returns
returns g c = read_at_end _ _ _ _ _ c.loop-index-test.false c.loop-index.invariant
