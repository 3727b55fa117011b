use Rattle.cx_access.proofs.Celled.{IsRead}
use Rattle.cx_access.proofs.cells.read_cells.Given as goal

abbrev pub invariant-loop-index : goal.invariant-loop-index
invariant-loop-index g l = IsRead (g.S.Store.memory l.store) l.at l.count l.index l.cells
