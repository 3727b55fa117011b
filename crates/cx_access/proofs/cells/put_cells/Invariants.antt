use Rattle.std.proofs.Common.{◌≡◌}
use Rattle.cx_access.proofs.Celled.{IsPut}
use Rattle.cx_access.proofs.cells.put_cells.Given as goal

abbrev pub invariant-loop-index : goal.invariant-loop-index
invariant-loop-index g l = record {
  put : IsPut (g.S.Store.memory l.fn.store) (g.S.Store.memory l.store) l.at l.cells l.index;
  limit : g.S.Store.limit l.store ≡ g.S.Store.limit l.fn.store;
}
