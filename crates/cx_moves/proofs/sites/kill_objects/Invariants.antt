use Rattle.std.proofs.Common.{◌≡◌, drop}
use Rattle.cx_mean.specs.Moves.{without_objects}
use Rattle.cx_moves.proofs.sites.kill_objects.Given as goal

-- what is left to die, dead now, is all of them dead at first
abbrev pub invariant-loop-slot : goal.invariant-loop-slot
invariant-loop-slot g l = record {
  blocks : without_objects (drop l.slot-index l.slots) (g.S.Store.memory l.store) ≡ without_objects l.slots (g.S.Store.memory l.fn.store);
  limit : g.S.Store.limit l.store ≡ g.S.Store.limit l.fn.store;
}
