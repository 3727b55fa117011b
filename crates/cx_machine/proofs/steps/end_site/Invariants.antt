use Rattle.std.proofs.Common.{◌≡◌, length}
use Rattle.cx_mean.specs.Moves.{without_objects, slots_of_site}
use Rattle.cx_moves.specs.Sites.{view_site}
use Rattle.cx_machine.proofs.steps.end_site.Given as goal

abbrev pub decreases-loop-level : goal.decreases-loop-level
decreases-loop-level g l = length (view_site l.site).levels

-- what is left to die, dead now, is all of them dead at first
abbrev pub invariant-loop-level : goal.invariant-loop-level
invariant-loop-level g l = record {
  blocks : without_objects (slots_of_site (view_site l.site)) (g.S.Store.memory l.store) ≡ without_objects (slots_of_site (view_site l.fn.site)) (g.S.Store.memory l.fn.store);
  limit : g.S.Store.limit l.store ≡ g.S.Store.limit l.fn.store;
}
