use Rattle.std.proofs.Common.{◌≡◌, length}
use Rattle.cx_mean.specs.Moves.{next_of}
use Rattle.cx_moves.specs.Sites.{view_site}
use Rattle.cx_moves.proofs.turns.next_of.Given as goal

abbrev pub decreases-loop-level : goal.decreases-loop-level
decreases-loop-level g l = length (view_site l.site).levels

-- what follows now is what followed at first
abbrev pub invariant-loop-level : goal.invariant-loop-level
invariant-loop-level g l = record {
  next : next_of (view_site l.site) (g.S.Store.memory l.store) ≡ next_of (view_site l.fn.site) (g.S.Store.memory l.fn.store);
  limit : g.S.Store.limit l.store ≡ g.S.Store.limit l.fn.store;
}
