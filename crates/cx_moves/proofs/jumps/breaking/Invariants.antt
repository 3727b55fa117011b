use Rattle.std.proofs.Common.{◌≡◌, length}
use Rattle.cx_moves.specs.Moving.{breaks_at}
use Rattle.cx_moves.specs.Sites.{view_site}
use Rattle.cx_moves.proofs.jumps.breaking.Given as goal

abbrev pub decreases-loop-level : goal.decreases-loop-level
decreases-loop-level g l = length (view_site l.site).levels

-- where it leads from here, it leads from the start
abbrev pub invariant-loop-level : goal.invariant-loop-level
invariant-loop-level g l = record {
  next : breaks_at l.place (view_site l.site) (g.S.Store.memory l.store) ≡ breaks_at l.place (view_site l.fn.site) (g.S.Store.memory l.fn.store);
  limit : g.S.Store.limit l.store ≡ g.S.Store.limit l.fn.store;
}
