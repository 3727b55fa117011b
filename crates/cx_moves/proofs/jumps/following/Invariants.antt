use Rattle.std.proofs.Common.{◌≡◌, length}
use Rattle.cx_mean.specs.Moves.{following}
use Rattle.cx_moves.specs.Sites.{view_site}
use Rattle.cx_moves.specs.Ways.{view_way}
use Rattle.cx_moves.proofs.jumps.following.Given as goal

abbrev pub decreases-loop-one : goal.decreases-loop-one
decreases-loop-one l = length l.site.way

-- what is left of the way leads where all of it leads
abbrev pub invariant-loop-one : goal.invariant-loop-one
invariant-loop-one l = following (view_way l.target l.site.way) (view_site l.site) ≡ following (view_way l.target l.fn.site.way) (view_site l.fn.site)
