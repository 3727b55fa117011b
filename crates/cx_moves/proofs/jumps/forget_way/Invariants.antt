use Rattle.std.proofs.Common.{◌≡◌, length}
use Rattle.cx_moves.specs.Sites.{view_site}
use Rattle.cx_moves.proofs.jumps.forget_way.Given as goal

abbrev pub decreases-loop-one : goal.decreases-loop-one
decreases-loop-one l = length l.site.way

abbrev pub invariant-loop-one : goal.invariant-loop-one
invariant-loop-one l = view_site l.site ≡ view_site l.fn.site
