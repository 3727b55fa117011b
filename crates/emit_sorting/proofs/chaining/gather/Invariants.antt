use Rattle.std.proofs.Common.{◌≡◌, map, length}
use Rattle.std.specs.Prelude.{reverse}
use Rattle.emit_nests.specs.Views.{nest_view}
use Rattle.emit_rules.specs.Chains.{gathered}
use Rattle.emit_sorting.specs.Chained.{piece_view}
use Rattle.emit_sorting.proofs.chaining.gather.Given as goal

abbrev pub invariant-loop-piece : goal.invariant-loop-piece
invariant-loop-piece l = gathered l.from (map nest_view (reverse l.group)) (map piece_view (reverse l.pieces)) ≡ gathered l.from (map nest_view (reverse l.fn.group)) (map piece_view (reverse l.fn.pieces))

abbrev pub decreases-loop-piece : goal.decreases-loop-piece
decreases-loop-piece l = length l.pieces
