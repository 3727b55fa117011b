use Rattle.std.proofs.Common.{◌≡◌, ◌++◌, map}
use Rattle.emit_nests.specs.Views.{nest_view}
use Rattle.emit_rules.specs.Chains as chains
use Rattle.emit_sorting.specs.Chained.{piece_view}
use Rattle.emit_sorting.proofs.chaining.nests_of.Given as goal

abbrev pub invariant-loop-piece : goal.invariant-loop-piece
invariant-loop-piece l = map nest_view l.made ++ map (λ (piece : chains.Piece). piece.nest) (map piece_view l.piece-iterator.rest.items) ≡ map (λ (piece : chains.Piece). piece.nest) (map piece_view l.fn.pieces)
