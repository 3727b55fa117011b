use Rattle.std.proofs.Common.{◌≡◌, length, arith}
use Rattle.std.proofs.lemmas.Grind.{common_steps}
use Rattle.emit_nests.specs.Views.{nest_view}
use Rattle.std.proofs.Common.{map}
use Rattle.emit_sorting.proofs.Pieces.{chained_whole, none_after}
use Rattle.emit_sorting.proofs.chaining.nests_of.Goals as goal

pub returns : goal.returns
returns c =
    let none : length c.loop-piece.piece-iterator.rest.items ≡ 0 = grind (arith, common_steps) in
    chained_whole c.args.pieces (map nest_view c.loop-piece.made) (none_after (map nest_view c.loop-piece.made) c.loop-piece.piece-iterator.rest.items _ none c.loop-piece.invariant)
