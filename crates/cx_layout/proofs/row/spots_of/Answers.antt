use Rattle.std.proofs.Common.{arith, rules}
use Rattle.std.proofs.lemmas.Grind.{common_steps}
use Rattle.cx_layout.proofs.Fronts.{front_stays}
use Rattle.cx_layout.proofs.row.spots_of.Goals as goal

pub loop-piece-preserved : goal.loop-piece-preserved
loop-piece-preserved c = record {
  front = front_stays c.args.is_union c.args.pieces.now c.loop-piece.piece-index c.loop-piece.front c.after-front.result _ c.loop-piece-test.true c.requires.0 c.requires.1 c.loop-piece.invariant.front c.loop-piece.invariant.left c.after-front.ensures;
  left = first_of (search rules, grind (arith, common_steps));
  spots = first_of (search rules, grind (arith, common_steps));
}
