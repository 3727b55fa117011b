use Rattle.std.proofs.Common.{rules, ◌-◌, suc, length, ◌∙◌, arith}
use Rattle.std.proofs.lemmas.Grind.{common_steps}
use Rattle.straight_parse.specs.Exprs.{expr}
use Rattle.straight_parse.specs.Lists.{stops_commas, next_item}
use Rattle.straight_parse.proofs.Turns.{many_next}
use Rattle.straight_parse.proofs.exprs.+expr.Goals as goal

pub args_behind-loop-turn-preserved : goal.args_behind-loop-turn-preserved
args_behind-loop-turn-preserved t c = (
  search rules,
  many_next stops_commas (next_item (expr c.args.depth 2)) (suc (length c.args.cursor.now) - c.loop-turn._turn) _ _ _ _ _ (omega arith)
      (first_of (search rules, grind (arith, common_steps))) c.in_ok-args.ensures.reads
      ∙ c.loop-turn.invariant.1,
)
