use Rattle.std.proofs.Common.{rules, ◌-◌, suc, length, ◌∙◌, arith}
use Rattle.std.proofs.lemmas.Grind.{common_steps}
use Rattle.straight_parse.specs.Declarators.{param, function, stops_functions}
use Rattle.straight_parse.specs.Lists.{stops_commas, next_item}
use Rattle.straight_parse.proofs.Turns.{many_next}
use Rattle.straight_parse.proofs.declarators.+declarator.Goals as goal

pub params_behind-loop-turn-preserved : goal.params_behind-loop-turn-preserved
params_behind-loop-turn-preserved t c = (
  search rules,
  many_next stops_commas (next_item (param c.args.depth)) (suc (length c.args.cursor.now) - c.loop-turn._turn) _ _ _ _ _ (omega arith)
      (first_of (search rules, grind (arith, common_steps))) c.in_ok-list.ensures.reads
      ∙ c.loop-turn.invariant.1,
)

pub functions_behind-loop-turn-preserved : goal.functions_behind-loop-turn-preserved
functions_behind-loop-turn-preserved t c = (
  search rules,
  many_next stops_functions (function (param c.args.depth) c.args.depth) (suc (length c.args.cursor.now) - c.loop-turn._turn) _ _ _ _ _ (omega arith)
      (first_of (search rules, grind (arith, common_steps))) c.in_ok-of.ensures.reads
      ∙ c.loop-turn.invariant.1,
)
