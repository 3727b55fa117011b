use Rattle.std.proofs.Common.{rules, ◌-◌, suc, length, ◌∙◌, arith}
use Rattle.std.proofs.lemmas.Grind.{common_steps}
use Rattle.straight_parse.specs.Declarations.{init_declarator}
use Rattle.straight_parse.specs.Lists.{stops_commas, next_item}
use Rattle.straight_parse.proofs.Turns.{many_next}
use Rattle.straight_parse.proofs.declarations.declarators_behind.Goals as goal

pub loop-turn-preserved : goal.loop-turn-preserved
loop-turn-preserved c =
    many_next stops_commas (next_item (init_declarator c.args.depth)) (suc (length c.args.cursor.now) - c.loop-turn._turn) _ _ _ _ _ (omega arith)
    (first_of (search rules, grind (arith, common_steps))) c.in_ok-list.ensures
    ∙ c.loop-turn.invariant
