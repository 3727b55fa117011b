use Rattle.std.proofs.Common.{rules, ◌-◌, suc, length, ◌∙◌, arith}
use Rattle.std.proofs.lemmas.Grind.{common_steps}
use Rattle.straight_parse.specs.Declarators.{spec, with_spec, stops_specs}
use Rattle.straight_parse.specs.Lists.{taking}
use Rattle.straight_parse.proofs.Turns.{many_next}
use Rattle.straight_parse.proofs.declarators.specs_behind.Goals as goal

pub loop-turn-preserved : goal.loop-turn-preserved
loop-turn-preserved c =
    many_next stops_specs (taking spec with_spec) (suc (length c.args.cursor.now) - c.loop-turn._turn) _ _ _ _ _ (omega arith)
    (first_of (search rules, grind (arith, common_steps))) c.in_ok-specs.ensures
    ∙ c.loop-turn.invariant
