use Rattle.std.proofs.Common.{rules, ◌-◌, suc, map, length, ◌∙◌, arith}
use Rattle.std.proofs.lemmas.Grind.{common_steps}
use Rattle.cx_cursor.proofs.Turns.{many_next}
use Rattle.cx_cursor.specs.Lists.{taking}
use Rattle.cx_stmt.specs.Units.{external, at_end, with_external}
use Rattle.cx_stmt.proofs.units.externals_behind.Goals as goal

pub loop-turn-preserved : goal.loop-turn-preserved
loop-turn-preserved c =
    many_next at_end (taking (external c.args.depth) with_external) (suc (length c.args.cursor.now.tokens) - c.loop-turn._turn) _ _ _ _ _ (omega arith)
    (first_of (search rules, grind (arith, common_steps))) c.in_ok-parts.ensures
    ∙ c.loop-turn.invariant
