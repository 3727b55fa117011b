use Rattle.std.proofs.Common.{rules, ◌-◌, suc, length, ◌∙◌, arith}
use Rattle.std.proofs.lemmas.Grind.{common_steps}
use Rattle.cx_cursor.proofs.Turns.{many_next}
use Rattle.cx_cursor.specs.Lists.{no_comma, taking}
use Rattle.cx_expr.specs.Declarators.{comma_name, with_comma_name}
use Rattle.cx_declare.proofs.functions.names_behind.Goals as goal

pub loop-turn-preserved : goal.loop-turn-preserved
loop-turn-preserved c =
    many_next no_comma (taking comma_name with_comma_name) (suc (length c.args.cursor.now.tokens) - c.loop-turn._turn) _ _ _ _ _ (omega arith)
    (first_of (search rules, grind (arith, common_steps))) c.in_ok-all.ensures
    ∙ c.loop-turn.invariant
