use Rattle.std.proofs.Common.{rules, ◌-◌, ◌+◌, length, ◌∙◌, arith}
use Rattle.std.proofs.lemmas.Grind.{common_steps}
use Rattle.rs_expr.proofs.Turns.{many_next}
use Rattle.rs_item.specs.Items.{ends_braces, field}
use Rattle.rs_item.proofs.records.fields.Goals as goal

pub loop-turn-preserved : goal.loop-turn-preserved
loop-turn-preserved c =
    many_next ends_braces field (length c.args.cursor.now - c.loop-turn._turn) (length c.args.cursor.now - (c.loop-turn._turn + 1)) _ _ _ _
    (omega (arith, c.loop-turn-test.true, c.len-turn-end.ensures)) (first_of (search rules, grind (arith, common_steps))) c.in_ok-list.ensures
    ∙ c.loop-turn.invariant
