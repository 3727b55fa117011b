use Rattle.std.proofs.Common.{rules, ◌-◌, ◌+◌, length, ◌∙◌, arith}
use Rattle.std.proofs.lemmas.Grind.{common_steps}
use Rattle.rs_expr.specs.Reading.{part, ends_list}
use Rattle.rs_expr.specs.Types.{ty}
use Rattle.rs_expr.proofs.Turns.{many_next}
use Rattle.rs_expr.proofs.types.+ty.Goals as goal

pub types-loop-turn-preserved : goal.types-loop-turn-preserved
types-loop-turn-preserved t c =
    many_next ends_list (part (ty c.args.levels)) (length c.args.cursor.now - c.loop-turn._turn) (length c.args.cursor.now - (c.loop-turn._turn + 1)) _ _ _ _
    (omega (arith, c.loop-turn-test.true, c.len-turn-end.ensures)) (first_of (search rules, grind (arith, common_steps))) c.in_ok-list.ensures
    ∙ c.loop-turn.invariant
