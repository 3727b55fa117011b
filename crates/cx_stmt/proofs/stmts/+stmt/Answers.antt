use Rattle.std.proofs.Common.{rules, ◌-◌, suc, map, length, ◌∙◌, arith}
use Rattle.std.proofs.lemmas.Grind.{common_steps}
use Rattle.cx_cursor.proofs.Turns.{many_next}
use Rattle.cx_cursor.specs.Lists.{taking}
use Rattle.cx_stmt.specs.Stmts.{item, stmt, sees_end, with_item}
use Rattle.cx_stmt.proofs.stmts.+stmt.Goals as goal

pub items-loop-turn-preserved : goal.items-loop-turn-preserved
items-loop-turn-preserved t c =
    many_next sees_end (taking (item (stmt c.args.depth) c.args.depth) with_item) (suc (length c.args.cursor.now.tokens) - c.loop-turn._turn) _ _ _ _ _ (omega arith)
    (first_of (search rules, grind (arith, common_steps))) c.in_ok-list.ensures
    ∙ c.loop-turn.invariant
