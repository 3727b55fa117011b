use Rattle.std.proofs.Common.{◌≡◌, ◌+◌, ◌*◌, ◌-◌, map, length}
use Rattle.rs_expr.specs.Reading.{many}
use Rattle.rs_item.specs.Stmts.{read_stmts, stmt_from, stmts_from, arm, read_arms, ends_arms, ends_block}
use Rattle.rs_tree.specs.Views.{stmt_view, arm_view}
use Rattle.rs_item.proofs.stmts.+stmts.Given as goal

abbrev pub decreases-arms : goal.decreases-arms
decreases-arms l = 16 * l.levels + 3

abbrev pub decreases-block : goal.decreases-block
decreases-block l = 16 * l.levels + 1

abbrev pub decreases-else_part : goal.decreases-else_part
decreases-else_part l = 16 * l.levels + 2

abbrev pub decreases-if_stmt : goal.decreases-if_stmt
decreases-if_stmt l = 16 * l.levels + 3

abbrev pub decreases-labelled : goal.decreases-labelled
decreases-labelled l = 16 * l.levels + 3

abbrev pub decreases-loop_from : goal.decreases-loop_from
decreases-loop_from l = 16 * l.levels + 2

abbrev pub decreases-match_end : goal.decreases-match_end
decreases-match_end l = 16 * l.levels + 2

abbrev pub decreases-match_stmt : goal.decreases-match_stmt
decreases-match_stmt l = 16 * l.levels + 4

abbrev pub decreases-next_arm : goal.decreases-next_arm
decreases-next_arm l = 16 * l.levels + 2

abbrev pub decreases-next_stmt : goal.decreases-next_stmt
decreases-next_stmt l = 16 * l.levels + 6

abbrev pub decreases-read_stmts : goal.decreases-read_stmts
decreases-read_stmts l = 16 * l.levels + 0

abbrev pub decreases-stmt_from : goal.decreases-stmt_from
decreases-stmt_from l = 16 * l.levels + 5

abbrev pub decreases-stmts_from : goal.decreases-stmts_from
decreases-stmts_from l = 16 * l.levels + 7

abbrev pub invariant-arms-loop-turn : goal.invariant-arms-loop-turn
invariant-arms-loop-turn l =
    many ends_arms (arm (read_stmts l.levels)) (length l.initial.cursor - l._turn) (map arm_view l.list) l.cursor ≡ read_arms (read_stmts l.levels) l.initial.cursor

abbrev pub invariant-stmts_from-loop-turn : goal.invariant-stmts_from-loop-turn
invariant-stmts_from-loop-turn l =
    many ends_block (stmt_from (read_stmts l.levels)) (length l.initial.cursor - l._turn) (map stmt_view l.list) l.cursor ≡ stmts_from (read_stmts l.levels) l.initial.cursor
