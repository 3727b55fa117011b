use Rattle.std.proofs.Common.{◌≡◌, ◌+◌, ◌-◌, ◌*◌, suc, map, length, []}
use Rattle.cx_cursor.specs.Lists.{many, taking}
use Rattle.cx_stmt.specs.Stmts.{item, stmt, sees_end, with_item}
use Rattle.cx_tree.specs.Views.{item_view}
use Rattle.cx_stmt.proofs.stmts.+stmt.Given as goal

abbrev pub decreases-stmt : goal.decreases-stmt
decreases-stmt l = 5 * l.depth

abbrev pub decreases-label : goal.decreases-label
decreases-label l = 5 * l.depth + 1

abbrev pub decreases-case_stmt : goal.decreases-case_stmt
decreases-case_stmt l = 5 * l.depth + 1

abbrev pub decreases-default_stmt : goal.decreases-default_stmt
decreases-default_stmt l = 5 * l.depth + 1

abbrev pub decreases-part : goal.decreases-part
decreases-part l = 5 * l.depth + 1

abbrev pub decreases-item : goal.decreases-item
decreases-item l = 5 * l.depth + 1

abbrev pub decreases-next_item : goal.decreases-next_item
decreases-next_item l = 5 * l.depth + 2

abbrev pub decreases-behind_branch : goal.decreases-behind_branch
decreases-behind_branch l = 5 * l.depth + 2

abbrev pub decreases-switch_stmt : goal.decreases-switch_stmt
decreases-switch_stmt l = 5 * l.depth + 2

abbrev pub decreases-while_stmt : goal.decreases-while_stmt
decreases-while_stmt l = 5 * l.depth + 2

abbrev pub decreases-do_stmt : goal.decreases-do_stmt
decreases-do_stmt l = 5 * l.depth + 2

abbrev pub decreases-for_stmt : goal.decreases-for_stmt
decreases-for_stmt l = 5 * l.depth + 2

abbrev pub decreases-items : goal.decreases-items
decreases-items l = 5 * l.depth + 3

abbrev pub decreases-if_stmt : goal.decreases-if_stmt
decreases-if_stmt l = 5 * l.depth + 3

abbrev pub decreases-block_from : goal.decreases-block_from
decreases-block_from l = 5 * l.depth + 4

abbrev pub decreases-keyword_stmt : goal.decreases-keyword_stmt
decreases-keyword_stmt l = 5 * l.depth + 4

abbrev pub invariant-items-loop-turn : goal.invariant-items-loop-turn
invariant-items-loop-turn l =
    many sees_end (taking (item (stmt l.depth) l.depth) with_item) (suc (length l.initial.cursor.tokens) - l._turn) (map item_view l.list) l.cursor
    ≡ many sees_end (taking (item (stmt l.depth) l.depth) with_item) (suc (length l.initial.cursor.tokens)) [] l.initial.cursor
