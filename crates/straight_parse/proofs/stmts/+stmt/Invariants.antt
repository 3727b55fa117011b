use Rattle.std.proofs.Common.{◌≡◌, ◌+◌, ◌-◌, ◌*◌, suc, map, length}
use Rattle.cx_lex.specs.declared.token.Punct.TheVariants.{RightBrace}
use Rattle.straight_parse.specs.Lists.{many, taking}
use Rattle.straight_parse.specs.Sights.{shows_mark}
use Rattle.straight_parse.specs.Stmts.{stmt, with_stmt}
use Rattle.straight_tree.specs.Views.{item_view}
use Rattle.straight_parse.proofs.stmts.+stmt.Given as goal

abbrev pub decreases-stmt : goal.decreases-stmt
decreases-stmt l = 5 * l.depth

abbrev pub decreases-stmt_from : goal.decreases-stmt_from
decreases-stmt_from l = 5 * l.depth + 4

abbrev pub decreases-block_from : goal.decreases-block_from
decreases-block_from l = 5 * l.depth + 3

abbrev pub decreases-stmts : goal.decreases-stmts
decreases-stmts l = 5 * l.depth + 2

abbrev pub decreases-next_stmt : goal.decreases-next_stmt
decreases-next_stmt l = 5 * l.depth + 1

abbrev pub invariant-stmts-loop-turn : goal.invariant-stmts-loop-turn
invariant-stmts-loop-turn l =
    many (shows_mark RightBrace) (taking (stmt l.depth) with_stmt) (suc (length l.initial.cursor) - l._turn) (map item_view l.list) l.cursor
    ≡ many (shows_mark RightBrace) (taking (stmt l.depth) with_stmt) (suc (length l.initial.cursor)) (map item_view l.initial.list) l.initial.cursor
