use Rattle.std.proofs.Common.{◌≡◌, ◌+◌, ◌*◌, ◌-◌, map, length}
use Rattle.rs_expr.specs.Exprs.{expr, tails}
use Rattle.rs_expr.specs.Reading.{listed, many, part, ends_list}
use Rattle.rs_tree.specs.Views.{expr_view}
use Rattle.rs_expr.proofs.+expr.Given as goal

abbrev pub decreases-atoms::address : goal.decreases-atoms::address
decreases-atoms::address l = 16 * l.levels + 2

abbrev pub decreases-operands::applied : goal.decreases-operands::applied
decreases-operands::applied l = 16 * l.levels + 2

abbrev pub decreases-atoms::args : goal.decreases-atoms::args
decreases-atoms::args l = 16 * l.levels + 2

abbrev pub decreases-atoms::base : goal.decreases-atoms::base
decreases-atoms::base l = 16 * l.levels + 4

abbrev pub decreases-exprs::between : goal.decreases-exprs::between
decreases-exprs::between l = 16 * l.levels + 8

abbrev pub decreases-atoms::call : goal.decreases-atoms::call
decreases-atoms::call l = 16 * l.levels + 3

abbrev pub decreases-exprs::choose : goal.decreases-exprs::choose
decreases-exprs::choose l = 16 * l.levels + 2

abbrev pub decreases-exprs::expr : goal.decreases-exprs::expr
decreases-exprs::expr l = 16 * l.levels + 0

abbrev pub decreases-atoms::expr_and_mark : goal.decreases-atoms::expr_and_mark
decreases-atoms::expr_and_mark l = 16 * l.levels + 1

abbrev pub decreases-exprs::expr_from : goal.decreases-exprs::expr_from
decreases-exprs::expr_from l = 16 * l.levels + 9

abbrev pub decreases-exprs::joined : goal.decreases-exprs::joined
decreases-exprs::joined l = 16 * l.levels + 7

abbrev pub decreases-atoms::named : goal.decreases-atoms::named
decreases-atoms::named l = 16 * l.levels + 3

abbrev pub decreases-atoms::next_expr : goal.decreases-atoms::next_expr
decreases-atoms::next_expr l = 16 * l.levels + 1

abbrev pub decreases-operands::operand : goal.decreases-operands::operand
decreases-operands::operand l = 16 * l.levels + 6

abbrev pub decreases-exprs::prefixed : goal.decreases-exprs::prefixed
decreases-exprs::prefixed l = 16 * l.levels + 7

abbrev pub decreases-operands::tail : goal.decreases-operands::tail
decreases-operands::tail l = 16 * l.levels + 4

abbrev pub decreases-operands::tails : goal.decreases-operands::tails
decreases-operands::tails l = 16 * l.levels + 5

abbrev pub decreases-atoms::transmute : goal.decreases-atoms::transmute
decreases-atoms::transmute l = 16 * l.levels + 2

abbrev pub decreases-operands::unwrapped : goal.decreases-operands::unwrapped
decreases-operands::unwrapped l = 16 * l.levels + 3

abbrev pub invariant-atoms::args-loop-turn : goal.invariant-atoms::args-loop-turn
invariant-atoms::args-loop-turn l =
    many ends_list (part (expr l.levels)) (length l.initial.cursor - l._turn) (map expr_view l.list) l.cursor ≡ listed (expr l.levels) l.initial.cursor

abbrev pub invariant-operands::tails-loop-turn : goal.invariant-operands::tails-loop-turn
invariant-operands::tails-loop-turn l =
    tails (length l.initial.cursor - l._turn) (expr_view l.read) (expr l.levels) l.cursor
    ≡ tails (length l.initial.cursor) (expr_view l.initial.read) (expr l.levels) l.initial.cursor
