use Rattle.std.proofs.Common.{◌≡◌, ◌+◌, ◌*◌, max, map, drop}
use Rattle.cx_core.proofs.expr.CoreExpr.TheLaws.{the_size}
use Rattle.cx_core.specs.Views.{exprs_of, puts_of, view_expr, view_put, view_type}
use Rattle.lift.specs.Fits.{ArgsFit, PutsFit}
use Rattle.lift.specs.Texts as text
use Rattle.lift.specs.Texts.{names_of}
use Rattle.lift.specs.Views.{arguments_view}
use Rattle.lift_stores.specs.Views.{text_view}
use Rattle.lift.proofs.walk.+lifting.Given as goal

-- eight times the depth, so that a node, its parts and lists come between
abbrev pub decreases-whole : goal.decreases-whole
decreases-whole l = 8 * goal.size-whole l + 2

abbrev pub decreases-lifted_form : goal.decreases-lifted_form
decreases-lifted_form l = 8 * goal.size-lifted_form l + 1

abbrev pub decreases-behind : goal.decreases-behind
decreases-behind l = 8 * goal.size-behind l + 3

abbrev pub decreases-third_behind : goal.decreases-third_behind
decreases-third_behind l = 8 * goal.size-third_behind l + 3

abbrev pub decreases-argument_behind : goal.decreases-argument_behind
decreases-argument_behind l = 8 * goal.size-argument_behind l + 3

abbrev pub decreases-args_behind : goal.decreases-args_behind
decreases-args_behind l = 8 * goal.size-args_behind l + 4

abbrev pub decreases-put_behind : goal.decreases-put_behind
decreases-put_behind l = 8 * goal.size-put_behind l + 3

abbrev pub decreases-puts_behind : goal.decreases-puts_behind
decreases-puts_behind l = 8 * goal.size-puts_behind l + 4

abbrev pub decreases-filled : goal.decreases-filled
decreases-filled l = 8 * goal.size-filled l + 6

abbrev pub decreases-binary : goal.decreases-binary
decreases-binary l = 8 * max (the_size l.left.now) (the_size l.right.now) + 6

abbrev pub decreases-decided : goal.decreases-decided
decreases-decided l = 8 * max (the_size l.left.now) (the_size l.right.now) + 6

abbrev pub decreases-chosen : goal.decreases-chosen
decreases-chosen l = 8 * max (the_size l.test.now) (max (the_size l.first.now) (the_size l.second.now)) + 6

abbrev pub decreases-assignment : goal.decreases-assignment
decreases-assignment l = 8 * max (the_size l.to.now) (the_size l.from.now) + 6

abbrev pub decreases-assignment_by : goal.decreases-assignment_by
decreases-assignment_by l = 8 * max (the_size l.to.now) (the_size l.from.now) + 6

abbrev pub decreases-comma : goal.decreases-comma
decreases-comma l = 8 * max (the_size l.first.now) (the_size l.second.now) + 6

abbrev pub invariant-args_behind-loop-index : goal.invariant-args_behind-loop-index
invariant-args_behind-loop-index l =
    (text.args_text (names_of l.names) (exprs_of (map view_expr (drop l.index l.args))) (arguments_view l.made)
    ≡ text.args_text (names_of l.names) (exprs_of (map view_expr l.args)) (text.arguments_after (text_view l.fn.before)))
    × ArgsFit (exprs_of (map view_expr (drop l.index l.args)))

abbrev pub invariant-puts_behind-loop-one : goal.invariant-puts_behind-loop-one
invariant-puts_behind-loop-one l =
    (text.puts_text (names_of l.names) (view_type l.filled) l.number (puts_of (map view_put (drop l.one-index l.puts))) (text_view l.made)
    ≡ text.puts_text (names_of l.names) (view_type l.filled) l.number (puts_of (map view_put l.puts)) (text_view l.fn.before))
    × PutsFit (puts_of (map view_put (drop l.one-index l.puts)))
