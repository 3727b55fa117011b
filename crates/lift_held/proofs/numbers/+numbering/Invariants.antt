use Rattle.std.proofs.Common.{◌≡◌, ◌+◌, map, drop}
use Rattle.cx_core.specs.Views.{exprs_of, puts_of, view_expr, view_put}
use Rattle.lift_held.specs.Held.{held_in_args, held_in_puts, nodes_in_args, nodes_in_puts}
use Rattle.lift_held.proofs.numbers.+numbering.Given as goal

abbrev pub invariant-held_in_args-loop-index : goal.invariant-held_in_args-loop-index
invariant-held_in_args-loop-index l =
    (held_in_args (exprs_of (map view_expr (drop l.index l.args))) l.numbered ≡ held_in_args (exprs_of (map view_expr l.args)) l.fn.numbered)
    × (l.numbered.next + nodes_in_args (exprs_of (map view_expr (drop l.index l.args))) ≡ l.fn.numbered.next + nodes_in_args (exprs_of (map view_expr l.args)))

abbrev pub invariant-held_in_puts-loop-one : goal.invariant-held_in_puts-loop-one
invariant-held_in_puts-loop-one l =
    (held_in_puts (puts_of (map view_put (drop l.one-index l.puts))) l.numbered ≡ held_in_puts (puts_of (map view_put l.puts)) l.fn.numbered)
    × (l.numbered.next + nodes_in_puts (puts_of (map view_put (drop l.one-index l.puts))) ≡ l.fn.numbered.next + nodes_in_puts (puts_of (map view_put l.puts)))
