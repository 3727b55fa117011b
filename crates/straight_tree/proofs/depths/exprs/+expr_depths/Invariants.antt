use Rattle.std.proofs.Common.{◌≡◌, ◌-◌, ◌^◌, min, max, map, drop}
use Rattle.straight_tree.specs.Depth.{exprs_depth}
use Rattle.straight_tree.specs.Views.{expr_view, exprs}
use Rattle.straight_tree.proofs.depths.exprs.+expr_depths.Given as goal

abbrev pub invariant-exprs_depth-loop-expr : goal.invariant-exprs_depth-loop-expr
invariant-exprs_depth-loop-expr l = max l.deepest (min (exprs_depth (exprs (map expr_view (drop l.expr-index l.list)))) (2 ^ 64 - 1)) ≡ min (exprs_depth (exprs (map expr_view l.list))) (2 ^ 64 - 1)
