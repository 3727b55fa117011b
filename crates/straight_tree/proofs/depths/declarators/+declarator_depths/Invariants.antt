use Rattle.std.proofs.Common.{◌≡◌, ◌-◌, ◌^◌, min, max, map, drop}
use Rattle.straight_tree.specs.Depth.{params_depth}
use Rattle.straight_tree.specs.Views.{param_view, params}
use Rattle.straight_tree.proofs.depths.declarators.+declarator_depths.Given as goal

abbrev pub invariant-params_depth-loop-param : goal.invariant-params_depth-loop-param
invariant-params_depth-loop-param l = max l.deepest (min (params_depth (params (map param_view (drop l.param-index l.list)))) (2 ^ 64 - 1)) ≡ min (params_depth (params (map param_view l.list))) (2 ^ 64 - 1)
