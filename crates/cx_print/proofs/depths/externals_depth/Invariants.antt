use Rattle.std.proofs.Common.{◌≡◌, ◌-◌, ◌^◌, min, max, map, drop}
use Rattle.cx_tree.specs.Depth.{externals_depth}
use Rattle.cx_tree.specs.Views.{external_view}
use Rattle.cx_print.proofs.depths.externals_depth.Given as goal

abbrev pub invariant-loop-part : goal.invariant-loop-part
invariant-loop-part l = max l.deepest (min (externals_depth (map external_view (drop l.part-index l.parts))) (2 ^ 64 - 1)) ≡ min (externals_depth (map external_view l.parts)) (2 ^ 64 - 1)
