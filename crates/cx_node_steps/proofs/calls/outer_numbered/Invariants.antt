use Rattle.std.proofs.Common.{◌≡◌, map, drop}
use Rattle.cx_core.specs.Typing.{outer_with}
use Rattle.cx_core.specs.Views.{view_outer}
use Rattle.cx_node_steps.proofs.calls.outer_numbered.Given as goal

abbrev pub invariant-loop-one : goal.invariant-loop-one
invariant-loop-one l = outer_with l.number (map view_outer (drop l.one-index l.externals)) ≡ outer_with l.number (map view_outer l.externals)
