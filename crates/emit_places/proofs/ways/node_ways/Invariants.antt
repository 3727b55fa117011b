use Rattle.std.proofs.Common.{◌≡◌, ◌++◌, map, drop}
use Rattle.emit_rules.specs.Places as places
use Rattle.emit_places.specs.Places.{leaving_view}
use Rattle.emit_places.proofs.ways.node_ways.Given as goal

abbrev pub invariant-loop-arm : goal.invariant-loop-arm
invariant-loop-arm l = map leaving_view l.ways ++ places.leavings_from l.may_hold l.node l.arm (drop l.arm l.targets) ≡ places.leavings_from l.may_hold l.node 0 l.targets
