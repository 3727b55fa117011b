use Rattle.std.proofs.Common.{◌≡◌, ◌++◌, map, drop}
use Rattle.emit_rules.specs.Places as places
use Rattle.emit_places.specs.Places.{held_by, leaving_view}
use Rattle.flow.specs.Views.{flow_view}
use Rattle.emit_places.proofs.ways.ways_of_nodes.Given as goal

abbrev pub invariant-loop-node : goal.invariant-loop-node
invariant-loop-node l = map leaving_view l.ways ++ places.node_leavings (flow_view l.flow) (held_by (flow_view l.flow) l.head) (drop l.node-index l.nodes) ≡ places.node_leavings (flow_view l.flow) (held_by (flow_view l.flow) l.head) l.nodes
