use Rattle.std.proofs.Common.{◌≡◌, ◌==◌, ◌&&◌, ◌||◌, drop}
use Rattle.emit_rules.specs.Places.{any_outside, goes_to}
use Rattle.flow.specs.Flows.{targets_of}
use Rattle.flow.specs.Views.{flow_view}
use Rattle.std.specs.List.{list_any}
use Rattle.emit_places.proofs.loops.is_left_at_a_test.Given as goal

abbrev pub invariant-loop-node : goal.invariant-loop-node
invariant-loop-node l =
    list_any (λ node. (node == l.head || goes_to (flow_view l.flow) l.head node) && any_outside l.nodes (targets_of (flow_view l.flow) node)) (drop l.node-index l.nodes)
    ≡ list_any (λ node. (node == l.head || goes_to (flow_view l.flow) l.head node) && any_outside l.nodes (targets_of (flow_view l.flow) node)) l.nodes
