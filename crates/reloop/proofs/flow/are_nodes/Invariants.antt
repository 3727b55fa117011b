use Rattle.std.proofs.Common.{◌≡◌, drop}
use Rattle.reloop.specs.Checks.{are_below}
use Rattle.reloop.proofs.flow.are_nodes.Given as goal

abbrev pub invariant-loop-node : goal.invariant-loop-node
invariant-loop-node l = are_below l.count (drop l.node-index l.nodes) ≡ are_below l.count l.nodes
