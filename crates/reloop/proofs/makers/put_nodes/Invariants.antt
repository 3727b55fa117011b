use Rattle.std.proofs.Common.{◌≡◌, ◌++◌, drop, map}
use Rattle.reloop.specs.Shaped.{simples}
use Rattle.reloop.specs.Shapes.{shape_view}
use Rattle.reloop.proofs.makers.put_nodes.Given as goal

abbrev pub invariant-loop-node : goal.invariant-loop-node
invariant-loop-node l = map shape_view l.members ++ simples (drop l.node-index l.nodes) ≡ map shape_view l.initial.members ++ simples l.nodes
