use Rattle.std.proofs.Common.{◌≡◌, ◌++◌, map, drop}
use Rattle.flow.specs.Flows.{node_targets}
use Rattle.flow.specs.Views.{node_view}
use Rattle.reloop.specs.Searches.{ends_of}
use Rattle.flow.proofs.graphs.rows.Given as goal

abbrev pub invariant-loop-node : goal.invariant-loop-node
invariant-loop-node l = ends_of l.rows ++ map node_targets (map node_view (drop l.node-index l.nodes)) ≡ map node_targets (map node_view l.nodes)
