use Rattle.std.proofs.Common.{◌≡◌, ◌++◌, ◌+◌, ◌*◌, map, drop}
use Rattle.emit_nests.specs.Views.{chain_view, chains, nest_view}
use Rattle.emit_rules.specs.Nests.{chain, chain_nodes, chains_nodes}
use Rattle.emit_places.proofs.nodes.+nodes.Given as goal

abbrev pub decreases-nest_nodes : goal.decreases-nest_nodes
decreases-nest_nodes l = 2 * goal.size-nest_nodes l

abbrev pub decreases-arm_nodes : goal.decreases-arm_nodes
decreases-arm_nodes l = 2 * goal.size-arm_nodes l

abbrev pub decreases-chain_nodes : goal.decreases-chain_nodes
decreases-chain_nodes l = 2 * goal.size-chain_nodes l + 1

abbrev pub decreases-chains_nodes : goal.decreases-chains_nodes
decreases-chains_nodes l = 2 * goal.size-chains_nodes l + 1

abbrev pub invariant-chain_nodes-loop-nest : goal.invariant-chain_nodes-loop-nest
invariant-chain_nodes-loop-nest l = l.nodes ++ chain_nodes (chain (map nest_view (drop l.nest-index l.nests))) ≡ chain_nodes (chain (map nest_view l.nests))

abbrev pub invariant-chains_nodes-loop-arm : goal.invariant-chains_nodes-loop-arm
invariant-chains_nodes-loop-arm l = l.nodes ++ chains_nodes (chains (map chain_view (drop l.arm-index l.arms))) ≡ chains_nodes (chains (map chain_view l.arms))
