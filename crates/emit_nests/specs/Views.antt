-- Which nests a value of the declared types is.
use Rattle.std.specs.Prelude.{List, [], ◌∷◌}
use Rattle.emit_nests.specs.declared.nests.Chain.{Chain}
use Rattle.emit_nests.specs.declared.nests.Nest.{Nest}
use Rattle.emit_nests.specs.declared.nests.Nest.TheFolds.{fold-Nest, fold-Chain}
use Rattle.emit_nests.specs.declared.nests.Nest.TheOpen as o
use Rattle.emit_rules.specs.Nests as tree
use Rattle.emit_rules.specs.Nests.{chain}

abbrev pub chains : List tree.Chain → tree.Chains
chains [] = tree.no_chains
chains (one ∷ others) = tree.more_chains one (chains others)

abbrev nest_step : o.Nest-F tree.Nest tree.Chain → tree.Nest
nest_step (o.Nest-F.Single node arms) = tree.single node (chains arms)
nest_step (o.Nest-F.Choice heads arms) = tree.choice heads (chains arms)
nest_step (o.Nest-F.Group members) = tree.group (chain members)
nest_step (o.Nest-F.Repeated head body) = tree.repeated head (chain body)
nest_step (o.Nest-F.Dispatched heads body) = tree.dispatched heads (chain body)

abbrev chain_step : o.Chain-F tree.Nest tree.Chain → tree.Chain
chain_step one = chain one.nests

abbrev pub nest_view : Nest → tree.Nest
nest_view = fold-Nest tree.Nest tree.Chain nest_step chain_step

abbrev pub chain_view : Chain → tree.Chain
chain_view = fold-Chain tree.Nest tree.Chain nest_step chain_step
