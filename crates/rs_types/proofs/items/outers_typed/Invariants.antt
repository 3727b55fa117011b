use Rattle.std.proofs.Common.{◌≡◌, map, drop}
use Rattle.std.specs.List.{list_all}
use Rattle.rs_tree.specs.Views.{module_view, outer_view}
use Rattle.rs_mean.specs.Typing.{outer_typed}
use Rattle.rs_types.proofs.items.outers_typed.Given as goal

-- what is left answers for all
abbrev pub invariant-loop-outer : goal.invariant-loop-outer
invariant-loop-outer l = list_all (outer_typed (map module_view l.modules)) (map outer_view (drop l.outer-index l.outers)) ≡ list_all (outer_typed (map module_view l.modules)) (map outer_view l.outers)
