use Rattle.std.proofs.Common.{◌≡◌, ◌++◌, map, drop, flat_map}
use Rattle.rs_scene.specs.Scenes.{held_function}
use Rattle.rs_mean.specs.Lookups.{own_functions_in}
use Rattle.rs_tree.specs.Views.{item_view}
use Rattle.rs_scene.proofs.scene.add_functions.Given as goal

-- what is listed, and then those of the items that are left, are all
abbrev pub invariant-loop-item : goal.invariant-loop-item
invariant-loop-item l = map held_function l.list ++ flat_map (own_functions_in l.home) (map item_view (drop l.item-index l.items))
    ≡ map held_function l.fn.list ++ flat_map (own_functions_in l.home) (map item_view l.items)
