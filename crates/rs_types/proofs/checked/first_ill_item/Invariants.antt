use Rattle.std.proofs.Common.{◌≡◌, [], map, reverse, take, drop}
use Rattle.rs_mean.specs.Typing.{first_ill_item}
use Rattle.rs_tree.specs.Views.{item_view, module_view}
use Rattle.rs_types.proofs.checked.first_ill_item.Given as goal

-- what is left answers for all
abbrev pub invariant-loop-index : goal.invariant-loop-index
invariant-loop-index l =
    first_ill_item (map module_view l.modules) (module_view l.unit) (reverse (map item_view (take l.index l.items))) l.index (map item_view (drop l.index l.items))
    ≡ first_ill_item (map module_view l.modules) (module_view l.unit) [] 0 (map item_view l.items)
