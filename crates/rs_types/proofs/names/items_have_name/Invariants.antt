use Rattle.std.proofs.Common.{◌≡◌, map, drop}
use Rattle.rs_tree.specs.Views.{item_view}
use Rattle.rs_types.specs.Names.{is_item_name}
use Rattle.rs_types.proofs.names.items_have_name.Given as goal

-- what is left answers for all
abbrev pub invariant-loop-item : goal.invariant-loop-item
invariant-loop-item l = is_item_name (map item_view (drop l.item-index l.items)) l.name ≡ is_item_name (map item_view l.items) l.name
