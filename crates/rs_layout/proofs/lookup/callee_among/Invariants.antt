use Rattle.std.proofs.Common.{◌≡◌, map, drop}
use Rattle.rs_tree.specs.Views.{item_view}
use Rattle.rs_layout.specs.Found.{callee_in_items}
use Rattle.rs_layout.proofs.lookup.callee_among.Given as goal

-- the function stands among the items that are left
abbrev pub invariant-loop-item : goal.invariant-loop-item
invariant-loop-item l = callee_in_items l.name (map item_view (drop l.item-index l.items)) ≡ callee_in_items l.name (map item_view l.items)
