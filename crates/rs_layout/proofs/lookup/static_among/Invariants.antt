use Rattle.std.proofs.Common.{◌≡◌, map, drop}
use Rattle.rs_tree.specs.Views.{item_view}
use Rattle.rs_layout.specs.Found.{static_among}
use Rattle.rs_layout.proofs.lookup.static_among.Given as goal

-- the object stands among the items that are left
abbrev pub invariant-loop-item : goal.invariant-loop-item
invariant-loop-item l = static_among l.home l.path.home l.path.name (map item_view (drop l.item-index l.items)) ≡ static_among l.home l.path.home l.path.name (map item_view l.items)
