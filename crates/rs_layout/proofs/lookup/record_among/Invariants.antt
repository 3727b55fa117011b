use Rattle.std.proofs.Common.{◌≡◌, map, drop}
use Rattle.rs_mean.specs.Lookups.{record_among}
use Rattle.rs_tree.specs.Views.{item_view}
use Rattle.rs_layout.proofs.lookup.record_among.Given as goal

-- the record stands among the items that are left
abbrev pub invariant-loop-item : goal.invariant-loop-item
invariant-loop-item l = record_among l.name (map item_view (drop l.item-index l.items)) ≡ record_among l.name (map item_view l.items)
