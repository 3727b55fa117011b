use Rattle.std.proofs.Common.{◌≡◌, ◌≤◌, map, reverse, length}
use Rattle.rs_tree.specs.Views.{item_view}
use Rattle.rs_layout.specs.Layouts.{found_among}
use Rattle.rs_layout.proofs.layout.find_record.Given as goal

-- the record among the items that are left is the one among all
abbrev pub invariant-loop-last : goal.invariant-loop-last
invariant-loop-last l = record {
  found : found_among l.name (reverse (map item_view l.left)) ≡ found_among l.name (reverse (map item_view l.items));
  within : length l.left ≤ length l.items;
}

abbrev pub decreases-loop-last : goal.decreases-loop-last
decreases-loop-last l = length l.left
