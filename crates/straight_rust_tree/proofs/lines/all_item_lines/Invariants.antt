use Rattle.std.specs.List.{flat_map}
use Rattle.std.proofs.Common.{◌≡◌, ◌++◌, map, drop}
use Rattle.straight_rust_tree.specs.Lines.{item_lines}
use Rattle.straight_rust_tree.specs.View.{item_view}
use Rattle.straight_rust_tree.proofs.lines.all_item_lines.Given as goal

-- what is written, and what is left to write, are all that is written
abbrev pub invariant-loop-item : goal.invariant-loop-item
invariant-loop-item l = l.lines ++ flat_map item_lines (map item_view (drop l.item-index l.items)) ≡ flat_map item_lines (map item_view (l.items))
