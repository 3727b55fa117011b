use Rattle.std.proofs.Common.{map, drop}
use Rattle.std.specs.List.{flat_map}
use Rattle.rs_text.specs.Lines.{item_lines}
use Rattle.rs_text.specs.Printing.{Appends, grown}
use Rattle.rs_tree.specs.Views.{item_view}
use Rattle.rs_tree.proofs.item_lines.put_items.Given as goal

-- what is printed, and what is left to print, are all that is printed
abbrev pub invariant-loop-item : goal.invariant-loop-item
invariant-loop-item l = Appends l.initial.page (grown l.page (flat_map item_lines (map item_view (drop l.item-index l.items)))) (flat_map item_lines (map item_view l.items))
