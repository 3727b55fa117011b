use Rattle.std.proofs.Common.{map, drop}
use Rattle.std.specs.List.{flat_map}
use Rattle.rs_text.specs.Lines.{outer_lines}
use Rattle.rs_text.specs.Printing.{Appends, grown}
use Rattle.rs_tree.specs.Views.{outer_view}
use Rattle.rs_tree.proofs.item_lines.all_outer_lines.Given as goal

-- what is printed, and what is left to print, are all that is printed
abbrev pub invariant-loop-outer : goal.invariant-loop-outer
invariant-loop-outer l = Appends l.initial.page (grown l.page (flat_map outer_lines (map outer_view (drop l.outer-index l.outers)))) (flat_map outer_lines (map outer_view l.outers))
