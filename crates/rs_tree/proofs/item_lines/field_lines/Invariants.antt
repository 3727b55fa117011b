use Rattle.std.proofs.Common.{map, drop}
use Rattle.rs_text.specs.Lines.{field_line}
use Rattle.rs_text.specs.Printing.{Appends, grown}
use Rattle.rs_tree.specs.Views.{field_view}
use Rattle.rs_tree.proofs.item_lines.field_lines.Given as goal

-- what is printed, and what is left to print, are all that is printed
abbrev pub invariant-loop-field : goal.invariant-loop-field
invariant-loop-field l = Appends l.initial.page (grown l.page (map field_line (map field_view (drop l.field-index l.field-items)))) (map field_line (map field_view l.field-items))
