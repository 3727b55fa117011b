use Rattle.std.proofs.Common.{map, drop}
use Rattle.rs_text.specs.Lines.{local_line}
use Rattle.rs_text.specs.Printing.{Appends, grown}
use Rattle.rs_tree.specs.Views.{local_view}
use Rattle.rs_tree.proofs.item_lines.local_lines.Given as goal

-- what is printed, and what is left to print, are all that is printed
abbrev pub invariant-loop-local : goal.invariant-loop-local
invariant-loop-local l = Appends l.initial.page (grown l.page (map local_line (map local_view (drop l.local-index l.locals)))) (map local_line (map local_view l.locals))
