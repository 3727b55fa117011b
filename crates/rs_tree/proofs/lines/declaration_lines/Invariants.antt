use Rattle.std.proofs.Common.{map, drop}
use Rattle.rs_text.specs.Lines.{declaration_line}
use Rattle.rs_text.specs.Printing.{Appends, grown}
use Rattle.rs_tree.specs.Views.{module_view}
use Rattle.rs_tree.proofs.lines.declaration_lines.Given as goal

-- what is printed, and what is left to print, are all that is printed
abbrev pub invariant-loop-module : goal.invariant-loop-module
invariant-loop-module l = Appends l.initial.page (grown l.page (map declaration_line (map (λ unit. unit.name) (map module_view (drop l.module-index l.module-items))))) (map declaration_line (map (λ unit. unit.name) (map module_view l.module-items)))
