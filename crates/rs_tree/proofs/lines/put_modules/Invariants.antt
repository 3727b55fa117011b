use Rattle.std.proofs.Common.{map, drop}
use Rattle.std.specs.List.{flat_map}
use Rattle.rs_text.specs.Lines.{module_lines}
use Rattle.rs_text.specs.Printing.{Appends, grown}
use Rattle.rs_tree.specs.Views.{module_view}
use Rattle.rs_tree.proofs.lines.put_modules.Given as goal

-- what is printed, and what is left to print, are all that is printed
abbrev pub invariant-loop-module : goal.invariant-loop-module
invariant-loop-module l = Appends l.initial.page (grown l.page (flat_map module_lines (map module_view (drop l.module-index l.modules)))) (flat_map module_lines (map module_view l.modules))
