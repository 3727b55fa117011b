use Rattle.std.proofs.Common.{map, drop}
use Rattle.rs_text.specs.Lines.{behind_commas, param_text}
use Rattle.rs_text.specs.Printing.{Appends, grown}
use Rattle.rs_tree.specs.Views.{local_view}
use Rattle.rs_tree.proofs.item_lines.put_params.Given as goal

-- what is printed, and what is left to print, are all that is printed
abbrev pub invariant-loop-param : goal.invariant-loop-param
invariant-loop-param l = Appends l.initial.draft (grown l.draft (behind_commas (map param_text (map local_view (drop l.param-index l.others))))) (behind_commas (map param_text (map local_view l.others)))
