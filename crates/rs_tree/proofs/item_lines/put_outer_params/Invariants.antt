use Rattle.std.proofs.Common.{◌+◌, map, drop}
use Rattle.rs_text.specs.Lines.{behind_commas, outer_params}
use Rattle.rs_text.specs.Printing.{Appends, grown}
use Rattle.rs_tree.specs.Views.{ty_view}
use Rattle.rs_tree.proofs.item_lines.put_outer_params.Given as goal

-- what is printed, and what is left to print, are all that is printed
abbrev pub invariant-loop-index : goal.invariant-loop-index
invariant-loop-index l = Appends l.initial.draft (grown l.draft (behind_commas (outer_params (l.index + 1) (map ty_view (drop l.index l.others))))) (behind_commas (outer_params 1 (map ty_view l.others)))
