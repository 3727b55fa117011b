use Rattle.std.proofs.Common.{map, drop}
use Rattle.rs_text.specs.Lines.{behind_commas, tys_texts}
use Rattle.rs_text.specs.Printing.{Appends, grown}
use Rattle.rs_text.specs.Tree.{tys}
use Rattle.rs_tree.specs.Views.{ty_view}
use Rattle.rs_tree.proofs.type_text.+type_text.Given as goal

-- what is written, and what is left to write, are all that is written
abbrev pub invariant-put_tys-loop-param : goal.invariant-put_tys-loop-param
invariant-put_tys-loop-param l = Appends l.initial.draft (grown l.draft (behind_commas (tys_texts (tys (map ty_view (drop l.param-index l.others)))))) (behind_commas (tys_texts (tys (map ty_view l.others))))
