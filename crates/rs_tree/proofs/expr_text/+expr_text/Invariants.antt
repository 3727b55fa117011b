use Rattle.std.proofs.Common.{map, drop}
use Rattle.rs_text.specs.Lines.{behind_commas, exprs_texts}
use Rattle.rs_text.specs.Printing.{Appends, grown}
use Rattle.rs_text.specs.Tree.{exprs}
use Rattle.rs_tree.specs.Views.{expr_view}
use Rattle.rs_tree.proofs.expr_text.+expr_text.Given as goal

-- what is written, and what is left to write, are all that is written
abbrev pub invariant-put_args-loop-arg : goal.invariant-put_args-loop-arg
invariant-put_args-loop-arg l = Appends l.initial.draft (grown l.draft (behind_commas (exprs_texts (exprs (map expr_view (drop l.arg-index l.others)))))) (behind_commas (exprs_texts (exprs (map expr_view l.others))))
