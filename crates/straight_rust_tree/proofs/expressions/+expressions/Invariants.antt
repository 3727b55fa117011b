use Rattle.std.proofs.Common.{◌≡◌, ◌++◌, map, drop}
use Rattle.straight_rust_tree.specs.Lines.{more_args_text}
use Rattle.straight_rust_tree.specs.Tree.{exprs}
use Rattle.straight_rust_tree.specs.View.{expr_view}
use Rattle.straight_rust_tree.proofs.expressions.+expressions.Given as goal

-- what is written, and what is left to write, are all that is written
abbrev pub invariant-more_arguments-loop-index : goal.invariant-more_arguments-loop-index
invariant-more_arguments-loop-index l = l.draft ++ more_args_text (exprs (map expr_view (drop l.index l.args))) ≡ l.fn.draft ++ more_args_text (exprs (map expr_view (drop 1 l.args)))
