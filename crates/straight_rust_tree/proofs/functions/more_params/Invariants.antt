use Rattle.std.proofs.Common.{◌≡◌, ◌++◌, map, drop}
use Rattle.straight_rust_tree.specs.Lines.{behind_comma, param_text}
use Rattle.straight_rust_tree.specs.View.{local_view}
use Rattle.straight_rust_tree.proofs.functions.more_params.Given as goal

-- what is written, and what is left to write, are all that is written
abbrev pub invariant-loop-one : goal.invariant-loop-one
invariant-loop-one l = l.draft ++ behind_comma (map param_text (map local_view (drop l.one-index l.params))) ≡ l.fn.draft ++ behind_comma (map param_text (map local_view (l.params)))
