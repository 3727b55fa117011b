use Rattle.std.proofs.Common.{◌≡◌, ◌+◌, ◌++◌, map, drop}
use Rattle.straight_rust_tree.specs.Lines.{behind_comma, outer_params}
use Rattle.straight_rust_tree.specs.View.{ty_view}
use Rattle.straight_rust_tree.proofs.functions.more_outer_params.Given as goal

-- what is written, and what is left to write, are all that is written
abbrev pub invariant-loop-index : goal.invariant-loop-index
invariant-loop-index l = l.draft ++ behind_comma (outer_params (l.index + 1) (map ty_view (drop l.index l.params))) ≡ l.fn.draft ++ behind_comma (outer_params 1 (map ty_view l.params))
