use Rattle.std.specs.List.{flat_map}
use Rattle.std.proofs.Common.{◌≡◌, ◌++◌, map, drop}
use Rattle.straight_rust_tree.specs.Lines.{outer_lines}
use Rattle.straight_rust_tree.specs.View.{outer_view}
use Rattle.straight_rust_tree.proofs.lines.all_outer_lines.Given as goal

-- what is written, and what is left to write, are all that is written
abbrev pub invariant-loop-one : goal.invariant-loop-one
invariant-loop-one l = l.lines ++ flat_map outer_lines (map outer_view (drop l.one-index l.outers)) ≡ l.fn.lines ++ flat_map outer_lines (map outer_view (l.outers))
