use Rattle.std.proofs.Common.{◌≡◌, ◌++◌, map, drop}
use Rattle.straight_rust_tree.specs.Lines.{local_line}
use Rattle.straight_rust_tree.specs.View.{local_view}
use Rattle.straight_rust_tree.proofs.functions.local_lines.Given as goal

-- what is written, and what is left to write, are all that is written
abbrev pub invariant-loop-local : goal.invariant-loop-local
invariant-loop-local l = l.lines ++ map local_line (map local_view (drop l.local-index l.locals)) ≡ l.fn.lines ++ map local_line (map local_view (l.locals))
