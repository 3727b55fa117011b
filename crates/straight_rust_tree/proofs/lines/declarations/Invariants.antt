use Rattle.std.proofs.Common.{◌≡◌, ◌++◌, map, drop}
use Rattle.straight_rust_tree.specs.Lines.{declaration_line}
use Rattle.straight_rust_tree.specs.View.{module_view}
use Rattle.straight_rust_tree.proofs.lines.declarations.Given as goal

-- what is written, and what is left to write, are all that is written
abbrev pub invariant-loop-module : goal.invariant-loop-module
invariant-loop-module l = l.lines ++ map declaration_line (map module_view (drop l.module-index l.modules)) ≡ l.fn.lines ++ map declaration_line (map module_view (l.modules))
