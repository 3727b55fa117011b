use Rattle.std.specs.List.{flat_map}
use Rattle.std.proofs.Common.{◌≡◌, ◌++◌, map, drop}
use Rattle.straight_rust_tree.specs.Lines.{module_lines}
use Rattle.straight_rust_tree.specs.View.{module_view}
use Rattle.straight_rust_tree.proofs.lines.all_module_lines.Given as goal

-- what is written, and what is left to write, are all that is written
abbrev pub invariant-loop-module : goal.invariant-loop-module
invariant-loop-module l = l.lines ++ flat_map module_lines (map module_view (drop l.module-index l.modules)) ≡ flat_map module_lines (map module_view (l.modules))
