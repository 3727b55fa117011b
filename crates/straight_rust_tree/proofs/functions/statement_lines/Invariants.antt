use Rattle.std.proofs.Common.{◌≡◌, ◌++◌, map, drop}
use Rattle.straight_rust_tree.specs.Lines.{stmts_lines}
use Rattle.straight_rust_tree.specs.Tree.{stmts}
use Rattle.straight_rust_tree.specs.View.{stmt_view}
use Rattle.straight_rust_tree.proofs.functions.statement_lines.Given as goal

-- what is written, and what is left to write, are all that is written
abbrev pub invariant-loop-one : goal.invariant-loop-one
invariant-loop-one l = l.lines ++ stmts_lines l.depth (stmts (map stmt_view (drop l.one-index l.body))) ≡ l.fn.lines ++ stmts_lines l.depth (stmts (map stmt_view (l.body)))
