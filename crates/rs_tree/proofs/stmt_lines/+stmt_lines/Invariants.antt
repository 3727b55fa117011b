use Rattle.std.proofs.Common.{map, drop}
use Rattle.rs_text.specs.Lines.{stmts_lines, arms_lines}
use Rattle.rs_text.specs.Printing.{Appends, grown}
use Rattle.rs_text.specs.Tree.{stmts, arms}
use Rattle.rs_tree.specs.Views.{stmt_view, arm_view}
use Rattle.rs_tree.proofs.stmt_lines.+stmt_lines.Given as goal

-- what is printed, and what is left to print, are all that is printed
abbrev pub invariant-put_stmts-loop-stmt : goal.invariant-put_stmts-loop-stmt
invariant-put_stmts-loop-stmt l = Appends l.initial.page (grown l.page (stmts_lines l.fn.depth (stmts (map stmt_view (drop l.stmt-index l.stmt-items))))) (stmts_lines l.fn.depth (stmts (map stmt_view l.stmt-items)))

abbrev pub invariant-put_arms-loop-arm : goal.invariant-put_arms-loop-arm
invariant-put_arms-loop-arm l = Appends l.initial.page (grown l.page (arms_lines l.deeper (arms (map arm_view (drop l.arm-index l.arm-items))))) (arms_lines l.deeper (arms (map arm_view l.arm-items)))
