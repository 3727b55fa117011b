use Rattle.std.proofs.Common.{◌≡◌, map, drop}
use Rattle.rs_text.specs.Tree.{stmts, arms}
use Rattle.rs_text.specs.Valid.{valid_stmts, valid_arms}
use Rattle.rs_tree.specs.Views.{stmt_view, arm_view}
use Rattle.rs_valid.proofs.stmts.+stmts.Given as goal

-- what is left is valid where all is
abbrev pub invariant-are_valid_stmts-loop-stmt : goal.invariant-are_valid_stmts-loop-stmt
invariant-are_valid_stmts-loop-stmt l = valid_stmts (stmts (map stmt_view (drop l.stmt-index l.stmt-items))) ≡ valid_stmts (stmts (map stmt_view l.stmt-items))

abbrev pub invariant-are_valid_arms-loop-arm : goal.invariant-are_valid_arms-loop-arm
invariant-are_valid_arms-loop-arm l = valid_arms (arms (map arm_view (drop l.arm-index l.arm-items))) ≡ valid_arms (arms (map arm_view l.arm-items))
