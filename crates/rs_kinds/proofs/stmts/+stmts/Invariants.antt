use Rattle.std.proofs.Common.{◌≡◌, map, drop, option_map}
use Rattle.rs_mean.specs.Typing.{arms_typed, own_type, stmts_typed}
use Rattle.rs_text.specs.Tree.{arms, stmts}
use Rattle.rs_tree.specs.Views.{arm_view, stmt_view}
use Rattle.rs_kinds.specs.Kinds.{kind_view}
use Rattle.rs_kinds.specs.Scopes.{body_view}
use Rattle.rs_kinds.proofs.stmts.+stmts.Given as goal

-- all are well typed just where those that are left are
abbrev pub invariant-stmts_typed-loop-stmt : goal.invariant-stmts_typed-loop-stmt
invariant-stmts_typed-loop-stmt l =
    stmts_typed (body_view l.scope) (stmts (map stmt_view (drop l.stmt-index l.list))) ≡ stmts_typed (body_view l.scope) (stmts (map stmt_view l.list))

abbrev pub invariant-arms_typed-loop-arm : goal.invariant-arms_typed-loop-arm
invariant-arms_typed-loop-arm l = record {
  left : l.left ≡ drop l.arm-index l.cases;
  typed : arms_typed (body_view l.scope) (own_type (option_map kind_view l.kind)) (arms (map arm_view (drop l.arm-index l.cases)))
      ≡ arms_typed (body_view l.scope) (own_type (option_map kind_view l.kind)) (arms (map arm_view l.cases));
}
