use Rattle.std.proofs.Common.{◌≡◌, map, drop}
use Rattle.rs_text.specs.Tree.{stmts}
use Rattle.rs_tree.specs.Views.{arm_view, stmt_view}
use Rattle.rs_value.specs.Views.{typed_view}
use Rattle.rs_scene.specs.Flows.{chosen}
use Rattle.rs_scene.proofs.flow.chosen.Given as goal

-- the statements are chosen among the arms that are left
abbrev pub invariant-loop-arm : goal.invariant-loop-arm
invariant-loop-arm l = chosen (map arm_view (drop l.arm-index l.cases)) (typed_view l.operand) (stmts (map stmt_view l.other))
    ≡ chosen (map arm_view l.cases) (typed_view l.operand) (stmts (map stmt_view l.other))
