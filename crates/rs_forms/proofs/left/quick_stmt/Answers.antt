use Rattle.rs_forms.proofs.Remaining.{formed_left}
use Rattle.rs_scene.specs.Scenes.{frame_view}
use Rattle.rs_forms.proofs.left.quick_stmt.Goals as goal

pub returns-in-Assign : goal.returns-in-Assign
returns-in-Assign g c =
    formed_left (frame_view c.args.scene) c.args.tree.now c.stmt_form.result _ c.assign_left.result _ _ _ _ c.stmt_form.ensures c.in-Assign.is c.assign_left.ensures

pub returns-in-Within : goal.returns-in-Within
returns-in-Within g c =
    formed_left (frame_view c.args.scene) c.args.tree.now c.stmt_form.result _ c.nested_left.result _ _ _ _ c.stmt_form.ensures c.in-Within.is (c.nested_left.ensures _)
