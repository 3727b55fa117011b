use Rattle.rs_forms.proofs.Quickly.{test_gives}
use Rattle.rs_forms.proofs.Remaining.{left_then}
use Rattle.rs_machine.specs.States.{state}
use Rattle.rs_mean.specs.Run.{run_expr}
use Rattle.rs_mean.specs.Values.{truth}
use Rattle.rs_scene.specs.Scenes.{frame_view}
use Rattle.rs_tree.specs.Views.{expr_view}
use Rattle.rs_forms.proofs.left.if_left.Goals as goal

pub returns-in-Some : goal.returns-in-Some
returns-in-Some g c = λ limit.
    left_then (frame_view c.args.scene) (run_expr (frame_view c.args.scene) (expr_view c.args.condition.now)) (truth c.in-Some.test) _ c.side_left.result _ _ limit limit c.in-Some.ensures
    (left_then (frame_view c.args.scene) _ c.in-Some.test _ c.side_left.result _ _ limit limit (λ kept bound host. test_gives c.in-Some.test _)
    (c.side_left.ensures (frame_view c.args.scene) (g.S.Store.memory c.args.store.now) limit))
