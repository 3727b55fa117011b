use Rattle.rs_forms.proofs.Quickly.{same_given, value_is}
use Rattle.rs_forms.proofs.Remaining.{left_then}
use Rattle.rs_mean.specs.Run.{run_expr, run_place}
use Rattle.rs_scene.specs.Scenes.{frame_view}
use Rattle.rs_tree.specs.Views.{expr_view, place_view}
use Rattle.rs_value.specs.Views.{spot_view, typed_view}
use Rattle.rs_forms.proofs.left.assign_left.Goals as goal

pub returns : goal.returns
returns g c =
    left_then (frame_view c.args.scene) (run_expr (frame_view c.args.scene) (expr_view c.args.value.now)) (typed_view c.value_of.result) _ c.store_left.result _ _ _ _
    (same_given (run_expr (frame_view c.args.scene) (expr_view c.args.value.now)) (value_is c.quick_number.new.found.number c.in-Some-quick_number.ty) (typed_view c.value_of.result) _ c.value_of.ensures c.in-Some-quick_number.ensures)
    (left_then (frame_view c.args.scene) (run_place (frame_view c.args.scene) (place_view c.args.of.now)) (spot_view c.in-Some.spot) _ c.store_left.result _ _ _ _
    (λ kept limit host. c.in-Some.ensures _) (c.store_left.ensures (frame_view c.args.scene)))
