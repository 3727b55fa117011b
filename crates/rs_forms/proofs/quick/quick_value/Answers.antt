use Rattle.rs_mean.specs.Run.{run_expr}
use Rattle.rs_scene.specs.Scenes.{frame_view}
use Rattle.rs_tree.specs.Views.{expr_view}
use Rattle.rs_value.specs.Views.{typed_view}
use Rattle.rs_forms.proofs.Quickly.{same_given, value_is}
use Rattle.rs_forms.proofs.quick.quick_value.Goals as goal

pub returns-in-Some : goal.returns-in-Some
returns-in-Some g c = same_given (run_expr (frame_view c.args.scene) (expr_view c.args.tree.now)) (value_is c.quick_number.new.found.number c.in-Some.ty) (typed_view c.value_of.result) (g.S.Store.memory c.args.store.now)
    c.value_of.ensures c.in-Some.ensures
