use Rattle.std.proofs.Common.{map}
use Rattle.rs_mean.specs.Run.{run_expr}
use Rattle.rs_scene.specs.Scenes.{frame_view}
use Rattle.rs_tree.specs.Views.{expr_view, module_view}
use Rattle.rs_forms.proofs.Quickly.{operands_held, value_is}
use Rattle.rs_forms.proofs.quick.operands_of.Goals as goal

pub returns : goal.returns
returns g c = operands_held (map module_view c.args.scene.modules.now) (run_expr (frame_view c.args.scene) (expr_view c.args.left.now)) (run_expr (frame_view c.args.scene) (expr_view c.args.right.now))
    c.args.operation (value_is c.number_of.new.number c.in-Some.left) (value_is c.number_of-2.new.number c.in-Some-number_of.right) (g.S.Store.memory c.args.store.now) c.in-Some.ensures c.in-Some-number_of.ensures
