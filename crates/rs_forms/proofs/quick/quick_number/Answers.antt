use Rattle.std.proofs.Common.{map}
use Rattle.rs_mean.specs.Run.{run_expr}
use Rattle.rs_scene.specs.Scenes.{frame_view}
use Rattle.rs_tree.specs.Views.{expr_view, module_view}
use Rattle.rs_forms.specs.Paired.{operands_run}
use Rattle.rs_forms.proofs.Quickly.{operands_give, value_is}
use Rattle.rs_forms.proofs.quick.quick_number.Goals as goal

pub returns-in-Some : goal.returns-in-Some
returns-in-Some g c = operands_give (value_is c.number_given.new.number) (operands_run (map module_view c.args.scene.modules.now) c.in-Some.all c.operands_in.new.numbers) (run_expr (frame_view c.args.scene) (expr_view c.args.tree.now))
    c.number_given.result (g.S.Store.memory c.args.store.now) c.in-Some.ensures (c.number_given.ensures (map module_view c.args.scene.modules.now))
