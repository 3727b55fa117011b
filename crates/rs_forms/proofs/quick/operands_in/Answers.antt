use Rattle.std.proofs.Common.{map}
use Rattle.rs_scene.specs.Scenes.{frame_view}
use Rattle.rs_tree.specs.Views.{module_view}
use Rattle.rs_forms.specs.declared.quick.Operands.{Operands}
use Rattle.rs_forms.specs.Paired.{operands_run}
use Rattle.rs_forms.proofs.Quickly.{operands_formed}
use Rattle.rs_forms.proofs.quick.operands_in.Goals as goal

pub returns-in-Two : goal.returns-in-Two
returns-in-Two g c = operands_formed (λ (all : Operands). operands_run (map module_view c.args.scene.modules.now) all c.operands_of.new.numbers) (frame_view c.args.scene) c.args.tree.now c.form_of.result _ c.operands_of.result
    (g.S.Store.memory c.args.store.now) c.form_of.ensures c.in-Two.is c.operands_of.ensures
