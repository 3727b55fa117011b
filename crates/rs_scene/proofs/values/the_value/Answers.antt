use Rattle.rs_machine.proofs.Outgoing.{settled_end}
use Rattle.rs_scene.proofs.values.the_value.Goals as goal

pub returns : goal.returns
returns c = settled_end _ _ _ c.value_given.ensures c.settle.ensures
