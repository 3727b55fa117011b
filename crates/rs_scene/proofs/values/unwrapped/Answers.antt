use Rattle.rs_machine.proofs.Outgoing.{settled_end}
use Rattle.rs_scene.proofs.values.unwrapped.Goals as goal

pub returns : goal.returns
returns c = settled_end _ _ _ c.pointed_found.ensures c.settle_pointed.ensures
