use Rattle.rs_machine.proofs.Outgoing.{settled_end}
use Rattle.rs_scene.proofs.spots.local_spot.Goals as goal

pub returns : goal.returns
returns c = settled_end _ _ _ c.local_found.ensures c.settle_spot.ensures
