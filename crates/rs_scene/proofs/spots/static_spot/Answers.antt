use Rattle.rs_machine.proofs.Outgoing.{settled_end}
use Rattle.rs_scene.proofs.spots.static_spot.Goals as goal

pub returns : goal.returns
returns c = settled_end _ _ _ c.static_found.ensures c.settle_spot.ensures
