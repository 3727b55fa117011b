use Rattle.rs_machine.proofs.Rules.{pure_does}
use Rattle.rs_scene.proofs.values.null_pointer.Goals as goal

pub returns : goal.returns
returns c = pure_does _
