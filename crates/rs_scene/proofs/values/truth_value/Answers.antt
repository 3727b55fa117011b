use Rattle.rs_machine.proofs.Rules.{pure_is}
use Rattle.rs_scene.proofs.values.truth_value.Goals as goal

pub returns : goal.returns
returns c = pure_is _ _ c.truth.ensures
