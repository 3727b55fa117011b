use Rattle.rs_machine.proofs.Rules.{pure_is}
use Rattle.rs_scene.proofs.values.literal.Goals as goal

pub returns : goal.returns
returns c = pure_is _ _ c.integer_value.ensures
