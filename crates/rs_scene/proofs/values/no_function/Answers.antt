use Rattle.rs_machine.proofs.Rules.{pure_is}
use Rattle.rs_scene.proofs.values.no_function.Goals as goal

pub returns : goal.returns
returns c = pure_is _ _ c.none_value.ensures
