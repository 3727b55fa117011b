use Rattle.std.proofs.Common.{◌∙◌}
use Rattle.rs_scene.proofs.Spotted.{no_params}
use Rattle.rs_scene.proofs.signatures.+params_alike.Goals as goal

pub returns-in_default : goal.returns-in_default
returns-in_default t c = c.is_empty.ensures ∙ no_params c.args.params.now c.args.types.now c.in_default.ensures.cases
