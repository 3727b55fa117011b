use Rattle.std.proofs.Common.{length}
use Rattle.rs_scene.proofs.signatures.+params_alike.Given as goal

abbrev pub decreases-params_alike : goal.decreases-params_alike
decreases-params_alike l = length l.params.now
