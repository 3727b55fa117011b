use Rattle.std.proofs.Common.{length}
use Rattle.rs_scene.proofs.frames.+begin_params.Given as goal

abbrev pub decreases-begin_params : goal.decreases-begin_params
decreases-begin_params g l = length l.params.now
