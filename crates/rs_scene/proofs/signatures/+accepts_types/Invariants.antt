use Rattle.std.proofs.Common.{length}
use Rattle.rs_scene.proofs.signatures.+accepts_types.Given as goal

abbrev pub decreases-accepts_types : goal.decreases-accepts_types
decreases-accepts_types l = length l.params.now
