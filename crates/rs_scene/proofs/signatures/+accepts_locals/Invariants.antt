use Rattle.std.proofs.Common.{length}
use Rattle.rs_scene.proofs.signatures.+accepts_locals.Given as goal

abbrev pub decreases-accepts_locals : goal.decreases-accepts_locals
decreases-accepts_locals l = length l.params.now
