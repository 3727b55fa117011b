use Rattle.std.proofs.Common.{length}
use Rattle.rs_scene.proofs.frames.+begin_locals.Given as goal

abbrev pub decreases-begin_locals : goal.decreases-begin_locals
decreases-begin_locals g l = length l.locals.now
