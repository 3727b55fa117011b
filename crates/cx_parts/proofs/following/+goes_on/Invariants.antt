use Rattle.std.proofs.Common.{length}
use Rattle.cx_parts.proofs.following.+goes_on.Given as goal

abbrev pub decreases-goes_on : goal.decreases-goes_on
decreases-goes_on l = length l.path.now
