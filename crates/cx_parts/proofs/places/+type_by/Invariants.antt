use Rattle.std.proofs.Common.{length}
use Rattle.cx_parts.proofs.places.+type_by.Given as goal

abbrev pub decreases-type_by : goal.decreases-type_by
decreases-type_by l = length l.path.now
