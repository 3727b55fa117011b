use Rattle.std.proofs.Common.{length}
use Rattle.cx_init.proofs.puts.+part_at.Given as goal

abbrev pub decreases-part_at : goal.decreases-part_at
decreases-part_at l = length l.path.now
