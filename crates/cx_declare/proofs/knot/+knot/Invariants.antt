use Rattle.std.proofs.Common.{◌*◌, ◌-◌}
use Rattle.cx_declare.proofs.knot.+knot.Given as goal

abbrev pub decreases-read : goal.decreases-read
decreases-read l = 2 * l.depth

abbrev pub decreases-below : goal.decreases-below
decreases-below l = 2 * l.depth - 1
