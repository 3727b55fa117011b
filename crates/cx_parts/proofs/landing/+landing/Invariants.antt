use Rattle.std.proofs.Common.{◌+◌, ◌*◌}
use Rattle.cx_parts.proofs.landing.+landing.Given as goal

abbrev pub decreases-member_lands : goal.decreases-member_lands
decreases-member_lands l = 4 * l.depth + 3

abbrev pub decreases-lands_in : goal.decreases-lands_in
decreases-lands_in l = 4 * l.depth + 2

abbrev pub decreases-inner_lands : goal.decreases-inner_lands
decreases-inner_lands l = 4 * l.depth + 1

abbrev pub decreases-record_lands : goal.decreases-record_lands
decreases-record_lands l = 4 * l.depth
