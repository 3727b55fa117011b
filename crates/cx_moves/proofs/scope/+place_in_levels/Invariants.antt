use Rattle.std.proofs.Common.{length}
use Rattle.cx_moves.proofs.scope.+place_in_levels.Given as goal

abbrev pub decreases-place_in_levels : goal.decreases-place_in_levels
decreases-place_in_levels l = length l.levels.now
