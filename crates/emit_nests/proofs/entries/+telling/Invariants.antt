use Rattle.std.proofs.Common.{◌+◌, ◌*◌}
use Rattle.emit_nests.proofs.entries.+telling.Given as goal

abbrev pub decreases-nest_is_told : goal.decreases-nest_is_told
decreases-nest_is_told l = 2 * goal.size-nest_is_told l

abbrev pub decreases-chain_is_told : goal.decreases-chain_is_told
decreases-chain_is_told l = 2 * goal.size-chain_is_told l + 1
