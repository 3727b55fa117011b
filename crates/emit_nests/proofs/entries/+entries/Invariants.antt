use Rattle.std.proofs.Common.{◌+◌, ◌*◌}
use Rattle.emit_nests.proofs.entries.+entries.Given as goal

abbrev pub decreases-nest_entries : goal.decreases-nest_entries
decreases-nest_entries l = 2 * goal.size-nest_entries l

abbrev pub decreases-chain_entries : goal.decreases-chain_entries
decreases-chain_entries l = 2 * goal.size-chain_entries l + 1
