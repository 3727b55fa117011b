use Rattle.cr_world.proofs.KnownLaws.{copy_writes_own, fill_writes_own, free_ends_own}
use Rattle.cr_world.proofs.laws.known_write_their_own.Goals as goal

pub returns : goal.returns
returns c = record { copy = copy_writes_own; fill = fill_writes_own; free = free_ends_own }
