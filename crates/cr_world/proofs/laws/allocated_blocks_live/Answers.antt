use Rattle.cr_world.proofs.Allocated.{allocated_keeps, gives_keeps, gives_nothing_keeps}
use Rattle.cr_world.proofs.laws.allocated_blocks_live.Goals as goal

pub returns : goal.returns
returns c = record { allocated = allocated_keeps; gives = gives_keeps; gives_nothing = gives_nothing_keeps }
