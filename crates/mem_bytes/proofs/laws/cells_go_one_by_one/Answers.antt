use Rattle.mem_bytes.proofs.OneByOne.{cells_are_read, cells_are_put, cells_are_copied}
use Rattle.mem_bytes.proofs.laws.cells_go_one_by_one.Goals as goal

pub returns : goal.returns
returns c = record { read = cells_are_read; put = cells_are_put; copy = cells_are_copied }
