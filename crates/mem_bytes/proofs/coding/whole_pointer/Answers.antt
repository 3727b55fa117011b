use Rattle.std.proofs.Common.{rules}
use Rattle.mem_bytes.specs.Memory.{unset_cell}
use Rattle.mem_bytes.proofs.Decoding.{whole_from}
use Rattle.mem_bytes.proofs.coding.whole_pointer.Goals as goal

pub returns-in-Some-PtrByte : goal.returns-in-Some-PtrByte
returns-in-Some-PtrByte c =
    whole_from c.args.scalar c.in-Some-PtrByte.of c.args.cells.now c.in-Some-PtrByte.field-0-1 unset_cell (search rules) (search rules) (search rules) (search rules)
