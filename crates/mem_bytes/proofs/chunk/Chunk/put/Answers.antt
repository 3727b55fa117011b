use Rattle.std.proofs.Common.{rules}
use Rattle.mem_bytes.proofs.Slots.{change_dead, change_live}
use Rattle.mem_bytes.proofs.chunk.Chunk.put.Goals as goal

pub returns-in_default-held : goal.returns-in_default-held
returns-in_default-held c =
    change_dead _ _ _ _ _ c.self.view_is (search rules) (search rules) c.in_default-held.is

pub returns : goal.returns
returns c =
    change_live _ _ _ _ _ _ _ _ c.self.view_is (search rules) (search rules) c.in-Some-held.is c.put.ensures
