use Rattle.cx_outside.proofs.Begun.{object_gives, object_full}
use Rattle.cx_outside.proofs.outside.begin.Goals as goal

pub returns-in-Ok-clause-steps : goal.returns-in-Ok-clause-steps
returns-in-Ok-clause-steps g c = object_gives _ _ _ _ _ _ _ _ c.new_block.ensures.limit c.in-Ok.ensures.block

pub returns-in-Err-Full-clause-steps : goal.returns-in-Err-Full-clause-steps
returns-in-Err-Full-clause-steps g c =
    let e = rw c.in-Err-Full.field-0-is at c.in-Err-Full.ensures.block in
    object_full _ _ _ _ _ _ _ _ _ c.new_block.ensures.limit e
