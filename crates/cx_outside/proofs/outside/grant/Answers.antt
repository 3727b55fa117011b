use Rattle.cx_outside.proofs.Begun.{block_given, null_given}
use Rattle.cx_outside.proofs.outside.grant.Goals as goal

pub returns-in-Ok-note-clause-steps : goal.returns-in-Ok-note-clause-steps
returns-in-Ok-note-clause-steps g c =
    let e = rw c.in-Err-Full.field-0-is at c.in-Err-Full.ensures.block in
    null_given _ _ _ _ _ _ _ _ c.new_block.ensures.limit _ _ e c.in-Ok-note.ensures.ok

pub returns-in-Ok-granted-clause-steps : goal.returns-in-Ok-granted-clause-steps
returns-in-Ok-granted-clause-steps g c = block_given _ _ _ _ _ _ _ _ c.new_block.ensures.limit _ c.in-Ok.ensures.block c.in-Ok-granted.ensures
