use Rattle.rs_machine.proofs.Answers.{grants_gives, grants_null}
use Rattle.rs_machine.proofs.outside.grant.Goals as goal

pub returns-in-Ok-note : goal.returns-in-Ok-note
returns-in-Ok-note g c =
    let e = rw c.in-Err-Full.field-0-is at c.in-Err-Full.ensures.block in
    grants_null _ _ _ _ _ _ _ c.new_block.ensures.limit _ _ _ e c.in-Ok-note.ensures.ok

pub returns-in-Ok-granted : goal.returns-in-Ok-granted
returns-in-Ok-granted g c = grants_gives _ _ _ _ _ _ _ c.new_block.ensures.limit _ _ c.in-Ok.ensures.block c.in-Ok-granted.ensures
