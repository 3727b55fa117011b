use Rattle.rs_machine.proofs.Stored.{store_gives, store_stops}
use Rattle.rs_machine.proofs.steps.store_at.Goals as goal

pub returns-in-Ok : goal.returns-in-Ok
returns-in-Ok g c = store_gives _ _ _ _ _ _ c.put.ensures.limit c.in-Ok.ensures.blocks

pub returns-in-Err : goal.returns-in-Err
returns-in-Err g c = store_stops _ _ _ _ _ _ _ _ c.put.ensures.limit c.in-Err.ensures.blocks c.halt_of.ensures
