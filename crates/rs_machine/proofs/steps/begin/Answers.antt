use Rattle.rs_machine.proofs.Stored.{begun, not_begun, begin_none, begin_some}
use Rattle.rs_machine.proofs.steps.begin.Goals as goal

pub returns-in_default : goal.returns-in_default
returns-in_default g c = begin_none _ _ _ c.in_default.is

pub returns-in-Ok : goal.returns-in-Ok
returns-in-Ok g c = begin_some _ _ c.in-Some.is (begun _ _ _ _ _ _ _ c.new_block.ensures.limit c.in-Ok.ensures.block)

pub returns-in-Err : goal.returns-in-Err
returns-in-Err g c = begin_some _ _ c.in-Some.is (not_begun _ _ _ _ _ _ _ _ c.new_block.ensures.limit c.in-Err.ensures.block c.halt_of_store.ensures)
