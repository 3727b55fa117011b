use Rattle.rs_machine.proofs.Stored.{load_gives, load_fails}
use Rattle.rs_machine.proofs.steps.load.Goals as goal

pub returns-in-Ok : goal.returns-in-Ok
returns-in-Ok g c = load_gives _ _ _ c.in-Ok.ensures

pub returns-in-Err : goal.returns-in-Err
returns-in-Err g c = load_fails _ _ _ c.in-Err.ensures
