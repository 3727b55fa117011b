use Rattle.std.proofs.Common.{Ok, Err, option_map}
use Rattle.rs_value.specs.Views.{typed_view}
use Rattle.rs_machine.proofs.Outgoing.{settled}
use Rattle.rs_machine.proofs.outer.answer_as.Goals as goal

pub returns-in-Ok : goal.returns-in-Ok
returns-in-Ok c = settled _ (Ok (option_map typed_view c.in-Ok.value)) c.in-Ok.ensures

pub returns-in-Err : goal.returns-in-Err
returns-in-Err c = settled _ (Err c.in-Err.why) c.in-Err.ensures
