use Rattle.rs_value.specs.Views.{typed_view}
use Rattle.rs_machine.proofs.Outgoing.{looked_gives, looked_stops}
use Rattle.rs_forms.proofs.operations.offset_value.Goals as goal

pub returns-in-Ok : goal.returns-in-Ok
returns-in-Ok g c = λ kept limit host. looked_gives _ (typed_view c.in-Ok.found) _ c.in-Ok.ensures

pub returns-in-Err : goal.returns-in-Err
returns-in-Err g c = λ kept limit host. looked_stops typed_view _ c.in-Err.trouble _ _ c.in-Err.ensures c.halt_of.ensures
