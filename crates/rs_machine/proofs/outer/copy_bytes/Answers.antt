use Rattle.rs_value.specs.Views.{typed_view}
use Rattle.rs_machine.proofs.Outgoing.{copy_gives, copy_stops}
use Rattle.rs_machine.proofs.outer.copy_bytes.Goals as goal

pub returns-in-Ok : goal.returns-in-Ok
returns-in-Ok g c = copy_gives (typed_view c.args.from) (typed_view c.args.to) (typed_view c.args.count) _ _ _ _ c.copy_of.ensures.limit c.in-Ok.ensures.blocks

pub returns-in-Err : goal.returns-in-Err
returns-in-Err g c = copy_stops (typed_view c.args.from) (typed_view c.args.to) (typed_view c.args.count) _ _ _ _ c.in-Err.trouble _ c.copy_of.ensures.limit c.in-Err.ensures.blocks c.halt_of.ensures
