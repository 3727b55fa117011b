use Rattle.rs_machine.proofs.Pieces.{stops_first, then_does}
use Rattle.rs_machine.proofs.Rules.{pure_does}
use Rattle.rs_bodies.proofs.stmts.store_in.Goals as goal

pub returns-in-Ok : goal.returns-in-Ok
returns-in-Ok g c = λ kept host. then_does _ (c.in-Ok.ensures kept host) (pure_does _ _)

pub returns-in-Err : goal.returns-in-Err
returns-in-Err g c = λ kept host. stops_first _ (c.in-Err.ensures kept host)
