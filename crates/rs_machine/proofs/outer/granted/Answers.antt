use Rattle.rs_machine.proofs.Pieces.{then_does, stops_first}
use Rattle.rs_machine.proofs.Rules.{pure_is}
use Rattle.rs_machine.proofs.outer.granted.Goals as goal

pub returns-in-Ok : goal.returns-in-Ok
returns-in-Ok g c = λ host. then_does _ (c.in-Ok.ensures host) (pure_is _ _ c.given.ensures _)

pub returns-in-Err : goal.returns-in-Err
returns-in-Err g c = λ host. stops_first _ (c.in-Err.ensures host)
