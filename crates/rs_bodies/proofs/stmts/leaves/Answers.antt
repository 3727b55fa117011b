use Rattle.rs_machine.proofs.Rules.{pure_does}
use Rattle.rs_bodies.proofs.stmts.leaves.Goals as goal

pub returns : goal.returns
returns c = λ at. pure_does _ at
