use Rattle.rs_machine.proofs.Rules.{pure_does}
use Rattle.rs_forms.proofs.operations.address.Goals as goal

pub returns : goal.returns
returns c = λ at. pure_does _ at
