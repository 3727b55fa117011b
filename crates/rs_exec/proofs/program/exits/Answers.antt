use Rattle.rs_exec.proofs.Started.{nothing_given}
use Rattle.rs_exec.proofs.program.exits.Goals as goal

pub returns-in-None : goal.returns-in-None
returns-in-None c = nothing_given c.args.given c.in-None.is
