use Rattle.std.proofs.Common.{rules}
use Rattle.rs_machine.proofs.Outgoing.{copied_stops}
use Rattle.rs_machine.proofs.outer.copy_of.Goals as goal

pub returns-in-Err-copied-clause-blocks : goal.returns-in-Err-copied-clause-blocks
returns-in-Err-copied-clause-blocks g c = rw c.in-Whole.is (copied_stops c.in-Err-copied.trouble c.args.from c.args.to c.in-Whole.count c.in-Ok.count _ _ (search rules) c.in-Err-copied.ensures.effect)
