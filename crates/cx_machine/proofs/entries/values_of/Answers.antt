use Rattle.std.proofs.Common.{◌∙◌}
use Rattle.cx_machine.proofs.Entered.{one_taken}
use Rattle.cx_machine.proofs.entries.values_of.Goals as goal

pub loop-one-preserved : goal.loop-one-preserved
loop-one-preserved c = one_taken c.loop-one.args c.pop.new.self c.in-Some.one c.loop-one.values c.push.new.self c.in-Some.ensures c.in_ok-push.ensures.ok ∙ c.loop-one.invariant
