use Rattle.std_host.proofs.PrintingLemmas.{one_more}
use Rattle.std_host.proofs.output.out_of.Goals as goal

pub loop-call-preserved : goal.loop-call-preserved
loop-call-preserved c =
    one_more c.args.calls.now c.loop-call.call-index c.call-item.result c.loop-call.written c.add_output.new.text c.in_ok-add_output.field-0 c.loop-call-test.true c.call-item.is c.loop-call.invariant c.in_ok-add_output.ensures c.if-not-branch.false
