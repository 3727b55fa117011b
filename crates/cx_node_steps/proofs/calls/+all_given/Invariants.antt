use Rattle.std.proofs.Common.{length}
use Rattle.cx_node_steps.proofs.calls.+all_given.Given as goal

abbrev pub decreases-all_given : goal.decreases-all_given
decreases-all_given l = length l.args.now
