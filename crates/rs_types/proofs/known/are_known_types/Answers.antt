use Rattle.std.proofs.Common.{◌∙◌}
use Rattle.rs_types.proofs.Externals.{one_more}
use Rattle.rs_types.proofs.known.are_known_types.Goals as goal

pub returns-in_default : goal.returns-in_default
returns-in_default c = one_more c.args.known.now c.loop-one.one-index c.loop-one.rest.now c.loop-one-test.true c.in_default.len_below ∙ c.loop-one.invariant
