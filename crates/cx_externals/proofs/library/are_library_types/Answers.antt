use Rattle.std.proofs.Common.{◌∙◌}
use Rattle.cx_externals.proofs.Lists.{all_seen, one_more}
use Rattle.cx_externals.proofs.library.are_library_types.Goals as goal

pub returns-in_default : goal.returns-in_default
returns-in_default c = one_more c.args.known.now c.loop-one.one-index c.loop-one.rest.now c.loop-one-test.true c.in_default.len_below ∙ c.loop-one.invariant

pub returns : goal.returns
returns c = c.is_empty.ensures ∙ (all_seen c.args.known.now c.loop-one.one-index c.loop-one.rest.now c.loop-one-test.false ∙ c.loop-one.invariant)
