use Rattle.rs_forms.proofs.Remaining.{listed_left, true_left, false_left}
use Rattle.rs_forms.proofs.left.side_left.Goals as goal

pub returns-then-test : goal.returns-then-test
returns-then-test c = λ frame blocks limit.
    true_left frame c.args.test _ _ c.inner_left.result blocks limit c.if-test.true
    (listed_left frame c.args.if_true.now c.as_slice.result.now c.inner_left.result blocks limit c.as_slice.ensures (c.inner_left.ensures frame blocks limit))

pub returns : goal.returns
returns c = λ frame blocks limit.
    false_left frame c.args.test _ _ c.inner_left-2.result blocks limit c.if-test.false
    (listed_left frame c.args.if_false.now c.as_slice-2.result.now c.inner_left-2.result blocks limit c.as_slice-2.ensures (c.inner_left-2.ensures frame blocks limit))
