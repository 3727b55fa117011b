use Rattle.std.proofs.Common.{arith}
use Rattle.std.proofs.lemmas.Bool.Decides.{nat_tests}
use Rattle.cx_core.proofs.Gathers.{answered, refused, pairwise_next, pairwise_fails, pairwise_short, pairwise_ends}
use Rattle.cx_core.proofs.records.meet_in_order.Goals as goal

pub returns-in_default : goal.returns-in_default
returns-in_default c =
    pairwise_short _ _ _ _ _ _ c.loop-index.pairs c.index-firsts-index.result c.loop-index-test.true c.index-firsts-index.is (grind (arith, nat_tests)) c.loop-index.invariant.left

pub returns-then-not-branch : goal.returns-then-not-branch
returns-then-not-branch c =
    let step = c.in_ok-members_meet in
    pairwise_fails _ _ _ _ _ _ c.loop-index.pairs c.index-firsts-index.result c.in-Some.second.now c.loop-index-test.true c.index-firsts-index.is
    (grind (arith, nat_tests)) c.in-Some.ensures.lookup.1 (refused step.field-0 _ _ c.if-not-branch.true step.ensures) c.loop-index.invariant.left

pub loop-index-preserved : goal.loop-index-preserved
loop-index-preserved c =
    let step = c.in_ok-members_meet in
    record {
      below = grind (arith, nat_tests);
      left = pairwise_next _ _ _ _ _ _ c.loop-index.pairs c.members_meet.new.pairs c.index-firsts-index.result c.in-Some.second.now c.loop-index-test.true c.index-firsts-index.is
          (grind (arith, nat_tests)) c.in-Some.ensures.lookup.1 (answered step.field-0 _ _ c.if-not-branch.false step.ensures) c.loop-index.invariant.left;
    }

pub returns : goal.returns
returns c = pairwise_ends _ _ _ _ _ _ c.loop-index.pairs c.loop-index-test.false c.loop-index.auto.index-end c.loop-index.invariant.below c.loop-index.invariant.left
