use Rattle.cx_core.proofs.Gathers.{answered, refused, each_next, each_fails}
use Rattle.cx_core.proofs.records.partners_meet.Goals as goal

pub returns-then-not-branch : goal.returns-then-not-branch
returns-then-not-branch c =
    let step = c.in_ok-partner_meets in
    each_fails _ _ _ _ _ c.loop-one.pairs c.one-item.result c.loop-one-test.true c.one-item.is
    (refused step.field-0 _ _ c.if-not-branch.true step.ensures) c.loop-one.invariant

pub loop-one-preserved : goal.loop-one-preserved
loop-one-preserved c =
    let step = c.in_ok-partner_meets in
    each_next _ _ _ _ _ c.loop-one.pairs c.partner_meets.new.pairs c.one-item.result c.loop-one-test.true c.one-item.is
    (answered step.field-0 _ _ c.if-not-branch.false step.ensures) c.loop-one.invariant
