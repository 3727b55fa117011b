use Rattle.std.proofs.Common.{arith, sym, refl}
use Rattle.cx_core.proofs.Gathers.{answered, refused}
use Rattle.cx_core.proofs.GoodSets.{begins, never, never_by, goes, ends, past_end}
use Rattle.cx_core.proofs.compatibility.compatible.Goals as goal

pub returns-then-not-branch : goal.returns-then-not-branch
returns-then-not-branch c =
    let step = c.in_ok-types_meet in
    (λ h. absurd cc, λ other. absurd (never _ _ _ c.new-pairs.result (refused step.field-0 _ _ c.if-not-branch.true step.ensures) other))

pub loop-index-init : goal.loop-index-init
loop-index-init c =
    let step = c.in_ok-types_meet in
    begins _ _ _ c.new-pairs.result c.types_meet.new.pairs c.new-pairs.ensures (answered step.field-0 _ _ c.if-not-branch.false step.ensures)

pub returns-in_default : goal.returns-in_default
returns-in_default c =
    (λ h. ends _ _ _ c.loop-index.pairs c.loop-index.index c.loop-index.invariant (past_end c.loop-index.pairs c.loop-index.index (sym c.in_default.ensures.value)), λ other. refl)

pub returns-then-not-branch-2 : goal.returns-then-not-branch-2
returns-then-not-branch-2 c =
    let step = c.in_ok-pair_meets in (
      λ h. absurd cc,
      λ other. absurd (never_by _ _ _ c.loop-index.pairs c.loop-index.index c.in-Some.found.now c.loop-index.invariant (sym c.in-Some.ensures.value)
          (refused step.field-0 _ _ c.if-not-branch-2.true step.ensures) other),
    )

pub loop-index-preserved : goal.loop-index-preserved
loop-index-preserved c =
    let step = c.in_ok-pair_meets in
    goes _ _ _ c.loop-index.pairs c.loop-index.index c.in-Some.found.now c.loop-index.invariant (sym c.in-Some.ensures.value) c.pair_meets.new.pairs
    (answered step.field-0 _ _ c.if-not-branch-2.false step.ensures)

pub returns : goal.returns
returns c = (λ h. ends _ _ _ c.loop-index.pairs c.loop-index.index c.loop-index.invariant (omega (arith, c.len-count.ensures)), λ other. refl)
