use Rattle.cx_core.proofs.Gathers.{gathered_met}
use Rattle.cx_core.specs.Needed.{answer}
use Rattle.cx_core.proofs.records.meet_in_some_order.Goals as goal

pub returns : goal.returns
returns c =
    let first = c.in_ok-partners_meet in
    let last = c.in_ok-found in
    gathered_met c.args.pairs.now c.partners_meet.new.pairs _ _ (answer last.found c.partners_meet-2.new.pairs) first.field-0 c.if-not-branch.false first.ensures last.ensures
