use Rattle.std.proofs.Common.{◌-◌}
use Rattle.cx_expr.proofs.Depths.{designators_pushed}
use Rattle.cx_expr.proofs.initialisers.next_designator.Goals as goal

pub returns-clause-depth : goal.returns-clause-depth
returns-clause-depth g c =
    designators_pushed _ _ _ _ _ _ c.in_ok-push.ensures.list c.in_ok-push.ensures.depth c.in_ok-one.ensures.depth
    c.requires.measured
