use Rattle.std.proofs.Common.{◌-◌}
use Rattle.cx_expr.proofs.Depths.{member_decls_pushed}
use Rattle.cx_declare.proofs.members.next_member.Goals as goal

pub returns-clause-depth : goal.returns-clause-depth
returns-clause-depth g c =
    member_decls_pushed _ _ _ _ _ _ c.in_ok-push.ensures.list c.in_ok-push.ensures.depth c.in_ok-one.ensures.depth
    c.requires.measured
