use Rattle.std.proofs.Common.{rules, ◌-◌, arith}
use Rattle.std.proofs.lemmas.Grind.{common_steps}
use Rattle.cx_expr.proofs.Depths.{member_declarators_pushed}
use Rattle.cx_declare.proofs.members.next_declarator.Goals as goal

pub returns-clause-depth : goal.returns-clause-depth
returns-clause-depth g c =
    member_declarators_pushed _ _ _ _ _ _ c.in_ok-push.ensures.list c.in_ok-push.ensures.depth c.in_ok-one.ensures.depth
    (first_of (search rules, grind (arith, common_steps)))
