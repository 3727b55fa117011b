use Rattle.std.proofs.Common.{arith, ◌≡◌, IfOk, map, subst}
use Rattle.std.proofs.lemmas.Bool.Decides.{nat_tests}
use Rattle.cx_core.specs.Views.{view_member, view_types}
use Rattle.cx_parts.proofs.Members.{record_step}
use Rattle.cx_parts.specs.Views.{view_kind}
use Rattle.cx_parts.proofs.landing.+landing.Goals as goal

pub record_lands-returns-in-Some : goal.record_lands-returns-in-Some
record_lands-returns-in-Some t c = subst (λ lands. IfOk c.member_lands.result (λ made. made ≡ lands))
    (record_step (view_types c.args.types.now) (view_kind c.args.kind) c.args.depth c.args.number c.in-Some.index (map view_member c.members_of-members.result.now)
    c.members_of-members.ensures c.in-Some.ensures.number (grind (arith, nat_tests)))
    c.member_lands.ensures
