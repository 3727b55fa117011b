use Rattle.std.proofs.Common.{sym, subst}
use Rattle.cx_scope.proofs.Listed.{listed_more}
use Rattle.cx_scope.specs.MemberNames.{AreListed}
use Rattle.cx_scope.proofs.members.Members.push.Goals as goal

pub invariant_of-self-in-Ok : goal.invariant_of-self-in-Ok
invariant_of-self-in-Ok c =
    subst (AreListed c.push.new.self) (sym c.in_ok-note.ensures.noted)
    (listed_more c.self.inside.list c.push.new.self c.self.inside.names c.args.one c.len-place.result c.self.invariant c.len-place.ensures c.in-Ok.ensures.ok)
