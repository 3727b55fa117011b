use Rattle.std.proofs.Common.{◌≡◌, None, map, sym, subst}
use Rattle.cx_rules.specs.Declare.{thing_named}
use Rattle.cx_scope.specs.Views.{view_thing}
use Rattle.cx_scope.proofs.Standing.{named_more}
use Rattle.cx_scope.specs.Indexed.{AreNamed}
use Rattle.cx_scope.proofs.things.Things.push.Goals as goal

pub invariant_of-self-in-Ok : goal.invariant_of-self-in-Ok
invariant_of-self-in-Ok c =
    subst (AreNamed c.push.new.self) (sym c.in_ok-add.ensures.added)
    (named_more c.self.inside.list c.push.new.self c.self.inside.names c.args.one c.len.result c.self.invariant c.len.ensures c.in-Ok.ensures.ok
    (subst (λ list. thing_named c.args.one.name (map view_thing list) ≡ None) (sym c.self.view_is) c.requires))
