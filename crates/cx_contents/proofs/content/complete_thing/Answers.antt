use Rattle.std.proofs.Common.{map, ap, refl}
use Rattle.cx_contents.proofs.Kept.{thing_done}
use Rattle.cx_core.specs.Views.{view_type}
use Rattle.cx_entities.proofs.Standing.{named_is, named_set, keeps_name}
use Rattle.cx_rules.specs.Scope.{CThing}
use Rattle.cx_scope.specs.Views.{view_scope, view_thing}
use Rattle.cx_scope.specs.declared.thing.Thing.{Thing}
use Rattle.cx_contents.proofs.content.complete_thing.Goals as goal

pub set-requires-clause-name : goal.set-requires-clause-name
set-requires-clause-name c =
    keeps_name view_thing (λ (one : Thing). one.name) (λ one. refl) c.args.scope.now.things c.in-Some.index c.get.result c.in-Some-get.before c.in_ok-made.made
    c.get.ensures.value c.in-Some-get.is (ap (λ (one : CThing). one.name) c.in_ok-made.ensures)

pub returns-clause-completed : goal.returns-clause-completed
unfolding view_scope
returns-clause-completed c =
    thing_done (view_scope c.args.scope.now) c.args.name.now (view_type c.args.ty.now) (view_thing c.in-Some-get.before.now) (view_thing c.in_ok-made.made) (map view_thing c.set.new.self)
    (named_is view_thing c.args.name.now c.args.scope.now.things c.at.result c.in-Some.index c.get.result c.in-Some-get.before c.at.ensures c.in-Some.is c.get.ensures.value c.in-Some-get.is)
    c.in_ok-made.ensures
    (named_set view_thing c.args.name.now c.args.scope.now.things c.set.new.self c.at.result c.in-Some.index c.in_ok-made.made c.at.ensures c.in-Some.is c.set.ensures)
