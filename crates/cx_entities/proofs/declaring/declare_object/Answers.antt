use Rattle.std.proofs.Common.{map, ap, ◌∙◌, refl}
use Rattle.cx_core.specs.Views.{view_object, view_type}
use Rattle.cx_entities.proofs.Again.{object_again, object_kept}
use Rattle.cx_entities.proofs.Standing.{named_is, named_set, keeps_name}
use Rattle.cx_entities.specs.Entities as entities
use Rattle.cx_entities.specs.Entities.{numbered}
use Rattle.cx_entities.specs.Views.{view_declaring}
use Rattle.cx_rules.specs.Declare.{declared_again}
use Rattle.cx_rules.specs.Scope.{CThing}
use Rattle.cx_scope.specs.Places.{changed_by, get_found}
use Rattle.cx_scope.specs.Views.{view_scope, view_thing}
use Rattle.cx_scope.specs.declared.thing.Thing.{Thing}
use Rattle.cx_entities.proofs.declaring.declare_object.Goals as goal

pub first_object-requires : goal.first_object-requires
unfolding view_scope
first_object-requires c = c.at.ensures.is ∙ ap (λ found. get_found found (map view_thing c.args.scope.now.things)) c.in_default.is

pub set-requires-clause-name : goal.set-requires-clause-name
set-requires-clause-name c =
    keeps_name view_thing (λ (one : Thing). one.name) (λ one. refl) c.args.scope.now.things c.in-Some.index c.get.result c.in-Some-get.before c.in_ok-again.again
    c.get.ensures.value c.in-Some-get.is (ap (λ (one : CThing). one.name) c.in_ok-again.ensures)

pub returns-then-not-was_defined-clause-added : goal.returns-then-not-was_defined-clause-added
unfolding view_scope
returns-then-not-was_defined-clause-added c =
    object_again (view_scope c.args.scope.now) (view_declaring c.args.one) (view_thing c.in-Some-get.before.now) (view_thing c.in_ok-again.again)
    (map view_thing c.set.new.self) (map view_object c.change.new.self)
    (named_is view_thing c.args.one.name.now c.args.scope.now.things c.at.result c.in-Some.index c.get.result c.in-Some-get.before c.at.ensures c.in-Some.is c.get.ensures.value c.in-Some-get.is)
    (c.in_ok-again.ensures ∙ ap (λ line. declared_again (view_type c.args.one.ty.now) c.args.one.has_init line (view_thing c.in-Some-get.before.now)) c.tentative_of.ensures)
    (named_set view_thing c.args.one.name.now c.args.scope.now.things c.set.new.self c.at.result c.in-Some.index c.in_ok-again.again c.at.ensures c.in-Some.is c.set.ensures)
    (c.change.ensures ∙ ap (λ type. changed_by (numbered c.in-Some-get.before.now.number) (entities.retyped type) (map view_object c.args.scope.now.objects)) c.in_ok-ty.ensures)
    c.if-not-was_defined.true

pub returns-else-not-was_defined-clause-added : goal.returns-else-not-was_defined-clause-added
unfolding view_scope
returns-else-not-was_defined-clause-added c =
    object_kept (view_scope c.args.scope.now) (view_declaring c.args.one) (view_thing c.in-Some-get.before.now) (view_thing c.in_ok-again.again)
    (map view_thing c.set.new.self)
    (named_is view_thing c.args.one.name.now c.args.scope.now.things c.at.result c.in-Some.index c.get.result c.in-Some-get.before c.at.ensures c.in-Some.is c.get.ensures.value c.in-Some-get.is)
    (c.in_ok-again.ensures ∙ ap (λ line. declared_again (view_type c.args.one.ty.now) c.args.one.has_init line (view_thing c.in-Some-get.before.now)) c.tentative_of.ensures)
    (named_set view_thing c.args.one.name.now c.args.scope.now.things c.set.new.self c.at.result c.in-Some.index c.in_ok-again.again c.at.ensures c.in-Some.is c.set.ensures)
    c.if-not-was_defined.false
