use Rattle.std.proofs.Common.{◌≡◌, ◌<◌, IfSome, length, slice_get, sym, subst}
use Rattle.cx_scope.specs.declared.thing.Thing.{Thing}
use Rattle.cx_scope.proofs.Standing.{named_set}
use Rattle.cx_scope.proofs.things.Things.set.Goals as goal

pub invariant_of-self : goal.invariant_of-self
invariant_of-self c =
    named_set c.self.inside.list c.set.new.self c.self.inside.names c.args.index c.args.one c.self.invariant
    (subst (λ list. c.args.index < length list) (sym c.self.view_is) c.requires.within)
    (subst (λ list. IfSome (slice_get list c.args.index) (λ (was : Thing). was.name ≡ c.args.one.name)) (sym c.self.view_is) c.requires.name) c.set.ensures
