use Rattle.std.proofs.Common.{◌≡◌, ◌<◌, IfSome, length, slice_get, sym, subst}
use Rattle.cx_rules.specs.Scope.{is_ordinary}
use Rattle.cx_scope.specs.Views.{view_meant}
use Rattle.cx_scope.specs.declared.meant.Declared.{Declared}
use Rattle.cx_scope.proofs.Replaced.{indexed_set}
use Rattle.cx_scope.proofs.declarations.Declarations.set.Goals as goal

pub invariant_of-self : goal.invariant_of-self
invariant_of-self c =
    indexed_set c.self.inside.list c.set.new.self c.self.inside.ordinary c.self.inside.tags c.args.index c.args.one c.self.invariant
    (subst (λ list. c.args.index < length list) (sym c.self.view_is) c.requires.within)
    (subst (λ list. IfSome (slice_get list c.args.index) (λ (was : Declared). was.name ≡ c.args.one.name)) (sym c.self.view_is) c.requires.name)
    (subst (λ list. IfSome (slice_get list c.args.index) (λ (was : Declared). is_ordinary (view_meant was.meant) ≡ is_ordinary (view_meant c.args.one.meant))) (sym c.self.view_is) c.requires.space)
    c.set.ensures
