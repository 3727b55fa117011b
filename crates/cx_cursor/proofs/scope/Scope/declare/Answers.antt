use Rattle.std.proofs.Common.{rules, ◌≡◌, [], ◌∷◌, ◌++◌, List, sym, ap, ◌∙◌, subst, refl}
use Rattle.cx_cursor.proofs.Scopes.{puts, declares, stays}
use Rattle.cx_cursor.specs.Scopes.{IsIndexed}
use Rattle.cx_cursor.specs.declared.scope.Declared.{Declared}
use Rattle.cx_cursor.proofs.scope.Scope.declare.Goals as goal

pub invariant_of-self-in_err-insert : goal.invariant_of-self-in_err-insert
invariant_of-self-in_err-insert c =
    stays c.self.inside.index c.insert.new.self c.self.inside.declared.items c.reserve.new.self.items c.reserve.ensures.items c.in_err-insert.ensures.err c.self.invariant

pub invariant_of-self-2 : goal.invariant_of-self-2
invariant_of-self-2 c =
    let one : Declared = record { name = c.in_ok-name.name; is_type = c.args.is_type; hides_type = c.is_type-hides_type.result } in
    subst (λ (ds : List Declared). IsIndexed c.insert.new.self ds) (search rules)
    (declares c.self.inside.index c.insert.new.self c.self.inside.declared.items one c.self.invariant (search rules)
    (λ name. puts c.self.inside.index c.insert.new.self c.in_ok-key.key c.args.is_type c.in_ok-insert.ensures.updates name ∙ search rules))
