use Rattle.std.proofs.Common.{rules, ◌≡◌, [], ◌∷◌, ◌++◌, List, sym, ap, ◌∙◌, subst, refl}
use Rattle.cx_cursor.proofs.Scopes.{puts, sure, forgets, known_last}
use Rattle.cx_cursor.specs.Scopes.{IsIndexed}
use Rattle.cx_cursor.specs.declared.scope.Declared.{Declared}
use Rattle.cx_cursor.proofs.scope.Scope.forget.Goals as goal

pub invariant_of-self-2 : goal.invariant_of-self-2
invariant_of-self-2 c =
    let one : Declared = c.in-Some.last in
    let was : IsIndexed c.self.inside.index (c.pop.new.self.items ++ one ∷ []) = subst (λ (ds : List Declared). IsIndexed c.self.inside.index ds) (search rules) c.self.invariant in
    forgets c.self.inside.index c.insert-known.new.self c.pop.new.self.items one was
    (puts c.self.inside.index c.insert-known.new.self one.name one.hides_type
    (sure c.self.inside.index c.insert-known.new.self one.name one.hides_type c.insert-known.result c.insert-known.ensures.updates c.insert-known.ensures.absent
    (known_last c.self.inside.index c.pop.new.self.items one was)))
