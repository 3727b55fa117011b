use Rattle.std.proofs.Common.{rules, ◌≡◌, [], ◌∷◌, ◌++◌, List, reverse, sym, ap, ◌∙◌, subst, refl}
use Rattle.std.proofs.lemmas.List.{reverse-append}
use Rattle.cx_scope.proofs.Indexes.{puts, sure, dropped}
use Rattle.cx_scope.specs.NameIndex.{IsIndexed}
use Rattle.cx_scope.specs.declared.names.Link.{Link}
use Rattle.cx_scope.proofs.names.NameIndex.drop_newest.Goals as goal

pub invariant_of-self-2 : goal.invariant_of-self-2
invariant_of-self-2 c =
    let one : Link = c.in-Some.last in
    let popped : c.self.inside.links.items ≡ c.pop.new.self.items ++ one ∷ [] = search rules in
    let was : IsIndexed c.self.inside.newest (one ∷ reverse c.pop.new.self.items) = subst (λ (links : List Link). IsIndexed c.self.inside.newest links) (ap reverse popped ∙ reverse-append c.pop.new.self.items (one ∷ [])) c.self.invariant in
    dropped c.self.inside.newest c.insert-known.new.self (reverse c.pop.new.self.items) one was
    (puts c.self.inside.newest c.insert-known.new.self one.name one.older
    (sure c.self.inside.newest c.insert-known.new.self one.name one.older c.insert-known.result c.insert-known.ensures.updates c.insert-known.ensures.absent was.kept.1))
