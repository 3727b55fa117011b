use Rattle.std.proofs.Common.{rules, ◌≡◌, [], ◌∷◌, ◌++◌, List, map, reverse, sym, ap, ◌∙◌, subst, refl, Some}
use Rattle.std.proofs.lemmas.List.{reverse-append}
use Rattle.cx_scope.proofs.Indexes.{puts, added, stays}
use Rattle.cx_scope.specs.NameIndex.{IsIndexed}
use Rattle.cx_scope.specs.declared.names.Link.{Link}
use Rattle.cx_scope.proofs.names.NameIndex.add.Goals as goal

pub invariant_of-self-in_err-insert : goal.invariant_of-self-in_err-insert
invariant_of-self-in_err-insert c =
    stays c.self.inside.newest c.insert.new.self (reverse c.self.inside.links.items) (reverse c.reserve.new.self.items) (ap reverse c.reserve.ensures.items) c.in_err-insert.ensures.err c.self.invariant

pub invariant_of-self-2 : goal.invariant_of-self-2
invariant_of-self-2 c =
    let one : Link = record { name = c.in_ok-name.name; place = c.args.place; older = c.place_of-older.result } in
    let pushed : c.push.new.self.items ≡ c.self.inside.links.items ++ one ∷ [] = search rules in
    subst (λ (links : List Link). IsIndexed c.insert.new.self links) (sym (ap reverse pushed ∙ reverse-append c.self.inside.links.items (one ∷ [])))
    (added c.self.inside.newest c.insert.new.self (reverse c.self.inside.links.items) one c.self.invariant (search rules)
    (λ name. puts c.self.inside.newest c.insert.new.self c.in_ok-key.key (Some c.args.place) c.in_ok-insert.ensures.updates name ∙ search rules))
