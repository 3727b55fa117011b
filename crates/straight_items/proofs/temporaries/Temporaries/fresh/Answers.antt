use Rattle.std.proofs.Common.{◌≡◌, length, rules}
use Rattle.straight_items.proofs.Fresh.{held_after, makes_after}
use Rattle.straight_items.proofs.temporaries.Temporaries.fresh.Goals as goal

pub invariant_of-self-2 : goal.invariant_of-self-2
invariant_of-self-2 c =
    held_after c.self.inside.taken c.self.inside.names c.as_slice-taken.result.now c.push.new.self
    c.in_ok-found.found.name c.in_ok-found.found.number c.self.inside.next
    c.as_slice-taken.ensures c.in_ok-push.ensures.ok c.self.invariant c.in_ok-found.ensures

pub returns-clause-ok : goal.returns-clause-ok
returns-clause-ok c =
    let counted : c.in-Ok.number ≡ length c.self.inside.names = search rules in
    makes_after c.args.self.now c.self.inside.taken c.self.inside.names c.as_slice-taken.result.now c.push.new.self
    c.in_ok-found.found.name c.in_ok-found.found.number c.self.inside.next c.in-Ok.number
    c.self.view_is c.as_slice-taken.ensures c.in_ok-push.ensures.ok counted c.self.invariant c.in_ok-found.ensures
