use Rattle.std.proofs.Common.{rules}
use Rattle.straight_decl.proofs.ObjectNumbers.{grown}
use Rattle.straight_decl.proofs.object_names.ObjectNames.push.Goals as goal

pub invariant_of-self-2 : goal.invariant_of-self-2
invariant_of-self-2 c =
    grown c.self.inside.first c.note.new.index c.self.inside.list.items _ c.bytes.result.now c.len-number.result c.self.invariant (search rules) c.in_ok-note.ensures.noted (search rules)
