use Rattle.std.proofs.Common.{length, sym, ap, ◌∙◌, rules}
use Rattle.mem_bytes.proofs.Stored.{past, gone, lives, unchanged, emptied_none, emptied_there, length-emptied, holds_there}
use Rattle.mem_bytes.proofs.list_store.ListStore.take_block.Goals as goal

pub returns-in_default-clause-block : goal.returns-in_default-clause-block
returns-in_default-clause-block c = sym (past _ _ _ c.self.view_is c.self.invariant.packed (search rules))

pub returns-in_default-clause-rest : goal.returns-in_default-clause-rest
returns-in_default-clause-rest c =
    c.self.view_is ∙ sym (emptied_none _ _ (past _ _ c.args.block c.self.view_is c.self.invariant.packed (search rules)))

pub returns-in_default-place-clause-block : goal.returns-in_default-place-clause-block
returns-in_default-place-clause-block c =
    sym (gone _ _ _ c.in-Some.place.now c.self.view_is c.self.invariant.packed (search rules) (search rules) c.in_default-place.is)

pub returns-in_default-place-clause-rest : goal.returns-in_default-place-clause-rest
returns-in_default-place-clause-rest c =
    unchanged _ _ c.args.block c.in-Some.place.now c.self.view_is (search rules) (search rules)
    ∙ sym (emptied_none _ _ (gone _ _ c.args.block c.in-Some.place.now c.self.view_is c.self.invariant.packed (search rules) (search rules) c.in_default-place.is))

pub invariant_of-self-2 : goal.invariant_of-self-2
invariant_of-self-2 c =
    holds_there _ _ c.args.block c.in-Some.place.now c.in-Some-place.chunk _ c.self.invariant (search rules) (search rules) c.in-Some-place.is (ap length c.take.ensures.rest ∙ length-emptied c.in-Some-place.chunk _)

pub returns-clause-block : goal.returns-clause-block
returns-clause-block c =
    c.take.ensures.block
    ∙ sym (lives _ _ _ c.in-Some.place.now c.in-Some-place.chunk c.self.view_is c.self.invariant.packed (search rules) (search rules) c.in-Some-place.is)

pub returns-clause-rest : goal.returns-clause-rest
returns-clause-rest c =
    emptied_there _ _ _ c.in-Some.place.now c.in-Some-place.chunk _ c.self.view_is c.self.invariant.packed (search rules) (search rules) c.in-Some-place.is c.take.ensures.rest
