use Rattle.std.proofs.Common.{is_some, length, sym, ap, ◌∙◌, rules}
use Rattle.std.proofs.lemmas.List.{length-set}
use Rattle.mem_bytes.proofs.Stored.{past, gone, lives, holds_there, set_there, is_lost, some_within}
use Rattle.mem_bytes.proofs.list_store.ListStore.set_block.Goals as goal

pub returns-in_default : goal.returns-in_default
returns-in_default c =
    absurd (is_lost c.args.self.now c.args.block (past _ _ c.args.block c.self.view_is c.self.invariant.packed (search rules)) c.requires)

pub returns-in_default-place : goal.returns-in_default-place
returns-in_default-place c =
    absurd (is_lost c.args.self.now c.args.block (gone _ _ c.args.block c.in-Some.place.now c.self.view_is c.self.invariant.packed (search rules) (search rules) c.in_default-place.is) c.requires)

pub set-requires : goal.set-requires
set-requires c =
    some_within _ _ (ap is_some (sym (lives _ _ c.args.block c.in-Some.place.now c.in-Some-place.chunk c.self.view_is c.self.invariant.packed (search rules) (search rules) c.in-Some-place.is)) ∙ c.requires)

pub invariant_of-self-2 : goal.invariant_of-self-2
invariant_of-self-2 c =
    holds_there _ _ c.args.block c.in-Some.place.now c.in-Some-place.chunk _ c.self.invariant (search rules) (search rules) c.in-Some-place.is (ap length c.set.ensures ∙ length-set c.in-Some-place.chunk _ _)

pub returns : goal.returns
returns c =
    set_there _ _ _ c.in-Some.place.now c.in-Some-place.chunk _ _ c.self.view_is c.self.invariant.packed (search rules) (search rules) c.in-Some-place.is c.set.ensures
