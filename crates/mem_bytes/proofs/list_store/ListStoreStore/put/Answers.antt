use Rattle.std.proofs.Common.{rules}
use Rattle.mem_bytes.specs.Access.{block_with_value}
use Rattle.mem_bytes.proofs.Slots.{length-live_change}
use Rattle.mem_bytes.proofs.Stored.{past, gone, unchanged, holds_there, change_none, change_there}
use Rattle.mem_bytes.proofs.list_store.ListStoreStore.put.Goals as goal

pub returns-in_default-clause-outcome : goal.returns-in_default-clause-outcome
returns-in_default-clause-outcome c =
    (change_none c.args.self.now c.args.at.block (λ block. block_with_value block c.args.at.offset c.args.scalar c.args.value) (past _ _ c.args.at.block c.self.view_is c.self.invariant.packed (search rules)), c.self.view_is)

pub returns-in_default-place-clause-outcome : goal.returns-in_default-place-clause-outcome
returns-in_default-place-clause-outcome c = (
  change_none c.args.self.now c.args.at.block (λ block. block_with_value block c.args.at.offset c.args.scalar c.args.value) (gone _ _ c.args.at.block c.in-Some.place.now c.self.view_is c.self.invariant.packed (search rules) (search rules) c.in_default-place.is),
  unchanged _ _ c.args.at.block c.in-Some.place.now c.self.view_is (search rules) (search rules),
)

pub invariant_of-self-2 : goal.invariant_of-self-2
invariant_of-self-2 c =
    holds_there _ _ c.args.at.block c.in-Some.place.now c.in-Some-place.chunk _ c.self.invariant (search rules) (search rules) c.in-Some-place.is (length-live_change _ _ _ _ _ c.put.ensures)

pub returns-clause-outcome : goal.returns-clause-outcome
returns-clause-outcome c =
    change_there _ _ _ c.in-Some.place.now c.in-Some-place.chunk _ _ _ c.self.view_is c.self.invariant.packed (search rules) (search rules) c.in-Some-place.is c.put.ensures
