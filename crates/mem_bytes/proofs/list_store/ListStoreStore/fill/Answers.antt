use Rattle.std.proofs.Common.{is_some, sym, ap, ◌∙◌, rules}
use Rattle.mem_bytes.proofs.Stored.{emptied_none, taken_lives, change_none, change_taken}
use Rattle.mem_bytes.proofs.list_store.ListStoreStore.fill.Goals as goal

pub returns-in_default-clause-outcome : goal.returns-in_default-clause-outcome
returns-in_default-clause-outcome c =
    (change_none c.args.self.now c.args.at.block _ (search rules), c.take_block.ensures.rest ∙ emptied_none c.args.self.now c.args.at.block (search rules))

pub set_block-requires : goal.set_block-requires
set_block-requires c =
    ap is_some (taken_lives _ _ _ _ (sym c.in-Some.ensures.block) c.take_block.ensures.rest)

pub returns-clause-outcome : goal.returns-clause-outcome
returns-clause-outcome c =
    change_taken _ _ _ _ _ _ _ _ (sym c.in-Some.ensures.block) c.take_block.ensures.rest c.set_block.ensures c.fill-outcome.ensures
