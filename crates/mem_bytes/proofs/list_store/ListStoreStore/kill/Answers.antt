use Rattle.std.proofs.Common.{◌∙◌, rules}
use Rattle.mem_bytes.proofs.Stored.{killing_none, killed_lives, killing_taken}
use Rattle.mem_bytes.proofs.list_store.ListStoreStore.kill.Goals as goal

pub returns-then-is_none-clause-outcome : goal.returns-then-is_none-clause-outcome
returns-then-is_none-clause-outcome c =
    killing_none _ _ _ c.take_block.result c.take_block.ensures.block (search rules) c.take_block.ensures.rest

pub set_block-requires : goal.set_block-requires
set_block-requires c =
    killed_lives _ _ _ c.take_block.result c.take_block.ensures.block (search rules) c.take_block.ensures.rest

pub returns-clause-outcome : goal.returns-clause-outcome
returns-clause-outcome c =
    killing_taken _ _ _ _ c.take_block.result c.take_block.ensures.block (search rules) c.take_block.ensures.rest (c.drop_chunk.ensures ∙ c.set_block.ensures)
