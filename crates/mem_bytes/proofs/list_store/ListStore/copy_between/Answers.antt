use Rattle.std.proofs.Common.{is_some, sym, ap, ◌∙◌, rules}
use Rattle.mem_bytes.proofs.Slots.{copying_between, copying_dead}
use Rattle.mem_bytes.proofs.Stored.{emptied_none, emptied_some, taken_lives, beside_change}
use Rattle.mem_bytes.proofs.list_store.ListStore.copy_between.Goals as goal

pub returns-in_default : goal.returns-in_default
returns-in_default c =
    (copying_dead c.args.self.now c.args.from c.args.to c.args.count (search rules), c.take_block.ensures.rest ∙ emptied_none c.args.self.now c.args.from.block (search rules))

pub set_block-requires : goal.set_block-requires
set_block-requires c =
    ap is_some (beside_change _ _ _ _ _ _ c.requires c.copy_from-outcome.ensures ∙ taken_lives _ _ _ _ (sym c.in-Some.ensures.block) c.take_block.ensures.rest)

pub returns : goal.returns
returns c = rw c.set_block.ensures (copying_between _ _ _ _ _ _ _ _ _ c.requires (sym c.in-Some.ensures.block) (c.take_block.ensures.rest ∙ emptied_some _ _ _ (sym c.in-Some.ensures.block)) c.copy_from-outcome.ensures)
