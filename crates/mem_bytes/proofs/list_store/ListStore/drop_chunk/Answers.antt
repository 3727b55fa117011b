use Rattle.std.proofs.Common.{subst}
use Rattle.mem_bytes.specs.Chunks.{IsDeadAt}
use Rattle.mem_bytes.proofs.Stored.{holds_dropped, dropped}
use Rattle.mem_bytes.proofs.list_store.ListStore.drop_chunk.Goals as goal

pub clear-requires : goal.clear-requires
clear-requires c =
    (subst (λ chunks. IsDeadAt chunks c.args.place) c.deref.ensures.value (c.is_dead.ensures c.if-is_dead.true)).within

pub invariant_of-self : goal.invariant_of-self
invariant_of-self c =
    rw c.clear.ensures (holds_dropped _ _ _ c.self.invariant (subst (λ chunks. IsDeadAt chunks c.args.place) c.deref.ensures.value (c.is_dead.ensures c.if-is_dead.true)))

pub returns-then-is_dead : goal.returns-then-is_dead
returns-then-is_dead c =
    rw c.clear.ensures (dropped _ _ _ c.self.view_is (subst (λ chunks. IsDeadAt chunks c.args.place) c.deref.ensures.value (c.is_dead.ensures c.if-is_dead.true)))
