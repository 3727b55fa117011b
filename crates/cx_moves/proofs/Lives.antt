-- Blocks that die.
use Rattle.std.proofs.Common.{◌≡◌, ◌∙◌, refl, ap, ℕ, suc, zero, List, [], ◌∷◌, slice_set, Option, Some, None, Result, Ok, Err}
use Rattle.cr_world.specs.Held.{without_block}
use Rattle.mem_bytes.specs.Access.{after_kill, live_read}
use Rattle.mem_bytes.specs.Calls.{Does}
use Rattle.mem_bytes.specs.declared.fault.Fault.{Fault}
use Rattle.mem_bytes.specs.Memory.{Block, Blocks, live_block}

-- a block that isn't live stays so
dead_stays : (blocks : Blocks) (block : ℕ) → live_block blocks block ≡ None → blocks ≡ without_block block blocks
dead_stays [] block is = refl
dead_stays (None ∷ blocks) zero is = refl
dead_stays (Some one ∷ blocks) zero is = absurd cc
dead_stays (one ∷ blocks) (suc block) is = ap (λ (others : Blocks). one ∷ others) (dead_stays blocks block is)

killed_as : (held : Option Block) (result : Result (Unit {0}) Fault) (before after : Blocks) (block : ℕ) → live_block before block ≡ held →
    Does result before after (live_read held (λ _. Ok (slice_set before block None))) → after ≡ without_block block before
killed_as None (Ok _) before after block is does = absurd cc
killed_as None (Err fault) before after block is does = does.1 ∙ dead_stays before block is
killed_as (Some one) (Ok _) before after block is does = cc
killed_as (Some one) (Err fault) before after block is does = absurd (cc does.0)

pub killed : (result : Result (Unit {0}) Fault) (before after : Blocks) (block : ℕ) → Does result before after (after_kill before block) → after ≡ without_block block before
killed result before after block does = killed_as (live_block before block) result before after block refl does
