-- What a step does to blocks that were made before (ISO C99, 6.2.4p2, 6.2.6.1): it writes cells of them, and it lets them die. What is said of
-- a memory here is what both of them leave true.
use Rattle.std.proofs.Common.{◌≡◌, ℕ, Some, slice_set, refl, sym, subst, arith}
use Rattle.cr_world.specs.Held.{without_block}
use Rattle.mem_bytes.proofs.Reached.{size_of-with_part}
use Rattle.mem_bytes.specs.declared.value.Ptr.{Ptr}
use Rattle.mem_bytes.specs.Laws.{Writes}
use Rattle.mem_bytes.specs.Memory.{Block, Blocks, live_block, size_of, with_part}

pub record IsKept (P : Blocks → Type 0) : Type 0 where
  -- a block dies
  pub dies : (blocks : Blocks) (number : ℕ) → P blocks → P (without_block number blocks)
  -- a live block gets other cells, as many as it had
  pub changes : (blocks : Blocks) (number : ℕ) (block new : Block) → live_block blocks number ≡ Some block → size_of new ≡ size_of block
      → new.align ≡ block.align → P blocks → P (slice_set blocks number (Some new))

pub written : (P : Blocks → Type 0) → IsKept P → (memory after : Blocks) (at : Ptr) (count : ℕ) → Writes memory at count after → P memory → P after
written P kept memory after at count writes p =
    subst P (sym writes.made)
    (kept.changes memory at.block writes.block (with_part writes.block at.offset writes.cells) writes.live
    (size_of-with_part writes.block at.offset writes.cells (omega (arith, writes.many, writes.within))) refl p)
