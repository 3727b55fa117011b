-- Changes of memory that leave each object as large as it was.
use Rattle.std.proofs.Common.{◌≡◌, ◌≢◌, ⊎_elim, ℕ, Some, slice_set, Ok, refl, sym, ap, ◌∙◌, arith}
use Rattle.std.proofs.lemmas.Bool.{cases_eq}
use Rattle.std.proofs.lemmas.List.{length-set}
use Rattle.mem_bytes.proofs.Reached.{size_of-with_part}
use Rattle.mem_bytes.proofs.Slots.{live-set_same, live-set_other, live_within}
use Rattle.mem_bytes.specs.declared.value.Ptr.{Ptr}
use Rattle.mem_bytes.specs.Laws.{Writes}
use Rattle.mem_bytes.specs.Memory.{Block, Blocks, live_block, size_of, with_part}
use Rattle.mem_bytes.specs.Pointers.{live_size}
use Rattle.cx_mean_lives.specs.Laws.{SameSizes}

pub sizes_same : (memory : Blocks) → SameSizes memory memory
sizes_same memory = record { many = refl; sizes = λ number. refl }

pub sizes_then : (before now after : Blocks) → SameSizes before now → SameSizes now after → SameSizes before after
sizes_then before now after one other = record { many = other.many ∙ one.many; sizes = λ number. other.sizes number ∙ one.sizes number }

-- a block gets other cells, as many as it had
pub sizes_changed : (memory : Blocks) (number : ℕ) (block new : Block) → live_block memory number ≡ Some block → size_of new ≡ size_of block → SameSizes memory (slice_set memory number (Some new))
sizes_changed memory number block new live size = record {
  many = length-set memory number (Some new);
  sizes = λ other.
      ⊎_elim
      (λ (same : number ≡ other).
      let set : live_block (slice_set memory number (Some new)) other ≡ Some new =
      ap (live_block (slice_set memory number (Some new))) (sym same) ∙ live-set_same memory number new (live_within memory number block live) in
      let was : live_block memory other ≡ Some block = ap (live_block memory) (sym same) ∙ live in
      ap live_size set ∙ ap Ok size ∙ sym (ap live_size was))
      (λ (away : number ≢ other). ap live_size (live-set_other memory number other (Some new) away))
      (cases_eq number other);
}

pub sizes_written : (memory after : Blocks) (at : Ptr) (count : ℕ) → Writes memory at count after → SameSizes memory after
sizes_written memory after at count writes =
    rw writes.made
    (sizes_changed memory at.block writes.block (with_part writes.block at.offset writes.cells) writes.live
    (size_of-with_part writes.block at.offset writes.cells (omega (arith, writes.many, writes.within))))
