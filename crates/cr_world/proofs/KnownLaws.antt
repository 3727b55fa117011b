-- What the known functions change.
use Rattle.std.proofs.Common.{◌≡◌, ℕ, zero, suc, ℤ, pos, ◌<◌, Bool, true, false, ◌==◌, ◌&&◌, if◌then◌else◌, [], ◌∷◌, None, slice_set, Result, Ok, Err, refl, sym, ap, subst, ◌∙◌, arith}
use Rattle.std.proofs.lemmas.Bool.{and_parts, eqb-true}
use Rattle.cr_base.specs.Scalar.{residue}
use Rattle.mem_bytes.specs.declared.fault.Fault.{Fault}
use Rattle.mem_bytes.specs.declared.value.Ptr.{Ptr}
use Rattle.mem_bytes.specs.declared.value.Value.{Value}
use Rattle.mem_bytes.specs.declared.value.Value.TheVariants.{Whole, Object}
use Rattle.mem_bytes.specs.Access.{part_at, after_copy, after_fill}
use Rattle.mem_bytes.specs.Laws.{Writes}
use Rattle.mem_bytes.specs.Memory.{Blocks}
use Rattle.mem_bytes.proofs.Written.{copy_writes, fill_writes, copy_stands}
use Rattle.cr_world.specs.Held.{Held, with_blocks, without_allocated, without_entry, is_listed, not_allocated, overlapping}
use Rattle.cr_world.specs.Known.{frees, copies, fills, Effect, gives, gives_nothing, fails, effect, accessed_as, unless_overlapping, bytes_overlap}

-- what an access gives
pub record Accessed (value given : Value) (outcome : Result Blocks Fault) (before after : Held) : Type 0 where
  pub blocks : Blocks
  pub ended : outcome ≡ Ok blocks
  pub left : after ≡ with_blocks blocks before
  pub same : given ≡ value

pub accessed_gives : (value given : Value) (outcome : Result Blocks Fault) (before after : Held) → accessed_as value before outcome ≡ gives given after → Accessed value given outcome before after
accessed_gives value given (Ok blocks) before after e = record { blocks = blocks; ended = refl; left = cc; same = cc }
accessed_gives value given (Err fault) before after e = cc

clear : (overlaps : Bool) (one : Effect) (given : Value) (after : Held) → (if overlaps then fails overlapping else one) ≡ gives given after → one ≡ gives given after
clear true one given after e = cc
clear false one given after e = e

pub without_overlap : (may_overlap : Bool) (to from : Ptr) (count : ℕ) (one : Effect) (given : Value) (after : Held) → unless_overlapping may_overlap to from count one ≡ gives given after → one ≡ gives given after
without_overlap true to from count one given after e = e
without_overlap false to from count (gives value held) given after e = clear (bytes_overlap to from count) (gives value held) given after e
without_overlap false to from count one given after e = cc

pub copy_gives : (may_overlap : Bool) (to from : Ptr) (count : ℕ) (value : Value) (before after : Held) → 0 < count →
    effect (copies may_overlap) (Object to ∷ Object from ∷ Whole (pos count) ∷ []) before ≡ gives value after → Accessed (Object to) value (after_copy before.blocks from to count) before after
copy_gives may_overlap to from zero value before after p e = absurd (omega arith)
copy_gives may_overlap to from (suc n) value before after p e =
    accessed_gives (Object to) value (after_copy before.blocks from to (suc n)) before after
    (without_overlap may_overlap to from (suc n) _ value after e)

pub copy_writes_own : (may_overlap : Bool) (to from : Ptr) (count : ℕ) (value : Value) (before after : Held) → 0 < count →
    effect (copies may_overlap) (Object to ∷ Object from ∷ Whole (pos count) ∷ []) before ≡ gives value after →
    Writes before.blocks to count after.blocks × (value ≡ Object to) × (after.heap ≡ before.heap)
    × (part_at after.blocks to count ≡ part_at before.blocks from count)
copy_writes_own may_overlap to from count value before after p e =
    let one = copy_gives may_overlap to from count value before after p e in
    let is : one.blocks ≡ after.blocks = sym (ap (λ (held : Held). held.blocks) one.left) in (
      subst (λ blocks. Writes before.blocks to count blocks) is (copy_writes before.blocks one.blocks from to count p one.ended),
      one.same,
      ap (λ (held : Held). held.heap) one.left,
      ap (λ blocks. part_at blocks to count) (sym is) ∙ copy_stands before.blocks one.blocks from to count p one.ended,
    )

pub fill_gives : (at : Ptr) (byte : ℤ) (count : ℕ) (value : Value) (before after : Held) →
    effect fills (Object at ∷ Whole byte ∷ Whole (pos count) ∷ []) before ≡ gives value after → Accessed (Object at) value (after_fill before.blocks at (residue byte 256) count) before after
fill_gives at byte count value before after e = accessed_gives (Object at) value (after_fill before.blocks at (residue byte 256) count) before after e

pub fill_writes_own : (at : Ptr) (byte : ℤ) (count : ℕ) (value : Value) (before after : Held) →
    effect fills (Object at ∷ Whole byte ∷ Whole (pos count) ∷ []) before ≡ gives value after →
    Writes before.blocks at count after.blocks × (value ≡ Object at) × (after.heap ≡ before.heap)
fill_writes_own at byte count value before after e =
    let one = fill_gives at byte count value before after e in (
      subst (λ blocks. Writes before.blocks at count blocks) (sym (ap (λ (held : Held). held.blocks) one.left)) (fill_writes before.blocks one.blocks at (residue byte 256) count one.ended),
      one.same,
      ap (λ (held : Held). held.heap) one.left,
    )

-- `free` of an allocated block
pub record Freed (at : Ptr) (before after : Held) : Type 0 where
  pub start : at.offset ≡ 0
  pub listed : is_listed at.block before.heap ≡ true
  pub left : after ≡ without_allocated at.block before

freed_if : (at : Ptr) (before after : Held) (is : Bool) → (at.offset == 0 && is_listed at.block before.heap) ≡ is →
    (if is then gives_nothing (without_allocated at.block before) else fails not_allocated) ≡ gives_nothing after → Freed at before after
freed_if at before after true p e =
    let both = and_parts (at.offset == 0) (is_listed at.block before.heap) p in
    record { start = eqb-true at.offset 0 both.0; listed = both.1; left = cc }
freed_if at before after false p e = cc

pub free_gives : (at : Ptr) (before after : Held) → effect frees (Object at ∷ []) before ≡ gives_nothing after → Freed at before after
free_gives at before after e = freed_if at before after (at.offset == 0 && is_listed at.block before.heap) refl e

pub free_ends_own : (at : Ptr) (before after : Held) → effect frees (Object at ∷ []) before ≡ gives_nothing after →
    (at.offset ≡ 0) × (after.blocks ≡ slice_set before.blocks at.block None) × (after.heap ≡ without_entry at.block before.heap)
free_ends_own at before after e =
    let one = free_gives at before after e in
    (one.start, ap (λ (held : Held). held.blocks) one.left, ap (λ (held : Held). held.heap) one.left)
