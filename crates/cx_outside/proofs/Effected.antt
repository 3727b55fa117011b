-- What is wrong with calls of functions of the library.
use Rattle.std.proofs.Common.{◌≡◌, refl, ℕ, suc, zero, Bool, true, false, List, [], ◌∷◌, slice_set, Option, Some, None, is_none, ap, subst, arith, not, ◌+◌, ◌<◌, ◌==◌, nat_le, take, drop, Result, Ok, Err, if◌then◌else◌}
use Rattle.std.proofs.lemmas.Bool.Decides.{nat_tests}
use Rattle.cr_world.specs.Held.{without_block}
use Rattle.cr_world.specs.Known.{null_beside, bytes_overlap, unless_overlapping, accessed_as, copied}
use Rattle.mem_bytes.specs.Access.{and_then, copied_between}
use Rattle.mem_bytes.specs.declared.cell.Cell.{Cell}
use Rattle.mem_bytes.specs.declared.fault.Fault.{Fault}
use Rattle.mem_bytes.specs.declared.fault.Fault.TheVariants as fault
use Rattle.mem_bytes.specs.declared.value.Ptr.{Ptr}
use Rattle.mem_bytes.specs.declared.value.Value.TheVariants.{Object}
use Rattle.mem_bytes.specs.Memory.{Block, Blocks, live_block, size_of, with_part}
use Rattle.cr_base.specs.declared.rule.URule.{URule}
use Rattle.cr_base.specs.declared.rule.URule.TheVariants.{U5, U6}
use Rattle.cx_mean.specs.Operands.{breaks}
use Rattle.cx_outside.specs.Effects.{fault_in, leaves, over_rule}

pub dead_beside : (block : Option Block) → is_none block ≡ true → fault_in (null_beside block) ≡ Some (breaks U5)
dead_beside None is = refl
dead_beside (Some block) is = absurd cc

pub live_beside : (block : Option Block) → is_none block ≡ false → fault_in (null_beside block) ≡ Some (breaks U6)
live_beside None is = absurd cc
live_beside (Some block) is = refl

-- a block that isn't live stays so
pub dead_stays : (blocks : Blocks) (block : ℕ) → is_none (live_block blocks block) ≡ true → blocks ≡ without_block block blocks
dead_stays [] block is = refl
dead_stays (None ∷ blocks) zero is = refl
dead_stays (Some one ∷ blocks) zero is = absurd cc
dead_stays (one ∷ blocks) (suc block) is = ap (λ (others : Blocks). one ∷ others) (dead_stays blocks block is)

-- ---- copies between bytes that overlap

part_or : (block : Block) (offset count : ℕ) → Bool → Result (List Cell) Fault
part_or block offset count test = if test then Ok (take count (drop offset block.cells)) else Err fault.Outside

-- what is wrong in one block, by the tests of both accesses
over_by : (to from : Ptr) (count : ℕ) (blocks : Blocks) (heap : List ℕ) (block : Block) (source target : Bool) → bytes_overlap to from count ≡ true →
    fault_in (unless_overlapping false to from count (accessed_as (Object to) (record { blocks = blocks; heap = heap })
    (and_then (and_then (part_or block from.offset count source) (λ cells. and_then (part_or block to.offset count target) (λ _. Ok (with_part block to.offset cells))))
    (λ one. Ok (slice_set blocks to.block (Some one))))))
    ≡ Some (breaks (over_rule (Some block) (not source) (not target)))
unfolding part_or
over_by to from count blocks heap block false target is = refl
over_by to from count blocks heap block true false is = refl
over_by to from count blocks heap block true true is = rw is refl

over_in : (to from : Ptr) (count : ℕ) (blocks : Blocks) (heap : List ℕ) (block : Option Block) → bytes_overlap to from count ≡ true →
    fault_in (unless_overlapping false to from count (accessed_as (Object to) (record { blocks = blocks; heap = heap }) (copied_between blocks from to count block block)))
    ≡ Some (breaks (over_rule block (leaves block from.offset count) (leaves block to.offset count)))
unfolding part_or
over_in to from count blocks heap None is = refl
over_in to from count blocks heap (Some block) is =
    over_by to from count blocks heap block (nat_le (from.offset + count) (size_of block)) (nat_le (to.offset + count) (size_of block)) is

same_block : (to from : Ptr) (count : ℕ) → bytes_overlap to from count ≡ true → to.block ≡ from.block
same_block to from count is = grind (arith, nat_tests, is)

over_one : (blocks : Blocks) (heap : List ℕ) (to : Ptr) (offset count : ℕ) (rule : URule) → bytes_overlap to (record { block = to.block; offset = offset }) count ≡ true →
    (count == 0) ≡ false →
    rule ≡ over_rule (live_block blocks to.block) (leaves (live_block blocks to.block) offset count) (leaves (live_block blocks to.block) to.offset count) →
    fault_in (copied false (Object to) (Object (record { block = to.block; offset = offset })) count (record { blocks = blocks; heap = heap })) ≡ Some (breaks rule)
over_one blocks heap to offset count rule is none cause =
    rw (none, cause) (over_in to (record { block = to.block; offset = offset }) count blocks heap (live_block blocks to.block) is)

over_both : (blocks : Blocks) (heap : List ℕ) (to : Ptr) (block offset count : ℕ) (rule : URule) → to.block ≡ block → (count == 0) ≡ false →
    bytes_overlap to (record { block = block; offset = offset }) count ≡ true →
    rule ≡ over_rule (live_block blocks to.block) (leaves (live_block blocks block) offset count) (leaves (live_block blocks to.block) to.offset count) →
    fault_in (copied false (Object to) (Object (record { block = block; offset = offset })) count (record { blocks = blocks; heap = heap })) ≡ Some (breaks rule)
over_both blocks heap to block offset count rule one none =
    subst (λ (b : ℕ). bytes_overlap to (record { block = b; offset = offset }) count ≡ true →
    rule ≡ over_rule (live_block blocks to.block) (leaves (live_block blocks b) offset count) (leaves (live_block blocks to.block) to.offset count) →
    fault_in (copied false (Object to) (Object (record { block = b; offset = offset })) count (record { blocks = blocks; heap = heap })) ≡ Some (breaks rule)) one
    (λ is cause. over_one blocks heap to offset count rule is none cause)

pub copied_over_is : (blocks : Blocks) (heap : List ℕ) (to from : Ptr) (count : ℕ) (rule : URule) → bytes_overlap to from count ≡ true → 0 < count →
    rule ≡ over_rule (live_block blocks to.block) (leaves (live_block blocks from.block) from.offset count) (leaves (live_block blocks to.block) to.offset count) →
    fault_in (copied false (Object to) (Object from) count (record { blocks = blocks; heap = heap })) ≡ Some (breaks rule)
copied_over_is blocks heap to from count rule is some cause =
    let none : (count == 0) ≡ false = grind (arith, nat_tests, some) in
    over_both blocks heap to from.block from.offset count rule (same_block to from count is) none is cause
