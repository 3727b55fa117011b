-- Stores of numbers of type `int`: in a temporary, and what every one leaves as it was.
use Rattle.std.proofs.Common.{◌≡◌, ◌≢◌, ℕ, ℤ, List, length, take, drop, slice_set, Option, Some, Result, Ok, Err, Bool, true, cond, sym, ap, ◌∙◌, arith, rules}
use Rattle.cr_base.specs.Scalar.{IsInRange}
use Rattle.straight_lift.specs.Agrees.{int_scalar}
use Rattle.mem_bytes.specs.Access.{and_then, part_of, is_aligned, scalar_part_of, live_read, block_with_value, value_at, after_put}
use Rattle.mem_bytes.specs.Coding.{cells_of}
use Rattle.mem_bytes.specs.Memory.{Block, Blocks, live_block, with_part}
use Rattle.mem_bytes.specs.declared.cell.Cell.{Cell}
use Rattle.mem_bytes.specs.declared.fault.Fault.{Fault}
use Rattle.mem_bytes.specs.declared.fault.Fault.TheVariants.{Misaligned}
use Rattle.mem_bytes.specs.declared.value.Ptr.{Ptr}
use Rattle.mem_bytes.specs.declared.value.Value.TheVariants.{Whole as Number}
use Rattle.mem_bytes.proofs.Reached.{and_then_ok, changed, part_ok, part_inside, scalar_part_ok, size_of-with_part}
use Rattle.mem_bytes.proofs.Slots.{live-set_same, live-set_other, live_within}
use Rattle.mem_bytes.proofs.Written.{loads_stored}

-- what a store in a block leaves: other blocks as they were, and that block's alignment and size
pub record Put (memory after : Blocks) (number : ℕ) : Type 0 where
  pub others : (other : ℕ) → number ≢ other → live_block after other ≡ live_block memory other
  pub new : Block
  pub live : live_block after number ≡ Some new
  pub same : (block : Block) → live_block memory number ≡ Some block → (new.align ≡ block.align) × (length new.cells ≡ length block.cells)

some_equal : {A : Type 0} (a b : A) → Some a ≡ Some b → a ≡ b
some_equal a b e = cc

pub put_changes : (memory after : Blocks) (at : Ptr) (n : ℤ) → after_put memory at int_scalar (Number n) ≡ Ok after → Put memory after at.block
put_changes memory after at n e =
    let cells = cells_of int_scalar (Number n) in
    let step : Block → Result Block Fault = λ block. block_with_value block at.offset int_scalar (Number n) in
    let change = changed memory after at.block step e in
    let parts = and_then_ok (scalar_part_of change.block at.offset int_scalar) (λ _. Ok (with_part change.block at.offset cells)) change.new change.stepped in
    let new : with_part change.block at.offset cells ≡ change.new = cc (parts.2) in
    let reached = scalar_part_ok change.block at.offset int_scalar parts.0 parts.1 in
    let inside = part_ok change.block at.offset 4 parts.0 reached.0 in
    let size : length change.new.cells ≡ length change.block.cells = ap (λ (block : Block). length block.cells) (sym new) ∙ size_of-with_part change.block at.offset cells inside.0 in
    let align : change.new.align ≡ change.block.align = ap (λ (block : Block). block.align) (sym new) in
    record {
      others = λ other apart. ap (λ (m : Blocks). live_block m other) change.made ∙ live-set_other memory at.block other (Some change.new) apart;
      new = change.new;
      live = ap (λ (m : Blocks). live_block m at.block) change.made ∙ live-set_same memory at.block change.new (live_within memory at.block change.block change.live);
      same = λ block live.
          let one : block ≡ change.block = some_equal block change.block (sym live ∙ change.live) in
          (align ∙ ap (λ (b : Block). b.align) (sym one), size ∙ ap (λ (b : Block). length b.cells) (sym one));
    }

-- a number can be stored in a block of the size and alignment of an `int`
pub put_fits : (memory : Blocks) (number : ℕ) (block : Block) (n : ℤ) → live_block memory number ≡ Some block → block.align ≡ 4 → length block.cells ≡ 4 →
    (after : Blocks) × (after_put memory (record { block = number; offset = 0 }) int_scalar (Number n) ≡ Ok after)
put_fits memory number block n live align size =
    let cells = cells_of int_scalar (Number n) in
    let step : Block → Result Block Fault = λ b. block_with_value b 0 int_scalar (Number n) in
    let inside : part_of block 0 4 ≡ Ok (take 4 (drop 0 block.cells)) = part_inside block 0 4 (omega arith) in
    let fits : is_aligned int_scalar block 0 ≡ true = rw align in
    let part : scalar_part_of block 0 int_scalar ≡ Ok (take 4 (drop 0 block.cells)) =
    ap (λ (found : Result (List Cell) Fault). and_then found (λ held. cond (is_aligned int_scalar block 0) (Ok held) (Err Misaligned))) inside
    ∙ ap (λ (test : Bool). cond test (Ok (take 4 (drop 0 block.cells))) (Err Misaligned)) fits in (
      slice_set memory number (Some (with_part block 0 cells)),
      ap (λ (slot : Option Block). and_then (live_read slot step) (λ b. Ok (slice_set memory number (Some b)))) live
          ∙ ap (λ (found : Result (List Cell) Fault). and_then (and_then found (λ _. Ok (with_part block 0 cells))) (λ b. Ok (slice_set memory number (Some b)))) part,
    )

-- what was stored is loaded
pub put_loads : (memory after : Blocks) (at : Ptr) (n : ℤ) → IsInRange int_scalar n → after_put memory at int_scalar (Number n) ≡ Ok after →
    value_at after at int_scalar ≡ Ok (Number n)
put_loads memory after at n in_range e = loads_stored memory after at int_scalar (Number n) (search rules) in_range e

-- a block that stays holds what it held
pub value_stays : (memory after : Blocks) (at : Ptr) → live_block after at.block ≡ live_block memory at.block → value_at after at int_scalar ≡ value_at memory at int_scalar
value_stays memory after at same = rw same
