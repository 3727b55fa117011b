-- What is read, stored or copied in one access goes cell by cell.
use Rattle.std.proofs.Common.{◌≡◌, ℕ, zero, suc, ◌+◌, ◌<◌, ◌≤◌, Bool, true, false, cond, List, [], ◌∷◌, length, take, drop, slice_set, slice_index_or, Option, Some, None, Ok, Err, refl, sym, ap, ◌∙◌, add-one, arith, rules}
use Rattle.std.proofs.lemmas.List.{set-set, same_lists, places}
use Rattle.mem_bytes.specs.declared.cell.Cell.{Cell}
use Rattle.mem_bytes.specs.declared.fault.Fault.TheVariants.{Misaligned}
use Rattle.mem_bytes.specs.declared.value.Ptr.{Ptr}
use Rattle.mem_bytes.specs.Access.{and_then, part_of, part_at, is_record_aligned, record_part_of, live_read, block_cell, block_with_cell, block_with_record, cell_at, after_put_cell, record_at, after_put_record, after_copy}
use Rattle.mem_bytes.specs.Laws.{behind, cells_read, after_put_cells}
use Rattle.mem_bytes.specs.Memory.{Block, Blocks, live_block, size_of, unset_cell, with_part}
use Rattle.mem_bytes.proofs.Reached.{and_then_ok, changed, part_ok, part_inside, size_of-with_part}
use Rattle.mem_bytes.proofs.Slots.{live-set_same, live_within, set_live}
use Rattle.mem_bytes.proofs.Written.{copy_read, copy_stands}

-- ---- reads

-- the cell at a place of a part
cell_of_part : (xs : List Cell) (offset count place : ℕ) (d e : Cell) → place < count → offset + count ≤ length xs → slice_index_or xs (offset + place) d ≡ slice_index_or (take count (drop offset xs)) place e
cell_of_part xs offset count place d e p q = grind (arith, places)

block_cell_inside : (block : Block) (offset : ℕ) → offset + 1 ≤ size_of block → block_cell block offset ≡ Ok (slice_index_or block.cells offset unset_cell)
block_cell_inside block offset p = ap (λ part. and_then part (λ _. Ok (slice_index_or block.cells offset unset_cell))) (part_inside block offset 1 p)

-- a place of cells that are there
cell_there : (memory : Blocks) (at : Ptr) (count place : ℕ) (cells : List Cell) → place < count → part_at memory at count ≡ Ok cells → cell_at memory (behind at place) ≡ Ok (slice_index_or cells place unset_cell)
cell_there memory at count place cells p e = from_block (live_block memory at.block) e
  where
    from_block : (slot : Option Block) → live_read slot (λ block. part_of block at.offset count) ≡ Ok cells → live_read slot (λ block. block_cell block (at.offset + place)) ≡ Ok (slice_index_or cells place unset_cell)
    from_block None e = cc
    from_block (Some block) e =
        let held = part_ok block at.offset count cells e in
        block_cell_inside block (at.offset + place) (omega (arith, held.0))
        ∙ ap Ok (cell_of_part block.cells at.offset count place unset_cell unset_cell p held.0 ∙ ap (λ xs. slice_index_or xs place unset_cell) (sym held.1))

first_of_part : (xs : List Cell) (offset count : ℕ) (d : Cell) → offset + suc count ≤ length xs → take (suc count) (drop offset xs) ≡ slice_index_or xs offset d ∷ take count (drop (suc offset) xs)
first_of_part [] offset count d p = absurd (omega arith)
first_of_part (x ∷ xs) zero count d p = refl
first_of_part (x ∷ xs) (suc offset) count d p = first_of_part xs offset count d (omega arith)

reads_from : (memory : Blocks) (at : Ptr) (count : ℕ) (block : Block) → live_block memory at.block ≡ Some block → at.offset + count ≤ size_of block → cells_read memory at count ≡ Ok (take count (drop at.offset block.cells))
reads_from memory at zero block live p = refl
reads_from memory at (suc count) block live p =
    let here : cell_at memory at ≡ Ok (slice_index_or block.cells at.offset unset_cell) = ap (λ slot. live_read slot (λ b. block_cell b at.offset)) live ∙ block_cell_inside block at.offset (omega arith) in
    let rest : cells_read memory (behind at 1) count ≡ Ok (take count (drop (at.offset + 1) block.cells)) = reads_from memory (behind at 1) count block live (omega arith) in
    ap (λ found. and_then found (λ first. and_then (cells_read memory (behind at 1) count) (λ others. Ok (first ∷ others)))) here
    ∙ ap (λ found. and_then found (λ others. Ok (slice_index_or block.cells at.offset unset_cell ∷ others))) rest
    ∙ ap Ok (sym (first_of_part block.cells at.offset count unset_cell p ∙ ap (λ place. slice_index_or block.cells at.offset unset_cell ∷ take count (drop place block.cells)) (sym (add-one at.offset))))

pub cells_are_read : (memory : Blocks) (at : Ptr) (size align : ℕ) (cells : List Cell) → record_at memory at size align ≡ Ok cells → cells_read memory at size ≡ Ok cells
cells_are_read memory at size align cells e = from_block (live_block memory at.block) refl e
  where
    aligned : (fits : Bool) (found : List Cell) → cond fits (Ok found) (Err Misaligned) ≡ Ok cells → found ≡ cells
    aligned true found e = cc
    aligned false found e = cc

    from_block : (slot : Option Block) → live_block memory at.block ≡ slot → live_read slot (λ block. record_part_of block at.offset size align) ≡ Ok cells → cells_read memory at size ≡ Ok cells
    from_block None live e = cc
    from_block (Some block) live e =
        let held = and_then_ok (part_of block at.offset size) (λ found. cond (is_record_aligned align block at.offset) (Ok found) (Err Misaligned)) cells e in
        let part = part_ok block at.offset size held.0 held.1 in
        reads_from memory at size block live part.0
        ∙ ap Ok (sym part.1 ∙ aligned (is_record_aligned align block at.offset) held.0 held.2)

-- ---- stores

no_part : (block : Block) (offset : ℕ) → offset ≤ size_of block → with_part block offset [] ≡ block
no_part block offset p = ap (λ cells. record block { cells = cells }) (same_lists _ _ (search (rules, places)) (λ k d l. grind (arith, places)))

more_part : (block : Block) (offset : ℕ) (first : Cell) (others : List Cell) → offset + suc (length others) ≤ size_of block → with_part (with_part block offset (first ∷ [])) (offset + 1) others ≡ with_part block offset (first ∷ others)
more_part block offset first others p = ap (λ cells. record block { cells = cells }) (same_lists _ _ (search (rules, places)) (λ k d l. grind (arith, places)))

puts_to : (memory : Blocks) (at : Ptr) (cells : List Cell) (block : Block) → live_block memory at.block ≡ Some block → at.offset + length cells ≤ size_of block → after_put_cells memory at cells ≡ Ok (slice_set memory at.block (Some (with_part block at.offset cells)))
puts_to memory at [] block live p =
    ap Ok (sym (ap (λ b. slice_set memory at.block (Some b)) (no_part block at.offset (omega arith)) ∙ set_live memory at.block block live))
puts_to memory at (first ∷ others) block live p =
    let one = with_part block at.offset (first ∷ []) in
    let next = slice_set memory at.block (Some one) in
    let put : after_put_cell memory at first ≡ Ok next = ap (λ slot. and_then (live_read slot (λ b. block_with_cell b at.offset first)) (λ b. Ok (slice_set memory at.block (Some b)))) live ∙ ap (λ part. and_then (and_then part (λ _. Ok one)) (λ b. Ok (slice_set memory at.block (Some b)))) (part_inside block at.offset 1 (omega arith)) in
    let there : live_block next at.block ≡ Some one = live-set_same memory at.block one (live_within memory at.block block live) in
    ap (λ found. and_then found (λ m. after_put_cells m (behind at 1) others)) put
    ∙ puts_to next (behind at 1) others one there (omega (arith, size_of-with_part block at.offset (first ∷ []) (omega arith)))
    ∙ ap Ok (set-set memory at.block (Some one) (Some (with_part one (at.offset + 1) others)) ∙ ap (λ b. slice_set memory at.block (Some b)) (more_part block at.offset first others p))

pub cells_are_put : (memory after : Blocks) (at : Ptr) (align : ℕ) (cells : List Cell) → after_put_record memory at align cells ≡ Ok after → after_put_cells memory at cells ≡ Ok after
cells_are_put memory after at align cells e =
    let change = changed memory after at.block (λ block. block_with_record block at.offset align cells) e in
    let parts = and_then_ok (record_part_of change.block at.offset (length cells) align) (λ _. Ok (with_part change.block at.offset cells)) change.new change.stepped in
    let held = and_then_ok (part_of change.block at.offset (length cells)) (λ found. cond (is_record_aligned align change.block at.offset) (Ok found) (Err Misaligned)) parts.0 parts.1 in
    let new : change.new ≡ with_part change.block at.offset cells = cc (parts.2) in
    puts_to memory at cells change.block change.live (part_ok change.block at.offset (length cells) held.0 held.1).0
    ∙ ap Ok (sym (change.made ∙ ap (λ b. slice_set memory at.block (Some b)) new))

-- ---- copies

pub cells_are_copied : (memory after : Blocks) (from to : Ptr) (count place : ℕ) → place < count → after_copy memory from to count ≡ Ok after → cell_at after (behind to place) ≡ cell_at memory (behind from place)
cells_are_copied memory after from to count place p e =
    let some : 0 < count = omega arith in
    let read = copy_read memory after from to count some e in
    cell_there after to count place read.0 p (copy_stands memory after from to count some e ∙ read.1)
    ∙ sym (cell_there memory from count place read.0 p read.1)
