-- What an access that ended in no fault shows.
use Rattle.std.proofs.Common.{◌≡◌, ℕ, ◌+◌, ◌<◌, ◌≤◌, Bool, true, false, cond, nat_le, List, ◌++◌, length, take, drop, slice_set, Option, Some, None, Result, Ok, Err, refl, sym, ap, ◌∙◌, ◌⊎◌, ⊎_elim, arith, rules}
use Rattle.std.proofs.lemmas.Bool.{leb-true, le-leb, lt-leb, cond-true, cond-false, cases_lt}
use Rattle.std.proofs.lemmas.List.{append_assoc, length-append, length-take, length-take-le, length-drop, take_at, drop_at, same_lists, places}
use Rattle.cr_base.specs.declared.scalar.Scalar.{Scalar}
use Rattle.mem_bytes.specs.declared.cell.Cell.{Cell}
use Rattle.mem_bytes.specs.declared.fault.Fault.{Fault}
use Rattle.mem_bytes.specs.declared.fault.Fault.TheVariants.{Outside, Misaligned}
use Rattle.mem_bytes.specs.Access.{and_then, part_of, is_aligned, scalar_part_of, live_read, live_change}
use Rattle.mem_bytes.specs.Coding.{scalar_size}
use Rattle.mem_bytes.specs.Memory.{Block, Blocks, live_block, size_of, with_part}

-- two steps that ended in no error
pub and_then_ok : {A B E : Type 0} (first : Result A E) (next : A → Result B E) (last : B) → and_then first next ≡ Ok last → (value : A) × (first ≡ Ok value) × (next value ≡ Ok last)
and_then_ok (Ok value) next last e = (value, refl, e)
and_then_ok (Err error) next last e = cc

-- a step that made another block of one
pub record Changed (memory after : Blocks) (number : ℕ) (step : Block → Result Block Fault) : Type 0 where
  pub block : Block
  pub new : Block
  pub live : live_block memory number ≡ Some block
  pub stepped : step block ≡ Ok new
  pub made : after ≡ slice_set memory number (Some new)

changed_from : (memory after : Blocks) (number : ℕ) (step : Block → Result Block Fault) (slot : Option Block) → live_block memory number ≡ slot → and_then (live_read slot step) (λ block. Ok (slice_set memory number (Some block))) ≡ Ok after → Changed memory after number step
changed_from memory after number step None live e = cc
changed_from memory after number step (Some block) live e =
    let parts = and_then_ok (step block) (λ b. Ok (slice_set memory number (Some b))) after e in
    let made : after ≡ slice_set memory number (Some parts.0) = cc (parts.2) in
    record { block = block; new = parts.0; live = live; stepped = parts.1; made = made }

pub changed : (memory after : Blocks) (number : ℕ) (step : Block → Result Block Fault) → live_change memory number step ≡ Ok after → Changed memory after number step
changed memory after number step e = changed_from memory after number step (live_block memory number) refl e

-- the cells of an access, which lie in the block
part_from : (inside : Bool) (held cells : List Cell) → cond inside (Ok held) (Err Outside) ≡ Ok cells → (inside ≡ true) × (cells ≡ held)
part_from true held cells e = (refl, cc)
part_from false held cells e = cc

pub part_ok : (block : Block) (offset count : ℕ) (cells : List Cell) → part_of block offset count ≡ Ok cells → (offset + count ≤ size_of block) × (cells ≡ take count (drop offset block.cells))
part_ok block offset count cells e =
    let parts = part_from (nat_le (offset + count) (size_of block)) (take count (drop offset block.cells)) cells e in
    (leb-true (offset + count) (size_of block) parts.0, parts.1)

pub part_inside : (block : Block) (offset count : ℕ) → offset + count ≤ size_of block → part_of block offset count ≡ Ok (take count (drop offset block.cells))
part_inside block offset count p = cond-true _ _ _ (le-leb (offset + count) (size_of block) p)

aligned_from : (fits : Bool) (held cells : List Cell) → cond fits (Ok held) (Err Misaligned) ≡ Ok cells → (fits ≡ true) × (held ≡ cells)
aligned_from true held cells e = (refl, cc)
aligned_from false held cells e = cc

pub scalar_part_ok : (block : Block) (offset : ℕ) (scalar : Scalar) (cells : List Cell) → scalar_part_of block offset scalar ≡ Ok cells → (part_of block offset (scalar_size scalar) ≡ Ok cells) × (is_aligned scalar block offset ≡ true)
scalar_part_ok block offset scalar cells e =
    let parts = and_then_ok (part_of block offset (scalar_size scalar)) (λ held. cond (is_aligned scalar block offset) (Ok held) (Err Misaligned)) cells e in
    let fits = aligned_from (is_aligned scalar block offset) parts.0 cells parts.2 in
    (parts.1 ∙ ap Ok fits.1, fits.0)

-- ---- a block with other cells

module _ (block : Block) (offset : ℕ) (cells : List Cell) (fits : offset + length cells ≤ size_of block) where
  pub size_of-with_part : size_of (with_part block offset cells) ≡ size_of block
  size_of-with_part = simp (length-append, length-take, length-drop) (omega arith)

  -- the cells that were written stand there
  pub written_part : take (length cells) (drop offset (with_part block offset cells).cells) ≡ cells
  written_part =
      let front : length (take offset block.cells) ≡ offset = length-take-le offset block.cells (omega arith) in
      rw (append_assoc, drop_at (take offset block.cells) (cells ++ drop (offset + length cells) block.cells) offset front, take_at cells (drop (offset + length cells) block.cells) (length cells) refl)

  -- and those beside them stand where they stood
  part_beside : (other many : ℕ) → (offset + length cells ≤ other) ⊎ (other + many ≤ offset) → other + many ≤ size_of block → take many (drop other (with_part block offset cells).cells) ≡ take many (drop other block.cells)
  part_beside other many apart inside =
      same_lists _ _ (search (rules, places)) (λ k d p. grind (arith, places))

  pub part_of-with_part_beside : (other many : ℕ) → (offset + length cells ≤ other) ⊎ (other + many ≤ offset) → part_of (with_part block offset cells) other many ≡ part_of block other many
  part_of-with_part_beside other many apart =
      ⊎_elim
      (λ (outside : size_of block < other + many). cond-false _ _ _ (lt-leb (other + many) (size_of (with_part block offset cells)) (omega (arith, size_of-with_part))) ∙ sym (cond-false _ _ _ (lt-leb (other + many) (size_of block) outside)))
      (λ (inside : other + many ≤ size_of block). part_inside (with_part block offset cells) other many (omega (arith, size_of-with_part)) ∙ ap Ok (part_beside other many apart inside) ∙ sym (part_inside block other many inside))
      (cases_lt (size_of block) (other + many))

-- an access has as many cells as it asks for
pub length_part : (block : Block) (offset count : ℕ) (cells : List Cell) → part_of block offset count ≡ Ok cells → length cells ≡ count
length_part block offset count cells e =
    let inside = part_ok block offset count cells e in
    ap length inside.1 ∙ length-take-le count (drop offset block.cells) (omega (arith, length-drop offset block.cells))
