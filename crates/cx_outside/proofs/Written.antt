-- Texts, byte by byte.
use Rattle.std.proofs.Common.{◌≡◌, ◌∙◌, refl, sym, ap, arith, ℕ, zero, suc, ◌+◌, ◌<◌, ◌≤◌, ◌==◌, nat_le, Bool, true, false, List, [], ◌∷◌, length, drop, take, slice_index_or, Option, Some, None, Result, Ok, Err, if◌then◌else◌, ◌⊎◌, inl, inr}
use Rattle.std.proofs.lemmas.Bool.Decides.{nat_tests}
use Rattle.cr_world.specs.Texts.{text_from, text_in, text_at}
use Rattle.cx_mean.specs.Operands.{CWhy, breaks, rule_of, accessed}
use Rattle.cx_outside.specs.Texts.{byte_in}
use Rattle.mem_bytes.specs.Access.{and_then, live_read, block_cell, cell_at}
use Rattle.mem_bytes.specs.Memory.{Block, Blocks, live_block, size_of, unset_cell}
use Rattle.mem_bytes.specs.declared.cell.Cell.{Cell}
use Rattle.mem_bytes.specs.declared.cell.Cell.TheVariants.{Bits, PtrByte}
use Rattle.mem_bytes.specs.declared.fault.Fault.{Fault}
use Rattle.mem_bytes.specs.declared.fault.Fault.TheVariants as fault

-- a text by its first byte, and the text behind it
abbrev pub text_by : Result ℕ CWhy → Result (List ℕ) CWhy → Result (List ℕ) CWhy
text_by (Ok zero) behind = Ok []
text_by (Ok (suc n)) behind = and_then behind (λ bytes. Ok (suc n ∷ bytes))
text_by (Err why) behind = Err why

byte_of_text : (n : ℕ) (others : Result (List ℕ) Fault) → accessed (text_from n others) ≡ text_by (Ok n) (accessed others)
byte_of_text zero others = refl
byte_of_text (suc n) (Ok bytes) = refl
byte_of_text (suc n) (Err why) = refl

first_of_text : (cell : Cell) (cells : List Cell) → accessed (text_in (cell ∷ cells)) ≡ text_by (byte_in (Ok cell)) (accessed (text_in cells))
first_of_text (Bits value set) cells = by_set value (set == 255)
  where
    by_set : (value : ℕ) (test : Bool) → accessed (if test then text_from value (text_in cells) else Err fault.Unset)
        ≡ text_by (if test then Ok value else Err (breaks (rule_of fault.Unset))) (accessed (text_in cells))
    by_set value true = byte_of_text value (text_in cells)
    by_set value false = refl
first_of_text (PtrByte of index) cells = refl

cases_le : (n k : ℕ) → (n ≤ k) ⊎ (k < n)
cases_le zero k = inl (omega arith)
cases_le (suc n) zero = inr (omega arith)
cases_le (suc n) (suc k) = elim (cases_le n k) [
  | inl less ↦ inl (omega (arith, less))
  | inr more ↦ inr (omega (arith, more))
]

one_less : (n k : ℕ) → nat_le (suc n + 1) (suc k) ≡ nat_le (n + 1) k
one_less n k = elim (cases_le (n + 1) k) [
  | inl less ↦ let one : nat_le (suc n + 1) (suc k) ≡ true = grind (arith, nat_tests, less) in let other : nat_le (n + 1) k ≡ true = grind (arith, nat_tests, less) in one ∙ sym other
  | inr more ↦ let one : nat_le (suc n + 1) (suc k) ≡ false = grind (arith, nat_tests, more) in let other : nat_le (n + 1) k ≡ false = grind (arith, nat_tests, more) in one ∙ sym other
]

-- the cells of a block from an offset on: none, or one and those behind it
cells_from : (cells : List Cell) (offset : ℕ) →
    accessed (text_in (drop offset cells))
    ≡ text_by (byte_in (if nat_le (offset + 1) (length cells) then Ok (slice_index_or cells offset unset_cell) else Err fault.Outside)) (accessed (text_in (drop (suc offset) cells)))
cells_from [] zero = refl
cells_from [] (suc offset) =
    let none : nat_le (suc offset + 1) 0 ≡ false = grind (arith, nat_tests) in
    rw none refl
cells_from (cell ∷ cells) zero =
    let some : nat_le (0 + 1) (suc (length cells)) ≡ true = grind (arith, nat_tests) in
    rw some (first_of_text cell cells)
cells_from (cell ∷ cells) (suc offset) =
    rw (one_less offset (length cells)) (cells_from cells offset)

part_first : (test : Bool) (cells : List Cell) (cell : Cell) → and_then (if test then Ok cells else Err fault.Outside) (λ _. Ok cell) ≡ (if test then Ok cell else Err fault.Outside)
part_first true cells cell = refl
part_first false cells cell = refl

step_in : (found : Option Block) (offset : ℕ) →
    accessed (live_read found (λ block. text_in (drop offset block.cells)))
    ≡ text_by (byte_in (live_read found (λ block. block_cell block offset))) (accessed (live_read found (λ block. text_in (drop (suc offset) block.cells))))
step_in None offset = refl
step_in (Some block) offset =
    cells_from block.cells offset
    ∙ sym (ap (λ (cell : Result Cell Fault). text_by (byte_in cell) (accessed (text_in (drop (suc offset) block.cells))))
    (part_first (nat_le (offset + 1) (size_of block)) (take 1 (drop offset block.cells)) (slice_index_or block.cells offset unset_cell)))

pub text_step : (blocks : Blocks) (block offset : ℕ) →
    accessed (text_at blocks (record { block = block; offset = offset }))
    ≡ text_by (byte_in (cell_at blocks (record { block = block; offset = offset }))) (accessed (text_at blocks (record { block = block; offset = suc offset })))
text_step blocks block offset = step_in (live_block blocks block) offset
