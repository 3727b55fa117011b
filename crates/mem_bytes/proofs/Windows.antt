-- A bit-field in some cells of a block is a field of the number that all cells of the block make.
use Rattle.std.proofs.Common.{◌≡◌, ℕ, zero, suc, ◌+◌, ◌-◌, ◌*◌, ◌/◌, ◌%◌, ◌^◌, ◌<◌, ◌≤◌, Bool, true, cond, ◌==◌, All, List, [], ◌∷◌, ◌++◌, map, length, take, drop, Ok, Err, Result, refl, sym, ap, ◌∙◌, subst, arith}
use Rattle.std.specs.List.{list_all}
use Rattle.std.proofs.lemmas.Bool.{cond-true, eq-eqb}
use Rattle.std.proofs.lemmas.List.{append_assoc, length-map, length-drop, length-take-le, take-append-drop, map-append, drop-drop}
use Rattle.std.proofs.lemmas.List.Elements.{All-take}
use Rattle.std.proofs.lemmas.Nat.{pow_pos, mod_below}
use Rattle.mem_bytes.specs.declared.cell.Cell.{Cell}
use Rattle.mem_bytes.specs.declared.fault.Fault.{Fault}
use Rattle.mem_bytes.specs.declared.fault.Fault.TheVariants.{Unset, MixedPointer}
use Rattle.mem_bytes.specs.Bits.{field_of, with_field, bit_cells, field_in}
use Rattle.mem_bytes.specs.Coding.{number_of, bytes_of, is_bits, bits_in, set_in, bits_of, set_of}
use Rattle.mem_bytes.specs.Laws.{IsHeld}
use Rattle.mem_bytes.proofs.Bytes.{number_of-append, number_of-bytes_of, number_of_below}
use Rattle.mem_bytes.proofs.Fields.{field_of-high, field_of-low, field_of-mod_power, field_of-with_field, with_field-high, with_field-low}

-- ---- cells of bits

pub map-bits_in : (count bits set : ℕ) → map bits_in (bit_cells count bits set) ≡ bytes_of count bits
map-bits_in zero bits set = refl
map-bits_in (suc count) bits set = ap (λ bs. bits % 256 ∷ bs) (map-bits_in count (bits / 256) (set / 256))

pub map-set_in : (count bits set : ℕ) → map set_in (bit_cells count bits set) ≡ bytes_of count set
map-set_in zero bits set = refl
map-set_in (suc count) bits set = ap (λ bs. set % 256 ∷ bs) (map-set_in count (bits / 256) (set / 256))

pub all_bits : (count bits set : ℕ) → list_all is_bits (bit_cells count bits set) ≡ true
all_bits zero bits set = refl
all_bits (suc count) bits set = all_bits count (bits / 256) (set / 256)

pub bytes_all : (count bits set : ℕ) → All IsHeld (bit_cells count bits set)
bytes_all zero bits set = λ k d p. absurd (omega arith)
bytes_all (suc count) bits set = elim [ zero ↦ λ d p. (mod_below bits 256 (omega arith), mod_below set 256 (omega arith)) | suc k ↦ λ d p. bytes_all count (bits / 256) (set / 256) k d (omega arith) ]

pub bits_of-bit_cells : (count bits set : ℕ) → bits_of (bit_cells count bits set) ≡ bits % 2 ^ (8 * count)
bits_of-bit_cells count bits set = ap number_of (map-bits_in count bits set) ∙ number_of-bytes_of count bits

pub set_of-bit_cells : (count bits set : ℕ) → set_of (bit_cells count bits set) ≡ set % 2 ^ (8 * count)
set_of-bit_cells count bits set = ap number_of (map-set_in count bits set) ∙ number_of-bytes_of count set

-- what a bit-field holds goes by its bits, its set bits, and whether a cell is a pointer's byte
pub same_field : (bit width : ℕ) (cells others : List Cell) → field_of bit width (set_of cells) ≡ field_of bit width (set_of others) → list_all is_bits cells ≡ list_all is_bits others → field_of bit width (bits_of cells) ≡ field_of bit width (bits_of others) → field_in bit width cells ≡ field_in bit width others
same_field bit width cells others set bits value =
    let Held = Result ℕ Fault in
    let found : ℕ → Bool → ℕ → Held = λ s b v. cond (s == 2 ^ width - 1) (cond b (Ok v) (Err MixedPointer)) (Err Unset) in
    ap (λ s. found s (list_all is_bits cells) (field_of bit width (bits_of cells))) set
    ∙ ap (λ b. found (field_of bit width (set_of others)) b (field_of bit width (bits_of cells))) bits
    ∙ ap (λ v. found (field_of bit width (set_of others)) (list_all is_bits others) v) value

-- the field that was put into cells is held by them
pub field_in-with_field : (count bit width field bits set : ℕ) → bit + width ≤ 8 * count → field < 2 ^ width → field_in bit width (bit_cells count (with_field bit width field bits) (with_field bit width (2 ^ width - 1) set)) ≡ Ok field
field_in-with_field count bit width field bits set p q =
    let cells = bit_cells count (with_field bit width field bits) (with_field bit width (2 ^ width - 1) set) in
    let mask : 2 ^ width - 1 < 2 ^ width = omega (arith, pow_pos width) in
    let all_set : field_of bit width (set_of cells) ≡ 2 ^ width - 1 = ap (field_of bit width) (set_of-bit_cells count _ _) ∙ field_of-mod_power (8 * count) bit width _ p ∙ field_of-with_field bit width (2 ^ width - 1) set mask in
    let value : field_of bit width (bits_of cells) ≡ field = ap (field_of bit width) (bits_of-bit_cells count _ _) ∙ field_of-mod_power (8 * count) bit width _ p ∙ field_of-with_field bit width field bits q in
    cond-true _ _ _ (eq-eqb _ _ all_set) ∙ cond-true _ _ _ (all_bits count _ _) ∙ ap Ok value

-- ---- some cells of a block

-- a list in three parts
pub parts_of : {X : Type 0} (xs : List X) (offset count : ℕ) → xs ≡ take offset xs ++ (take count (drop offset xs) ++ drop (offset + count) xs)
parts_of xs offset count =
    sym (take-append-drop offset xs)
    ∙ ap (λ rest. take offset xs ++ rest) (sym (take-append-drop count (drop offset xs)) ∙ ap (λ rest. take count (drop offset xs) ++ rest) (drop-drop count offset xs))

-- one part of what is told of cells: their bits, or which of them are set
module _ (part : Cell → ℕ) (small : (cell : Cell) → IsHeld cell → part cell < 256) where
  parts_small : (cells : List Cell) → All IsHeld cells → All (λ b. b < 256) (map part cells)
  parts_small [] bytes = λ k d p. absurd (omega arith)
  parts_small (cell ∷ cells) bytes =
      let first : part cell < 256 = small cell (bytes 0 cell (omega arith)) in
      let rest = parts_small cells (λ k d p. bytes (suc k) d (omega arith)) in
      elim [ zero ↦ λ d p. first | suc k ↦ λ d p. rest k d (omega arith) ]

  pub number_small : (cells : List Cell) → All IsHeld cells → number_of (map part cells) < 2 ^ (8 * length cells)
  number_small cells bytes =
      subst (λ n. number_of (map part cells) < 2 ^ (8 * n)) (length-map cells part) (number_of_below (map part cells) (parts_small cells bytes))

  -- the number of three runs of cells
  number_of_three : (low middle high : List Cell) → number_of (map part (low ++ (middle ++ high))) ≡ (number_of (map part high) * 2 ^ (8 * length middle) + number_of (map part middle)) * 2 ^ (8 * length low) + number_of (map part low)
  number_of_three low middle high =
      ap number_of (map-append part low (middle ++ high))
      ∙ number_of-append (map part low) (map part (middle ++ high))
      ∙ ap (λ n. number_of (map part (middle ++ high)) * 2 ^ (8 * n) + number_of (map part low)) (length-map low part)
      ∙ ap (λ n. n * 2 ^ (8 * length low) + number_of (map part low)) (ap number_of (map-append part middle high) ∙ number_of-append (map part middle) (map part high) ∙ ap (λ n. number_of (map part high) * 2 ^ (8 * n) + number_of (map part middle)) (length-map middle part))

  module _ (cells : List Cell) (bytes : All IsHeld cells) (offset count : ℕ) (inside : offset + count ≤ length cells) where
    low_length : length (take offset cells) ≡ offset
    low_length = length-take-le offset cells (omega arith)

    middle_length : length (take count (drop offset cells)) ≡ count
    middle_length = length-take-le count (drop offset cells) (omega (arith, length-drop offset cells))

    low_small : number_of (map part (take offset cells)) < 2 ^ (8 * offset)
    low_small =
        subst (λ n. number_of (map part (take offset cells)) < 2 ^ (8 * n)) low_length (number_small (take offset cells) (All-take IsHeld offset cells bytes))

    -- the whole number, by the runs before, inside and behind the window
    whole_number : number_of (map part cells) ≡ (number_of (map part (drop (offset + count) cells)) * 2 ^ (8 * count) + number_of (map part (take count (drop offset cells)))) * 2 ^ (8 * offset) + number_of (map part (take offset cells))
    whole_number =
        ap (λ xs. number_of (map part xs)) (parts_of cells offset count)
        ∙ number_of_three (take offset cells) (take count (drop offset cells)) (drop (offset + count) cells)
        ∙ ap (λ n. (number_of (map part (drop (offset + count) cells)) * 2 ^ (8 * n) + number_of (map part (take count (drop offset cells)))) * 2 ^ (8 * length (take offset cells)) + number_of (map part (take offset cells))) middle_length
        ∙ ap (λ n. (number_of (map part (drop (offset + count) cells)) * 2 ^ (8 * count) + number_of (map part (take count (drop offset cells)))) * 2 ^ (8 * n) + number_of (map part (take offset cells))) low_length

    -- a field of the window is one of the whole number
    pub field_in_window : (bit width : ℕ) → bit + width ≤ 8 * count → field_of bit width (number_of (map part (take count (drop offset cells)))) ≡ field_of (8 * offset + bit) width (number_of (map part cells))
    field_in_window bit width p =
        sym (field_of-low (8 * count) bit width (number_of (map part (drop (offset + count) cells))) (number_of (map part (take count (drop offset cells)))) p)
        ∙ sym (field_of-high (8 * offset) bit width _ (number_of (map part (take offset cells))) low_small)
        ∙ ap (field_of (8 * offset + bit) width) (sym whole_number)

    -- a field put into the window is put into the whole number
    pub field_put_window : (new : List Cell) (bit width field : ℕ) → length new ≡ count → bit + width ≤ 8 * count → number_of (map part new) ≡ with_field bit width field (number_of (map part (take count (drop offset cells)))) → number_of (map part (take offset cells ++ new ++ drop (offset + length new) cells)) ≡ with_field (8 * offset + bit) width field (number_of (map part cells))
    field_put_window new bit width field many p put =
        ap (λ xs. number_of (map part xs)) (append_assoc (take offset cells) new (drop (offset + length new) cells))
        ∙ number_of_three (take offset cells) new (drop (offset + length new) cells)
        ∙ ap (λ n. (number_of (map part (drop (offset + n) cells)) * 2 ^ (8 * n) + number_of (map part new)) * 2 ^ (8 * length (take offset cells)) + number_of (map part (take offset cells))) many
        ∙ ap (λ n. (number_of (map part (drop (offset + count) cells)) * 2 ^ (8 * count) + number_of (map part new)) * 2 ^ (8 * n) + number_of (map part (take offset cells))) low_length
        ∙ ap (λ n. (number_of (map part (drop (offset + count) cells)) * 2 ^ (8 * count) + n) * 2 ^ (8 * offset) + number_of (map part (take offset cells))) put
        ∙ ap (λ n. n * 2 ^ (8 * offset) + number_of (map part (take offset cells))) (sym (with_field-low (8 * count) bit width field (number_of (map part (drop (offset + count) cells))) (number_of (map part (take count (drop offset cells)))) p))
        ∙ sym (with_field-high (8 * offset) bit width field _ (number_of (map part (take offset cells))) low_small)
        ∙ ap (with_field (8 * offset + bit) width field) (sym whole_number)
