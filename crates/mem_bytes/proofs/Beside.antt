-- A bit-field's neighbours.
use Rattle.std.proofs.Common.{◌≡◌, ◌≢◌, ℕ, ◌+◌, ◌-◌, ◌*◌, ◌%◌, ◌^◌, ◌<◌, ◌≤◌, true, ◌&&◌, All, List, [], ◌∷◌, ◌++◌, map, length, take, drop, replicate, Some, Result, Ok, refl, sym, ap, ◌∙◌, subst, ◌⊎◌, ⊎_elim, inl, inr, arith}
use Rattle.std.specs.List.{list_all}
use Rattle.std.proofs.Math.Nat.{mod-eq_of_lt}
use Rattle.std.proofs.lemmas.Bool.{and_parts, lt-leb, cond-false, cases_lt, cases_eq}
use Rattle.std.proofs.lemmas.List.{append_assoc, map-append, take-map, drop-map}
use Rattle.std.proofs.lemmas.List.Elements.{All-take, All-drop, All-append}
use Rattle.std.proofs.lemmas.Nat.{pow_pos}
use Rattle.mem_bytes.specs.declared.cell.Cell.{Cell}
use Rattle.mem_bytes.specs.declared.cell.Cell.TheVariants.{Bits, PtrByte}
use Rattle.mem_bytes.specs.declared.fault.Fault.{Fault}
use Rattle.mem_bytes.specs.declared.value.Ptr.{Ptr}
use Rattle.mem_bytes.specs.Access.{and_then, part_of, live_read, field_at, after_put_bits}
use Rattle.mem_bytes.specs.Bits.{bytes_touched, field_of, with_field, field_in}
use Rattle.mem_bytes.specs.Calls.{IsFieldPlace}
use Rattle.mem_bytes.specs.Coding.{is_bits, bits_in, set_in, bits_of, set_of}
use Rattle.mem_bytes.specs.Laws.{IsHeld, HoldsCells, AreFieldsApart}
use Rattle.mem_bytes.specs.Memory.{Block, Blocks, live_block, size_of, with_part}
use Rattle.mem_bytes.proofs.Fields.{field_of-with_field_above, field_of-with_field_below, with_field_below}
use Rattle.mem_bytes.proofs.Reached.{part_ok, part_inside, length_part, size_of-with_part}
use Rattle.mem_bytes.proofs.Slots.{live-set_same, live-set_other, live_within}
use Rattle.mem_bytes.proofs.Windows.{parts_of, bytes_all, bits_of-bit_cells, set_of-bit_cells, all_bits, same_field, number_small, field_in_window, field_put_window}
use Rattle.mem_bytes.proofs.Written.{FieldWritten, BitsPut, bits_put, length_new}

bits_small : (cell : Cell) → IsHeld cell → bits_in cell < 256
bits_small (Bits value set) byte = byte.0
bits_small (PtrByte of index) byte = omega arith

set_small : (cell : Cell) → IsHeld cell → set_in cell < 256
set_small (Bits value set) byte = byte.1
set_small (PtrByte of index) byte = omega arith

-- ---- which cells are a pointer's bytes

all_true : (cells : List Cell) → list_all is_bits cells ≡ true → map is_bits cells ≡ replicate (length cells) true
all_true [] all = refl
all_true (cell ∷ cells) all =
    let both = and_parts (is_bits cell) (list_all is_bits cells) all in
    ap (λ b. b ∷ map is_bits cells) both.0 ∙ ap (λ bs. true ∷ bs) (all_true cells both.1)

list_all-map : (cells : List Cell) → list_all is_bits cells ≡ list_all (λ b. b) (map is_bits cells)
list_all-map [] = refl
list_all-map (cell ∷ cells) = ap (λ b. is_bits cell && b) (list_all-map cells)

-- a field of the number of some cells that was put stays below the power of their count
put_number : (count bit width field n : ℕ) → bit + width ≤ 8 * count → field < 2 ^ width → n < 2 ^ (8 * count) → with_field bit width field n % 2 ^ (8 * count) ≡ with_field bit width field n
put_number count bit width field n p q r = mod-eq_of_lt (with_field_below (8 * count) bit width field n p q r)

-- ---- a block with another bit-field

module _ (block : Block) (offset count bit width field : ℕ) (cells new : List Cell) (bytes : All IsHeld block.cells) (part : part_of block offset count ≡ Ok cells) (fits : bit + width ≤ 8 * count) (small : field < 2 ^ width) (written : FieldWritten bit width field cells new) where
  held : (offset + count ≤ size_of block) × (cells ≡ take count (drop offset block.cells))
  held = part_ok block offset count cells part

  many : length cells ≡ count
  many = length_part block offset count cells part

  many_new : length new ≡ count
  many_new = length_new bit width field cells new written ∙ many

  cells_bytes : All IsHeld cells
  cells_bytes = subst (All IsHeld) (sym held.1) (All-take IsHeld count (drop offset block.cells) (All-drop IsHeld offset block.cells bytes))

  mask : 2 ^ width - 1 < 2 ^ width
  mask = omega (arith, pow_pos width)

  new_bits : bits_of new ≡ with_field bit width field (bits_of (take count (drop offset block.cells)))
  new_bits =
      ap bits_of written.made
      ∙ bits_of-bit_cells (length cells) _ _
      ∙ put_number (length cells) bit width field (bits_of cells) (omega (arith, many)) small (number_small bits_in bits_small cells cells_bytes)
      ∙ ap (λ xs. with_field bit width field (bits_of xs)) held.1

  new_set : set_of new ≡ with_field bit width (2 ^ width - 1) (set_of (take count (drop offset block.cells)))
  new_set =
      ap set_of written.made
      ∙ set_of-bit_cells (length cells) _ _
      ∙ put_number (length cells) bit width (2 ^ width - 1) (set_of cells) (omega (arith, many)) mask (number_small set_in set_small cells cells_bytes)
      ∙ ap (λ xs. with_field bit width (2 ^ width - 1) (set_of xs)) held.1

  whole_bits : bits_of (with_part block offset new).cells ≡ with_field (8 * offset + bit) width field (bits_of block.cells)
  whole_bits = field_put_window bits_in bits_small block.cells bytes offset count held.0 new bit width field many_new fits new_bits

  whole_set : set_of (with_part block offset new).cells ≡ with_field (8 * offset + bit) width (2 ^ width - 1) (set_of block.cells)
  whole_set = field_put_window set_in set_small block.cells bytes offset count held.0 new bit width (2 ^ width - 1) many_new fits new_set

  whole_bytes : All IsHeld (with_part block offset new).cells
  whole_bytes =
      All-append IsHeld (take offset block.cells ++ new) (drop (offset + length new) block.cells)
      (All-append IsHeld (take offset block.cells) new (All-take IsHeld offset block.cells bytes) (subst (All IsHeld) (sym written.made) (bytes_all (length cells) _ _)))
      (All-drop IsHeld (offset + length new) block.cells bytes)

  same_kinds : map is_bits (with_part block offset new).cells ≡ map is_bits block.cells
  same_kinds =
      let middle : map is_bits new ≡ map is_bits (take count (drop offset block.cells)) = all_true new (ap (list_all is_bits) written.made ∙ all_bits (length cells) _ _) ∙ ap (λ n. replicate n true) (many_new ∙ sym many) ∙ sym (all_true cells written.bits) ∙ ap (map is_bits) held.1 in
      let rest = map is_bits (drop (offset + count) block.cells) in
      ap (map is_bits) (append_assoc (take offset block.cells) new (drop (offset + length new) block.cells))
      ∙ map-append is_bits (take offset block.cells) (new ++ drop (offset + length new) block.cells)
      ∙ ap (λ bs. map is_bits (take offset block.cells) ++ bs) (map-append is_bits new (drop (offset + length new) block.cells) ∙ ap (λ n. map is_bits new ++ map is_bits (drop (offset + n) block.cells)) many_new ∙ ap (λ bs. bs ++ rest) middle)
      ∙ sym (ap (λ bs. map is_bits (take offset block.cells) ++ bs) (map-append is_bits (take count (drop offset block.cells)) (drop (offset + count) block.cells)))
      ∙ sym (map-append is_bits (take offset block.cells) (take count (drop offset block.cells) ++ drop (offset + count) block.cells))
      ∙ ap (map is_bits) (sym (parts_of block.cells offset count))

  size : length (with_part block offset new).cells ≡ length block.cells
  size = size_of-with_part block offset new (omega (arith, many_new, held.0))

  module _ (other room place wide : ℕ) (inside : other + room ≤ length block.cells) (ends : place + wide ≤ 8 * room) (apart : (8 * offset + bit + width ≤ 8 * other + place) ⊎ (8 * other + place + wide ≤ 8 * offset + bit)) where
    kinds : list_all is_bits (take room (drop other (with_part block offset new).cells)) ≡ list_all is_bits (take room (drop other block.cells))
    kinds =
        list_all-map (take room (drop other (with_part block offset new).cells))
        ∙ ap (list_all (λ b. b)) (sym (take-map is_bits room (drop other (with_part block offset new).cells)) ∙ ap (take room) (sym (drop-map is_bits other (with_part block offset new).cells) ∙ ap (drop other) same_kinds ∙ drop-map is_bits other block.cells) ∙ take-map is_bits room (drop other block.cells))
        ∙ sym (list_all-map (take room (drop other block.cells)))

    beside_field : (v n : ℕ) → v < 2 ^ width → field_of (8 * other + place) wide (with_field (8 * offset + bit) width v n) ≡ field_of (8 * other + place) wide n
    beside_field v n p =
        ⊎_elim
        (λ (behind : 8 * offset + bit + width ≤ 8 * other + place). field_of-with_field_above (8 * offset + bit) width v (8 * other + place) wide n p behind)
        (λ (before : 8 * other + place + wide ≤ 8 * offset + bit). field_of-with_field_below (8 * offset + bit) width v (8 * other + place) wide n before)
        apart

    beside_value : field_of place wide (bits_of (take room (drop other (with_part block offset new).cells))) ≡ field_of place wide (bits_of (take room (drop other block.cells)))
    beside_value =
        field_in_window bits_in bits_small (with_part block offset new).cells whole_bytes other room (omega (arith, size)) place wide ends
        ∙ ap (field_of (8 * other + place) wide) whole_bits
        ∙ beside_field field (bits_of block.cells) small
        ∙ sym (field_in_window bits_in bits_small block.cells bytes other room inside place wide ends)

    beside_set : field_of place wide (set_of (take room (drop other (with_part block offset new).cells))) ≡ field_of place wide (set_of (take room (drop other block.cells)))
    beside_set =
        field_in_window set_in set_small (with_part block offset new).cells whole_bytes other room (omega (arith, size)) place wide ends
        ∙ ap (field_of (8 * other + place) wide) whole_set
        ∙ beside_field (2 ^ width - 1) (set_of block.cells) mask
        ∙ sym (field_in_window set_in set_small block.cells bytes other room inside place wide ends)

    beside_inside : field_in place wide (take room (drop other (with_part block offset new).cells)) ≡ field_in place wide (take room (drop other block.cells))
    beside_inside = same_field place wide _ _ beside_set kinds beside_value

  -- what an access to a bit-field beside it finds
  pub beside : (other room place wide : ℕ) → place + wide ≤ 8 * room → (8 * offset + bit + width ≤ 8 * other + place) ⊎ (8 * other + place + wide ≤ 8 * offset + bit) → and_then (part_of (with_part block offset new) other room) (field_in place wide) ≡ and_then (part_of block other room) (field_in place wide)
  beside other room place wide ends apart =
      ⊎_elim
      (λ (outside : length block.cells < other + room). ap (λ p. and_then p (field_in place wide)) (cond-false _ _ _ (lt-leb (other + room) (size_of (with_part block offset new)) (omega (arith, size))) ∙ sym (cond-false _ _ _ (lt-leb (other + room) (size_of block) outside))))
      (λ (inside : other + room ≤ length block.cells). ap (λ p. and_then p (field_in place wide)) (part_inside (with_part block offset new) other room (omega (arith, size))) ∙ beside_inside other room place wide inside ends apart ∙ sym (ap (λ p. and_then p (field_in place wide)) (part_inside block other room inside)))
      (cases_lt (length block.cells) (other + room))

pub bits_stay : (memory after : Blocks) (at other : Ptr) (bit width field place wide : ℕ) → HoldsCells memory → IsFieldPlace bit width → field < 2 ^ width → AreFieldsApart at bit width other place wide → after_put_bits memory at bit width field ≡ Ok after → field_at after other place wide ≡ field_at memory other place wide
bits_stay memory after at other bit width field place wide bytes spot small apart e =
    ⊎_elim (λ (same : at.block ≡ other.block). inside same (split same apart)) elsewhere (cases_eq at.block other.block)
  where
    put : BitsPut memory after at bit width field
    put = bits_put memory after at bit width field e

    find : Block → Result ℕ Fault
    find block = and_then (part_of block other.offset (bytes_touched place wide)) (field_in place wide)

    elsewhere : at.block ≢ other.block → field_at after other place wide ≡ field_at memory other place wide
    elsewhere away = ap (λ slot. live_read slot find) (ap (λ m. live_block m other.block) put.made ∙ live-set_other memory at.block other.block _ away)

    split : at.block ≡ other.block → AreFieldsApart at bit width other place wide → (8 * at.offset + bit + width ≤ 8 * other.offset + place) ⊎ (8 * other.offset + place + wide ≤ 8 * at.offset + bit)
    split same (inl away) = absurd (away same)
    split same (inr sides) = sides

    inside : at.block ≡ other.block → (8 * at.offset + bit + width ≤ 8 * other.offset + place) ⊎ (8 * other.offset + place + wide ≤ 8 * at.offset + bit) → field_at after other place wide ≡ field_at memory other place wide
    inside same sides =
        let new : live_block after other.block ≡ Some (with_part put.block at.offset put.new) = ap (live_block after) (sym same) ∙ ap (λ m. live_block m at.block) put.made ∙ live-set_same memory at.block _ (live_within memory at.block put.block put.live) in
        let old : live_block memory other.block ≡ Some put.block = ap (live_block memory) (sym same) ∙ put.live in
        ap (λ slot. live_read slot find) new
        ∙ beside put.block at.offset (bytes_touched bit width) bit width field put.cells put.new (bytes at.block put.block put.live) put.part (omega arith) small put.written other.offset (bytes_touched place wide) place wide (omega arith) sides
        ∙ sym (ap (λ slot. live_read slot find) old)
