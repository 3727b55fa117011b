-- Cells of C that are below bytes of the crate, as numbers.
use Rattle.std.proofs.Common.{◌≡◌, ℕ, zero, suc, ◌-◌, ◌/◌, ◌%◌, ◌<◌, ◌≤◌, Bool, true, All, List, [], ◌∷◌, map, refl, sym, ap, ◌∙◌, subst, ⊎_elim, arith}
use Rattle.std.specs.Int.{bit_at}
use Rattle.std.specs.List.{list_all}
use Rattle.std.proofs.lemmas.Bool.{cases_lt}
use Rattle.std.proofs.lemmas.List.Elements.{All-nil, All-cons, All-head, All-tail}
use Rattle.std.proofs.lemmas.Nat.{mod_below}
use Rattle.std.proofs.lemmas.Nat.Bits.{same_from_bits_below, bit_at_ones}
use Rattle.mem_bytes.specs.declared.cell.Cell.{Cell}
use Rattle.mem_bytes.specs.declared.cell.Cell.TheVariants.{Bits, PtrByte}
use Rattle.mem_bytes.specs.Bits.{bit_cells}
use Rattle.mem_bytes.specs.Coding.{is_bits, bits_of, set_of, bytes_of, number_of}
use Rattle.mem_bytes.specs.Laws.{IsHeld}
use Rattle.mem_bytes.specs.Memory.{byte_cell}
use Rattle.lift_stands.specs.Stands.{Images, BitsBelow, CellsBelow}
use Rattle.lift_stands_bits.proofs.Numbers.{SetAlike, first_byte_bit, next_byte_bit, first_bytes_alike, next_bytes_alike}

-- ---- cells beside cells of bits are bytes

pub record AreBytes (others : List Cell) : Type 0 where
  pub bytes : List ℕ
  pub same : others ≡ map byte_cell bytes
  pub small : All (λ byte. byte < 256) bytes

one_more : (other : Cell) (others : List Cell) (byte : ℕ) → other ≡ byte_cell byte → IsHeld other → AreBytes others → AreBytes (other ∷ others)
one_more other others byte is held are =
    let small : IsHeld (byte_cell byte) = subst IsHeld is held in
    record {
      bytes = byte ∷ are.bytes;
      same = ap (λ c. c ∷ others) is ∙ ap (λ (list : List Cell). byte_cell byte ∷ list) are.same;
      small = All-cons (λ b. b < 256) byte are.bytes small.0 are.small;
    }

pub bytes_beside : (images : Images) (cells others : List Cell) → images.in_bytes ≡ true → CellsBelow images cells others → list_all is_bits cells ≡ true → All IsHeld others → AreBytes others
bytes_beside images [] [] in_bytes below bits held = record { bytes = []; same = refl; small = All-nil (λ b. b < 256) }
bytes_beside images [] (other ∷ others) in_bytes below bits held = absurd below
bytes_beside images (cell ∷ cells) [] in_bytes below bits held = absurd below
bytes_beside images (Bits value set ∷ cells) (other ∷ others) in_bytes below bits held =
    let byte = below.0.bytes in_bytes in
    one_more other others byte.0 byte.1 (All-head IsHeld other others held) (bytes_beside images cells others in_bytes below.1 bits (All-tail IsHeld other others held))
bytes_beside images (PtrByte of index ∷ cells) (other ∷ others) in_bytes below bits held = cc

-- ---- their numbers are alike

pub numbers_alike : (images : Images) (cells : List Cell) (bytes : List ℕ) → CellsBelow images cells (map byte_cell bytes) → list_all is_bits cells ≡ true → All IsHeld cells → All (λ byte. byte < 256) bytes → SetAlike (bits_of cells) (set_of cells) (number_of bytes)
numbers_alike images [] [] below bits held small = λ k e. refl
numbers_alike images [] (byte ∷ bytes) below bits held small = absurd below
numbers_alike images (cell ∷ cells) [] below bits held small = absurd below
numbers_alike images (PtrByte of index ∷ cells) (byte ∷ bytes) below bits held small = cc
numbers_alike images (Bits value set ∷ cells) (byte ∷ bytes) below bits held small = λ k e.
    let is_held = All-head IsHeld (Bits value set) cells held in
    let is_small = All-head (λ b. b < 256) byte bytes small in
    let rest = numbers_alike images cells bytes below.1 bits (All-tail IsHeld (Bits value set) cells held) (All-tail (λ b. b < 256) byte bytes small) in
    ⊎_elim
    (λ (low : k < 8).
    let is_set : bit_at set k ≡ 1 = sym (first_byte_bit set (set_of cells) k low) ∙ e in
    first_byte_bit value (bits_of cells) k low ∙ sym (below.0.each k low is_set).1 ∙ sym (first_byte_bit byte (number_of bytes) k low))
    (λ (high : 8 ≤ k).
    let is_set : bit_at (set_of cells) (k - 8) ≡ 1 = sym (next_byte_bit set (set_of cells) k is_held.1 high) ∙ e in
    next_byte_bit value (bits_of cells) k is_held.0 high ∙ rest (k - 8) is_set ∙ sym (next_byte_bit byte (number_of bytes) k is_small high))
    (cases_lt k 8)

-- ---- and the cells of numbers that are alike are below bytes

one_byte : (in_bytes : Bool) (bits set other : ℕ) → bits < 256 → set < 256 → other < 256 → SetAlike bits set other → BitsBelow in_bytes bits set (byte_cell other)
one_byte in_bytes bits set other p q r alike = record {
  whole = λ e. ap byte_cell (same_from_bits_below 8 other bits r p (λ k less.
      let is_set : bit_at set k ≡ 1 = ap (λ n. bit_at n k) e ∙ bit_at_ones 8 k less in
      sym (alike k is_set)));
  each = λ k less e. (bit_at_ones 8 k less, sym (alike k e));
  bytes = λ e. (other, refl);
}

pub cells_below_bytes : (images : Images) (count bits set other : ℕ) → SetAlike bits set other → CellsBelow images (bit_cells count bits set) (map byte_cell (bytes_of count other))
cells_below_bytes images zero bits set other alike = tt
cells_below_bytes images (suc count) bits set other alike = (
  one_byte images.in_bytes (bits % 256) (set % 256) (other % 256) (mod_below bits 256 (omega arith)) (mod_below set 256 (omega arith)) (mod_below other 256 (omega arith)) (first_bytes_alike bits set other alike),
  cells_below_bytes images count (bits / 256) (set / 256) (other / 256) (next_bytes_alike bits set other alike),
)
