-- What an object holds that was made anew: bits that are 0, where they are set.
use Rattle.std.proofs.Common.{◌≡◌, ℕ, zero, suc, ◌+◌, ◌/◌, ◌%◌, ◌<◌, List, [], ◌∷◌, ◌++◌, length, take, drop, replicate, All, Option, Some, None, Ok, refl, sym, subst, arith}
use Rattle.std.proofs.lemmas.List.Elements.{All-nil, All-cons, All-head, All-tail, All-take, All-drop, All-append, All-replicate}
use Rattle.std.proofs.lemmas.Nat.{mod_below}
use Rattle.std.proofs.lemmas.Nat.Bits.{bit_at_ones}
use Rattle.cr_base.specs.declared.layout.Spot.{Spot}
use Rattle.cx_core.specs.Trees.{CPut, put, CPuts, no_puts, more_puts}
use Rattle.cx_mean.specs.Initialisers.{with_cells, field_unset, unset_by, unset_put, unset_puts, first_cells}
use Rattle.cx_mean.specs.Operands.{needed}
use Rattle.cx_mean.specs.Settings.{CSetting, extent_in}
use Rattle.lift_stands.specs.Stands.{Images, CellBelow, CellsBelow}
use Rattle.mem_bytes.specs.Bits.{bytes_touched, with_field, bit_cells}
use Rattle.mem_bytes.specs.Coding.{bits_of, set_of}
use Rattle.mem_bytes.specs.Laws.{IsHeld}
use Rattle.mem_bytes.specs.Memory.{unset_cell, byte_cell}
use Rattle.mem_bytes.specs.declared.cell.Cell.{Cell}
use Rattle.mem_bytes.specs.declared.cell.Cell.TheVariants.{Bits, PtrByte}
use Rattle.mem_bytes.proofs.Reached.{and_then_ok}

-- a cell of bits that are 0, of which some are set
abbrev pub IsZeros : Cell → Type 0
IsZeros (Bits value set) = (value ≡ 0) × (set < 256)
IsZeros (PtrByte of index) = ⊥

-- ---- below zero bytes

zeros_below : (images : Images) (cell : Cell) → IsZeros cell → CellBelow images cell (byte_cell 0)
zeros_below images (PtrByte of index) is = absurd is
zeros_below images (Bits value set) is =
    let same : 0 ≡ value = sym is.0 in
    subst (λ n. CellBelow images (Bits n set) (byte_cell 0)) same (record { whole = λ e. refl; each = λ k p e. (bit_at_ones 8 k p, refl); bytes = λ e. (0, refl) })

pub all_below : (images : Images) (list : List Cell) → All IsZeros list → CellsBelow images list (replicate (length list) (byte_cell 0))
all_below images [] are = tt
all_below images (cell ∷ cells) are = (zeros_below images cell (All-head IsZeros cell cells are), all_below images cells (All-tail IsZeros cell cells are))

is_held : (cell : Cell) → IsZeros cell → IsHeld cell
is_held (PtrByte of index) is = absurd is
is_held (Bits value set) is = (omega (arith, is.0), is.1)

pub all_held : (list : List Cell) → All IsZeros list → All IsHeld list
all_held [] are = All-nil IsHeld
all_held (cell ∷ cells) are = All-cons IsHeld cell cells (is_held cell (All-head IsZeros cell cells are)) (all_held cells (All-tail IsZeros cell cells are))

-- ---- what puts cover becomes unset

with_zeros : (offset : ℕ) (new held : List Cell) → All IsZeros new → All IsZeros held → All IsZeros (with_cells offset new held)
with_zeros offset new held fresh are =
    let front = All-append IsZeros (take offset held) new (All-take IsZeros offset held are) fresh in
    All-append IsZeros (take offset held ++ new) (drop (offset + length new) held) front (All-drop IsZeros (offset + length new) held are)

zero_bits : (part : List Cell) → All IsZeros part → bits_of part ≡ 0
zero_bits [] are = refl
zero_bits (PtrByte of index ∷ cells) are = absurd (All-head IsZeros (PtrByte of index) cells are)
zero_bits (Bits value set ∷ cells) are =
    let first = All-head IsZeros (Bits value set) cells are in
    let rest = zero_bits cells (All-tail IsZeros (Bits value set) cells are) in
    omega (arith, first.0, rest)

zero_cells : (count set : ℕ) → All IsZeros (bit_cells count 0 set)
zero_cells zero set = All-nil IsZeros
zero_cells (suc count) set = All-cons IsZeros (Bits 0 (set % 256)) (bit_cells count 0 (set / 256)) (refl, mod_below set 256 (omega arith)) (zero_cells count (set / 256))

field_zeros : (bit width : ℕ) (part : List Cell) → All IsZeros part → All IsZeros (field_unset bit width part)
field_zeros bit width part are =
    let set = with_field bit width 0 (set_of part) in
    subst (λ n. All IsZeros (bit_cells (length part) n set)) (sym (zero_bits part are)) (zero_cells (length part) set)

by_zeros : (spot : Spot) (size width : ℕ) (held : List Cell) → All IsZeros held → All IsZeros (unset_by spot size width held)
by_zeros spot size zero held are = with_zeros spot.byte (replicate size unset_cell) held (All-replicate IsZeros size unset_cell (refl, omega arith)) are
by_zeros spot size (suc n) held are =
    let part = take (bytes_touched spot.bit (suc n)) (drop spot.byte held) in
    with_zeros spot.byte (field_unset spot.bit (suc n) part) held
    (field_zeros spot.bit (suc n) part (All-take IsZeros (bytes_touched spot.bit (suc n)) (drop spot.byte held) (All-drop IsZeros spot.byte held are))) are

put_zeros : (setting : CSetting) (one : CPut) (held after : List Cell) → All IsZeros held → unset_put setting one held ≡ Ok after → All IsZeros after
put_zeros setting (put spot type value) held after are e =
    let parts = and_then_ok (needed (extent_in setting type)) (λ laid. Ok (unset_by spot laid.size spot.width held)) after e in
    let same : unset_by spot parts.0.size spot.width held ≡ after = cc (parts.2) in
    subst (All IsZeros) same (by_zeros spot parts.0.size spot.width held are)

puts_zeros : (setting : CSetting) (puts : CPuts) (held after : List Cell) → All IsZeros held → unset_puts setting puts held ≡ Ok after → All IsZeros after
puts_zeros setting no_puts held after are e =
    let same : held ≡ after = cc in
    subst (All IsZeros) same are
puts_zeros setting (more_puts first others) held after are e =
    let parts = and_then_ok (unset_put setting first held) (unset_puts setting others) after e in
    puts_zeros setting others parts.0 after (put_zeros setting first held parts.0 are parts.1) parts.2

pub first_zeros : (setting : CSetting) (size : ℕ) (puts : Option CPuts) (after : List Cell) → first_cells setting size puts ≡ Ok after → All IsZeros after
first_zeros setting size None after e =
    let same : replicate size unset_cell ≡ after = cc in
    subst (All IsZeros) same (All-replicate IsZeros size unset_cell (refl, omega arith))
first_zeros setting size (Some puts) after e = puts_zeros setting puts (replicate size (byte_cell 0)) after (All-replicate IsZeros size (byte_cell 0) (refl, omega arith)) e
