-- The members of a record lie inside it, and those of a structure don't overlap.
use Rattle.std.proofs.Common.{◌≡◌, ℕ, zero, suc, ◌+◌, ◌*◌, ◌/◌, ◌%◌, ◌<◌, ◌≤◌, Bool, true, false, List, [], ◌∷◌, None, Some, slice_get, option_map, All, refl, sym, ap, ◌∙◌, arith, subst, if◌then◌else◌, nat_le}
use Rattle.std.proofs.Math.Nat.{mul_assoc}
use Rattle.std.proofs.lemmas.List.Elements.{All-head, All-tail}
use Rattle.std.specs.Int.{next_multiple_of}
use Rattle.std.specs.Option.{option_and_then}
use Rattle.cr_base.specs.declared.layout.Front.{Front}
use Rattle.cr_base.specs.declared.layout.Laid.{Laid}
use Rattle.cr_base.specs.declared.layout.Piece.{Piece}
use Rattle.cr_base.specs.declared.layout.Piece.TheVariants.{Plain, Bits}
use Rattle.cr_base.specs.declared.layout.Spot.{Spot}
use Rattle.cr_base.specs.Layout.{width_of, align_of, bits_start, struct_start, start, after, after_all, no_front, spot, spots_behind, spots_of, laid, laid_of, most_bytes}
use Rattle.cr_base.proofs.Layouts.{rounded, taken_grows, align_grows}
use Rattle.cx_core.specs.Layouts.{CLayouts, CRow, row_of_pieces}
use Rattle.cx_core.specs.Trees.{CRecord}
use Rattle.cx_layout.specs.Places.{first_bit, end_bit, IsLaidOut, IsAt}

abbrev IsAligned : Piece → Type 0
IsAligned piece = 0 < align_of piece

-- ---- the first bit of a place

whole_bytes : (n k : ℕ) → n ≡ 8 * k → 8 * (n / 8) + 0 ≡ n
whole_bytes n k same = omega arith

plain_start : (is_union : Bool) (bits align : ℕ) → 0 < align → (k : ℕ) × ((if is_union then 0 else next_multiple_of bits (8 * align)) ≡ 8 * k)
plain_start true bits align positive = (0, refl)
plain_start false bits align positive =
    let up = rounded bits (8 * align) (omega arith) in
    (align * up.0, up.1 ∙ mul_assoc 8 align up.0)

split_bits : (n : ℕ) → 8 * (n / 8) + n % 8 ≡ n
split_bits n = omega arith

spot_start : (front : Front) (piece : Piece) → IsAligned piece → first_bit (spot front piece) ≡ start front piece
spot_start front (Plain size align) aligned =
    let eight = plain_start front.is_union front.bits align aligned in
    whole_bytes (start front (Plain size align)) eight.0 eight.1
spot_start front (Bits size width is_named) aligned = split_bits (start front (Bits size width is_named))

-- ---- inside

size_holds : (front : Front) → 0 < front.align → front.bits ≤ 8 * (laid front).size
size_holds front positive =
    let up = rounded front.bits (8 * front.align) (omega arith) in
    let e : 8 * front.align * up.0 ≡ 8 * (front.align * up.0) = mul_assoc 8 front.align up.0 in
    omega (arith, up.1)

ends_within : (pieces : List Piece) (front : Front) (index : ℕ) (piece : Piece) (place : Spot) → All IsAligned pieces → slice_get pieces index ≡ Some piece → slice_get (spots_behind front pieces) index ≡ Some place
    → end_bit place piece ≤ (after_all front pieces).bits
ends_within [] front index piece place all piece_is place_is = absurd cc
ends_within (first ∷ others) front zero piece place all piece_is place_is =
    let e : first ≡ piece = cc in
    let f : spot front first ≡ place = cc in
    let g : first_bit place ≡ start front first = sym (ap first_bit f) ∙ spot_start front first (All-head IsAligned first others all) in
    let h : width_of piece ≡ width_of first = sym (ap width_of e) in
    omega (arith, taken_grows others (after front first))
ends_within (first ∷ others) front (suc n) piece place all piece_is place_is =
    ends_within others (after front first) n piece place (All-tail IsAligned first others all) piece_is place_is

-- ---- beside each other

next_above : (bits unit : ℕ) → bits ≤ next_multiple_of bits unit
next_above bits unit = omega arith

bits_above_by : (free unit : ℕ) (fits : Bool) → free ≤ (if fits then free else next_multiple_of free unit)
bits_above_by free unit true = omega arith
bits_above_by free unit false = next_above free unit

bits_above : (free unit width : ℕ) → free ≤ bits_start free unit width
bits_above free unit zero = next_above free unit
bits_above free unit (suc w) = bits_above_by free unit (nat_le (free % unit + suc w) unit)

struct_above : (free : ℕ) (piece : Piece) → free ≤ struct_start free piece
struct_above free (Plain size align) = next_above free (8 * align)
struct_above free (Bits size width is_named) = bits_above free (8 * size) width

start_above : (front : Front) (piece : Piece) → front.is_union ≡ false → front.bits ≤ start front piece
start_above front piece is_struct = subst (λ b. front.bits ≤ (if b then 0 else struct_start front.bits piece)) (sym is_struct) (struct_above front.bits piece)

begins_behind : (pieces : List Piece) (front : Front) (index : ℕ) (place : Spot) → front.is_union ≡ false → All IsAligned pieces → slice_get (spots_behind front pieces) index ≡ Some place → front.bits ≤ first_bit place
begins_behind [] front index place is_struct all place_is = absurd cc
begins_behind (first ∷ others) front zero place is_struct all place_is =
    let f : spot front first ≡ place = cc in
    let g : first_bit place ≡ start front first = sym (ap first_bit f) ∙ spot_start front first (All-head IsAligned first others all) in
    omega (arith, start_above front first is_struct)
begins_behind (first ∷ others) front (suc n) place is_struct all place_is =
    omega (arith, begins_behind others (after front first) n place is_struct (All-tail IsAligned first others all) place_is)

apart : (pieces : List Piece) (front : Front) (index later : ℕ) (piece : Piece) (place later_place : Spot) → front.is_union ≡ false → All IsAligned pieces → index < later
    → slice_get pieces index ≡ Some piece → slice_get (spots_behind front pieces) index ≡ Some place → slice_get (spots_behind front pieces) later ≡ Some later_place → end_bit place piece ≤ first_bit later_place
apart [] front index later piece place later_place is_struct all before piece_is place_is later_is = absurd cc
apart (first ∷ others) front index zero piece place later_place is_struct all before piece_is place_is later_is = absurd (omega arith)
apart (first ∷ others) front zero (suc m) piece place later_place is_struct all before piece_is place_is later_is =
    let e : first ≡ piece = cc in
    let f : spot front first ≡ place = cc in
    let g : first_bit place ≡ start front first = sym (ap first_bit f) ∙ spot_start front first (All-head IsAligned first others all) in
    let h : width_of piece ≡ width_of first = sym (ap width_of e) in
    omega (arith, begins_behind others (after front first) m later_place is_struct (All-tail IsAligned first others all) later_is)
apart (first ∷ others) front (suc n) (suc m) piece place later_place is_struct all before piece_is place_is later_is =
    apart others (after front first) n m piece place later_place is_struct (All-tail IsAligned first others all) (omega arith) piece_is place_is later_is

-- ---- of records

-- the row of these members
abbrev row_with : Bool → List Piece → Laid → CRow
row_with is_union pieces found = record { laid = found; spots = spots_of is_union pieces }

row_by : (is_union : Bool) (pieces : List Piece) (small : Bool) (row : CRow) → nat_le (laid_of is_union pieces).size most_bytes ≡ small → row_of_pieces is_union pieces ≡ Some row
    → row_with is_union pieces (laid_of is_union pieces) ≡ row
row_by is_union pieces true row is same =
    let h : Some (row_with is_union pieces (laid_of is_union pieces)) ≡ Some row =
    subst (λ b. option_map (row_with is_union pieces) (if b then Some (laid_of is_union pieces) else None) ≡ Some row) is same in
    cc
row_by is_union pieces false row is same =
    let h : None ≡ Some row =
    subst (λ b. option_map (row_with is_union pieces) (if b then Some (laid_of is_union pieces) else None) ≡ Some row) is same in
    absurd cc

row_is_with : (layouts : CLayouts) (one : CRecord) (row : CRow) (pieces : List Piece) → IsLaidOut layouts one row pieces → row_with one.is_union pieces (laid_of one.is_union pieces) ≡ row
row_is_with layouts one row pieces is =
    row_by one.is_union pieces (nat_le (laid_of one.is_union pieces).size most_bytes) row refl
    (sym (ap (option_and_then (row_of_pieces one.is_union)) is.pieces_are) ∙ is.row_is)

spot_in : (layouts : CLayouts) (one : CRecord) (row : CRow) (pieces : List Piece) (index : ℕ) (place : Spot) → IsLaidOut layouts one row pieces → slice_get row.spots index ≡ Some place → slice_get (spots_of one.is_union pieces) index ≡ Some place
spot_in layouts one row pieces index place is place_is =
    ap (λ r. slice_get r.spots index) (row_is_with layouts one row pieces is) ∙ place_is

pub lies_inside : (layouts : CLayouts) (one : CRecord) (row : CRow) (pieces : List Piece) (index : ℕ) (piece : Piece) (place : Spot) → IsLaidOut layouts one row pieces → IsAt pieces row index piece place
    → end_bit place piece ≤ 8 * row.laid.size
lies_inside layouts one row pieces index piece place is at =
    let ends = ends_within pieces (no_front one.is_union) index piece place is.aligned at.piece_is (spot_in layouts one row pieces index place is at.spot_is) in
    let size : (laid_of one.is_union pieces).size ≡ row.laid.size = ap (λ r. r.laid.size) (row_is_with layouts one row pieces is) in
    omega (arith, size_holds (after_all (no_front one.is_union) pieces) (omega (arith, align_grows pieces (no_front one.is_union))))

pub stands_apart : (layouts : CLayouts) (one : CRecord) (row : CRow) (pieces : List Piece) (index later : ℕ) (piece later_piece : Piece) (place later_place : Spot) → IsLaidOut layouts one row pieces → one.is_union ≡ false → index < later
    → IsAt pieces row index piece place → IsAt pieces row later later_piece later_place → end_bit place piece ≤ first_bit later_place
stands_apart layouts one row pieces index later piece later_piece place later_place is is_struct before at later_at =
    apart pieces (no_front one.is_union) index later piece place later_place is_struct is.aligned before at.piece_is
    (spot_in layouts one row pieces index place is at.spot_is) (spot_in layouts one row pieces later later_place is later_at.spot_is)
