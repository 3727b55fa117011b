-- The layout of records: sizes are rounded up, and more members never take less.
use Rattle.std.proofs.Common.{None, Some, length, get_or, drop, drop-cons, subst, nat_le, if◌then◌else◌, ◌≡◌, ℕ, zero, suc, ◌+◌, ◌-◌, ◌*◌, ◌/◌, ◌%◌, ◌≤◌, ◌<◌, Bool, List, [], ◌∷◌, arith, refl, sym, ap, ◌∙◌}
use Rattle.std.proofs.Math.Nat.{mul_assoc, mul-suc, mod-eq_of_lt, mod_self}
use Rattle.std.proofs.lemmas.Bool.Decides.{nat_tests}
use Rattle.std.specs.Int.{next_multiple_of}
use Rattle.cr_base.specs.declared.layout.Piece.{Piece}
use Rattle.cr_base.specs.declared.layout.Front.{Front}
use Rattle.cr_base.specs.declared.layout.Laid.{Laid}
use Rattle.cr_base.specs.Layout.{laid, laid_of, laid_record, no_front, after, after_all, most_bytes}

y_less_0 : (y : ℕ) → y - 0 ≡ y
y_less_0 y = omega arith

-- a number rounded up to a multiple is one
rounded_by : (x y r : ℕ) → 0 < y → r ≡ x % y → (k : ℕ) × (x + (y - r) % y ≡ y * k)
rounded_by x y zero p e =
    let up : (y - 0) % y ≡ 0 = ap (λ k. k % y) (y_less_0 y) ∙ mod_self y in
    (x / y, omega (arith, up))
rounded_by x y (suc r) p e =
    let up : (y - suc r) % y ≡ y - suc r = mod-eq_of_lt (omega arith) in
    (suc (x / y), omega (arith, up, mul-suc y (x / y)))

pub rounded : (x y : ℕ) → 0 < y → (k : ℕ) × (next_multiple_of x y ≡ y * k)
rounded x y p = rounded_by x y (x % y) p refl

-- a record that takes more bits than the most bytes have is too large
pub too_large : (bits align : ℕ) → 0 < align → 8 * most_bytes < bits → most_bytes < next_multiple_of bits (8 * align) / 8
too_large bits align p q =
    let up = rounded bits (8 * align) (omega arith) in
    let e : 8 * align * up.0 ≡ 8 * (align * up.0) = mul_assoc 8 align up.0 in
    omega (arith, up.1)

-- more members never take less
pub taken_grows : (pieces : List Piece) (front : Front) → front.bits ≤ (after_all front pieces).bits
taken_grows [] front = omega arith
taken_grows (piece ∷ others) front = omega (arith, taken_grows others (after front piece))

pub align_grows : (pieces : List Piece) (front : Front) → front.align ≤ (after_all front pieces).align
align_grows [] front = omega arith
align_grows (piece ∷ others) front = omega (arith, align_grows others (after front piece))

-- once the members in front have taken more than the most bytes, the record is too large
pub stays_too_large : (pieces : List Piece) (front : Front) → 0 < front.align → 8 * most_bytes < front.bits → most_bytes < (laid (after_all front pieces)).size
stays_too_large pieces front p q =
    too_large (after_all front pieces).bits (after_all front pieces).align (omega (arith, align_grows pieces front)) (omega (arith, taken_grows pieces front))

none_above : (record_laid : Laid) → most_bytes < record_laid.size → None ≡ (if nat_le record_laid.size most_bytes then Some record_laid else None)
none_above record_laid p = grind (arith, nat_tests)

-- a loop over the members that gives up once they have taken more than the most bytes
pub gives_up : (is_union : Bool) (pieces : List Piece) (index : ℕ) (front next : Front) (any : Piece) → index < length pieces → after_all front (drop index pieces) ≡ after_all (no_front is_union) pieces → next ≡ after front (get_or pieces index any) → 0 < front.align → 8 * most_bytes < next.bits → None ≡ laid_record is_union pieces
gives_up is_union pieces index front next any within left step p q =
    let all : after_all next (drop (suc index) pieces) ≡ after_all (no_front is_union) pieces =
    ap (λ f. after_all f (drop (suc index) pieces)) step ∙ sym (ap (after_all front) (drop-cons pieces index any within)) ∙ left in
    let grown : 0 < next.align = omega (arith, ap (λ f. f.align) step) in
    none_above (laid_of is_union pieces) (subst (λ f. most_bytes < (laid f).size) all (stays_too_large (drop (suc index) pieces) next grown q))
