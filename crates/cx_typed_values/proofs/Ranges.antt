-- Ranges of integer types.
use Rattle.std.proofs.Common.{rules, arith, tests, ◌≡◌, ℕ, zero, suc, ◌+◌, ◌-◌, ◌^◌, ◌<◌, ◌≤◌, Bool, true, false, IsTrue, cond, nat_lt, ◌&&◌, ℤ, pos, negsuc, neg_ℤ, ◌-ℤ◌, ◌≤ℤ◌, ◌<ℤ◌, int_le, int_lt, refl}
use Rattle.std.proofs.lemmas.Bool.{and_parts}
use Rattle.std.proofs.lemmas.Bool.Decides.{nat_tests}
use Rattle.std.proofs.lemmas.Int.{ints}
use Rattle.std.proofs.lemmas.Nat.{pow_pos}
use Rattle.cr_base.proofs.Residues.{residue_below, modulus_halves}
use Rattle.cr_base.specs.Scalar.{is_width, IsInteger, IsInRange, least, above, residue, from_half, wrapped, truth_of, converted}
use Rattle.cr_base.specs.declared.scalar.Scalar.{Scalar}
use Rattle.cr_base.specs.declared.scalar.Scalar.TheVariants.{Truth, Whole, Object, Code}
use Rattle.cx_numbers.specs.Numbers.{represents}

-- a type represents a number of its range
pub in_range : (kind : Scalar) (value : ℤ) → represents kind value ≡ true → IsInRange kind value
in_range kind value is =
    let parts = and_parts (int_le (least kind) value) (int_lt value (above kind)) is in
    (search (rules, tests), search (rules, tests))

half_by : (half r : ℕ) (front : ℤ) (test : Bool) → nat_lt r half ≡ test → r < half + half → front ≡ pos 0 -ℤ pos half
    → (front ≤ℤ cond test (pos r) (pos r -ℤ pos (half + half))) × (cond test (pos r) (pos r -ℤ pos (half + half)) <ℤ pos half)
half_by half r front true is less e =
    let below : r < half = grind (arith, nat_tests) in
    (omega (arith, ints), omega (arith, ints))
half_by half r front false is less e =
    let least : half ≤ r = grind (arith, nat_tests) in
    (omega (arith, ints), omega (arith, ints))

pub from_half_in_range : (half r : ℕ) (front : ℤ) → r < half + half → front ≡ pos 0 -ℤ pos half → (front ≤ℤ from_half half r) × (from_half half r <ℤ pos half)
from_half_in_range half r front less e = half_by half r front (nat_lt r half) refl less e

pub wrapped_in_range : (width : ℕ) (signed : Bool) (value : ℤ) → IsTrue (is_width width) → IsInRange (Whole width signed) (wrapped (Whole width signed) value)
wrapped_in_range width true value is =
    let half = 2 ^ (width - 1) in
    from_half_in_range half (residue value (half + half)) (neg_ℤ (pos half)) (residue_below value (half + half) (omega (arith, pow_pos (width - 1)))) (omega (arith, ints))
wrapped_in_range width false value is =
    (omega (arith, ints), omega (arith, ints, residue_below value (2 ^ width) (pow_pos width)))

truth_in_range : (value : ℤ) → (pos 0 ≤ℤ truth_of value) × (truth_of value <ℤ pos 2)
truth_in_range (pos zero) = (omega (arith, ints), omega (arith, ints))
truth_in_range (pos (suc n)) = (omega (arith, ints), omega (arith, ints))
truth_in_range (negsuc n) = (omega (arith, ints), omega (arith, ints))

pub converted_in_range : (kind : Scalar) (value : ℤ) → IsInteger kind → IsInRange kind (converted kind value)
converted_in_range Truth value is = truth_in_range value
converted_in_range (Whole width signed) value is = wrapped_in_range width signed value is
converted_in_range Object value is = absurd is
converted_in_range Code value is = absurd is
