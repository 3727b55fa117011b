-- A number that `int` represents is the same when it is converted to it.
use Rattle.std.proofs.Common.{◌≡◌, ℕ, ◌+◌, ◌-◌, ◌%◌, ◌<◌, ◌≤◌, ℤ, pos, negsuc, ◌-ℤ◌, ◌≤ℤ◌, ◌<ℤ◌, neg_ℤ, Bool, true, false, cond, nat_lt, ap, ◌∙◌, arith}
use Rattle.std.proofs.lemmas.Bool.Decides.{nat_tests}
use Rattle.std.proofs.lemmas.Int.{ints}
use Rattle.std.proofs.Math.Nat.{mod-eq_of_lt}
use Rattle.cr_base.specs.Scalar.{IsInRange, residue, from_half, wrapped}
use Rattle.straight_lift.specs.Agrees.{int_scalar}

chosen_low : (half r : ℕ) → r < half → from_half half r ≡ pos r
chosen_low half r low =
    let test : nat_lt r half ≡ true = grind (arith, nat_tests) in
    ap (λ (b : Bool). cond b (pos r) (pos r -ℤ pos (half + half))) test

chosen_high : (half r : ℕ) → half ≤ r → from_half half r ≡ pos r -ℤ pos (half + half)
chosen_high half r high =
    let test : nat_lt r half ≡ false = grind (arith, nat_tests) in
    ap (λ (b : Bool). cond b (pos r) (pos r -ℤ pos (half + half))) test

wrap_same : (half : ℕ) (n : ℤ) → neg_ℤ (pos half) ≤ℤ n → n <ℤ pos half → from_half half (residue n (half + half)) ≡ n
wrap_same half (pos k) low high =
    let below : k < half = omega (arith, ints) in
    let whole : k % (half + half) ≡ k = mod-eq_of_lt (omega arith) in
    ap (λ (r : ℕ). from_half half r) whole ∙ chosen_low half k below
wrap_same half (negsuc k) low high =
    let below : k < half = omega (arith, ints) in
    let whole : k % (half + half) ≡ k = mod-eq_of_lt (omega arith) in
    let rest : (half + half) - 1 - k % (half + half) ≡ (half + half) - 1 - k = ap (λ (r : ℕ). (half + half) - 1 - r) whole in
    let back : pos ((half + half) - 1 - k) -ℤ pos (half + half) ≡ negsuc k = omega (arith, ints) in
    ap (λ (r : ℕ). from_half half r) rest ∙ (chosen_high half ((half + half) - 1 - k) (omega arith) ∙ back)

pub int_same : (n : ℤ) → IsInRange int_scalar n → wrapped int_scalar n ≡ n
int_same n in_range = wrap_same 2147483648 n in_range.0 in_range.1
