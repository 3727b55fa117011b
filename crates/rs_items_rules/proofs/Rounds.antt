-- Numbers of bits in whole bytes, and rounded up to multiples.
use Rattle.std.proofs.Common.{◌≡◌, ℕ, zero, suc, ◌+◌, ◌-◌, ◌*◌, ◌%◌, ◌≤◌, ◌<◌, Bool, true, false, nat_le, if◌then◌else◌, arith, refl, sym, ap, ◌∙◌}
use Rattle.std.proofs.Math.Nat.{mod-lt, mul_assoc, mul-suc}
use Rattle.std.specs.Int.{next_multiple_of}
use Rattle.cr_base.proofs.Layouts.{rounded}
use Rattle.cr_base.specs.Layout.{bits_start}
use Rattle.rs_items.specs.Records.{whole_bytes}

-- a number of bits rounded up to so many bytes
pub record Up (bits align : ℕ) : Type 0 where
  pub bytes : ℕ
  -- of which there are so many
  pub count : ℕ
  pub times : bytes ≡ align * count
  pub is : next_multiple_of bits (8 * align) ≡ 8 * bytes
  pub low : bits ≤ 8 * bytes
  pub high : 8 * bytes < bits + 8 * align

next_below : (x y : ℕ) → 0 < y → next_multiple_of x y < x + y
next_below x y some = let low = mod-lt (y - x % y) some in omega (arith, low)

next_above : (x y : ℕ) → x ≤ next_multiple_of x y
next_above x y = omega arith

pub up : (bits align : ℕ) → 0 < align → Up bits align
up bits align some =
    let round = rounded bits (8 * align) (omega (arith, some)) in
    let is : next_multiple_of bits (8 * align) ≡ 8 * (align * round.0) = round.1 ∙ mul_assoc 8 align round.0 in
    let low = next_above bits (8 * align) in
    let high = next_below bits (8 * align) (omega (arith, some)) in
    record { bytes = align * round.0; count = round.0; times = refl; is = is; low = omega (arith, is, low); high = omega (arith, is, high) }

-- fewer times are less by one at least
step_up : (align first second : ℕ) → first < second → align * first + align ≤ align * second
step_up align first zero low = absurd (omega (arith, low))
step_up align zero (suc second) low = let e = mul-suc align second in omega (arith, e)
step_up align (suc first) (suc second) low =
    let e = mul-suc align second in
    let f = mul-suc align first in
    let more = step_up align first second (omega (arith, low)) in
    omega (arith, e, f, more)

data Order (first second : ℕ) : Type 0 where
  less : first < second → Order first second
  same : first ≡ second → Order first second
  more : second < first → Order first second

order : (first second : ℕ) → Order first second
order zero zero = same refl
order zero (suc second) = less (omega arith)
order (suc first) zero = more (omega arith)
order (suc first) (suc second) = by_order (order first second)
  where
    by_order : Order first second → Order (suc first) (suc second)
    by_order (less low) = less (omega (arith, low))
    by_order (same is) = same (ap suc is)
    by_order (more low) = more (omega (arith, low))

-- whole bytes are rounded up as the bits in them
pub same_up : (bits whole align : ℕ) → 0 < align → bits ≤ 8 * whole → 8 * whole < bits + 8 → next_multiple_of (8 * whole) (8 * align) ≡ next_multiple_of bits (8 * align)
same_up bits whole align some low high = by_order (order ours.count theirs.count)
  where
    ours : Up bits align
    ours = up bits align some

    theirs : Up (8 * whole) align
    theirs = up (8 * whole) align some

    by_order : Order ours.count theirs.count → next_multiple_of (8 * whole) (8 * align) ≡ next_multiple_of bits (8 * align)
    by_order (same is) = theirs.is ∙ ap (λ n. 8 * n) (theirs.times ∙ ap (λ n. align * n) (sym is) ∙ sym ours.times) ∙ sym ours.is
    by_order (less lower) =
        let e = step_up align ours.count theirs.count lower in
        let a = ours.times in let b = theirs.times in let f = ours.low in let g = theirs.high in
        absurd (omega (arith, e, a, b, f, g, high))
    by_order (more lower) =
        let e = step_up align theirs.count ours.count lower in
        let a = ours.times in let b = theirs.times in let f = theirs.low in let g = ours.high in
        absurd (omega (arith, e, a, b, f, g, low))

pub whole_low : (bits : ℕ) → bits ≤ 8 * whole_bytes bits
whole_low bits = omega arith

pub whole_high : (bits : ℕ) → 8 * whole_bytes bits < bits + 8
whole_high bits = omega arith

bits_above_by : (free unit : ℕ) (fits : Bool) → free ≤ (if fits then free else next_multiple_of free unit)
bits_above_by free unit true = omega arith
bits_above_by free unit false = next_above free unit

-- a bit-field begins behind what is taken
pub bits_above : (free unit width : ℕ) → free ≤ bits_start free unit width
bits_above free unit zero = next_above free unit
bits_above free unit (suc w) = bits_above_by free unit (nat_le (free % unit + suc w) unit)
