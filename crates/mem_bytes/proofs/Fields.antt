-- Bit-fields of numbers.
use Rattle.std.proofs.Common.{◌≡◌, ℕ, ◌+◌, ◌-◌, ◌*◌, ◌/◌, ◌%◌, ◌^◌, ◌<◌, ◌≤◌, sym, ap, subst, ◌∙◌, arith}
use Rattle.std.proofs.Math.Nat.{pow-le-pow_right, mod-eq_of_lt, mul-add-div_right, mul-add-mod_self_right}
use Rattle.std.proofs.lemmas.Nat.{pow_pos, pow-add, shl_below, shr_below, shr-shr, shr_high, shr_split, mod_low, mod_below, mod-pow-add, mul-add-lt, field_of as field_of_mod}
use Rattle.mem_bytes.specs.Bits.{field_of, with_field}

-- a field stays below the bit behind it
pub field_below : (bit width field : ℕ) → bit < 8 → width ≤ 32 → field < 2 ^ width → field * 2 ^ bit < 2 ^ 39
field_below bit width field p q r =
    let most : 2 ^ (width + bit) ≤ 2 ^ 39 = pow-le-pow_right {n = 2} (omega arith) {i = width + bit} {j = 39} (omega arith) in
    omega (arith, shl_below field width bit r, most)

-- a bit-field touches at most five bytes
pub touched_below : (count bit width number : ℕ) → count ≡ (bit + width + 7) / 8 → bit < 8 → width ≤ 32 → number < 256 ^ count → number < 2 ^ 40
touched_below count bit width number e p q r =
    let most : 256 ^ count ≤ 256 ^ 5 = pow-le-pow_right {n = 256} (omega arith) {i = count} {j = 5} (omega arith) in
    omega (arith, most)

-- ---- a field of a number in two parts, high * 2 ^ k + low

-- a field that begins in the high part
pub field_of-high : (k bit width high low : ℕ) → low < 2 ^ k → field_of (k + bit) width (high * 2 ^ k + low) ≡ field_of bit width high
field_of-high k bit width high low p =
    ap (λ q. q % 2 ^ width) (sym (shr-shr (high * 2 ^ k + low) k bit) ∙ ap (λ q. q / 2 ^ bit) (shr_high high k low p))

-- the low part alone decides what is left of division by a lower power
mod_low_part : (k j high low : ℕ) → j ≤ k → (high * 2 ^ k + low) % 2 ^ j ≡ low % 2 ^ j
mod_low_part k j high low p =
    let power : 2 ^ k ≡ 2 ^ (k - j) * 2 ^ j = ap (λ n. 2 ^ n) (omega arith) ∙ pow-add 2 (k - j) j in
    let product : high * 2 ^ k + low ≡ (high * 2 ^ (k - j)) * 2 ^ j + low = rw power (omega arith) in
    ap (λ n. n % 2 ^ j) product ∙ mul-add-mod_self_right (high * 2 ^ (k - j)) (2 ^ j) low

-- a field by what is left of division
field_of-mod : (bit width n : ℕ) → field_of bit width n ≡ n % 2 ^ (width + bit) / 2 ^ bit
field_of-mod bit width n = sym (field_of_mod n width bit)

-- a field that ends in the low part
pub field_of-low : (k bit width high low : ℕ) → bit + width ≤ k → field_of bit width (high * 2 ^ k + low) ≡ field_of bit width low
field_of-low k bit width high low p =
    field_of-mod bit width (high * 2 ^ k + low)
    ∙ ap (λ n. n / 2 ^ bit) (mod_low_part k (width + bit) high low (omega arith))
    ∙ sym (field_of-mod bit width low)

-- ---- a number with another field

regroup : (q p f b r k low : ℕ) → q * (k * p) + f * (k * b) + (r * k + low) ≡ (q * p + f * b + r) * k + low
regroup q p f b r k low = omega arith

-- a field is put into the high part
pub with_field-high : (k bit width field high low : ℕ) → low < 2 ^ k → with_field (k + bit) width field (high * 2 ^ k + low) ≡ with_field bit width field high * 2 ^ k + low
with_field-high k bit width field high low p =
    let n = high * 2 ^ k + low in
    let places : k + bit + width ≡ k + (bit + width) = omega arith in
    let quotient : n / 2 ^ (k + bit + width) ≡ high / 2 ^ (bit + width) = ap (λ e. n / 2 ^ e) places ∙ sym (shr-shr n k (bit + width)) ∙ ap (λ q. q / 2 ^ (bit + width)) (shr_high high k low p) in
    let power : 2 ^ (k + bit + width) ≡ 2 ^ k * 2 ^ (bit + width) = ap (λ e. 2 ^ e) places ∙ pow-add 2 k (bit + width) in
    let turned : n % 2 ^ (k + bit) ≡ n % 2 ^ (bit + k) = ap (λ e. n % 2 ^ e) (omega arith) in
    let rest : n % 2 ^ (k + bit) ≡ high % 2 ^ bit * 2 ^ k + low = turned ∙ mod-pow-add n bit k ∙ ap (λ q. q % 2 ^ bit * 2 ^ k + n % 2 ^ k) (shr_high high k low p) ∙ ap (λ r. high % 2 ^ bit * 2 ^ k + r) (mod_low high k low p) in
    rw (quotient, power, rest, pow-add 2 k bit) (regroup (high / 2 ^ (bit + width)) (2 ^ (bit + width)) field (2 ^ bit) (high % 2 ^ bit) (2 ^ k) low)

-- a field is put into the low part
pub with_field-low : (k bit width field high low : ℕ) → bit + width ≤ k → with_field bit width field (high * 2 ^ k + low) ≡ high * 2 ^ k + with_field bit width field low
with_field-low k bit width field high low p =
    let j = bit + width in
    let power : 2 ^ k ≡ 2 ^ (k - j) * 2 ^ j = ap (λ n. 2 ^ n) (omega arith) ∙ pow-add 2 (k - j) j in
    let product : high * 2 ^ k + low ≡ (high * 2 ^ (k - j)) * 2 ^ j + low = rw power (omega arith) in
    let quotient : (high * 2 ^ k + low) / 2 ^ j ≡ high * 2 ^ (k - j) + low / 2 ^ j = ap (λ n. n / 2 ^ j) product ∙ mul-add-div_right (pow_pos j) (high * 2 ^ (k - j)) low in
    let rest : (high * 2 ^ k + low) % 2 ^ bit ≡ low % 2 ^ bit = mod_low_part k bit high low (omega arith) in
    let whole : (high * 2 ^ (k - j) + low / 2 ^ j) * 2 ^ j ≡ high * 2 ^ k + low / 2 ^ j * 2 ^ j = omega (arith, ap (λ m. high * m) power) in
    rw (quotient, rest) (omega (arith, whole))

-- what stands below the end of the field that is put
field_and_rest : (bit width field n : ℕ) → field < 2 ^ width → field * 2 ^ bit + n % 2 ^ bit < 2 ^ (bit + width)
field_and_rest bit width field n p =
    let power : 2 ^ (bit + width) ≡ 2 ^ bit * 2 ^ width = pow-add 2 bit width in
    rw power (mul-add-lt field (2 ^ bit) (n % 2 ^ bit) (2 ^ width) p (mod_below n (2 ^ bit) (pow_pos bit)))

with_field_parts : (bit width field n : ℕ) → with_field bit width field n ≡ n / 2 ^ (bit + width) * 2 ^ (bit + width) + (field * 2 ^ bit + n % 2 ^ bit)
with_field_parts bit width field n = omega arith

-- the field that was put is there
pub field_of-with_field : (bit width field n : ℕ) → field < 2 ^ width → field_of bit width (with_field bit width field n) ≡ field
field_of-with_field bit width field n p =
    ap (field_of bit width) (with_field_parts bit width field n)
    ∙ field_of-low (bit + width) bit width (n / 2 ^ (bit + width)) (field * 2 ^ bit + n % 2 ^ bit) (omega arith)
    ∙ ap (λ q. q % 2 ^ width) (shr_high field bit (n % 2 ^ bit) (mod_below n (2 ^ bit) (pow_pos bit)))
    ∙ mod-eq_of_lt p

-- a field above the one that was put is as it was
pub field_of-with_field_above : (bit width field place wide n : ℕ) → field < 2 ^ width → bit + width ≤ place → field_of place wide (with_field bit width field n) ≡ field_of place wide n
field_of-with_field_above bit width field place wide n p q =
    let k = bit + width in
    let up : place ≡ k + (place - k) = omega arith in
    ap (field_of place wide) (with_field_parts bit width field n)
    ∙ ap (λ at. field_of at wide (n / 2 ^ k * 2 ^ k + (field * 2 ^ bit + n % 2 ^ bit))) up
    ∙ field_of-high k (place - k) wide (n / 2 ^ k) (field * 2 ^ bit + n % 2 ^ bit) (field_and_rest bit width field n p)
    ∙ sym (field_of-high k (place - k) wide (n / 2 ^ k) (n % 2 ^ k) (mod_below n (2 ^ k) (pow_pos k)))
    ∙ ap (λ at. field_of at wide (n / 2 ^ k * 2 ^ k + n % 2 ^ k)) (sym up)
    ∙ ap (field_of place wide) (shr_split n k)

-- and so is one below it
pub field_of-with_field_below : (bit width field place wide n : ℕ) → place + wide ≤ bit → field_of place wide (with_field bit width field n) ≡ field_of place wide n
field_of-with_field_below bit width field place wide n p =
    let power : 2 ^ (bit + width) ≡ 2 ^ width * 2 ^ bit = ap (λ e. 2 ^ e) (omega arith) ∙ pow-add 2 width bit in
    let parts : with_field bit width field n ≡ (n / 2 ^ (bit + width) * 2 ^ width + field) * 2 ^ bit + n % 2 ^ bit = omega (arith, ap (λ m. n / 2 ^ (bit + width) * m) power) in
    ap (field_of place wide) parts
    ∙ field_of-low bit place wide (n / 2 ^ (bit + width) * 2 ^ width + field) (n % 2 ^ bit) p
    ∙ sym (field_of-low bit place wide (n / 2 ^ bit) (n % 2 ^ bit) p)
    ∙ ap (field_of place wide) (shr_split n bit)

-- a number stays below a power of two where its field does
pub with_field_below : (k bit width field n : ℕ) → bit + width ≤ k → field < 2 ^ width → n < 2 ^ k → with_field bit width field n < 2 ^ k
with_field_below k bit width field n p q r =
    let j = bit + width in
    let high : n / 2 ^ j < 2 ^ (k - j) = shr_below n (k - j) j (subst (λ e. n < 2 ^ e) (omega arith) r) in
    let most : n / 2 ^ j * 2 ^ j + (field * 2 ^ bit + n % 2 ^ bit) < 2 ^ j * 2 ^ (k - j) = mul-add-lt (n / 2 ^ j) (2 ^ j) (field * 2 ^ bit + n % 2 ^ bit) (2 ^ (k - j)) high (field_and_rest bit width field n q) in
    let power : 2 ^ k ≡ 2 ^ j * 2 ^ (k - j) = ap (λ e. 2 ^ e) (omega arith) ∙ pow-add 2 j (k - j) in
    omega (arith, most, power)

-- a field below a power of two is that of what is left of division by it
pub field_of-mod_power : (k bit width n : ℕ) → bit + width ≤ k → field_of bit width (n % 2 ^ k) ≡ field_of bit width n
field_of-mod_power k bit width n p =
    sym (field_of-low k bit width (n / 2 ^ k) (n % 2 ^ k) p) ∙ ap (field_of bit width) (shr_split n k)
