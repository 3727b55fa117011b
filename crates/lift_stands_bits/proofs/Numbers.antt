-- Numbers of which some bits are the same.
use Rattle.std.proofs.Common.{◌≡◌, ℕ, ◌+◌, ◌-◌, ◌*◌, ◌/◌, ◌%◌, ◌^◌, ◌<◌, ◌≤◌, sym, ap, ◌∙◌, subst, ⊎_elim, arith}
use Rattle.std.specs.Int.{bit_at}
use Rattle.std.proofs.lemmas.Bool.{cases_lt}
use Rattle.std.proofs.lemmas.Nat.{mod_below, pow_pos, shr_split}
use Rattle.std.proofs.lemmas.Nat.Bits.{same_from_bits_below, bit_at_cat_low, bit_at_cat_high, bit_at_ones, bit_at_above}
use Rattle.mem_bytes.specs.Bits.{field_of, with_field}
use Rattle.mem_bytes.proofs.Fields.{field_of-with_field, field_of-with_field_above, field_of-with_field_below}

-- where a number has a bit set, two others have the same bit
abbrev pub SetAlike : (bits set other : ℕ) → Type 0
SetAlike bits set other = (k : ℕ) → bit_at set k ≡ 1 → bit_at bits k ≡ bit_at other k

-- ---- the bits of a part of a number

pub low_bit : (n b k : ℕ) → k < b → bit_at (n % 2 ^ b) k ≡ bit_at n k
low_bit n b k p = sym (bit_at_cat_low (n / 2 ^ b) b (n % 2 ^ b) k p) ∙ ap (λ m. bit_at m k) (shr_split n b)

pub high_bit : (n b k : ℕ) → bit_at (n / 2 ^ b) k ≡ bit_at n (b + k)
high_bit n b k =
    let back : b + k - b ≡ k = omega arith in
    ap (bit_at (n / 2 ^ b)) (sym back)
    ∙ sym (bit_at_cat_high (n / 2 ^ b) b (n % 2 ^ b) (b + k) (mod_below n (2 ^ b) (pow_pos b)) (omega arith))
    ∙ ap (λ m. bit_at m (b + k)) (shr_split n b)

pub field_bit : (bit width n k : ℕ) → k < width → bit_at (field_of bit width n) k ≡ bit_at n (bit + k)
field_bit bit width n k p = low_bit (n / 2 ^ bit) width k p ∙ high_bit n bit k

-- a byte in front of a number
pub first_byte_bit : (byte n k : ℕ) → k < 8 → bit_at (byte + 256 * n) k ≡ bit_at byte k
first_byte_bit byte n k p =
    let cat : byte + 256 * n ≡ n * 2 ^ 8 + byte = omega arith in
    ap (λ m. bit_at m k) cat ∙ bit_at_cat_low n 8 byte k p

pub next_byte_bit : (byte n k : ℕ) → byte < 256 → 8 ≤ k → bit_at (byte + 256 * n) k ≡ bit_at n (k - 8)
next_byte_bit byte n k small p =
    let cat : byte + 256 * n ≡ n * 2 ^ 8 + byte = omega arith in
    ap (λ m. bit_at m k) cat ∙ bit_at_cat_high n 8 byte k small p

-- ---- a field of them

-- so many bits that are set and alike make one field
pub fields_alike : (bit width bits set other : ℕ) → SetAlike bits set other → field_of bit width set ≡ 2 ^ width - 1 → field_of bit width bits ≡ field_of bit width other
fields_alike bit width bits set other alike whole =
    same_from_bits_below width (field_of bit width bits) (field_of bit width other) (mod_below (bits / 2 ^ bit) (2 ^ width) (pow_pos width)) (mod_below (other / 2 ^ bit) (2 ^ width) (pow_pos width))
    (λ k p.
    let is_set : bit_at set (bit + k) ≡ 1 = sym (field_bit bit width set k p) ∙ ap (λ n. bit_at n k) whole ∙ bit_at_ones width k p in
    field_bit bit width bits k p ∙ alike (bit + k) is_set ∙ sym (field_bit bit width other k p))

-- the bits of a number after a field was put: below it, in it, and above it
put_below : (bit width field n k : ℕ) → k < bit → bit_at (with_field bit width field n) k ≡ bit_at n k
put_below bit width field n k p = field_of-with_field_below bit width field k 1 n (omega (arith, p))

put_above : (bit width field n k : ℕ) → field < 2 ^ width → bit + width ≤ k → bit_at (with_field bit width field n) k ≡ bit_at n k
put_above bit width field n k small p = field_of-with_field_above bit width field k 1 n small p

put_inside : (bit width field n k : ℕ) → field < 2 ^ width → k < width → bit_at (with_field bit width field n) (bit + k) ≡ bit_at field k
put_inside bit width field n k small p =
    sym (field_bit bit width (with_field bit width field n) k p) ∙ ap (λ m. bit_at m k) (field_of-with_field bit width field n small)

-- so numbers stay alike after it
pub puts_alike : (bit width field bits set other : ℕ) → field < 2 ^ width → SetAlike bits set other → SetAlike (with_field bit width field bits) (with_field bit width (2 ^ width - 1) set) (with_field bit width field other)
puts_alike bit width field bits set other small alike k e =
    ⊎_elim
    (λ (low : k < bit).
    let was : bit_at set k ≡ 1 = sym (put_below bit width (2 ^ width - 1) set k low) ∙ e in
    put_below bit width field bits k low ∙ alike k was ∙ sym (put_below bit width field other k low))
    (λ (high : bit ≤ k).
    ⊎_elim
    (λ (inside : k - bit < width).
    let at : bit + (k - bit) ≡ k = omega (arith, high) in
    subst (λ n. bit_at (with_field bit width field bits) n ≡ bit_at (with_field bit width field other) n) at
    (put_inside bit width field bits (k - bit) small inside ∙ sym (put_inside bit width field other (k - bit) small inside)))
    (λ (above : width ≤ k - bit).
    let past : bit + width ≤ k = omega (arith, high, above) in
    let some : 0 < 2 ^ width = pow_pos width in
    let was : bit_at set k ≡ 1 = sym (put_above bit width (2 ^ width - 1) set k (omega (arith, some)) past) ∙ e in
    put_above bit width field bits k small past ∙ alike k was ∙ sym (put_above bit width field other k small past))
    (cases_lt (k - bit) width))
    (cases_lt k bit)

-- bytes of numbers that are alike
pub first_bytes_alike : (bits set other : ℕ) → SetAlike bits set other → SetAlike (bits % 256) (set % 256) (other % 256)
first_bytes_alike bits set other alike k e =
    ⊎_elim
    (λ (low : k < 8).
    let was : bit_at set k ≡ 1 = sym (low_bit set 8 k low) ∙ e in
    low_bit bits 8 k low ∙ alike k was ∙ sym (low_bit other 8 k low))
    (λ (high : 8 ≤ k).
    bit_at_above (bits % 256) 8 k (mod_below bits 256 (omega arith)) high ∙ sym (bit_at_above (other % 256) 8 k (mod_below other 256 (omega arith)) high))
    (cases_lt k 8)

pub next_bytes_alike : (bits set other : ℕ) → SetAlike bits set other → SetAlike (bits / 256) (set / 256) (other / 256)
next_bytes_alike bits set other alike k e =
    let was : bit_at set (8 + k) ≡ 1 = sym (high_bit set 8 k) ∙ e in
    high_bit bits 8 k ∙ alike (8 + k) was ∙ sym (high_bit other 8 k)
