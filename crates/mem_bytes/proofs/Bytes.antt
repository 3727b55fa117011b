-- Numbers and their bytes, the lowest first.
use Rattle.std.proofs.Common.{◌≡◌, ℕ, zero, suc, ◌+◌, ◌-◌, ◌*◌, ◌/◌, ◌%◌, ◌^◌, ◌<◌, ◌≤◌, All, List, [], ◌∷◌, ◌++◌, length, slice_set, replicate, refl, sym, ap, ◌∙◌, add-one, arith}
use Rattle.std.proofs.Math.Nat.{pow-suc, pow-le-pow_right, div-div-eq-div-mul, div-one, mod-one}
use Rattle.std.proofs.lemmas.Nat.{pow-add, mod-pow-add}
use Rattle.mem_bytes.specs.declared.cell.Cell.{Cell}
use Rattle.mem_bytes.specs.declared.cell.Cell.TheVariants.{Bits}
use Rattle.mem_bytes.specs.Bits.{bit_cells}
use Rattle.mem_bytes.specs.Coding.{number_of, bytes_of}
use Rattle.mem_bytes.specs.Memory.{unset_cell}

-- one more byte at the low end
pub more_bytes : (k b n : ℕ) → b < 256 → n < 256 ^ k → b + 256 * n < 256 ^ suc k
more_bytes k b n p q = omega (arith, pow-suc 256 k)

-- up to eight bytes fit 64 bits
pub power_fits : (k : ℕ) → k ≤ 8 → 256 ^ k ≤ 2 ^ 64
power_fits k p = pow-le-pow_right (omega arith) p

-- the byte with a number, one byte further down
pub byte_above : (k n : ℕ) → n / 256 / 256 ^ k ≡ n / 256 ^ suc k
byte_above k n = div-div-eq-div-mul n 256 (256 ^ k) ∙ ap (λ m. n / m) (omega (arith, pow-suc 256 k))

-- a cell is written behind those that were written
pub next_cell : (count bits set room : ℕ) → slice_set (bit_cells count bits set ++ replicate (suc room) unset_cell) count (Bits (bits / 256 ^ count % 256) (set / 256 ^ count % 256)) ≡ bit_cells (suc count) bits set ++ replicate room unset_cell
next_cell zero bits set room = cc (div-one bits, div-one set)
next_cell (suc count) bits set room =
    ap (λ cells. Bits (bits % 256) (set % 256) ∷ cells) (rw (← byte_above count bits, ← byte_above count set) (next_cell count (bits / 256) (set / 256) room))

-- so a number of up to eight bytes fits 64 bits
pub bytes_fit : (k b n : ℕ) → suc k ≤ 8 → b < 256 → n < 256 ^ k → b + 256 * n < 2 ^ 64
bytes_fit k b n p q r = omega (arith, more_bytes k b n q r, power_fits (suc k) p)

-- one turn of the loop that writes the cells of two numbers into eight cells
pub cells_step : (cells : List Cell) (index bits set bits_left set_left room : ℕ) → 8 - index ≡ suc room → 8 - (index + 1) ≡ room → cells ≡ bit_cells index bits set ++ replicate (8 - index) unset_cell → bits_left ≡ bits / 256 ^ index → set_left ≡ set / 256 ^ index → slice_set cells index (Bits (bits_left % 256) (set_left % 256)) ≡ bit_cells (index + 1) bits set ++ replicate (8 - (index + 1)) unset_cell
cells_step cells index bits set bits_left set_left room p q e f g =
    rw (e, f, g, p, q, add-one) (next_cell index bits set room)

pub left_step : (left n index : ℕ) → left ≡ n / 256 ^ index → left / 256 ≡ n / 256 ^ (index + 1)
left_step left n index e =
    ap (λ m. m / 256) e ∙ div-div-eq-div-mul n (256 ^ index) 256 ∙ ap (λ m. n / m) (sym (ap (λ k. 256 ^ k) (add-one index) ∙ pow-suc 256 index))

pub length-bit_cells : (count bits set : ℕ) → length (bit_cells count bits set) ≡ count
length-bit_cells zero bits set = refl
length-bit_cells (suc count) bits set = ap suc (length-bit_cells count (bits / 256) (set / 256))

-- eight bits further up
eight_more : (k : ℕ) → 8 * suc k ≡ 8 * k + 8
eight_more k = omega arith

-- the bytes of a number make the number up to where they end
pub number_of-bytes_of : (count n : ℕ) → number_of (bytes_of count n) ≡ n % 2 ^ (8 * count)
number_of-bytes_of zero n = sym (mod-one n)
number_of-bytes_of (suc count) n =
    let split : n % 2 ^ (8 * count + 8) ≡ (n / 256 % 2 ^ (8 * count)) * 256 + n % 256 = mod-pow-add n (8 * count) 8 in
    let step : n % 256 + 256 * (n / 256 % 2 ^ (8 * count)) ≡ n % 2 ^ (8 * count + 8) = omega (arith, split) in
    ap (λ above. n % 256 + 256 * above) (number_of-bytes_of count (n / 256)) ∙ step ∙ ap (λ k. n % 2 ^ k) (sym (eight_more count))

-- bytes one after another
pub number_of-append : (low high : List ℕ) → number_of (low ++ high) ≡ number_of high * 2 ^ (8 * length low) + number_of low
number_of-append [] high = omega arith
number_of-append (b ∷ low) high =
    let power : 2 ^ (8 * suc (length low)) ≡ 2 ^ (8 * length low) * 256 = ap (λ k. 2 ^ k) (eight_more (length low)) ∙ pow-add 2 (8 * length low) 8 in
    let inner = number_of-append low high in
    rw power (omega (arith, inner))

-- bytes stay below the power of their count
pub number_of_below : (bs : List ℕ) → All (λ b. b < 256) bs → number_of bs < 2 ^ (8 * length bs)
number_of_below [] small = omega arith
number_of_below (b ∷ bs) small =
    let power : 2 ^ (8 * suc (length bs)) ≡ 2 ^ (8 * length bs) * 256 = ap (λ k. 2 ^ k) (eight_more (length bs)) ∙ pow-add 2 (8 * length bs) 8 in
    let first : b < 256 = small 0 0 (omega arith) in
    let rest = number_of_below bs (λ k d p. small (suc k) d (omega arith)) in
    rw power (omega (arith, first, rest))
