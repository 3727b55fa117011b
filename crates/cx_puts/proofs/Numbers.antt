-- Numbers and their bytes, the lowest first.
use Rattle.std.proofs.Common.{◌≡◌, ℕ, zero, suc, ◌+◌, ◌-◌, ◌*◌, ◌/◌, ◌%◌, ◌^◌, ◌<◌, ◌≤◌, List, ◌∷◌, ◌++◌, slice_set, replicate, sym, ap, ◌∙◌, add-one, arith}
use Rattle.std.proofs.Math.Nat.{pow-suc, pow-le-pow_right, div-div-eq-div-mul, div-one}
use Rattle.mem_bytes.specs.Bits.{bit_cells}
use Rattle.mem_bytes.specs.declared.cell.Cell.{Cell}
use Rattle.mem_bytes.specs.declared.cell.Cell.TheVariants.{Bits}
use Rattle.mem_bytes.specs.Memory.{unset_cell}

-- one more byte at the low end
pub more_bytes : (k b n : ℕ) → b < 256 → n < 256 ^ k → b + 256 * n < 256 ^ suc k
more_bytes k b n p q = omega (arith, pow-suc 256 k)

-- up to eight bytes fit 64 bits
pub power_fits : (k : ℕ) → k ≤ 8 → 256 ^ k ≤ 2 ^ 64
power_fits k p = pow-le-pow_right (omega arith) p

pub bytes_fit : (k b n : ℕ) → suc k ≤ 8 → b < 256 → n < 256 ^ k → b + 256 * n < 2 ^ 64
bytes_fit k b n p q r = omega (arith, more_bytes k b n q r, power_fits (suc k) p)

-- the byte with a number, one byte further down
byte_above : (k n : ℕ) → n / 256 / 256 ^ k ≡ n / 256 ^ suc k
byte_above k n = div-div-eq-div-mul n 256 (256 ^ k) ∙ ap (λ m. n / m) (omega (arith, pow-suc 256 k))

-- a cell is written behind those that were written
next_cell : (count bits set room : ℕ) → slice_set (bit_cells count bits set ++ replicate (suc room) unset_cell) count (Bits (bits / 256 ^ count % 256) (set / 256 ^ count % 256)) ≡ bit_cells (suc count) bits set ++ replicate room unset_cell
next_cell zero bits set room = cc (div-one bits, div-one set)
next_cell (suc count) bits set room =
    ap (λ cells. Bits (bits % 256) (set % 256) ∷ cells) (rw (← byte_above count bits, ← byte_above count set) (next_cell count (bits / 256) (set / 256) room))

-- one turn of the loop that writes the cells of two numbers into eight cells
pub cells_step : (cells : List Cell) (index bits set bits_left set_left room : ℕ) → 8 - index ≡ suc room → 8 - (index + 1) ≡ room → cells ≡ bit_cells index bits set ++ replicate (8 - index) unset_cell → bits_left ≡ bits / 256 ^ index → set_left ≡ set / 256 ^ index → slice_set cells index (Bits (bits_left % 256) (set_left % 256)) ≡ bit_cells (index + 1) bits set ++ replicate (8 - (index + 1)) unset_cell
cells_step cells index bits set bits_left set_left room p q e f g =
    rw (e, f, g, p, q, add-one) (next_cell index bits set room)

pub left_step : (left n index : ℕ) → left ≡ n / 256 ^ index → left / 256 ≡ n / 256 ^ (index + 1)
left_step left n index e =
    ap (λ m. m / 256) e ∙ div-div-eq-div-mul n (256 ^ index) 256 ∙ ap (λ m. n / m) (sym (ap (λ k. 256 ^ k) (add-one index) ∙ pow-suc 256 index))

-- a bit-field touches at most five bytes
pub touched_below : (count bit width number : ℕ) → count ≡ (bit + width + 7) / 8 → bit < 8 → width ≤ 32 → number < 256 ^ count → number < 2 ^ 40
touched_below count bit width number e p q r =
    let most : 256 ^ count ≤ 256 ^ 5 = pow-le-pow_right {n = 256} (omega arith) {i = count} {j = 5} (omega arith) in
    omega (arith, most)
