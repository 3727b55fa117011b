-- Reduction modulo 2^width into a signed range keeps the residue.
use Rattle.std.proofs.Common.{◌≡◌, ℕ, zero, suc, ◌+◌, ◌-◌, ◌%◌, ◌^◌, ◌<◌, true, false, IsTrue, cond, nat_lt, subst, ℤ, pos, negsuc, ◌-ℤ◌, arith, sym, ap, ◌∙◌}
use Rattle.std.proofs.lemmas.Bool.Decides.{nat_tests}
use Rattle.std.proofs.lemmas.Int.{ints}
use Rattle.std.proofs.lemmas.Nat.{pow_pos}
use Rattle.std.proofs.Math.Nat.{mod-eq_of_lt, mod-lt, two-pow-succ}
use Rattle.cr_base.specs.Scalar.{is_width, residue, from_half, wrapped}
use Rattle.cr_base.specs.declared.scalar.Scalar.TheVariants.{Whole}

-- a residue is below its modulus
pub residue_below : (z : ℤ) (m : ℕ) → 0 < m → residue z m < m
residue_below (pos n) m p = mod-lt n p
residue_below (negsuc n) m p = omega (arith, mod-lt n p)

-- a number at most m in front of zero
in_front : (m r : ℕ) → r < m → pos r -ℤ pos m ≡ negsuc (m - 1 - r)
in_front m r p = omega (arith, ints)

-- what stands in front of zero leaves the residue that is counted from m on
residue_in_front : (m r : ℕ) → r < m → residue (pos r -ℤ pos m) m ≡ r
residue_in_front m r p =
    let k : (m - 1 - r) % m ≡ m - 1 - r = mod-eq_of_lt (omega arith) in
    let e : residue (negsuc (m - 1 - r)) m ≡ r = omega arith in
    ap (λ z. residue z m) (in_front m r p) ∙ e

pub residue_from_half : (half r : ℕ) → r < half + half → residue (from_half half r) (half + half) ≡ r
residue_from_half half r p = elim (nat_lt r half) as (λ b. residue (cond b (pos r) (pos r -ℤ pos (half + half))) (half + half) ≡ r) [
  | true ↦ mod-eq_of_lt p
  | false ↦ residue_in_front (half + half) r p
]

-- the values of a signed type number twice those of its half
pub modulus_halves : (width : ℕ) → IsTrue (is_width width) → 2 ^ width ≡ 2 ^ (width - 1) + 2 ^ (width - 1)
modulus_halves zero p = absurd (grind (arith, nat_tests))
modulus_halves (suc n) p =
    let e : suc n - 1 ≡ n = omega arith in
    two-pow-succ n ∙ sym (ap (λ k. 2 ^ k + 2 ^ k) e)

-- reduction keeps the residue
pub residue_wrapped : (width : ℕ) (value : ℤ) → IsTrue (is_width width) → residue (wrapped (Whole width true) value) (2 ^ width) ≡ residue value (2 ^ width)
residue_wrapped width value p =
    let half = 2 ^ (width - 1) in
    let Keeps : ℕ → Type 0 = λ m. residue (from_half half (residue value (half + half))) m ≡ residue value m in
    subst Keeps (sym (modulus_halves width p)) (residue_from_half half _ (residue_below value (half + half) (omega (arith, pow_pos (width - 1)))))
