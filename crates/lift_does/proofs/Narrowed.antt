-- What a bit-field holds behind a store, computed from the number that is stored (ISO C99, 6.5.16p3 and 6.7.2.1p9).
use Rattle.std.proofs.Common.{◌≡◌, ℕ, zero, suc, ◌+◌, ◌-◌, ◌^◌, ◌%◌, ◌≤◌, ◌<◌, nat_lt, int_le, int_lt, tests, ℤ, pos, ◌-ℤ◌, Bool, true, false, if◌then◌else◌, Ok, Err, refl, sym, ap, subst, ◌∙◌, arith}
use Rattle.std.proofs.lemmas.Bool.Decides.{nat_tests}
use Rattle.std.proofs.lemmas.Int.{ints}
use Rattle.std.proofs.Math.Nat.{two-pow-succ, mod-eq_of_lt, mod-lt, add-mod_right}
use Rattle.std.proofs.Math.Pow.{pow_mono}
use Rattle.std.proofs.lemmas.Nat.{pow_pos}
use Rattle.cr_base.proofs.Residues.{residue_below}
use Rattle.cr_base.specs.Scalar.{IsInRange, least, above as most_number, residue, from_half}
use Rattle.cr_base.specs.declared.layout.Spot.{Spot}
use Rattle.cr_world.specs.World.{World}
use Rattle.lift_exprs.specs.Stores.{low_bits, signed_low_bits}
use Rattle.lift_forms.specs.BitFields.{half, word}
use Rattle.lift_forms.specs.LawsTyping.{IsBitField}
use Rattle.lift_forms.proofs.SameTypes.{both_are_true}
use Rattle.lift_forms_laws.proofs.Bits.{word_gives, added, remaining}
use Rattle.lift_forms_laws.proofs.FieldStores.{low_of_word}
use Rattle.lift_forms_laws.proofs.Numbers.{chosen_low, chosen_high, converted_same}
use Rattle.lift_forms_laws.proofs.Runs.{cast_gives, literal_gives, binary_gives}
use Rattle.lift_forms_laws.specs.Gives.{GivesAt}
use Rattle.mem_bytes.specs.declared.value.Value.TheVariants.{Whole}
use Rattle.rs_mean.specs.Run.{Frame}
use Rattle.rs_mean.specs.Scalars.{integer_scalar, fits_integer}
use Rattle.rs_mean.specs.Values.{typed, numbered}
use Rattle.rs_mean.specs.declared.cause.Cause.TheVariants.{Overflow}
use Rattle.rs_text.specs.declared.integer.IntegerTy.{IntegerTy}
use Rattle.rs_text.specs.declared.integer.IntegerTy.TheVariants.{I64, U64}
use Rattle.rs_text.specs.declared.operator.Operator.TheVariants as rust
use Rattle.rs_text.specs.Tree.{Integer, Expr, Literal, Cast, Binary}

pub two_halves : (width : ℕ) → 0 < width → 2 ^ width ≡ 2 ^ (width - 1) + 2 ^ (width - 1)
two_halves zero some = absurd (omega (arith, some))
two_halves (suc n) some = two-pow-succ n ∙ sym (ap (λ k. 2 ^ k + 2 ^ k) (let e : suc n - 1 ≡ n = omega arith in e))

-- turning round from half of the numbers on
turned : (s h : ℕ) → s < h + h → pos ((s + h) % (h + h)) -ℤ pos h ≡ from_half h s
turned s h below = by (nat_lt s h) refl
  where
    by : (test : Bool) → nat_lt s h ≡ test → pos ((s + h) % (h + h)) -ℤ pos h ≡ from_half h s
    by true is =
        let low : s < h = grind (arith, nat_tests, is) in
        let same : (s + h) % (h + h) ≡ s + h = mod-eq_of_lt (omega (arith, low)) in
        let left : pos ((s + h) % (h + h)) -ℤ pos h ≡ pos s = omega (arith, ints, same) in
        left ∙ sym (chosen_low h s low)
    by false is =
        let high : h ≤ s = grind (arith, nat_tests, is) in
        let parted : s + h ≡ (s - h) + (h + h) = omega (arith, high) in
        let same : (s + h) % (h + h) ≡ s - h = ap (λ n. n % (h + h)) parted ∙ add-mod_right (s - h) (h + h) ∙ mod-eq_of_lt (omega (arith, high, below)) in
        let left : pos ((s + h) % (h + h)) -ℤ pos h ≡ pos s -ℤ pos (h + h) = omega (arith, ints, same, high) in
        left ∙ sym (chosen_high h s high)

long_range : (n : ℕ) → n < 8589934592 → IsInRange (integer_scalar I64) (pos n)
long_range n less = (omega (arith, ints), omega (arith, ints, less))

difference_fits : (a b : ℕ) → a < 8589934592 → b < 8589934592 → fits_integer I64 (pos a -ℤ pos b) ≡ true
difference_fits a b less small =
    both_are_true (int_le (least (integer_scalar I64)) (pos a -ℤ pos b)) (int_lt (pos a -ℤ pos b) (most_number (integer_scalar I64)))
    (grind (arith, ints, tests, less, small)) (grind (arith, ints, tests, less, small))

module _ (frame : Frame) (world : World) (spot : Spot) (is : IsBitField spot) (which : IntegerTy) (e : Expr) (number : ℤ) (gives : GivesAt frame world e (Integer which) (Whole number)) where
  abbrev r : ℕ
  r = residue number (2 ^ spot.width)

  few : 2 ^ spot.width ≤ 4294967296
  few = pow_mono is.most

  as_word : GivesAt frame world (Cast e (Integer U64)) (Integer U64) (Whole (pos (residue number (2 ^ 64))))
  as_word = cast_gives frame world e (Integer which) (Integer U64) (Whole number) (Whole (pos (residue number (2 ^ 64)))) gives refl

  low_gives : GivesAt frame world (low_bits spot e) (Integer U64) (Whole (pos r))
  low_gives =
      subst (λ (n : ℕ). GivesAt frame world (low_bits spot e) (Integer U64) (Whole (pos n))) (low_of_word spot.width number (let a = is.most in omega (arith, a)))
      (remaining frame world (Cast e (Integer U64)) (word (2 ^ spot.width)) (residue number (2 ^ 64)) (2 ^ spot.width) as_word (word_gives frame world (2 ^ spot.width)) (pow_pos spot.width) (residue_below number (2 ^ 64) (omega arith)))

  pub unsigned_gives : IsInRange (integer_scalar which) (pos r) → GivesAt frame world (Cast (low_bits spot e) (Integer which)) (Integer which) (Whole (pos r))
  unsigned_gives range =
      cast_gives frame world (low_bits spot e) (Integer U64) (Integer which) (Whole (pos r)) (Whole (pos r)) low_gives (ap (λ (n : ℤ). Ok (typed (Integer which) (Whole n))) (converted_same which (pos r) range))

  pub signed_gives : IsInRange (integer_scalar which) (from_half (half spot) r) → GivesAt frame world (Cast (signed_low_bits spot e) (Integer which)) (Integer which) (Whole (from_half (half spot) r))
  signed_gives range =
      let h = half spot in
      let some : 0 < half spot = pow_pos (spot.width - 1) in
      let twice : 2 ^ spot.width ≡ half spot + half spot = two_halves spot.width is.some in
      let wide = few in
      let below : r < 2 ^ spot.width = residue_below number (2 ^ spot.width) (pow_pos spot.width) in
      let rest : (r + h) % 2 ^ spot.width < 2 ^ spot.width = mod-lt (r + h) (pow_pos spot.width) in
      let moved_up = added frame world (low_bits spot e) (word (half spot)) r h low_gives (word_gives frame world (half spot)) (omega (arith, below, wide, twice)) in
      let wrapped_up = remaining frame world (Binary (low_bits spot e) rust.Add (word (half spot))) (word (2 ^ spot.width)) (r + h) (2 ^ spot.width) moved_up (word_gives frame world (2 ^ spot.width)) (pow_pos spot.width) (omega (arith, below, wide, twice)) in
      let long = cast_gives frame world (Binary (Binary (low_bits spot e) rust.Add (word (half spot))) rust.Rem (word (2 ^ spot.width))) (Integer U64) (Integer I64)
      (Whole (pos ((r + h) % 2 ^ spot.width))) (Whole (pos ((r + h) % 2 ^ spot.width))) wrapped_up
      (ap (λ n. Ok (typed (Integer I64) (Whole n))) (converted_same I64 (pos ((r + h) % 2 ^ spot.width)) (long_range ((r + h) % 2 ^ spot.width) (omega (arith, rest, wide))))) in
      let taken = binary_gives frame world (Cast (Binary (Binary (low_bits spot e) rust.Add (word (half spot))) rust.Rem (word (2 ^ spot.width))) (Integer I64)) (Literal (pos (half spot)) I64) rust.Sub (Integer I64) (Integer I64) (Integer I64)
      (Whole (pos ((r + h) % 2 ^ spot.width))) (Whole (pos h)) (Whole (pos ((r + h) % 2 ^ spot.width) -ℤ pos h)) long (literal_gives frame world (pos (half spot)) I64)
      (ap (λ (t : Bool). numbered I64 (if t then Ok (pos ((r + h) % 2 ^ spot.width) -ℤ pos h) else Err Overflow)) (difference_fits ((r + h) % 2 ^ spot.width) h (omega (arith, rest, wide)) (omega (arith, wide, twice)))) in
      let same : pos ((r + h) % 2 ^ spot.width) -ℤ pos h ≡ from_half h r = subst (λ m. pos ((r + h) % m) -ℤ pos h ≡ from_half h r) (sym twice) (turned r h (omega (arith, below, twice))) in
      cast_gives frame world (signed_low_bits spot e) (Integer I64) (Integer which) (Whole (from_half h r)) (Whole (from_half h r)) (subst (λ n. GivesAt frame world (signed_low_bits spot e) (Integer I64) (Whole n)) same taken)
      (ap (λ (n : ℤ). Ok (typed (Integer which) (Whole n))) (converted_same which (from_half h r) range))
