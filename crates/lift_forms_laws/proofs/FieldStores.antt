-- Stores in bit-fields, byte by byte.
use Rattle.std.proofs.Common.{◌≡◌, ℕ, ◌+◌, ◌-◌, ◌*◌, ◌/◌, ◌%◌, ◌^◌, ◌<◌, ◌≤◌, ℤ, pos, negsuc, ◌*ℤ◌, nat_lt, if◌then◌else◌, Bool, true, Ok, Err, sym, ap, ◌∙◌, subst, arith}
use Rattle.std.proofs.lemmas.Bool.Decides.{nat_tests}
use Rattle.std.proofs.Math.IntN.{pos-*ℤ-pos}
use Rattle.std.proofs.Math.Nat.{div-le_self, mod-eq_of_lt, mul-add-mod_self_right}
use Rattle.std.proofs.lemmas.Nat.{pow_pos, pow-add, mod_low, mod_below, shr_split, shr_below}
use Rattle.cr_base.specs.Scalar.{residue}
use Rattle.cr_world.specs.World.{World}
use Rattle.mem_bytes.specs.Bits.{with_field}
use Rattle.mem_bytes.specs.declared.value.Value.TheVariants.{Whole}
use Rattle.mem_bytes.proofs.Fields.{with_field_below}
use Rattle.rs_mean.specs.declared.cause.Cause.TheVariants.{Shift}
use Rattle.rs_mean.specs.Numbers.{wrapped_in}
use Rattle.rs_mean.specs.Run.{Frame}
use Rattle.rs_mean.specs.Values.{typed, numbered}
use Rattle.rs_text.specs.declared.integer.IntegerTy.TheVariants.{U8, U32, U64}
use Rattle.rs_text.specs.declared.operator.Operator.TheVariants as rust
use Rattle.rs_text.specs.Tree.{Integer, Expr, Literal, Binary}
use Rattle.lift_forms.specs.BitFields.{word, byte_word, bits_above, bits_placed, bits_below, byte_with}
use Rattle.lift_forms_laws.specs.Gives.{GivesAt}
use Rattle.lift_forms_laws.specs.LawsBits.{low_bits}
use Rattle.lift_forms_laws.proofs.FieldBytes.{low_and_next}
use Rattle.lift_forms_laws.proofs.Bits.{word_gives, added, remaining, shifted}
use Rattle.lift_forms_laws.proofs.Runs.{literal_gives, cast_gives, binary_gives}

-- ---- the low bits of a number

low_of_low : (many n : ℕ) → many ≤ 64 → n % 2 ^ 64 % 2 ^ many ≡ n % 2 ^ many
low_of_low many n less =
    let parts : 64 ≡ (64 - many) + many = omega (arith, less) in
    let power : 2 ^ 64 ≡ 2 ^ (64 - many) * 2 ^ many = ap (λ k. 2 ^ k) parts ∙ pow-add 2 (64 - many) many in
    let whole : n ≡ (n / 2 ^ 64 * 2 ^ (64 - many)) * 2 ^ many + n % 2 ^ 64 =
    sym (shr_split n 64) ∙ ap (λ p. n / 2 ^ 64 * p + n % 2 ^ 64) power ∙ (let same : n / 2 ^ 64 * (2 ^ (64 - many) * 2 ^ many) + n % 2 ^ 64 ≡ (n / 2 ^ 64 * 2 ^ (64 - many)) * 2 ^ many + n % 2 ^ 64 = omega arith in same) in
    sym (ap (λ m. m % 2 ^ many) whole ∙ mul-add-mod_self_right (n / 2 ^ 64 * 2 ^ (64 - many)) (2 ^ many) (n % 2 ^ 64))

-- a number in front of a power of two, and what is left of it by a lower one
in_front : (many r : ℕ) → many ≤ 64 → r < 2 ^ 64 → (2 ^ 64 - 1 - r) % 2 ^ many ≡ 2 ^ many - 1 - r % 2 ^ many
in_front many r less small =
    let m = 2 ^ many in
    let a = 2 ^ (64 - many) in
    let t = r / 2 ^ many in
    let s = r % 2 ^ many in
    let parts : 64 ≡ (64 - many) + many = omega (arith, less) in
    let power : 2 ^ 64 ≡ a * m = ap (λ k. 2 ^ k) parts ∙ pow-add 2 (64 - many) many in
    let quotient : t < a = shr_below r (64 - many) many (subst (λ k. r < 2 ^ k) parts small) in
    let rest : s < m = mod_below r m (pow_pos many) in
    let split : t * m + s ≡ r = shr_split r many in
    let again : a ≡ (a - 1 - t) + t + 1 = omega (arith, quotient) in
    let product : a * m ≡ (a - 1 - t) * m + t * m + m = ap (λ x. x * m) again ∙ omega arith in
    let whole : 2 ^ 64 - 1 - r ≡ (a - 1 - t) * m + (m - 1 - s) = omega (arith, power, product, split, rest) in
    ap (λ x. x % m) whole ∙ mod_low (a - 1 - t) many (m - 1 - s) (omega (arith, rest))

-- the low bits of a number are those of the same number as a `u64`
pub low_of_word : (many : ℕ) (number : ℤ) → many ≤ 64 → residue number (2 ^ 64) % 2 ^ many ≡ low_bits many number
low_of_word many (pos n) less = low_of_low many n less
low_of_word many (negsuc n) less =
    in_front many (n % 2 ^ 64) less (mod_below n (2 ^ 64) (pow_pos 64)) ∙ ap (λ s. 2 ^ many - 1 - s) (low_of_low many n less)

-- more of them
pub more_low_bits : (many more : ℕ) (number : ℤ) → many + more ≤ 64 → low_bits (many + more) number ≡ residue number (2 ^ 64) / 2 ^ many % 2 ^ more * 2 ^ many + low_bits many number
more_low_bits many more number less =
    let u = residue number (2 ^ 64) in
    sym (low_of_word (many + more) number less) ∙ low_and_next u many more ∙ ap (λ n. u / 2 ^ many % 2 ^ more * 2 ^ many + n) (low_of_word many number (omega (arith, less)))

-- ---- a byte with other bits

module _ (frame : Frame) (world : World) where
  -- `<<` of words that loses no bit
  raised : (left : Expr) (a bit : ℕ) → GivesAt frame world left (Integer U64) (Whole (pos a)) → bit < 64 → a * 2 ^ bit < 18446744073709551616 →
      GivesAt frame world (Binary left rust.Shl (Literal (pos bit) U32)) (Integer U64) (Whole (pos (a * 2 ^ bit)))
  raised left a bit h less small =
      let product : pos a *ℤ pos (2 ^ bit) ≡ pos (a * 2 ^ bit) = pos-*ℤ-pos a (2 ^ bit) in
      let whole : wrapped_in U64 (pos a *ℤ pos (2 ^ bit)) ≡ pos (a * 2 ^ bit) = ap (wrapped_in U64) product ∙ ap pos (mod-eq_of_lt small) in
      binary_gives frame world left (Literal (pos bit) U32) rust.Shl (Integer U64) (Integer U32) (Integer U64) (Whole (pos a)) (Whole (pos bit)) (Whole (pos (a * 2 ^ bit))) h
      (literal_gives frame world (pos bit) U32)
      (ap (λ (t : Bool). numbered U64 (if t then Ok (wrapped_in U64 (pos a *ℤ pos (2 ^ bit))) else Err Shift)) (let test : nat_lt bit 64 ≡ true = grind (arith, nat_tests, less) in test)
      ∙ ap (λ n. numbered U64 (Ok n)) whole)

  module _ (base value : Expr) (k from count bit old word_is : ℕ) (here : GivesAt frame world (byte_word base k) (Integer U64) (Whole (pos old)))
      (gives : GivesAt frame world value (Integer U64) (Whole (pos word_is))) (fits : bit + count ≤ 8) (near : from < 64) (small : old < 256) (short : word_is < 18446744073709551616) where
    abbrev field : ℕ
    field = word_is / 2 ^ from % 2 ^ count

    field_small : field < 2 ^ count
    field_small = mod_below (word_is / 2 ^ from) (2 ^ count) (pow_pos count)

    new_below : with_field bit count field old < 256
    new_below = with_field_below 8 bit count field old fits field_small small

    above_gives : GivesAt frame world (bits_above (byte_word base k) (bit + count)) (Integer U64) (Whole (pos (old / 2 ^ (bit + count) * 2 ^ (bit + count))))
    above_gives =
        let below = new_below in
        raised (Binary (byte_word base k) rust.Shr (Literal (pos (bit + count)) U32)) (old / 2 ^ (bit + count)) (bit + count)
        (shifted frame world (byte_word base k) old (bit + count) here (omega (arith, fits))) (omega (arith, fits)) (omega (arith, below))

    placed_gives : GivesAt frame world (bits_placed value from count bit) (Integer U64) (Whole (pos (field * 2 ^ bit)))
    placed_gives =
        let below = new_below in
        let less = div-le_self word_is (2 ^ from) in
        raised (Binary (Binary value rust.Shr (Literal (pos from) U32)) rust.Rem (word (2 ^ count))) field bit
        (remaining frame world (Binary value rust.Shr (Literal (pos from) U32)) (word (2 ^ count)) (word_is / 2 ^ from) (2 ^ count)
        (shifted frame world value word_is from gives near) (word_gives frame world (2 ^ count)) (pow_pos count) (omega (arith, less, short)))
        (omega (arith, fits)) (omega (arith, below))

    below_gives : GivesAt frame world (bits_below (byte_word base k) bit) (Integer U64) (Whole (pos (old % 2 ^ bit)))
    below_gives = remaining frame world (byte_word base k) (word (2 ^ bit)) old (2 ^ bit) here (word_gives frame world (2 ^ bit)) (pow_pos bit) (omega (arith, small))

    pub byte_with_gives : GivesAt frame world (byte_with base value k from count bit) (Integer U8) (Whole (pos (with_field bit count field old)))
    byte_with_gives =
        let below = new_below in
        let two = added frame world (bits_above (byte_word base k) (bit + count)) (bits_placed value from count bit) (old / 2 ^ (bit + count) * 2 ^ (bit + count)) (field * 2 ^ bit)
        above_gives placed_gives (omega (arith, below)) in
        let three = added frame world (Binary (bits_above (byte_word base k) (bit + count)) rust.Add (bits_placed value from count bit)) (bits_below (byte_word base k) bit)
        (old / 2 ^ (bit + count) * 2 ^ (bit + count) + field * 2 ^ bit) (old % 2 ^ bit) two below_gives (omega (arith, below)) in
        cast_gives frame world (Binary (Binary (bits_above (byte_word base k) (bit + count)) rust.Add (bits_placed value from count bit)) rust.Add (bits_below (byte_word base k) bit))
        (Integer U64) (Integer U8) (Whole (pos (with_field bit count field old))) (Whole (pos (with_field bit count field old))) three
        (ap (λ n. Ok (typed (Integer U8) (Whole n))) (ap pos (mod-eq_of_lt below)))
