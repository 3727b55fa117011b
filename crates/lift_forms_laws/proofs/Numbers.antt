-- What operators give of numbers in C and in Rust.
use Rattle.std.proofs.Common.{◌≡◌, ℕ, ◌+◌, ◌-◌, ◌*◌, ◌%◌, ◌^◌, ◌≤◌, ◌<◌, ℤ, pos, negsuc, neg_ℤ, ◌-ℤ◌, ◌≤ℤ◌, ◌<ℤ◌, int_div, int_rem, Bool, true, false, cond, nat_lt, if◌then◌else◌, Result, Ok, Err, refl, sym, ap, subst, ◌∙◌, arith}
use Rattle.std.proofs.lemmas.Bool.Decides.{nat_tests}
use Rattle.std.proofs.lemmas.Int.{ints}
use Rattle.std.proofs.Math.Nat.{mod-eq_of_lt}
use Rattle.std.specs.Ordering.{int_eq}
use Rattle.cr_base.specs.Scalar.{IsInRange, residue, from_half, wrapped, converted}
use Rattle.cr_base.specs.declared.rule.URule.{URule}
use Rattle.cr_base.specs.declared.rule.URule.TheVariants.{U3, U4}
use Rattle.cr_base.specs.declared.scalar.Scalar.TheVariants.{Whole}
use Rattle.cx_numbers.specs.Numbers.{CWhy, breaks, represented, in_type, quotient as c_quotient, remainder_by as c_remainder_by, left_shifted, right_shifted, shifted as c_shifted, width_of_scalar}
use Rattle.cx_typed_values.proofs.Ranges.{in_range}
use Rattle.rs_mean.specs.declared.cause.Cause.{Cause}
use Rattle.rs_mean.specs.declared.cause.Cause.TheVariants.{Divisor, Shift}
use Rattle.rs_mean.specs.Numbers.{checked, wrapped_in, quotient, remainder_by, shifted, shifted_left, shifted_right}
use Rattle.rs_mean.specs.Scalars.{integer_scalar, is_signed_integer, fits_integer, width_of}
use Rattle.rs_text.specs.declared.integer.IntegerTy.{IntegerTy}
use Rattle.rs_text.specs.declared.integer.IntegerTy.TheVariants.{I8, I16, I32, I64, U8, U16, U32, U64, Isize, Usize}

-- ---- numbers of a range stay as they are

pub chosen_low : (half r : ℕ) → r < half → from_half half r ≡ pos r
chosen_low half r low =
    let test : nat_lt r half ≡ true = grind (arith, nat_tests) in
    ap (λ (b : Bool). cond b (pos r) (pos r -ℤ pos (half + half))) test

pub chosen_high : (half r : ℕ) → half ≤ r → from_half half r ≡ pos r -ℤ pos (half + half)
chosen_high half r high =
    let test : nat_lt r half ≡ false = grind (arith, nat_tests) in
    ap (λ (b : Bool). cond b (pos r) (pos r -ℤ pos (half + half))) test

half_same : (half : ℕ) (n : ℤ) → neg_ℤ (pos half) ≤ℤ n → n <ℤ pos half → from_half half (residue n (half + half)) ≡ n
half_same half (pos k) low high =
    let below : k < half = omega (arith, ints) in
    let whole : k % (half + half) ≡ k = mod-eq_of_lt (omega arith) in
    ap (λ (r : ℕ). from_half half r) whole ∙ chosen_low half k below
half_same half (negsuc k) low high =
    let below : k < half = omega (arith, ints) in
    let whole : k % (half + half) ≡ k = mod-eq_of_lt (omega arith) in
    let rest : (half + half) - 1 - k % (half + half) ≡ (half + half) - 1 - k = ap (λ (r : ℕ). (half + half) - 1 - r) whole in
    let back : pos ((half + half) - 1 - k) -ℤ pos (half + half) ≡ negsuc k = omega (arith, ints) in
    ap (λ (r : ℕ). from_half half r) rest ∙ (chosen_high half ((half + half) - 1 - k) (omega arith) ∙ back)

whole_same : (modulus : ℕ) (n : ℤ) → pos 0 ≤ℤ n → n <ℤ pos modulus → pos (residue n modulus) ≡ n
whole_same modulus (pos k) low high = ap pos (mod-eq_of_lt (omega (arith, ints)))
whole_same modulus (negsuc k) low high = absurd (omega (arith, ints))

pub wrapped_same : (which : IntegerTy) (n : ℤ) → IsInRange (integer_scalar which) n → wrapped (integer_scalar which) n ≡ n
wrapped_same I8 n r = half_same 128 n r.0 r.1
wrapped_same I16 n r = half_same 32768 n r.0 r.1
wrapped_same I32 n r = half_same 2147483648 n r.0 r.1
wrapped_same I64 n r = half_same 9223372036854775808 n r.0 r.1
wrapped_same Isize n r = half_same 9223372036854775808 n r.0 r.1
wrapped_same U8 n r = whole_same 256 n r.0 r.1
wrapped_same U16 n r = whole_same 65536 n r.0 r.1
wrapped_same U32 n r = whole_same 4294967296 n r.0 r.1
wrapped_same U64 n r = whole_same 18446744073709551616 n r.0 r.1
wrapped_same Usize n r = whole_same 18446744073709551616 n r.0 r.1

pub converted_is : (which : IntegerTy) (n : ℤ) → converted (integer_scalar which) n ≡ wrapped (integer_scalar which) n
converted_is I8 n = refl
converted_is I16 n = refl
converted_is I32 n = refl
converted_is I64 n = refl
converted_is Isize n = refl
converted_is U8 n = refl
converted_is U16 n = refl
converted_is U32 n = refl
converted_is U64 n = refl
converted_is Usize n = refl

pub converted_same : (which : IntegerTy) (n : ℤ) → IsInRange (integer_scalar which) n → converted (integer_scalar which) n ≡ n
converted_same which n r = converted_is which n ∙ wrapped_same which n r

-- ---- what C gives in a type

pub signed_type : (which : IntegerTy) (rule : URule) (n : ℤ) → is_signed_integer which ≡ true → in_type rule (integer_scalar which) n ≡ represented rule (integer_scalar which) n
signed_type I8 rule n is = refl
signed_type I16 rule n is = refl
signed_type I32 rule n is = refl
signed_type I64 rule n is = refl
signed_type Isize rule n is = refl
signed_type which rule n is = absurd cc

pub unsigned_type : (which : IntegerTy) (rule : URule) (n : ℤ) → is_signed_integer which ≡ false → in_type rule (integer_scalar which) n ≡ Ok (wrapped (integer_scalar which) n)
unsigned_type U8 rule n is = refl
unsigned_type U16 rule n is = refl
unsigned_type U32 rule n is = refl
unsigned_type U64 rule n is = refl
unsigned_type Usize rule n is = refl
unsigned_type which rule n is = absurd cc

pub represented_is : (test : Bool) (rule : URule) (n m : ℤ) → (if test then Ok n else Err (breaks rule)) ≡ Ok m → (test ≡ true) × (n ≡ m)
represented_is true rule n m e = (refl, cc)
represented_is false rule n m e = absurd cc

-- the number of a signed type, as a check of Rust
pub checked_is : (which : IntegerTy) (rule : URule) (why : Cause) (n m : ℤ) → represented rule (integer_scalar which) n ≡ Ok m → checked why which n ≡ Ok m
checked_is which rule why n m e =
    let parts = represented_is (fits_integer which n) rule n m e in
    ap (λ (b : Bool). if b then Ok n else Err why) (parts.0) ∙ ap Ok parts.1

-- ---- quotients

pub quotient_is : (which : IntegerTy) (left right m : ℤ) → c_quotient (integer_scalar which) left right ≡ Ok m → quotient which left right ≡ Ok m
quotient_is which left right m e = by_divisor (int_eq right (pos 0)) e
  where
    by_divisor : (test : Bool) → (if test then Err (breaks U3) else represented U3 (integer_scalar which) (int_div left right)) ≡ Ok m →
        (if test then Err Divisor else checked Divisor which (int_div left right)) ≡ Ok m
    by_divisor true e = absurd cc
    by_divisor false e = checked_is which U3 Divisor (int_div left right) m e

pub remainder_is : (which : IntegerTy) (left right m : ℤ) → c_remainder_by left right (c_quotient (integer_scalar which) left right) ≡ Ok m →
    remainder_by left right (quotient which left right) ≡ Ok m
remainder_is which left right m e = by_quotient (c_quotient (integer_scalar which) left right) refl e
  where
    by_quotient : (found : Result ℤ CWhy) → c_quotient (integer_scalar which) left right ≡ found → c_remainder_by left right found ≡ Ok m →
        remainder_by left right (quotient which left right) ≡ Ok m
    by_quotient (Ok q) is e = ap (remainder_by left right) (quotient_is which left right q is) ∙ (let same : int_rem left right ≡ m = cc in ap Ok same)
    by_quotient (Err why) is e = absurd cc

-- ---- shifts

pub width_is : (which : IntegerTy) → width_of_scalar (integer_scalar which) ≡ width_of which
width_is I8 = refl
width_is I16 = refl
width_is I32 = refl
width_is I64 = refl
width_is Isize = refl
width_is U8 = refl
width_is U16 = refl
width_is U32 = refl
width_is U64 = refl
width_is Usize = refl

pub width_most : (which : IntegerTy) → width_of which ≤ 64
width_most I8 = omega arith
width_most I16 = omega arith
width_most I32 = omega arith
width_most I64 = omega arith
width_most Isize = omega arith
width_most U8 = omega arith
width_most U16 = omega arith
width_most U32 = omega arith
width_most U64 = omega arith
width_most Usize = omega arith

-- ---- shifts

count_same : (which : IntegerTy) (count : ℕ) → nat_lt count (width_of which) ≡ true → converted (Whole 32 false) (pos count) ≡ pos count
count_same which count less =
    let small : count < width_of which = grind (arith, nat_tests, less) in
    let most = width_most which in
    ap pos (mod-eq_of_lt (omega (arith, small, most)))

-- a count that is less than the width is the same as a `u32`
pub left_is : (which : IntegerTy) (value count m : ℤ) → c_shifted left_shifted (integer_scalar which) value count ≡ Ok m →
    shifted shifted_left which value (converted (Whole 32 false) count) ≡ Ok m
left_is which value (negsuc n) m e = absurd cc
left_is which value (pos count) m e = by_width (nat_lt count (width_of which)) refl (subst (λ (w : ℕ). (if nat_lt count w then left_shifted (integer_scalar which) value count else Err (breaks U4)) ≡ Ok m) (width_is which) e)
  where
    signed_left : (n : ℕ) → is_signed_integer which ≡ true → in_type U4 (integer_scalar which) (pos (n * 2 ^ count)) ≡ Ok m → wrapped_in which (pos (n * 2 ^ count)) ≡ m
    signed_left n signed e =
        let parts = represented_is (fits_integer which (pos (n * 2 ^ count))) U4 (pos (n * 2 ^ count)) m (sym (signed_type which U4 (pos (n * 2 ^ count)) signed) ∙ e) in
        wrapped_same which (pos (n * 2 ^ count)) (in_range (integer_scalar which) (pos (n * 2 ^ count)) parts.0) ∙ parts.1

    by_sign : (n : ℕ) (signed : Bool) → is_signed_integer which ≡ signed → in_type U4 (integer_scalar which) (pos (n * 2 ^ count)) ≡ Ok m → wrapped_in which (pos (n * 2 ^ count)) ≡ m
    by_sign n true signed e = signed_left n signed e
    by_sign n false signed e = let same : wrapped (integer_scalar which) (pos (n * 2 ^ count)) ≡ m = cc (sym (unsigned_type which U4 (pos (n * 2 ^ count)) signed) ∙ e) in same

    by_value : (value : ℤ) → left_shifted (integer_scalar which) value count ≡ Ok m → shifted_left which value count ≡ m
    by_value (pos n) e = by_sign n (is_signed_integer which) refl e
    by_value (negsuc n) e = absurd cc

    by_width : (test : Bool) → nat_lt count (width_of which) ≡ test → (if test then left_shifted (integer_scalar which) value count else Err (breaks U4)) ≡ Ok m →
        shifted shifted_left which value (converted (Whole 32 false) (pos count)) ≡ Ok m
    by_width true is e =
        ap (shifted shifted_left which value) (count_same which count is)
        ∙ ap (λ (b : Bool). if b then Ok (shifted_left which value count) else Err Shift) is ∙ ap Ok (by_value value e)
    by_width false is e = absurd cc

pub right_is : (which : IntegerTy) (value count m : ℤ) → c_shifted right_shifted (integer_scalar which) value count ≡ Ok m →
    shifted shifted_right which value (converted (Whole 32 false) count) ≡ Ok m
right_is which value (negsuc n) m e = absurd cc
right_is which value (pos count) m e = by_width (nat_lt count (width_of which)) refl (subst (λ (w : ℕ). (if nat_lt count w then right_shifted (integer_scalar which) value count else Err (breaks U4)) ≡ Ok m) (width_is which) e)
  where
    by_value : (value : ℤ) → right_shifted (integer_scalar which) value count ≡ Ok m → shifted_right which value count ≡ m
    by_value (pos n) e = cc
    by_value (negsuc n) e = cc

    by_width : (test : Bool) → nat_lt count (width_of which) ≡ test → (if test then right_shifted (integer_scalar which) value count else Err (breaks U4)) ≡ Ok m →
        shifted shifted_right which value (converted (Whole 32 false) (pos count)) ≡ Ok m
    by_width true is e =
        ap (shifted shifted_right which value) (count_same which count is)
        ∙ ap (λ (b : Bool). if b then Ok (shifted_right which value count) else Err Shift) is ∙ ap Ok (by_value value e)
    by_width false is e = absurd cc
