-- Operators over numbers.
use Rattle.std.proofs.Common.{rules, arith, tests, ◌≡◌, ℕ, zero, suc, ◌+◌, ◌*◌, ◌/◌, ◌%◌, ◌≤◌, ◌-◌, ◌^◌, ◌<◌, Bool, true, false, IsTrue, cond, nat_lt, not, ℤ, pos, negsuc, neg_ℤ, ◌+ℤ◌, ◌-ℤ◌, ◌*ℤ◌, ◌≤ℤ◌, ◌<ℤ◌, int_le, int_lt, int_div, int_rem, bit_and, bit_or, bit_xor, refl, if◌then◌else◌, unsigned_abs, Result, Ok, Err}
use Rattle.std.proofs.lemmas.Int.{ints}
use Rattle.std.proofs.Math.Nat.{div-le_self, mod-le}
use Rattle.std.specs.Ordering.{int_eq}
use Rattle.cr_base.specs.Scalar.{is_width, IsInRange, least, above, modulus, residue, wrapped}
use Rattle.cr_base.specs.declared.rule.URule.{URule}
use Rattle.cr_base.specs.declared.rule.URule.TheVariants.{U2, U3, U4}
use Rattle.cr_base.specs.declared.scalar.Scalar.{Scalar}
use Rattle.cr_base.specs.declared.scalar.Scalar.TheVariants.{Whole}
use Rattle.cx_core.specs.declared.expr.Op1.{Op1}
use Rattle.cx_core.specs.declared.expr.Op1.TheVariants.{Plus, Minus, Complement, Not}
use Rattle.cx_core.specs.declared.expr.Op2.{Op2}
use Rattle.cx_core.specs.declared.expr.Op2.TheVariants.{Multiply, Divide, Remainder, Add, Subtract, ShiftLeft, ShiftRight, Less, Greater, LessOrEqual, GreaterOrEqual, Equal, NotEqual, BitAnd, BitXor, BitOr}
use Rattle.cx_numbers.specs.Numbers.{represents, represented, in_type, number_of_truth, quotient, remainder_by, width_of_scalar, left_shifted, right_shifted, shifted, combined, number_of_binary, CWhy, breaks, stuck, number_of_unary, is_shift}
use Rattle.cx_typed_values.specs.Numbers.{int_kind, kind_of_unary, kind_of_binary, OperatorsGiveNumbers}
use Rattle.cx_typed_values.specs.Outcomes.{Comes}
use Rattle.cx_typed_values.proofs.Ranges.{in_range, wrapped_in_range}

represented_comes : (rule : URule) (kind : Scalar) (value : ℤ) → Comes (IsInRange kind) (represented rule kind value)
represented_comes rule kind value = by_test (represents kind value) refl where
  by_test : (test : Bool) → represents kind value ≡ test → Comes (IsInRange kind) (if test then Ok value else Err (breaks rule))
  by_test true is = in_range kind value is
  by_test false is = tt

in_type_comes : (rule : URule) (width : ℕ) (signed : Bool) (value : ℤ) → IsTrue (is_width width) → Comes (IsInRange (Whole width signed)) (in_type rule (Whole width signed) value)
in_type_comes rule width true value is = represented_comes rule (Whole width true) value
in_type_comes rule width false value is = wrapped_in_range width false value is

pub truth_comes : (holds : Bool) → IsInRange int_kind (number_of_truth holds)
truth_comes true = (omega (arith, ints), omega (arith, ints))
truth_comes false = (omega (arith, ints), omega (arith, ints))

-- ---- `/` and `%`

quotient_comes : (kind : Scalar) (left right : ℤ) → Comes (IsInRange kind) (quotient kind left right)
quotient_comes kind left right = by_zero (int_eq right (pos 0)) where
  by_zero : (test : Bool) → Comes (IsInRange kind) (if test then Err (breaks U3) else represented U3 kind (int_div left right))
  by_zero true = tt
  by_zero false = represented_comes U3 kind (int_div left right)

-- ---- shifts

right_shifted_comes : (width : ℕ) (signed : Bool) (value : ℤ) (count : ℕ) → IsInRange (Whole width signed) value → Comes (IsInRange (Whole width signed)) (right_shifted (Whole width signed) value count)
right_shifted_comes width true (pos n) count is =
    let less : n / 2 ^ count ≤ n = div-le_self n (2 ^ count) in
    (omega (arith, ints, is.0, is.1), omega (arith, ints, is.0, is.1))
right_shifted_comes width false (pos n) count is =
    let less : n / 2 ^ count ≤ n = div-le_self n (2 ^ count) in
    (omega (arith, ints, is.0, is.1), omega (arith, ints, is.0, is.1))
right_shifted_comes width true (negsuc n) count is =
    let less : n / 2 ^ count ≤ n = div-le_self n (2 ^ count) in
    (omega (arith, ints, is.0, is.1), omega (arith, ints, is.0, is.1))
right_shifted_comes width false (negsuc n) count is = absurd (omega (arith, ints, is.0))

left_shifted_comes : (width : ℕ) (signed : Bool) (value : ℤ) (count : ℕ) → IsTrue (is_width width) → Comes (IsInRange (Whole width signed)) (left_shifted (Whole width signed) value count)
left_shifted_comes width signed (pos n) count is = in_type_comes U4 width signed (pos (n * 2 ^ count)) is
left_shifted_comes width signed (negsuc n) count is = tt

shifted_comes : (shift : Scalar → ℤ → ℕ → Result ℤ CWhy) (kind : Scalar) (value count : ℤ) → ((count : ℕ) → Comes (IsInRange kind) (shift kind value count)) → Comes (IsInRange kind) (shifted shift kind value count)
shifted_comes shift kind value (pos count) comes = by_width (nat_lt count (width_of_scalar kind)) where
  by_width : (test : Bool) → Comes (IsInRange kind) (if test then shift kind value count else Err (breaks U4))
  by_width true = comes count
  by_width false = tt
shifted_comes shift kind value (negsuc n) comes = tt

-- ---- the remainder

rem_of_pos : (n : ℕ) (d : ℤ) → int_rem (pos n) d ≡ pos (n % unsigned_abs d)
rem_of_pos n (pos k) = refl
rem_of_pos n (negsuc k) = refl

rem_of_negsuc : (n : ℕ) (d : ℤ) → int_rem (negsuc n) d ≡ neg_ℤ (pos (suc n % unsigned_abs d))
rem_of_negsuc n (pos k) = refl
rem_of_negsuc n (negsuc k) = refl

rem_in_range : (width : ℕ) (signed : Bool) (left right : ℤ) → IsInRange (Whole width signed) left → IsInRange (Whole width signed) (int_rem left right)
rem_in_range width true (pos n) d is =
    let less : n % unsigned_abs d ≤ n = mod-le n (unsigned_abs d) in
    let e = rem_of_pos n d in
    (omega (arith, ints, is.0, is.1, e), omega (arith, ints, is.0, is.1, e))
rem_in_range width false (pos n) d is =
    let less : n % unsigned_abs d ≤ n = mod-le n (unsigned_abs d) in
    let e = rem_of_pos n d in
    (omega (arith, ints, is.0, is.1, e), omega (arith, ints, is.0, is.1, e))
rem_in_range width true (negsuc n) d is =
    let less : suc n % unsigned_abs d ≤ suc n = mod-le (suc n) (unsigned_abs d) in
    let e = rem_of_negsuc n d in
    (omega (arith, ints, is.0, is.1, e), omega (arith, ints, is.0, is.1, e))
rem_in_range width false (negsuc n) d is = absurd (omega (arith, ints, is.0))

remainder_comes : (width : ℕ) (signed : Bool) (left right : ℤ) → IsInRange (Whole width signed) left
    → Comes (IsInRange (Whole width signed)) (remainder_by left right (quotient (Whole width signed) left right))
remainder_comes width signed left right is = by_quotient (quotient (Whole width signed) left right) (quotient_comes (Whole width signed) left right) where
  by_quotient : (found : Result ℤ CWhy) → Comes (IsInRange (Whole width signed)) found → Comes (IsInRange (Whole width signed)) (remainder_by left right found)
  by_quotient (Ok value) comes = rem_in_range width signed left right is
  by_quotient (Err (breaks rule)) comes = tt
  by_quotient (Err stuck) comes = comes

-- ---- all

pub unary_comes : (op : Op1) (width : ℕ) (signed : Bool) (value : ℤ) → IsTrue (is_width width) → IsInRange (Whole width signed) value
    → Comes (IsInRange (kind_of_unary op (Whole width signed))) (number_of_unary op (Whole width signed) value)
unary_comes Plus width signed value is inside = inside
unary_comes Minus width signed value is inside = in_type_comes U2 width signed (neg_ℤ value) is
unary_comes Complement width signed value is inside = wrapped_in_range width signed (neg_ℤ value -ℤ pos 1) is
unary_comes Not width signed value is inside = truth_comes (int_eq value (pos 0))

combined_in_range : (combine : ℕ → ℕ → ℕ) (width : ℕ) (signed : Bool) (left right : ℤ) → IsTrue (is_width width) → IsInRange (Whole width signed) (combined combine (Whole width signed) left right)
combined_in_range combine width signed left right is =
    wrapped_in_range width signed (pos (combine (residue left (modulus (Whole width signed))) (residue right (modulus (Whole width signed))))) is

pub binary_comes : (op : Op2) (width : ℕ) (signed : Bool) (left right : ℤ) → IsTrue (is_width width) → IsInRange (Whole width signed) left
    → (is_shift op ≡ false → IsInRange (Whole width signed) right)
    → Comes (IsInRange (kind_of_binary op (Whole width signed))) (number_of_binary op (Whole width signed) left right)
binary_comes Multiply width signed left right is first second = in_type_comes U2 width signed (left *ℤ right) is
binary_comes Divide width signed left right is first second = quotient_comes (Whole width signed) left right
binary_comes Remainder width signed left right is first second = remainder_comes width signed left right first
binary_comes Add width signed left right is first second = in_type_comes U2 width signed (left +ℤ right) is
binary_comes Subtract width signed left right is first second = in_type_comes U2 width signed (left -ℤ right) is
binary_comes ShiftLeft width signed left right is first second =
    shifted_comes left_shifted (Whole width signed) left right (λ count. left_shifted_comes width signed left count is)
binary_comes ShiftRight width signed left right is first second =
    shifted_comes right_shifted (Whole width signed) left right (λ count. right_shifted_comes width signed left count first)
binary_comes Less width signed left right is first second = truth_comes (int_lt left right)
binary_comes Greater width signed left right is first second = truth_comes (int_lt right left)
binary_comes LessOrEqual width signed left right is first second = truth_comes (int_le left right)
binary_comes GreaterOrEqual width signed left right is first second = truth_comes (int_le right left)
binary_comes Equal width signed left right is first second = truth_comes (int_eq left right)
binary_comes NotEqual width signed left right is first second = truth_comes (not (int_eq left right))
binary_comes BitAnd width signed left right is first second = combined_in_range bit_and width signed left right is
binary_comes BitXor width signed left right is first second = combined_in_range bit_xor width signed left right is
binary_comes BitOr width signed left right is first second = combined_in_range bit_or width signed left right is

pub operators : OperatorsGiveNumbers
operators = record { unary = unary_comes; binary = binary_comes }
