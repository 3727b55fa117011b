-- Operators over numbers (ISO C99, 6.5.3.3 and 6.5.5 to 6.5.12): what each gives, or the rule by which it is undefined.
use Rattle.std.specs.Prelude.{ℕ, ◌*◌, ◌/◌, ◌^◌, nat_lt, Bool, true, false, ◌&&◌, not, if◌then◌else◌, ℤ, pos, negsuc, ◌+ℤ◌, ◌-ℤ◌, ◌*ℤ◌, neg_ℤ, int_le, int_lt, int_div, int_rem, bit_and, bit_or, bit_xor, Result, Ok, Err}
use Rattle.std.specs.Ordering.{int_eq}
use Rattle.cr_base.specs.Scalar.{least, above, modulus, residue, wrapped}
use Rattle.cr_base.specs.declared.rule.URule.{URule}
use Rattle.cr_base.specs.declared.rule.URule.TheVariants.{U2, U3, U4}
use Rattle.cr_base.specs.declared.scalar.Scalar.{Scalar}
use Rattle.cr_base.specs.declared.scalar.Scalar.TheVariants.{Truth, Whole, Object, Code}
use Rattle.cx_core.specs.declared.expr.Op1.{Op1}
use Rattle.cx_core.specs.declared.expr.Op1.TheVariants.{Plus, Minus, Complement, Not}
use Rattle.cx_core.specs.declared.expr.Op2.{Op2}
use Rattle.cx_core.specs.declared.expr.Op2.TheVariants.{Multiply, Divide, Remainder, Add, Subtract, ShiftLeft, ShiftRight, Less, Greater, LessOrEqual, GreaterOrEqual, Equal, NotEqual, BitAnd, BitXor, BitOr}

-- why an operator gives no number
pub data CWhy : Type 0 where
  -- C leaves it undefined, by this rule
  breaks : URule → CWhy
  -- no typed program has such a step
  stuck : CWhy

-- a type represents a number (6.2.6.2)
abbrev pub represents : Scalar → ℤ → Bool
represents kind value = int_le (least kind) value && int_lt value (above kind)

abbrev pub represented : URule → Scalar → ℤ → Result ℤ CWhy
represented rule kind value = if represents kind value then Ok value else Err (breaks rule)

-- what an arithmetic operator gives in a type: a rule is broken where the type is signed and doesn't represent the
-- number (6.5p5); an unsigned one reduces it (6.2.5p9)
abbrev pub in_type : URule → Scalar → ℤ → Result ℤ CWhy
in_type rule (Whole width true) value = represented rule (Whole width true) value
in_type rule (Whole width false) value = Ok (wrapped (Whole width false) value)
in_type rule Truth value = Err stuck
in_type rule Object value = Err stuck
in_type rule Code value = Err stuck

-- the value of `!`, of a comparison, of `&&` and of `||`
abbrev pub number_of_truth : Bool → ℤ
number_of_truth true = pos 1
number_of_truth false = pos 0

-- ---- `/` and `%` (6.5.5p5, p6): both are undefined where the quotient isn't defined

abbrev pub quotient : Scalar → ℤ → ℤ → Result ℤ CWhy
quotient kind left right =
    if int_eq right (pos 0) then Err (breaks U3) else represented U3 kind (int_div left right)

abbrev pub remainder_by : ℤ → ℤ → Result ℤ CWhy → Result ℤ CWhy
remainder_by left right (Ok quotient) = Ok (int_rem left right)
remainder_by left right (Err why) = Err why

-- ---- shifts (6.5.7p3 to p5)

abbrev pub width_of_scalar : Scalar → ℕ
width_of_scalar (Whole width signed) = width
width_of_scalar Truth = 0
width_of_scalar Object = 0
width_of_scalar Code = 0

abbrev pub left_shifted : Scalar → ℤ → ℕ → Result ℤ CWhy
left_shifted kind (pos n) count = in_type U4 kind (pos (n * 2 ^ count))
left_shifted kind (negsuc n) count = Err (breaks U4)

-- a negative number is shifted as two's complement, and its sign comes in (6.5.7p5; the choice of the profile)
abbrev pub right_shifted : Scalar → ℤ → ℕ → Result ℤ CWhy
right_shifted kind (pos n) count = Ok (pos (n / 2 ^ count))
right_shifted kind (negsuc n) count = Ok (negsuc (n / 2 ^ count))

-- a count that isn't negative and is less than the width
abbrev pub shifted : (Scalar → ℤ → ℕ → Result ℤ CWhy) → Scalar → ℤ → ℤ → Result ℤ CWhy
shifted shift kind value (pos count) =
    if nat_lt count (width_of_scalar kind) then shift kind value count else Err (breaks U4)
shifted shift kind value (negsuc n) = Err (breaks U4)

-- ---- bits (6.5.10 to 6.5.12), of two's complement

abbrev pub combined : (ℕ → ℕ → ℕ) → Scalar → ℤ → ℤ → ℤ
combined combine kind left right =
    wrapped kind (pos (combine (residue left (modulus kind)) (residue right (modulus kind))))

-- ---- operators

-- an operator with two operands, which computes in a type
abbrev pub number_of_binary : Op2 → Scalar → ℤ → ℤ → Result ℤ CWhy
number_of_binary Multiply kind left right = in_type U2 kind (left *ℤ right)
number_of_binary Divide kind left right = quotient kind left right
number_of_binary Remainder kind left right = remainder_by left right (quotient kind left right)
number_of_binary Add kind left right = in_type U2 kind (left +ℤ right)
number_of_binary Subtract kind left right = in_type U2 kind (left -ℤ right)
number_of_binary ShiftLeft kind left right = shifted left_shifted kind left right
number_of_binary ShiftRight kind left right = shifted right_shifted kind left right
number_of_binary Less kind left right = Ok (number_of_truth (int_lt left right))
number_of_binary Greater kind left right = Ok (number_of_truth (int_lt right left))
number_of_binary LessOrEqual kind left right = Ok (number_of_truth (int_le left right))
number_of_binary GreaterOrEqual kind left right = Ok (number_of_truth (int_le right left))
number_of_binary Equal kind left right = Ok (number_of_truth (int_eq left right))
number_of_binary NotEqual kind left right = Ok (number_of_truth (not (int_eq left right)))
number_of_binary BitAnd kind left right = Ok (combined bit_and kind left right)
number_of_binary BitXor kind left right = Ok (combined bit_xor kind left right)
number_of_binary BitOr kind left right = Ok (combined bit_or kind left right)

-- an arithmetic operator with one operand, which computes in a type
abbrev pub number_of_unary : Op1 → Scalar → ℤ → Result ℤ CWhy
number_of_unary Plus kind value = Ok value
number_of_unary Minus kind value = in_type U2 kind (neg_ℤ value)
number_of_unary Complement kind value = Ok (wrapped kind (neg_ℤ value -ℤ pos 1))
number_of_unary Not kind value = Ok (number_of_truth (int_eq value (pos 0)))

-- the count of a shift has a type of its own (6.5.7p3)
abbrev pub is_shift : Op2 → Bool
is_shift ShiftLeft = true
is_shift ShiftRight = true
is_shift _ = false
