-- Operators over numbers (the Rust Reference, "Operator expressions"; `core`, the integer types' methods): what each gives in an integer
-- type, or why it is wrong.
use Rattle.std.specs.Prelude.{ℕ, ◌/◌, ◌^◌, nat_lt, Bool, true, false, not, if◌then◌else◌, ℤ, pos, negsuc, ◌+ℤ◌, ◌-ℤ◌, ◌*ℤ◌, neg_ℤ, int_le, int_lt, int_div, int_rem, bit_and, bit_or, bit_xor, Result, Ok, Err}
use Rattle.std.specs.Ordering.{int_eq}
use Rattle.cr_base.specs.Scalar.{modulus, residue, wrapped}
use Rattle.rs_text.specs.declared.integer.IntegerTy.{IntegerTy}
use Rattle.rs_text.specs.declared.operator.Operator.{Operator}
use Rattle.rs_text.specs.declared.operator.Operator.TheVariants.{Add, Sub, Mul, Div, Rem, BitAnd, BitOr, BitXor, Shl, Shr, Equal, NotEqual, Less, LessEqual, Greater, GreaterEqual}
use Rattle.rs_text.specs.declared.operator.Wrapping.{Wrapping}
use Rattle.rs_text.specs.declared.operator.Wrapping.TheVariants.{WrappingAdd, WrappingSub, WrappingMul}
use Rattle.rs_mean.specs.declared.cause.Cause.{Cause}
use Rattle.rs_mean.specs.declared.cause.Cause.TheVariants.{Overflow, Divisor, Shift, WrongCall}
use Rattle.rs_mean.specs.Scalars.{integer_scalar, fits_integer, width_of}

abbrev pub number_of_truth : Bool → ℤ
number_of_truth true = pos 1
number_of_truth false = pos 0

-- a number that has to be a value of its type
abbrev pub checked : Cause → IntegerTy → ℤ → Result ℤ Cause
checked why ty value = if fits_integer ty value then Ok value else Err why

-- a number modulo 2 to the width of the type
abbrev pub wrapped_in : IntegerTy → ℤ → ℤ
wrapped_in ty value = wrapped (integer_scalar ty) value

-- ---- `/` and `%`, which go towards zero

abbrev pub quotient : IntegerTy → ℤ → ℤ → Result ℤ Cause
quotient ty left right = if int_eq right (pos 0) then Err Divisor else checked Divisor ty (int_div left right)

abbrev pub remainder_by : ℤ → ℤ → Result ℤ Cause → Result ℤ Cause
remainder_by left right (Ok quotient) = Ok (int_rem left right)
remainder_by left right (Err why) = Err why

-- ---- shifts: of a signed number to the right, its sign comes in

abbrev pub shifted_left : IntegerTy → ℤ → ℕ → ℤ
shifted_left ty value count = wrapped_in ty (value *ℤ pos (2 ^ count))

abbrev pub shifted_right : IntegerTy → ℤ → ℕ → ℤ
shifted_right ty (pos n) count = pos (n / 2 ^ count)
shifted_right ty (negsuc n) count = negsuc (n / 2 ^ count)

-- a count that is less than the width
abbrev pub shifted : (IntegerTy → ℤ → ℕ → ℤ) → IntegerTy → ℤ → ℤ → Result ℤ Cause
shifted shift ty value (pos count) = if nat_lt count (width_of ty) then Ok (shift ty value count) else Err Shift
shifted shift ty value (negsuc n) = Err Shift

-- ---- bits of two's complement

abbrev pub combined : (ℕ → ℕ → ℕ) → IntegerTy → ℤ → ℤ → ℤ
combined combine ty left right =
    wrapped_in ty (pos (combine (residue left (modulus (integer_scalar ty))) (residue right (modulus (integer_scalar ty)))))

-- ---- operators

-- whether an operator compares
abbrev pub is_comparison : Operator → Bool
is_comparison Equal = true
is_comparison NotEqual = true
is_comparison Less = true
is_comparison LessEqual = true
is_comparison Greater = true
is_comparison GreaterEqual = true
is_comparison _ = false

abbrev pub is_shift : Operator → Bool
is_shift Shl = true
is_shift Shr = true
is_shift _ = false

-- what a comparison says of two numbers; other operators don't compare
abbrev pub compared : Operator → ℤ → ℤ → Bool
compared Equal left right = int_eq left right
compared NotEqual left right = not (int_eq left right)
compared Less left right = int_lt left right
compared LessEqual left right = int_le left right
compared Greater left right = int_lt right left
compared GreaterEqual left right = int_le right left
compared _ left right = false

-- what an operator computes of two numbers, the first of an integer type; a comparison computes none
abbrev pub computed : Operator → IntegerTy → ℤ → ℤ → Result ℤ Cause
computed Add ty left right = checked Overflow ty (left +ℤ right)
computed Sub ty left right = checked Overflow ty (left -ℤ right)
computed Mul ty left right = checked Overflow ty (left *ℤ right)
computed Div ty left right = quotient ty left right
computed Rem ty left right = remainder_by left right (quotient ty left right)
computed BitAnd ty left right = Ok (combined bit_and ty left right)
computed BitOr ty left right = Ok (combined bit_or ty left right)
computed BitXor ty left right = Ok (combined bit_xor ty left right)
computed Shl ty left right = shifted shifted_left ty left right
computed Shr ty left right = shifted shifted_right ty left right
computed _ ty left right = Err WrongCall

-- the same of two truth values; only those of bits compute some
abbrev pub computed_truth : Operator → ℤ → ℤ → Result ℤ Cause
computed_truth BitAnd left right = Ok (pos (bit_and (residue left 2) (residue right 2)))
computed_truth BitOr left right = Ok (pos (bit_or (residue left 2) (residue right 2)))
computed_truth BitXor left right = Ok (pos (bit_xor (residue left 2) (residue right 2)))
computed_truth _ left right = Err WrongCall

-- an operation modulo 2 to the width
abbrev pub wrapping : Wrapping → IntegerTy → ℤ → ℤ → ℤ
wrapping WrappingAdd ty left right = wrapped_in ty (left +ℤ right)
wrapping WrappingSub ty left right = wrapped_in ty (left -ℤ right)
wrapping WrappingMul ty left right = wrapped_in ty (left *ℤ right)

-- `!` of a number: all its bits turned
abbrev pub complement : IntegerTy → ℤ → ℤ
complement ty value = wrapped_in ty (neg_ℤ value -ℤ pos 1)
