-- Operators and conversions over scalar values, pointers among them (ISO C99, 6.3, 6.5.3.3, 6.5.6, 6.5.8 and 6.5.9).
use Rattle.std.specs.Prelude.{Bool, true, false, not, if◌then◌else◌, ℤ, pos, neg_ℤ, ◌*ℤ◌, int_le, int_lt, Option, Some, None, Result, Ok, Err}
use Rattle.std.specs.Ordering.{int_eq}
use Rattle.cr_base.specs.Scalar.{converted}
use Rattle.cr_base.specs.declared.rule.URule.TheVariants.{U11, U12}
use Rattle.cr_base.specs.declared.scalar.Scalar.{Scalar}
use Rattle.cr_base.specs.declared.scalar.Scalar.TheVariants.{Truth, Whole, Object, Code}
use Rattle.cx_core.specs.declared.expr.Op1.{Op1}
use Rattle.cx_core.specs.declared.expr.Op1.TheVariants.{Not}
use Rattle.cx_core.specs.declared.expr.Op2.{Op2}
use Rattle.cx_core.specs.declared.expr.Op2.TheVariants.{Add, Subtract, Less, Greater, LessOrEqual, GreaterOrEqual, Equal, NotEqual}
use Rattle.cx_core.specs.Trees.{CTy, void, basic, enum_type, pointer, array, record_type, function, form_of_type}
use Rattle.mem_bytes.specs.Pointers.{usable, moved, distance, difference, equality}
use Rattle.cx_numbers.specs.Numbers.{represents, number_of_truth, number_of_binary, number_of_unary}
use Rattle.cx_mean.specs.Operands.{CWhy, stuck, needed, by_pointers, CValue, scalar, missing, scalar_value}
use Rattle.cx_mean.specs.Settings.{CSetting, scalar_in_type, element_extent}
use Rattle.mem_bytes.specs.Access.{and_then}
use Rattle.mem_bytes.specs.declared.value.Value.{Value}
use Rattle.mem_bytes.specs.declared.value.Value.TheVariants.{Whole as Number, Null, Object as Pointer, Code as Function}
use Rattle.mem_bytes.specs.Memory.{Blocks}

-- ---- values of a kind

-- a value is one of a scalar type
abbrev pub is_of_kind : Scalar → Value → Bool
is_of_kind Truth (Number number) = represents Truth number
is_of_kind (Whole width signed) (Number number) = represents (Whole width signed) number
is_of_kind Object Null = true
is_of_kind Object (Pointer at) = true
is_of_kind Code Null = true
is_of_kind Code (Function number) = true
is_of_kind kind value = false

-- the scalar value of a kind that an operand gives
abbrev pub value_of_kind : Scalar → CValue → Result Value CWhy
value_of_kind kind value =
    and_then (scalar_value value) (λ one. if is_of_kind kind one then Ok one else Err stuck)

abbrev pub number_in : Value → Result ℤ CWhy
number_in (Number number) = Ok number
number_in Null = Err stuck
number_in (Pointer at) = Err stuck
number_in (Function number) = Err stuck

-- a value compares unequal to 0 (6.5.3.3p5); that of a pointer to a dead object isn't told
abbrev pub is_not_zero : Value → Bool
is_not_zero (Number number) = not (int_eq number (pos 0))
is_not_zero Null = false
is_not_zero (Pointer at) = true
is_not_zero (Function number) = true

abbrev pub tested_pointer : Blocks → Value → Result Bool CWhy
tested_pointer blocks value = and_then (by_pointers U12 (usable blocks value)) (λ one. Ok (is_not_zero one))

abbrev pub is_true : Blocks → Value → Result Bool CWhy
is_true blocks (Number number) = Ok (is_not_zero (Number number))
is_true blocks Null = Ok (is_not_zero Null)
is_true blocks (Pointer at) = tested_pointer blocks (Pointer at)
is_true blocks (Function number) = Ok (is_not_zero (Function number))

-- ---- operators with one operand

-- `!`, and the arithmetic ones
abbrev pub unary_of : Op1 → Option Scalar → Blocks → Value → Result ℤ CWhy
unary_of Not kind blocks value = and_then (is_true blocks value) (λ truth. Ok (number_of_truth (not truth)))
unary_of op None blocks value = Err stuck
unary_of op (Some kind) blocks value = and_then (number_in value) (number_of_unary op kind)

abbrev pub unary_value : CSetting → Op1 → CTy → Blocks → Value → Result Value CWhy
unary_value setting op type blocks value =
    and_then (unary_of op (scalar_in_type setting type) blocks value) (λ number. Ok (Number number))

-- ---- operators with two operands

-- by how many bytes a number of elements moves a pointer of this type
abbrev pub bytes_of_elements : CSetting → CTy → ℤ → Result ℤ CWhy
bytes_of_elements setting type count =
    and_then (needed (element_extent setting (form_of_type type))) (λ laid. Ok (count *ℤ pos laid.size))

-- a pointer of a type is moved by so many elements (6.5.6p8)
abbrev pub moved_by : CSetting → Blocks → CTy → Value → ℤ → Result Value CWhy
moved_by setting blocks type at count =
    and_then (bytes_of_elements setting type count) (λ bytes. by_pointers U11 (moved blocks at bytes))

abbrev pub pointer_and_number : CSetting → Op2 → Blocks → CTy → Value → ℤ → Result Value CWhy
pointer_and_number setting Add blocks type at count = moved_by setting blocks type at count
pointer_and_number setting Subtract blocks type at count = moved_by setting blocks type at (neg_ℤ count)
pointer_and_number setting op blocks type at count = Err stuck

abbrev pub number_and_pointer : CSetting → Op2 → Blocks → CTy → Value → ℤ → Result Value CWhy
number_and_pointer setting Add blocks type at count = moved_by setting blocks type at count
number_and_pointer setting op blocks type at count = Err stuck

-- two pointers, of which the first has this type
abbrev pub ordered : (ℤ → Bool) → Blocks → Value → Value → Result ℤ CWhy
ordered holds blocks first second =
    and_then (by_pointers U12 (distance blocks first second)) (λ bytes. Ok (number_of_truth (holds bytes)))

abbrev pub differ_by : CSetting → Blocks → CTy → Value → Value → Result ℤ CWhy
differ_by setting blocks type first second =
    and_then (needed (element_extent setting (form_of_type type))) (λ laid.
    by_pointers U11 (difference blocks laid.size first second))

abbrev pub two_pointers : CSetting → Op2 → Blocks → CTy → Value → Value → Result ℤ CWhy
two_pointers setting Subtract blocks type first second = differ_by setting blocks type first second
two_pointers setting Less blocks type first second = ordered (λ bytes. int_lt bytes (pos 0)) blocks first second
two_pointers setting Greater blocks type first second = ordered (λ bytes. int_lt (pos 0) bytes) blocks first second
two_pointers setting LessOrEqual blocks type first second = ordered (λ bytes. int_le bytes (pos 0)) blocks first second
two_pointers setting GreaterOrEqual blocks type first second = ordered (λ bytes. int_le (pos 0) bytes) blocks first second
two_pointers setting Equal blocks type first second =
    and_then (by_pointers U12 (equality blocks first second)) (λ same. Ok (number_of_truth same))
two_pointers setting NotEqual blocks type first second =
    and_then (by_pointers U12 (equality blocks first second)) (λ same. Ok (number_of_truth (not same)))
two_pointers setting op blocks type first second = Err stuck

-- an operand of an operator: a scalar value with its type
pub record CTyped : Type 0 where
  pub type : CTy
  pub value : Value

-- two numbers, in the type of the operator
abbrev pub two_numbers : CSetting → Op2 → CTy → ℤ → ℤ → Result Value CWhy
two_numbers setting op type left right =
    and_then (needed (scalar_in_type setting type)) (λ kind.
    and_then (number_of_binary op kind left right) (λ number. Ok (Number number)))

abbrev pub number_of_pointers : Result ℤ CWhy → Result Value CWhy
number_of_pointers outcome = and_then outcome (λ number. Ok (Number number))

-- what an operator gives, in a type
abbrev pub binary_of : CSetting → Op2 → CTy → Blocks → (left right : CTy) → Value → Value → Result Value CWhy
binary_of setting op type blocks left right (Number one) (Number other) = two_numbers setting op type one other
binary_of setting op type blocks left right (Number one) second = number_and_pointer setting op blocks right second one
binary_of setting op type blocks left right first (Number other) = pointer_and_number setting op blocks left first other
binary_of setting op type blocks left right first second = number_of_pointers (two_pointers setting op blocks left first second)

abbrev pub binary_value : CSetting → Op2 → CTy → Blocks → CTyped → CTyped → Result Value CWhy
binary_value setting op type blocks left right =
    binary_of setting op type blocks left.type right.type left.value right.value

-- ---- conversions (6.3)

-- to an integer type, `_Bool` too
abbrev pub to_number : Scalar → Blocks → Value → Result Value CWhy
to_number Truth blocks value = and_then (is_true blocks value) (λ truth. Ok (Number (number_of_truth truth)))
to_number (Whole width signed) blocks value =
    and_then (number_in value) (λ number. Ok (Number (converted (Whole width signed) number)))
to_number Object blocks value = Err stuck
to_number Code blocks value = Err stuck

-- between pointers to objects, or between pointers to functions; that of a pointer to a dead object isn't told
abbrev pub to_pointer : Scalar → Blocks → Value → Result Value CWhy
to_pointer kind blocks value =
    if is_of_kind kind value then by_pointers U11 (usable blocks value) else Err stuck

abbrev pub to_scalar : Scalar → Blocks → Value → Result Value CWhy
to_scalar Truth blocks value = to_number Truth blocks value
to_scalar (Whole width signed) blocks value = to_number (Whole width signed) blocks value
to_scalar Object blocks value = to_pointer Object blocks value
to_scalar Code blocks value = to_pointer Code blocks value

abbrev pub converted_scalar : Option Scalar → Blocks → CValue → Result CValue CWhy
converted_scalar None blocks value = Err stuck
converted_scalar (Some kind) blocks value =
    and_then (scalar_value value) (λ one. and_then (to_scalar kind blocks one) (λ new. Ok (scalar new)))

-- what a conversion to a type gives; one to `void` takes no value (6.3.2.2)
abbrev pub converted_value : CSetting → CTy → Blocks → CValue → Result CValue CWhy
converted_value setting type blocks value = elim (form_of_type type) as (λ _. Result CValue CWhy) [
  | void ↦ Ok missing
  | basic which ↦ converted_scalar (scalar_in_type setting type) blocks value
  | enum_type number ↦ converted_scalar (scalar_in_type setting type) blocks value
  | pointer to ↦ converted_scalar (scalar_in_type setting type) blocks value
  | array element length ↦ Err stuck
  | record_type number ↦ Err stuck
  | function result params variadic ↦ Err stuck
]
