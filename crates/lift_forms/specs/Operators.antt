-- The operators and conversions of C as Rust writes them (ISO C99, 6.3 and 6.5; the Rust Reference, "Operator expressions" and "Type cast expressions"; `core`). Signed
-- `+ - * / %`, unary minus, unsigned `/ %`, bit operators and shifts are plain operators; unsigned `+ - *` and minus are the wrapping calls. Truth values stay `bool`.
use Rattle.std.specs.Prelude.{ℕ, Bool, true, false, if◌then◌else◌, ℤ, pos, neg_ℤ, List, Option, Some, None}
use Rattle.std.specs.Ordering.{int_eq}
use Rattle.cx_core.specs.declared.expr.Op1.{Op1}
use Rattle.cx_core.specs.declared.expr.Op1.TheVariants.{Plus, Minus, Complement, Not as Negates}
use Rattle.cx_core.specs.declared.expr.Op2.{Op2}
use Rattle.cx_core.specs.declared.expr.Op2.TheVariants as op2
use Rattle.rs_mean.specs.Scalars.{fits_integer, is_signed_integer, same_type}
use Rattle.rs_text.specs.declared.integer.IntegerTy.{IntegerTy}
use Rattle.rs_text.specs.declared.integer.IntegerTy.TheVariants.{I32, I64, U32, Isize}
use Rattle.rs_text.specs.declared.operator.Operator.{Operator}
use Rattle.rs_text.specs.declared.operator.Operator.TheVariants as rust
use Rattle.rs_text.specs.declared.operator.Wrapping.{Wrapping}
use Rattle.rs_text.specs.declared.operator.Wrapping.TheVariants.{WrappingAdd, WrappingSub, WrappingMul}
use Rattle.rs_text.specs.Tree.{Ty, Integer, Boolean, Void, Pointer, Array, Code, Record, Expr, Literal, Truth, NoFunction, Read, Wrapped, WrappingNeg, Offset, OffsetFrom, IsNull, IsNone, NullPointer, SomeFunction, Transmute, Neg, Not, Cast, Binary, And, Or, Choose}
use Rattle.lift_forms.specs.Given.{Given, nothing, truth, value, place, number_of}

-- ---- another type

-- `e as T`, or `e` where that is its type
abbrev pub cast_to : (from to : Ty) → Expr → Expr
cast_to from to e = if same_type from to then e else Cast e to

-- the same bits as a function pointer of another type
abbrev pub transmute_to : (from to : Ty) → Expr → Expr
transmute_to from to e = if same_type from to then e else Transmute from to e

-- a value of a scalar type as one of another scalar type
abbrev pub as_type : (from to : Ty) → Expr → Expr
as_type from (Integer which) e = cast_to from (Integer which) e
as_type from Boolean e = e
as_type from Void e = e
as_type from (Pointer target) e = cast_to from (Pointer target) e
as_type from (Array element size) e = e
as_type from (Code params result) e = transmute_to from (Code params result) e
as_type from (Record m x) e = e

-- ---- constants

-- a constant of an integer type, or of `bool`
abbrev pub constant : Ty → ℤ → Expr
constant (Integer which) number = Literal number which
constant Boolean number = Truth (if int_eq number (pos 0) then false else true)
constant _ number = Literal number I32

-- the null pointer of a type: `None` alone has no type
abbrev pub null_of : Ty → Expr
null_of (Pointer target) = NullPointer target
null_of (Code params result) = Transmute (Code params result) (Code params result) NoFunction
null_of _ = NoFunction

-- zero, `false`, null or `None`
abbrev pub zero_of : Ty → Expr
zero_of (Integer which) = Literal (pos 0) which
zero_of Boolean = Truth false
zero_of Void = NoFunction
zero_of (Pointer target) = null_of (Pointer target)
zero_of (Array element size) = NoFunction
zero_of (Code params result) = null_of (Code params result)
zero_of (Record m x) = NoFunction

-- ---- operands

-- what an operand is given as, and its Rust type: that of a truth value is `i32`, as `int` has it
pub record Operand : Type 0 where
  pub ty : Ty
  pub given : Given

-- its value in its Rust type
abbrev pub given_value : Given → Expr
given_value nothing = NoFunction
given_value (truth e) = number_of e
given_value (value e) = e
given_value (place p) = Read p

abbrev pub value_of : Operand → Expr
value_of operand = given_value operand.given

-- its value in an integer type: a truth value goes there at once, from `bool`
abbrev pub integer_as : IntegerTy → Operand → Expr
integer_as which operand = elim operand.given as (λ _. Expr) [
  | nothing ↦ NoFunction
  | truth e ↦ Cast e (Integer which)
  | value e ↦ cast_to operand.ty (Integer which) e
  | place p ↦ cast_to operand.ty (Integer which) (Read p)
]

-- a value compares unequal to 0 (6.5.3.3p5, 6.8.4.1p2)
abbrev pub is_not_zero : Ty → Expr → Expr
is_not_zero (Integer which) e = Binary e rust.NotEqual (Literal (pos 0) which)
is_not_zero Boolean e = e
is_not_zero Void e = e
is_not_zero (Pointer target) e = Not (IsNull e)
is_not_zero (Array element size) e = e
is_not_zero (Code params result) e = Not (IsNone e)
is_not_zero (Record m x) e = e

-- it compares equal to 0
abbrev pub is_zero : Ty → Expr → Expr
is_zero (Integer which) e = Binary e rust.Equal (Literal (pos 0) which)
is_zero Boolean e = Not e
is_zero Void e = e
is_zero (Pointer target) e = IsNull e
is_zero (Array element size) e = e
is_zero (Code params result) e = IsNone e
is_zero (Record m x) e = e

-- an operand as a condition
abbrev pub test_of : Operand → Expr
test_of operand = elim operand.given as (λ _. Expr) [
  | nothing ↦ NoFunction
  | truth e ↦ e
  | value e ↦ is_not_zero operand.ty e
  | place p ↦ is_not_zero operand.ty (Read p)
]

-- the opposite condition
abbrev pub opposite_of : Operand → Expr
opposite_of operand = elim operand.given as (λ _. Expr) [
  | nothing ↦ NoFunction
  | truth e ↦ Not e
  | value e ↦ is_zero operand.ty e
  | place p ↦ is_zero operand.ty (Read p)
]

-- ---- operators with one operand

-- the opposite number, where the type has it
abbrev pub opposite : IntegerTy → ℤ → Option ℤ
opposite which number = if fits_integer which (neg_ℤ number) then Some (neg_ℤ number) else None

abbrev pub literal_or_minus : Option ℤ → IntegerTy → ℤ → Expr
literal_or_minus (Some other) which number = Literal other which
literal_or_minus None which number = Binary (Literal (pos 0) which) rust.Sub (Literal number which)

-- minus a literal is the opposite literal, where there is one
abbrev pub minus_literal : IntegerTy → ℤ → Expr
minus_literal which number = literal_or_minus (opposite which number) which number

-- the number of a literal
abbrev pub literal_number : Expr → Option ℤ
literal_number (Literal number ty) = Some number
literal_number e = None

abbrev pub minus_by : Option ℤ → IntegerTy → Expr → Expr
minus_by (Some number) which e = minus_literal which number
minus_by None which e = Neg e

-- minus a value of a signed type
abbrev pub minus : IntegerTy → Expr → Expr
minus which e = minus_by (literal_number e) which e

abbrev pub negated : Ty → Expr → Expr
negated (Integer which) e = if is_signed_integer which then minus which e else WrappingNeg e
negated _ e = e

-- an operator with one operand, which has the type of the result but for `!`
abbrev pub unary_form : Op1 → Operand → Given
unary_form Plus operand = value (value_of operand)
unary_form Minus operand = value (negated operand.ty (value_of operand))
unary_form Complement operand = value (Not (value_of operand))
unary_form Negates operand = truth (opposite_of operand)

-- ---- operators with two operands

-- `+`, `-` and `*`: modulo 2 to the width where the type is unsigned
abbrev pub summed : IntegerTy → Operator → Wrapping → (left right : Expr) → Expr
summed which operator wrapping left right = if is_signed_integer which then Binary left operator right else Wrapped left wrapping right

-- the operator of Rust that is written for one of C
abbrev pub operator_of : Op2 → Operator
operator_of op2.Multiply = rust.Mul
operator_of op2.Divide = rust.Div
operator_of op2.Remainder = rust.Rem
operator_of op2.Add = rust.Add
operator_of op2.Subtract = rust.Sub
operator_of op2.ShiftLeft = rust.Shl
operator_of op2.ShiftRight = rust.Shr
operator_of op2.Less = rust.Less
operator_of op2.Greater = rust.Greater
operator_of op2.LessOrEqual = rust.LessEqual
operator_of op2.GreaterOrEqual = rust.GreaterEqual
operator_of op2.Equal = rust.Equal
operator_of op2.NotEqual = rust.NotEqual
operator_of op2.BitAnd = rust.BitAnd
operator_of op2.BitXor = rust.BitXor
operator_of op2.BitOr = rust.BitOr

-- and the operation modulo 2 to the width, where there is one
abbrev pub wrapping_of : Op2 → Option Wrapping
wrapping_of op2.Multiply = Some WrappingMul
wrapping_of op2.Add = Some WrappingAdd
wrapping_of op2.Subtract = Some WrappingSub
wrapping_of _ = None

abbrev pub is_comparison : Op2 → Bool
is_comparison op2.Less = true
is_comparison op2.Greater = true
is_comparison op2.LessOrEqual = true
is_comparison op2.GreaterOrEqual = true
is_comparison op2.Equal = true
is_comparison op2.NotEqual = true
is_comparison _ = false

abbrev pub is_shift : Op2 → Bool
is_shift op2.ShiftLeft = true
is_shift op2.ShiftRight = true
is_shift _ = false

-- a shift count is a `u32`
abbrev pub count_of : Operand → Expr
count_of operand = integer_as U32 operand

abbrev pub computed : Option Wrapping → Operator → IntegerTy → (left right : Expr) → Expr
computed (Some wrapping) operator which left right = summed which operator wrapping left right
computed None operator which left right = Binary left operator right

-- an operator between two values
abbrev pub joined : Op2 → IntegerTy → (left right : Expr) → Given
joined op which left right =
    if is_comparison op then truth (Binary left (operator_of op) right) else value (computed (wrapping_of op) (operator_of op) which left right)

-- operands of one integer type, and of a shift the first one
abbrev pub integers_form : Op2 → IntegerTy → (left right : Operand) → Given
integers_form op which left right = joined op which (value_of left) (if is_shift op then count_of right else value_of right)

-- how many elements a pointer is moved by
abbrev pub elements_of : Operand → Expr
elements_of operand = integer_as Isize operand

-- a pointer is moved by a number of elements, or back
abbrev pub moves : Op2 → Bool
moves op2.Add = true
moves op2.Subtract = true
moves _ = false

abbrev pub is_back : Op2 → Bool
is_back op2.Subtract = true
is_back _ = false

abbrev pub moved : Op2 → (at elements : Expr) → Given
moved op at elements = if moves op then value (Offset at (if is_back op then minus Isize elements else elements)) else nothing

-- a pointer and a number, which may be a `_Bool` (6.5.6p8)
abbrev pub moved_form : Op2 → (at count : Operand) → Given
moved_form op at count = moved op (value_of at) (elements_of count)

-- the second of two pointers, in the type of the first
abbrev pub beside : (left right : Operand) → Expr
beside left right = as_type right.ty left.ty (value_of right)

-- two pointers of one type
abbrev pub pointers_joined : Op2 → (left right : Expr) → Given
pointers_joined op left right =
    if is_back op then value (Cast (OffsetFrom left right) (Integer I64))
    else (if is_comparison op then truth (Binary left (operator_of op) right) else nothing)

-- two pointers, both to objects or both to functions (6.5.6p9, 6.5.8p5, 6.5.9p6)
abbrev pub pointers_form : Op2 → (left right : Operand) → Given
pointers_form op left right = pointers_joined op (value_of left) (beside left right)

-- an operator with two operands, by their types
abbrev pub binary_by : Op2 → (one other : Ty) → (left right : Operand) → Given
binary_by op (Integer which) (Integer ty) left right = integers_form op which left right
binary_by op (Pointer target) (Integer ty) left right = moved_form op left right
binary_by op (Integer which) (Pointer target) left right = moved_form op right left
binary_by op (Pointer target) Boolean left right = moved_form op left right
binary_by op Boolean (Pointer target) left right = moved_form op right left
binary_by op (Pointer target) (Pointer other) left right = pointers_form op left right
binary_by op (Code params result) (Code given gives) left right = pointers_form op left right
binary_by op one other left right = nothing

abbrev pub binary_form : Op2 → (left right : Operand) → Given
binary_form op left right = binary_by op left.ty right.ty left right

-- `&&` and `||` (6.5.13, 6.5.14)
abbrev pub and_form : (left right : Operand) → Given
and_form left right = truth (And (test_of left) (test_of right))

abbrev pub or_form : (left right : Operand) → Given
or_form left right = truth (Or (test_of left) (test_of right))

-- `?:` whose operands have values of one type (6.5.15)
abbrev pub choice_form : (condition if_true if_false : Operand) → Given
choice_form condition if_true if_false = value (Choose (test_of condition) (value_of if_true) (value_of if_false))

-- ---- functions

-- a function that a type doesn't tell of: no pointer to it
abbrev pub function_of_type : (m x : List ℕ) → Ty → Expr
function_of_type m x (Code params result) = SomeFunction m x params result
function_of_type m x _ = NoFunction

-- a pointer to a function with the type that its item has; where another is needed (6.3.2.3p8), as the same bits
abbrev pub function_form : (m x : List ℕ) → (kept ty : Ty) → Given
function_form m x kept ty = value (as_type kept ty (function_of_type m x kept))

-- ---- conversions (6.3)

-- a value converted to a scalar type; one to `void` is none
abbrev pub converted : Ty → Operand → Given
converted (Integer which) operand = value (integer_as which operand)
converted Boolean operand = value (test_of operand)
converted Void operand = nothing
converted (Pointer target) operand = value (as_type operand.ty (Pointer target) (value_of operand))
converted (Array element size) operand = nothing
converted (Code params result) operand = value (as_type operand.ty (Code params result) (value_of operand))
converted (Record m x) operand = nothing
