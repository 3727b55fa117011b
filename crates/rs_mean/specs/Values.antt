-- What operators and methods give of values (the Rust Reference, "Operator expressions" and "Type cast expressions"; `core`, `pointer` and
-- `Option`). A value carries its type. What no well-typed crate has is `WrongCall`.
use Rattle.std.specs.Prelude.{zero, Bool, true, false, not, ℤ, pos, ◌*ℤ◌, neg_ℤ, Option, Some, None, Result, Ok, Err, if◌then◌else◌}
use Rattle.cr_base.specs.Scalar.{converted}
use Rattle.cr_base.specs.declared.layout.Laid.{Laid}
use Rattle.mem_bytes.specs.Memory.{Blocks}
use Rattle.mem_bytes.specs.Pointers.{moved, distance, difference, are_equal}
use Rattle.mem_bytes.specs.declared.value.Value.{Value}
use Rattle.mem_bytes.specs.declared.value.Value.TheVariants.{Whole, Null}
use Rattle.rs_text.specs.declared.integer.IntegerTy.{IntegerTy}
use Rattle.rs_text.specs.declared.integer.IntegerTy.TheVariants.{Isize}
use Rattle.rs_text.specs.declared.operator.Operator.{Operator}
use Rattle.rs_text.specs.declared.operator.Operator.TheVariants.{Equal, NotEqual}
use Rattle.rs_text.specs.declared.operator.Wrapping.{Wrapping}
use Rattle.rs_text.specs.Tree.{Ty, Integer, Boolean, Pointer, Code}
use Rattle.rs_mean.specs.declared.cause.Cause.{Cause}
use Rattle.rs_mean.specs.declared.cause.Cause.TheVariants.{Overflow, WrongCall}
use Rattle.rs_mean.specs.Numbers.{number_of_truth, checked, wrapped_in, is_comparison, compared, computed, computed_truth, wrapping, complement}
use Rattle.rs_mean.specs.Scalars.{integer_scalar}
use Rattle.rs_mean.specs.World.{cause_of_pointer, or_cause}

-- a value and its type
pub record Typed : Type 0 where
  pub ty : Ty
  pub value : Value

abbrev pub typed : Ty → Value → Typed
typed ty value = record { ty = ty; value = value }

abbrev pub truth : Bool → Typed
truth test = typed Boolean (Whole (number_of_truth test))

-- ---- numbers

abbrev pub numbered : IntegerTy → Result ℤ Cause → Result Typed Cause
numbered ty (Ok number) = Ok (typed (Integer ty) (Whole number))
numbered ty (Err why) = Err why

abbrev pub judged : Result ℤ Cause → Result Typed Cause
judged (Ok number) = Ok (typed Boolean (Whole number))
judged (Err why) = Err why

-- an operator between two integers, or between two truth values
abbrev pub on_integers : Operator → IntegerTy → ℤ → ℤ → Result Typed Cause
on_integers operator ty left right =
    if is_comparison operator then Ok (truth (compared operator left right)) else numbered ty (computed operator ty left right)

abbrev pub on_truths : Operator → ℤ → ℤ → Result Typed Cause
on_truths operator left right =
    if is_comparison operator then Ok (truth (compared operator left right)) else judged (computed_truth operator left right)

-- ---- pointers

-- the order of two pointers within one object is that of their offsets
abbrev pub ordered : Operator → Result ℤ Cause → Result Typed Cause
ordered operator (Ok bytes) = Ok (truth (compared operator bytes (pos 0)))
ordered operator (Err why) = Err why

-- `==` and `!=` are told of all pointers, the other comparisons within one object
abbrev pub on_pointers : Blocks → Operator → Value → Value → Result Typed Cause
on_pointers blocks Equal left right = Ok (truth (are_equal left right))
on_pointers blocks NotEqual left right = Ok (truth (not (are_equal left right)))
on_pointers blocks operator left right =
    if is_comparison operator then ordered operator (or_cause cause_of_pointer (distance blocks left right)) else Err WrongCall

abbrev pub on_functions : Operator → Value → Value → Result Typed Cause
on_functions Equal left right = Ok (truth (are_equal left right))
on_functions NotEqual left right = Ok (truth (not (are_equal left right)))
on_functions operator left right = Err WrongCall

-- ---- operators with two operands

abbrev pub by_type : Blocks → Operator → Ty → Value → Value → Result Typed Cause
by_type blocks operator (Integer ty) (Whole left) (Whole right) = on_integers operator ty left right
by_type blocks operator Boolean (Whole left) (Whole right) = on_truths operator left right
by_type blocks operator (Pointer target) left right = on_pointers blocks operator left right
by_type blocks operator (Code params result) left right = on_functions operator left right
by_type blocks operator _ left right = Err WrongCall

abbrev pub binary_of : Blocks → Operator → Typed → Typed → Result Typed Cause
binary_of blocks operator left right = by_type blocks operator left.ty left.value right.value

abbrev pub wrapped_by_type : Wrapping → Ty → Value → Value → Result Typed Cause
wrapped_by_type operation (Integer ty) (Whole left) (Whole right) = Ok (typed (Integer ty) (Whole (wrapping operation ty left right)))
wrapped_by_type operation _ left right = Err WrongCall

abbrev pub wrapping_of : Wrapping → Typed → Typed → Result Typed Cause
wrapping_of operation left right = wrapped_by_type operation left.ty left.value right.value

-- ---- operators with one operand

abbrev pub neg_by_type : Ty → Value → Result Typed Cause
neg_by_type (Integer ty) (Whole number) = numbered ty (checked Overflow ty (neg_ℤ number))
neg_by_type _ value = Err WrongCall

abbrev pub neg_of : Typed → Result Typed Cause
neg_of operand = neg_by_type operand.ty operand.value

abbrev pub wrapping_neg_by_type : Ty → Value → Result Typed Cause
wrapping_neg_by_type (Integer ty) (Whole number) = Ok (typed (Integer ty) (Whole (wrapped_in ty (neg_ℤ number))))
wrapping_neg_by_type _ value = Err WrongCall

abbrev pub wrapping_neg_of : Typed → Result Typed Cause
wrapping_neg_of operand = wrapping_neg_by_type operand.ty operand.value

-- `!`: the bits of an integer turned, the opposite of a truth value
abbrev pub not_by_type : Ty → Value → Result Typed Cause
not_by_type (Integer ty) (Whole number) = Ok (typed (Integer ty) (Whole (complement ty number)))
not_by_type Boolean (Whole (pos zero)) = Ok (truth true)
not_by_type Boolean (Whole number) = Ok (truth false)
not_by_type _ value = Err WrongCall

abbrev pub not_of : Typed → Result Typed Cause
not_of operand = not_by_type operand.ty operand.value

-- `as`: an integer or `bool` becomes an integer modulo 2 to its width, a raw pointer one of another type
abbrev pub cast_by_type : Ty → Ty → Value → Result Typed Cause
cast_by_type (Integer from) (Integer ty) (Whole number) = Ok (typed (Integer ty) (Whole (converted (integer_scalar ty) number)))
cast_by_type Boolean (Integer ty) (Whole number) = Ok (typed (Integer ty) (Whole (converted (integer_scalar ty) number)))
cast_by_type (Pointer from) (Pointer target) value = Ok (typed (Pointer target) value)
cast_by_type from ty value = Err WrongCall

abbrev pub cast_of : Ty → Typed → Result Typed Cause
cast_of ty operand = cast_by_type operand.ty ty operand.value

-- the same bits as a function pointer of another type
abbrev pub transmuted_to : Ty → Ty → Value → Result Typed Cause
transmuted_to (Code params result) (Code other_params other_result) value = Ok (typed (Code other_params other_result) value)
transmuted_to from to value = Err WrongCall

abbrev pub transmuted : Ty → Typed → Result Typed Cause
transmuted to operand = transmuted_to operand.ty to operand.value

-- ---- methods of pointers

abbrev pub is_null_value : Value → Bool
is_null_value Null = true
is_null_value _ = false

abbrev pub null_by_type : Ty → Value → Result Typed Cause
null_by_type (Pointer target) value = Ok (truth (is_null_value value))
null_by_type _ value = Err WrongCall

abbrev pub is_null_of : Typed → Result Typed Cause
is_null_of operand = null_by_type operand.ty operand.value

abbrev pub none_by_type : Ty → Value → Result Typed Cause
none_by_type (Code params result) value = Ok (truth (is_null_value value))
none_by_type _ value = Err WrongCall

abbrev pub is_none_of : Typed → Result Typed Cause
is_none_of operand = none_by_type operand.ty operand.value

abbrev pub pointing : Ty → Result Value Cause → Result Typed Cause
pointing target (Ok value) = Ok (typed (Pointer target) value)
pointing target (Err why) = Err why

-- a pointer moved by so many values of its target
abbrev pub offset_by : Blocks → Ty → Option Laid → Value → Value → Result Typed Cause
offset_by blocks target (Some laid) at (Whole count) =
    pointing target (or_cause cause_of_pointer (moved blocks at (count *ℤ pos laid.size)))
offset_by blocks target laid at count = Err WrongCall

abbrev pub offset_by_type : (Ty → Option Laid) → Blocks → Ty → Value → Value → Result Typed Cause
offset_by_type layout blocks (Pointer target) at count = offset_by blocks target (layout target) at count
offset_by_type layout blocks _ at count = Err WrongCall

abbrev pub offset_of : (Ty → Option Laid) → Blocks → Typed → Typed → Result Typed Cause
offset_of layout blocks operand count = offset_by_type layout blocks operand.ty operand.value count.value

abbrev pub counted : Result ℤ Cause → Result Typed Cause
counted count = numbered Isize count

-- how many values of its target a pointer is behind another
abbrev pub apart_by : Blocks → Option Laid → Value → Value → Result Typed Cause
apart_by blocks (Some laid) first second = counted (or_cause cause_of_pointer (difference blocks laid.size first second))
apart_by blocks None first second = Err WrongCall

abbrev pub apart_by_type : (Ty → Option Laid) → Blocks → Ty → Value → Value → Result Typed Cause
apart_by_type layout blocks (Pointer target) first second = apart_by blocks (layout target) first second
apart_by_type layout blocks _ first second = Err WrongCall

abbrev pub offset_from_of : (Ty → Option Laid) → Blocks → Typed → Typed → Result Typed Cause
offset_from_of layout blocks operand other = apart_by_type layout blocks operand.ty operand.value other.value

-- ---- tests

abbrev pub test_by_type : Ty → Value → Result Bool Cause
test_by_type Boolean (Whole (pos zero)) = Ok false
test_by_type Boolean (Whole number) = Ok true
test_by_type _ value = Err WrongCall

-- what a condition says
abbrev pub test_of : Typed → Result Bool Cause
test_of operand = test_by_type operand.ty operand.value
