-- Operators with one operand, as one, and numbers as values.
use Rattle.std.specs.Prelude.{ℤ, pos, ◌*ℤ◌, Bool, true, false, Option, Some, None, Result, Ok, Err}
use Rattle.cr_base.specs.declared.layout.Laid.{Laid}
use Rattle.mem_bytes.specs.Memory.{Blocks}
use Rattle.mem_bytes.specs.Pointers.{moved, difference}
use Rattle.mem_bytes.specs.declared.value.Value.{Value}
use Rattle.mem_bytes.specs.declared.value.Value.TheVariants.{Whole, Null}
use Rattle.rs_mean.specs.declared.cause.Cause.{Cause}
use Rattle.rs_mean.specs.declared.cause.Cause.TheVariants.{WrongCall}
use Rattle.rs_mean.specs.Numbers.{compared}
use Rattle.rs_mean.specs.World.{or_cause, cause_of_pointer}
use Rattle.rs_mean.specs.Values.{Typed, typed, truth, wrapping_neg_of, is_null_of, is_none_of, neg_of, not_of, cast_of, transmuted}
use Rattle.rs_text.specs.declared.integer.IntegerTy.{IntegerTy}
use Rattle.rs_text.specs.declared.integer.IntegerTy.TheVariants.{Isize}
use Rattle.rs_text.specs.declared.operator.Operator.{Operator}
use Rattle.rs_text.specs.Tree.{Integer, Boolean, Pointer, Ty}
use Rattle.rs_tree.specs.Views.{ty_view}
use Rattle.rs_value.specs.declared.operators.Unary.{Unary}
use Rattle.rs_value.specs.declared.operators.Unary.TheVariants as unary

-- what an operator with one operand gives
abbrev pub unary_of : Unary → Typed → Result Typed Cause
unary_of unary.WrappingNeg operand = wrapping_neg_of operand
unary_of unary.IsNull operand = is_null_of operand
unary_of unary.IsNone operand = is_none_of operand
unary_of unary.Neg operand = neg_of operand
unary_of unary.Not operand = not_of operand
unary_of (unary.Cast ty) operand = cast_of (ty_view ty.now) operand
unary_of (unary.Transmute to) operand = transmuted (ty_view to.now) operand

-- a number that was found, as a value of an integer type, or of `bool`
abbrev pub numbered : IntegerTy → Result ℤ Cause → Result Typed Cause
numbered ty (Ok number) = Ok (typed (Integer ty) (Whole number))
numbered ty (Err why) = Err why

abbrev pub judged : Result ℤ Cause → Result Typed Cause
judged (Ok number) = Ok (typed Boolean (Whole number))
judged (Err why) = Err why

-- a pointer that was found, to a value of a type
abbrev pub pointing : Ty → Result Value Cause → Result Typed Cause
pointing target (Ok value) = Ok (typed (Pointer target) value)
pointing target (Err why) = Err why

-- the order of two pointers by their distance
abbrev pub ordered : Operator → Result ℤ Cause → Result Typed Cause
ordered operator (Ok bytes) = Ok (truth (compared operator bytes (pos 0)))
ordered operator (Err why) = Err why

-- a pointer moved by so many values of its target, of which the layout is known
abbrev pub offset_by : Blocks → Ty → Option Laid → Value → Value → Result Typed Cause
offset_by blocks target (Some laid) at (Whole count) = pointing target (or_cause cause_of_pointer (moved blocks at (count *ℤ pos laid.size)))
offset_by blocks target laid at count = Err WrongCall

-- how many values of its target a pointer is behind another
abbrev pub apart_by : Blocks → Option Laid → Value → Value → Result Typed Cause
apart_by blocks (Some laid) first second = numbered Isize (or_cause cause_of_pointer (difference blocks laid.size first second))
apart_by blocks None first second = Err WrongCall

abbrev pub is_null : Value → Bool
is_null Null = true
is_null _ = false
