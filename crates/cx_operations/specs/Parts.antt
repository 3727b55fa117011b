-- Operators by the scalar type of their node, and by the size of what a pointer points to.
use Rattle.std.specs.Prelude.{Bool, not, ℤ, pos, neg_ℤ, ◌*ℤ◌, int_lt, int_le, Option, Some, None, Result, Ok, Err}
use Rattle.cr_base.specs.declared.layout.Laid.{Laid}
use Rattle.cr_base.specs.declared.rule.URule.TheVariants.{U11, U12}
use Rattle.cr_base.specs.declared.scalar.Scalar.{Scalar}
use Rattle.cx_core.specs.declared.expr.Op1.{Op1}
use Rattle.cx_core.specs.declared.expr.Op2.{Op2}
use Rattle.cx_core.specs.declared.expr.Op2.TheVariants.{Add, Subtract, Less, Greater, LessOrEqual, GreaterOrEqual, Equal, NotEqual}
use Rattle.cx_mean.specs.Operands.{CWhy, stuck, needed, by_pointers}
use Rattle.cx_mean.specs.Values.{number_in}
use Rattle.cx_numbers.specs.Numbers.{number_of_binary, number_of_truth, number_of_unary}
use Rattle.mem_bytes.specs.Access.{and_then}
use Rattle.mem_bytes.specs.declared.value.Value.{Value}
use Rattle.mem_bytes.specs.declared.value.Value.TheVariants.{Whole as Number, Null, Object as Pointer, Code as Function}
use Rattle.mem_bytes.specs.Memory.{Blocks}
use Rattle.mem_bytes.specs.Pointers.{moved, distance, difference, equality}

abbrev pub as_number : Result ℤ CWhy → Result Value CWhy
as_number outcome = and_then outcome (λ number. Ok (Number number))

abbrev pub arithmetic_in : Op1 → Option Scalar → Value → Result Value CWhy
arithmetic_in op None value = Err stuck
arithmetic_in op (Some kind) value = as_number (and_then (number_in value) (number_of_unary op kind))

abbrev pub numbers_in : Op2 → Option Scalar → ℤ → ℤ → Result Value CWhy
numbers_in op kind left right = and_then (needed kind) (λ one. and_then (number_of_binary op one left right) (λ number. Ok (Number number)))

-- a pointer moved by so many elements
abbrev pub moved_in : Option Laid → Blocks → Value → ℤ → Result Value CWhy
moved_in laid blocks at count =
    and_then (and_then (needed laid) (λ one. Ok (count *ℤ pos one.size))) (λ bytes. by_pointers U11 (moved blocks at bytes))

abbrev pub pointer_first : Op2 → Option Laid → Blocks → Value → ℤ → Result Value CWhy
pointer_first Add laid blocks at count = moved_in laid blocks at count
pointer_first Subtract laid blocks at count = moved_in laid blocks at (neg_ℤ count)
pointer_first op laid blocks at count = Err stuck

abbrev pub number_first : Op2 → Option Laid → Blocks → Value → ℤ → Result Value CWhy
number_first Add laid blocks at count = moved_in laid blocks at count
number_first op laid blocks at count = Err stuck

abbrev pub judged : Result ℤ CWhy → (ℤ → Bool) → Result ℤ CWhy
judged found holds = and_then found (λ bytes. Ok (number_of_truth (holds bytes)))

abbrev pub apart_in : Option Laid → Blocks → Value → Value → Result ℤ CWhy
apart_in laid blocks first second = and_then (needed laid) (λ one. by_pointers U11 (difference blocks one.size first second))

abbrev pub pointers_in : Op2 → Option Laid → Blocks → Value → Value → Result ℤ CWhy
pointers_in Subtract laid blocks first second = apart_in laid blocks first second
pointers_in Less laid blocks first second = judged (by_pointers U12 (distance blocks first second)) (λ bytes. int_lt bytes (pos 0))
pointers_in Greater laid blocks first second = judged (by_pointers U12 (distance blocks first second)) (λ bytes. int_lt (pos 0) bytes)
pointers_in LessOrEqual laid blocks first second = judged (by_pointers U12 (distance blocks first second)) (λ bytes. int_le bytes (pos 0))
pointers_in GreaterOrEqual laid blocks first second = judged (by_pointers U12 (distance blocks first second)) (λ bytes. int_le (pos 0) bytes)
pointers_in Equal laid blocks first second =
    and_then (by_pointers U12 (equality blocks first second)) (λ same. Ok (number_of_truth same))
pointers_in NotEqual laid blocks first second =
    and_then (by_pointers U12 (equality blocks first second)) (λ same. Ok (number_of_truth (not same)))
pointers_in op laid blocks first second = Err stuck

-- a pointer and any value
abbrev pub pointer_with : Op2 → Option Laid → Blocks → Value → Value → Result Value CWhy
pointer_with op laid blocks at (Number count) = pointer_first op laid blocks at count
pointer_with op laid blocks at Null = as_number (pointers_in op laid blocks at Null)
pointer_with op laid blocks at (Pointer other) = as_number (pointers_in op laid blocks at (Pointer other))
pointer_with op laid blocks at (Function number) = as_number (pointers_in op laid blocks at (Function number))
