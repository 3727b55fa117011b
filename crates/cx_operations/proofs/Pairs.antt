-- Operators whose left operand is a pointer.
use Rattle.std.proofs.Common.{◌≡◌, refl, sym, ap, subst, ℕ, ℤ, Option, Result}
use Rattle.cr_base.specs.declared.layout.Laid.{Laid}
use Rattle.cx_access.specs.declared.trouble.Trouble.{Trouble}
use Rattle.cx_access.specs.Finds.{Finds}
use Rattle.cx_mean.specs.Operands.{CWhy}
use Rattle.cx_core.specs.declared.expr.Op2.{Op2}
use Rattle.cx_core.specs.declared.expr.Op2.TheVariants as op
use Rattle.cx_core.specs.Trees.{CTy, form_of_type}
use Rattle.cx_mean.specs.Settings.{CSetting, element_extent}
use Rattle.cx_mean.specs.Values.{CTyped, binary_value}
use Rattle.cx_operations.specs.Parts.{pointer_with}
use Rattle.cx_operations.specs.Told.{IsNumber}
use Rattle.mem_bytes.specs.declared.value.Ptr.{Ptr}
use Rattle.mem_bytes.specs.declared.value.Value.{Value}
use Rattle.mem_bytes.specs.declared.value.Value.TheVariants.{Whole as Number, Null, Object as Pointer, Code as Function}
use Rattle.mem_bytes.specs.Memory.{Blocks}

pub null_first : (setting : CSetting) (which : Op2) (type left right : CTy) (blocks : Blocks) (second : Value) →
    binary_value setting which type blocks (record { type = left; value = Null }) (record { type = right; value = second }) ≡
    pointer_with which (element_extent setting (form_of_type left)) blocks Null second
null_first setting op.Multiply type left right blocks (Number count) = refl
null_first setting op.Multiply type left right blocks Null = refl
null_first setting op.Multiply type left right blocks (Pointer other) = refl
null_first setting op.Multiply type left right blocks (Function code) = refl
null_first setting op.Divide type left right blocks (Number count) = refl
null_first setting op.Divide type left right blocks Null = refl
null_first setting op.Divide type left right blocks (Pointer other) = refl
null_first setting op.Divide type left right blocks (Function code) = refl
null_first setting op.Remainder type left right blocks (Number count) = refl
null_first setting op.Remainder type left right blocks Null = refl
null_first setting op.Remainder type left right blocks (Pointer other) = refl
null_first setting op.Remainder type left right blocks (Function code) = refl
null_first setting op.Add type left right blocks (Number count) = refl
null_first setting op.Add type left right blocks Null = refl
null_first setting op.Add type left right blocks (Pointer other) = refl
null_first setting op.Add type left right blocks (Function code) = refl
null_first setting op.Subtract type left right blocks (Number count) = refl
null_first setting op.Subtract type left right blocks Null = refl
null_first setting op.Subtract type left right blocks (Pointer other) = refl
null_first setting op.Subtract type left right blocks (Function code) = refl
null_first setting op.ShiftLeft type left right blocks (Number count) = refl
null_first setting op.ShiftLeft type left right blocks Null = refl
null_first setting op.ShiftLeft type left right blocks (Pointer other) = refl
null_first setting op.ShiftLeft type left right blocks (Function code) = refl
null_first setting op.ShiftRight type left right blocks (Number count) = refl
null_first setting op.ShiftRight type left right blocks Null = refl
null_first setting op.ShiftRight type left right blocks (Pointer other) = refl
null_first setting op.ShiftRight type left right blocks (Function code) = refl
null_first setting op.Less type left right blocks (Number count) = refl
null_first setting op.Less type left right blocks Null = refl
null_first setting op.Less type left right blocks (Pointer other) = refl
null_first setting op.Less type left right blocks (Function code) = refl
null_first setting op.Greater type left right blocks (Number count) = refl
null_first setting op.Greater type left right blocks Null = refl
null_first setting op.Greater type left right blocks (Pointer other) = refl
null_first setting op.Greater type left right blocks (Function code) = refl
null_first setting op.LessOrEqual type left right blocks (Number count) = refl
null_first setting op.LessOrEqual type left right blocks Null = refl
null_first setting op.LessOrEqual type left right blocks (Pointer other) = refl
null_first setting op.LessOrEqual type left right blocks (Function code) = refl
null_first setting op.GreaterOrEqual type left right blocks (Number count) = refl
null_first setting op.GreaterOrEqual type left right blocks Null = refl
null_first setting op.GreaterOrEqual type left right blocks (Pointer other) = refl
null_first setting op.GreaterOrEqual type left right blocks (Function code) = refl
null_first setting op.Equal type left right blocks (Number count) = refl
null_first setting op.Equal type left right blocks Null = refl
null_first setting op.Equal type left right blocks (Pointer other) = refl
null_first setting op.Equal type left right blocks (Function code) = refl
null_first setting op.NotEqual type left right blocks (Number count) = refl
null_first setting op.NotEqual type left right blocks Null = refl
null_first setting op.NotEqual type left right blocks (Pointer other) = refl
null_first setting op.NotEqual type left right blocks (Function code) = refl
null_first setting op.BitAnd type left right blocks (Number count) = refl
null_first setting op.BitAnd type left right blocks Null = refl
null_first setting op.BitAnd type left right blocks (Pointer other) = refl
null_first setting op.BitAnd type left right blocks (Function code) = refl
null_first setting op.BitXor type left right blocks (Number count) = refl
null_first setting op.BitXor type left right blocks Null = refl
null_first setting op.BitXor type left right blocks (Pointer other) = refl
null_first setting op.BitXor type left right blocks (Function code) = refl
null_first setting op.BitOr type left right blocks (Number count) = refl
null_first setting op.BitOr type left right blocks Null = refl
null_first setting op.BitOr type left right blocks (Pointer other) = refl
null_first setting op.BitOr type left right blocks (Function code) = refl

pub object_first : (setting : CSetting) (which : Op2) (type left right : CTy) (blocks : Blocks) (at : Ptr) (second : Value) →
    binary_value setting which type blocks (record { type = left; value = (Pointer at) }) (record { type = right; value = second }) ≡
    pointer_with which (element_extent setting (form_of_type left)) blocks (Pointer at) second
object_first setting op.Multiply type left right blocks at (Number count) = refl
object_first setting op.Multiply type left right blocks at Null = refl
object_first setting op.Multiply type left right blocks at (Pointer other) = refl
object_first setting op.Multiply type left right blocks at (Function code) = refl
object_first setting op.Divide type left right blocks at (Number count) = refl
object_first setting op.Divide type left right blocks at Null = refl
object_first setting op.Divide type left right blocks at (Pointer other) = refl
object_first setting op.Divide type left right blocks at (Function code) = refl
object_first setting op.Remainder type left right blocks at (Number count) = refl
object_first setting op.Remainder type left right blocks at Null = refl
object_first setting op.Remainder type left right blocks at (Pointer other) = refl
object_first setting op.Remainder type left right blocks at (Function code) = refl
object_first setting op.Add type left right blocks at (Number count) = refl
object_first setting op.Add type left right blocks at Null = refl
object_first setting op.Add type left right blocks at (Pointer other) = refl
object_first setting op.Add type left right blocks at (Function code) = refl
object_first setting op.Subtract type left right blocks at (Number count) = refl
object_first setting op.Subtract type left right blocks at Null = refl
object_first setting op.Subtract type left right blocks at (Pointer other) = refl
object_first setting op.Subtract type left right blocks at (Function code) = refl
object_first setting op.ShiftLeft type left right blocks at (Number count) = refl
object_first setting op.ShiftLeft type left right blocks at Null = refl
object_first setting op.ShiftLeft type left right blocks at (Pointer other) = refl
object_first setting op.ShiftLeft type left right blocks at (Function code) = refl
object_first setting op.ShiftRight type left right blocks at (Number count) = refl
object_first setting op.ShiftRight type left right blocks at Null = refl
object_first setting op.ShiftRight type left right blocks at (Pointer other) = refl
object_first setting op.ShiftRight type left right blocks at (Function code) = refl
object_first setting op.Less type left right blocks at (Number count) = refl
object_first setting op.Less type left right blocks at Null = refl
object_first setting op.Less type left right blocks at (Pointer other) = refl
object_first setting op.Less type left right blocks at (Function code) = refl
object_first setting op.Greater type left right blocks at (Number count) = refl
object_first setting op.Greater type left right blocks at Null = refl
object_first setting op.Greater type left right blocks at (Pointer other) = refl
object_first setting op.Greater type left right blocks at (Function code) = refl
object_first setting op.LessOrEqual type left right blocks at (Number count) = refl
object_first setting op.LessOrEqual type left right blocks at Null = refl
object_first setting op.LessOrEqual type left right blocks at (Pointer other) = refl
object_first setting op.LessOrEqual type left right blocks at (Function code) = refl
object_first setting op.GreaterOrEqual type left right blocks at (Number count) = refl
object_first setting op.GreaterOrEqual type left right blocks at Null = refl
object_first setting op.GreaterOrEqual type left right blocks at (Pointer other) = refl
object_first setting op.GreaterOrEqual type left right blocks at (Function code) = refl
object_first setting op.Equal type left right blocks at (Number count) = refl
object_first setting op.Equal type left right blocks at Null = refl
object_first setting op.Equal type left right blocks at (Pointer other) = refl
object_first setting op.Equal type left right blocks at (Function code) = refl
object_first setting op.NotEqual type left right blocks at (Number count) = refl
object_first setting op.NotEqual type left right blocks at Null = refl
object_first setting op.NotEqual type left right blocks at (Pointer other) = refl
object_first setting op.NotEqual type left right blocks at (Function code) = refl
object_first setting op.BitAnd type left right blocks at (Number count) = refl
object_first setting op.BitAnd type left right blocks at Null = refl
object_first setting op.BitAnd type left right blocks at (Pointer other) = refl
object_first setting op.BitAnd type left right blocks at (Function code) = refl
object_first setting op.BitXor type left right blocks at (Number count) = refl
object_first setting op.BitXor type left right blocks at Null = refl
object_first setting op.BitXor type left right blocks at (Pointer other) = refl
object_first setting op.BitXor type left right blocks at (Function code) = refl
object_first setting op.BitOr type left right blocks at (Number count) = refl
object_first setting op.BitOr type left right blocks at Null = refl
object_first setting op.BitOr type left right blocks at (Pointer other) = refl
object_first setting op.BitOr type left right blocks at (Function code) = refl

pub code_first : (setting : CSetting) (which : Op2) (type left right : CTy) (blocks : Blocks) (number : ℕ) (second : Value) →
    binary_value setting which type blocks (record { type = left; value = (Function number) }) (record { type = right; value = second }) ≡
    pointer_with which (element_extent setting (form_of_type left)) blocks (Function number) second
code_first setting op.Multiply type left right blocks number (Number count) = refl
code_first setting op.Multiply type left right blocks number Null = refl
code_first setting op.Multiply type left right blocks number (Pointer other) = refl
code_first setting op.Multiply type left right blocks number (Function code) = refl
code_first setting op.Divide type left right blocks number (Number count) = refl
code_first setting op.Divide type left right blocks number Null = refl
code_first setting op.Divide type left right blocks number (Pointer other) = refl
code_first setting op.Divide type left right blocks number (Function code) = refl
code_first setting op.Remainder type left right blocks number (Number count) = refl
code_first setting op.Remainder type left right blocks number Null = refl
code_first setting op.Remainder type left right blocks number (Pointer other) = refl
code_first setting op.Remainder type left right blocks number (Function code) = refl
code_first setting op.Add type left right blocks number (Number count) = refl
code_first setting op.Add type left right blocks number Null = refl
code_first setting op.Add type left right blocks number (Pointer other) = refl
code_first setting op.Add type left right blocks number (Function code) = refl
code_first setting op.Subtract type left right blocks number (Number count) = refl
code_first setting op.Subtract type left right blocks number Null = refl
code_first setting op.Subtract type left right blocks number (Pointer other) = refl
code_first setting op.Subtract type left right blocks number (Function code) = refl
code_first setting op.ShiftLeft type left right blocks number (Number count) = refl
code_first setting op.ShiftLeft type left right blocks number Null = refl
code_first setting op.ShiftLeft type left right blocks number (Pointer other) = refl
code_first setting op.ShiftLeft type left right blocks number (Function code) = refl
code_first setting op.ShiftRight type left right blocks number (Number count) = refl
code_first setting op.ShiftRight type left right blocks number Null = refl
code_first setting op.ShiftRight type left right blocks number (Pointer other) = refl
code_first setting op.ShiftRight type left right blocks number (Function code) = refl
code_first setting op.Less type left right blocks number (Number count) = refl
code_first setting op.Less type left right blocks number Null = refl
code_first setting op.Less type left right blocks number (Pointer other) = refl
code_first setting op.Less type left right blocks number (Function code) = refl
code_first setting op.Greater type left right blocks number (Number count) = refl
code_first setting op.Greater type left right blocks number Null = refl
code_first setting op.Greater type left right blocks number (Pointer other) = refl
code_first setting op.Greater type left right blocks number (Function code) = refl
code_first setting op.LessOrEqual type left right blocks number (Number count) = refl
code_first setting op.LessOrEqual type left right blocks number Null = refl
code_first setting op.LessOrEqual type left right blocks number (Pointer other) = refl
code_first setting op.LessOrEqual type left right blocks number (Function code) = refl
code_first setting op.GreaterOrEqual type left right blocks number (Number count) = refl
code_first setting op.GreaterOrEqual type left right blocks number Null = refl
code_first setting op.GreaterOrEqual type left right blocks number (Pointer other) = refl
code_first setting op.GreaterOrEqual type left right blocks number (Function code) = refl
code_first setting op.Equal type left right blocks number (Number count) = refl
code_first setting op.Equal type left right blocks number Null = refl
code_first setting op.Equal type left right blocks number (Pointer other) = refl
code_first setting op.Equal type left right blocks number (Function code) = refl
code_first setting op.NotEqual type left right blocks number (Number count) = refl
code_first setting op.NotEqual type left right blocks number Null = refl
code_first setting op.NotEqual type left right blocks number (Pointer other) = refl
code_first setting op.NotEqual type left right blocks number (Function code) = refl
code_first setting op.BitAnd type left right blocks number (Number count) = refl
code_first setting op.BitAnd type left right blocks number Null = refl
code_first setting op.BitAnd type left right blocks number (Pointer other) = refl
code_first setting op.BitAnd type left right blocks number (Function code) = refl
code_first setting op.BitXor type left right blocks number (Number count) = refl
code_first setting op.BitXor type left right blocks number Null = refl
code_first setting op.BitXor type left right blocks number (Pointer other) = refl
code_first setting op.BitXor type left right blocks number (Function code) = refl
code_first setting op.BitOr type left right blocks number (Number count) = refl
code_first setting op.BitOr type left right blocks number Null = refl
code_first setting op.BitOr type left right blocks number (Pointer other) = refl
code_first setting op.BitOr type left right blocks number (Function code) = refl

module _ (result : Result Value Trouble) (setting : CSetting) (which : Op2) (type : CTy) (left right : CTyped) (blocks : Blocks) where
  pub by_null : (laid : Option Laid) → left.value ≡ Null → laid ≡ element_extent setting (form_of_type left.type) →
      Finds (λ (one : Value). one) result (pointer_with which laid blocks left.value right.value) → Finds (λ (one : Value). one) result (binary_value setting which type blocks left right)
  by_null laid is laid_is found = subst (λ (outcome : Result Value CWhy). Finds (λ (one : Value). one) result outcome)
      (rw (laid_is, is) (sym (null_first setting which type left.type right.type blocks right.value))) found
