-- Numbers of integer types (ISO C99, 6.2.6.2, 6.3.1, 6.5).
use Rattle.std.specs.Prelude.{◌≡◌, ℕ, ℤ, Bool, true, false, IsTrue}
use Rattle.cr_base.specs.Scalar.{is_width, IsInteger, IsInRange, converted}
use Rattle.cr_base.specs.declared.scalar.Scalar.{Scalar}
use Rattle.cr_base.specs.declared.scalar.Scalar.TheVariants.{Whole}
use Rattle.cx_core.specs.declared.expr.Op1.{Op1}
use Rattle.cx_core.specs.declared.expr.Op1.TheVariants.{Not}
use Rattle.cx_core.specs.declared.expr.Op2.{Op2}
use Rattle.cx_core.specs.declared.expr.Op2.TheVariants.{Less, Greater, LessOrEqual, GreaterOrEqual, Equal, NotEqual}
use Rattle.cx_numbers.specs.Numbers.{number_of_binary, number_of_unary, is_shift}
use Rattle.cx_typed_values.specs.Outcomes.{Comes}

abbrev pub int_kind : Scalar
int_kind = Whole 32 true

-- `!` gives an `int` (6.5.3.3p5)
abbrev pub kind_of_unary : Op1 → Scalar → Scalar
kind_of_unary Not kind = int_kind
kind_of_unary _ kind = kind

-- a comparison gives an `int` (6.5.8p6, 6.5.9p3)
abbrev pub kind_of_binary : Op2 → Scalar → Scalar
kind_of_binary Less kind = int_kind
kind_of_binary Greater kind = int_kind
kind_of_binary LessOrEqual kind = int_kind
kind_of_binary GreaterOrEqual kind = int_kind
kind_of_binary Equal kind = int_kind
kind_of_binary NotEqual kind = int_kind
kind_of_binary _ kind = kind

-- the count of a shift has a type of its own (6.5.7p3)
pub record OperatorsGiveNumbers : Type 0 where
  pub unary : (op : Op1) (width : ℕ) (signed : Bool) (value : ℤ) → IsTrue (is_width width) → IsInRange (Whole width signed) value
      → Comes (IsInRange (kind_of_unary op (Whole width signed))) (number_of_unary op (Whole width signed) value)
  pub binary : (op : Op2) (width : ℕ) (signed : Bool) (left right : ℤ) → IsTrue (is_width width) → IsInRange (Whole width signed) left
      → (is_shift op ≡ false → IsInRange (Whole width signed) right)
      → Comes (IsInRange (kind_of_binary op (Whole width signed))) (number_of_binary op (Whole width signed) left right)

abbrev pub ConversionsGiveNumbers : Type 0
ConversionsGiveNumbers = (kind : Scalar) (value : ℤ) → IsInteger kind → IsInRange kind (converted kind value)
