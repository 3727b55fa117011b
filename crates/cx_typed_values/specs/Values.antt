-- Values of scalar types (ISO C99, 6.2.5p21, 6.2.6), and what operators and conversions give of them (6.3, 6.5.3.3, 6.5.5 to 6.5.12).
use Rattle.std.specs.Prelude.{◌≡◌, ℕ, ◌≤◌, Bool, Some}
use Rattle.cr_base.specs.declared.scalar.Scalar.{Scalar}
use Rattle.cx_core.specs.Conversions.{scalar_of, IsScalarType}
use Rattle.cx_core.specs.declared.expr.Op1.{Op1}
use Rattle.cx_core.specs.declared.expr.Op2.{Op2}
use Rattle.cx_core.specs.Trees.{CTy, form_of_type, void, CTypes, CProgram}
use Rattle.cx_core.specs.Typing.{IsUnaryOf, IsBinaryOf, IsConversion}
use Rattle.cx_mean.specs.Operands.{CValue, scalar, cells, names, designates, designates_bits, missing}
use Rattle.cx_mean.specs.Settings.{setting_of}
use Rattle.cx_mean.specs.Values.{is_true, unary_value, binary_value, converted_value}
use Rattle.mem_bytes.specs.Coding.{IsValueOf}
use Rattle.mem_bytes.specs.declared.value.Value.{Value}
use Rattle.mem_bytes.specs.declared.value.Value.TheVariants.{Whole as Number, Null, Object as Pointer, Code as Function}
use Rattle.mem_bytes.specs.Memory.{Block, Blocks, live_block, size_of}
use Rattle.cx_typed_values.specs.Outcomes.{Comes}

-- the most bytes of an object of the profile
abbrev pub most_bytes : ℕ
most_bytes = 16777216

-- a pointer leads no further than an object reaches, and one past its end (6.5.6p8)
abbrev pub IsNear : Value → Type 0
IsNear (Pointer at) = at.offset ≤ most_bytes
IsNear Null = Unit {0}
IsNear (Number number) = Unit {0}
IsNear (Function number) = Unit {0}

-- a value of a scalar type, as a store takes it
pub record IsScalarOf (types : CTypes) (type : CTy) (value : Value) : Type 0 where
  pub kind : Scalar
  pub kind_is : scalar_of types (form_of_type type) ≡ Some kind
  pub of_kind : IsValueOf kind value
  pub near : IsNear value

-- no object is larger than the profile allows
pub record AreObjects (blocks : Blocks) : Type 0 where
  pub sizes : (number : ℕ) (block : Block) → live_block blocks number ≡ Some block → size_of block ≤ most_bytes

-- what a conversion gives: a value of the scalar type, or nothing where it goes to `void`
abbrev pub IsConvertedTo : CTypes → CTy → CValue → Type 0
IsConvertedTo types type (scalar value) = IsScalarOf types type value
IsConvertedTo types type missing = form_of_type type ≡ void
IsConvertedTo types type (cells held from) = ⊥
IsConvertedTo types type (names object) = ⊥
IsConvertedTo types type (designates value) = ⊥
IsConvertedTo types type (designates_bits at bit width) = ⊥

-- a value may be compared with 0
abbrev pub TruthsCome : Type 0
TruthsCome = (blocks : Blocks) (value : Value) → Comes (λ (_ : Bool). Unit {0}) (is_true blocks value)

abbrev pub UnaryOperatorsGiveValues : Type 0
UnaryOperatorsGiveValues = (program : CProgram) (op : Op1) (type operand : CTy) (blocks : Blocks) (value : Value)
    → IsUnaryOf program.types op type operand → IsScalarOf program.types operand value
    → Comes (IsScalarOf program.types type) (unary_value (setting_of program) op type blocks value)

-- the memory tells how far a pointer may be moved (6.5.6p8)
abbrev pub BinaryOperatorsGiveValues : Type 0
BinaryOperatorsGiveValues = (program : CProgram) (op : Op2) (type left right : CTy) (blocks : Blocks) (first second : Value) → AreObjects blocks
    → IsBinaryOf program.types op type left right → IsScalarOf program.types left first → IsScalarOf program.types right second
    → Comes (IsScalarOf program.types type) (binary_value (setting_of program) op type blocks (record { type = left; value = first }) (record { type = right; value = second }))

pub record ConversionsGiveValues : Type 0 where
  pub to_scalar : (program : CProgram) (from type : CTy) (blocks : Blocks) (value : Value)
      → IsConversion program.types from type → IsScalarType program.types type → IsScalarOf program.types from value
      → Comes (IsConvertedTo program.types type) (converted_value (setting_of program) type blocks (scalar value))
  pub to_void : (program : CProgram) (type : CTy) (blocks : Blocks) (value : CValue) → form_of_type type ≡ void
      → Comes (IsConvertedTo program.types type) (converted_value (setting_of program) type blocks value)
