-- What the finished operands of typed expressions give (ISO C99, 6.2.5, 6.3.2.1, 6.5): a value of the type of the expression, or
-- the place of an lvalue.
use Rattle.std.specs.Prelude.{◌≡◌, ◌⊎◌, ℕ, ◌≤◌, zero, suc, Bool, true, false, ◌||◌, Option, Some, None, List, length, All, IsTrue}
use Rattle.cr_base.specs.declared.layout.Laid.{Laid}
use Rattle.cr_base.specs.declared.layout.Spot.{Spot}
use Rattle.cr_base.specs.declared.scalar.Scalar.{Scalar}
use Rattle.cx_core.specs.Conversions.{scalar_of}
use Rattle.cx_core.specs.Trees.{CTy, CTyForm, void, basic, enum_type, pointer, array, record_type, function, form_of_type, CTypes, CProgram, CExpr, expr, CForm, whole, null, object, code, load, deref, member, address, convert, unary, binary, and, or, cond, assign, assign_by, step, call, call_by, comma, literal, type_of}
use Rattle.cx_core.specs.Typing.{CHome, IsTyped, IsLvalue, is_bit_field}
use Rattle.cx_mean.specs.Accesses.{is_field_place}
use Rattle.cx_mean.specs.Operands.{CValue, scalar, cells, names, designates, designates_bits, missing, COperand}
use Rattle.cx_mean.specs.Settings.{setting_of, extent_in}
use Rattle.mem_bytes.specs.Coding.{IsValueOf}
use Rattle.mem_bytes.specs.declared.cell.Cell.{Cell}
use Rattle.mem_bytes.specs.declared.value.Ptr.{Ptr}
use Rattle.mem_bytes.specs.declared.value.Value.{Value}
use Rattle.mem_bytes.specs.declared.value.Value.TheVariants.{Whole as Number, Null, Object as Pointer, Code as Function}
use Rattle.cx_typed_values.specs.Values.{most_bytes}
use Rattle.cx_typed_work.specs.Scenes.{IsLeading, IsTypedCell}

-- ---- values

abbrev pub IsRecordForm : CTyForm → Type 0
IsRecordForm (record_type number) = Unit {0}
IsRecordForm void = ⊥
IsRecordForm (basic which) = ⊥
IsRecordForm (enum_type number) = ⊥
IsRecordForm (pointer to) = ⊥
IsRecordForm (array element length) = ⊥
IsRecordForm (function result params variadic) = ⊥

-- the value of a structure or union has a typed cell for each byte of its type (6.2.6.1p4, p6)
pub record IsRecordOf (program : CProgram) (type : CTy) (held : List Cell) : Type 0 where
  pub is_record : IsRecordForm (form_of_type type)
  pub laid : Laid
  pub laid_is : extent_in (setting_of program) type ≡ Some laid
  pub all : length held ≡ laid.size
  pub typed : All (IsTypedCell program) held

-- a value of a scalar type, as a store takes it (6.2.5p21)
pub record IsScalarIn (program : CProgram) (type : CTy) (value : Value) : Type 0 where
  pub kind : Scalar
  pub kind_is : scalar_of program.types (form_of_type type) ≡ Some kind
  pub of_kind : IsValueOf kind value
  pub leads : IsLeading program value

-- a value of a type (6.2.5p1)
abbrev pub IsValueOfType : CProgram → CTy → CValue → Type 0
IsValueOfType program type (scalar value) = IsScalarIn program type value
IsValueOfType program type (cells held from) = IsRecordOf program type held
IsValueOfType program type (names number) = ⊥
IsValueOfType program type (designates value) = ⊥
IsValueOfType program type (designates_bits at bit width) = ⊥
IsValueOfType program type missing = ⊥

abbrev is_void : CTyForm → Bool
is_void void = true
is_void (basic which) = false
is_void (enum_type number) = false
is_void (pointer to) = false
is_void (array element length) = false
is_void (record_type number) = false
is_void (function result params variadic) = false

abbrev mutual
  -- an expression may give no value: a call of a function that gives none, or that ends without one (6.9.1p12), what is converted
  -- to `void` (6.3.2.2), and what has such a part as its value
  pub may_lack : CExpr → Bool
  may_lack (expr type place form) = may_lack_in type form

  pub may_lack_in : CTy → CForm → Bool
  may_lack_in type (call callee args) = true
  may_lack_in type (call_by callee args) = true
  may_lack_in type (convert value) = is_void (form_of_type type)
  may_lack_in type (cond test first second) = may_lack first || may_lack second
  may_lack_in type (comma first second) = may_lack second
  may_lack_in type _ = false

abbrev pub IsMissing : CValue → Type 0
IsMissing missing = Unit {0}
IsMissing (scalar value) = ⊥
IsMissing (cells held from) = ⊥
IsMissing (names number) = ⊥
IsMissing (designates value) = ⊥
IsMissing (designates_bits at bit width) = ⊥

-- what an expression that isn't an lvalue gives
abbrev pub IsGiven : CProgram → CExpr → CValue → Type 0
IsGiven program node value = IsValueOfType program (type_of node) value ⊎ (IsTrue (may_lack node) × IsMissing value)

-- ---- places

-- a null pointer, or one to an object or one past its end
abbrev pub IsObjectPointer : Value → Type 0
IsObjectPointer (Pointer at) = at.offset ≤ most_bytes
IsObjectPointer Null = Unit {0}
IsObjectPointer (Number number) = ⊥
IsObjectPointer (Function number) = ⊥

abbrev NamesIn : CForm → ℕ → Type 0
NamesIn (object own) number = own ≡ number
NamesIn (literal own puts) number = own ≡ number
NamesIn _ number = ⊥

-- an lvalue names the object
abbrev pub Names : CExpr → ℕ → Type 0
Names (expr type place form) number = NamesIn form number

abbrev spot_in : CForm → Option Spot
spot_in (member of spot) = Some spot
spot_in _ = None

abbrev pub spot_of_member : CExpr → Option Spot
spot_of_member (expr type place form) = spot_in form

-- the place of a bit-field: its own bits, in a byte of an object (6.7.2.1p10)
pub record IsFieldPlace (node : CExpr) (at : Ptr) (bit width : ℕ) : Type 0 where
  pub is_field : is_bit_field node ≡ true
  pub spot : Spot
  pub spot_is : spot_of_member node ≡ Some spot
  pub bit_is : bit ≡ spot.bit
  pub width_is : width ≡ spot.width
  pub of_profile : IsTrue (is_field_place bit width)
  pub near : at.offset ≤ most_bytes

-- what an lvalue gives: the object that it names, what a pointer points to, or a bit-field
abbrev pub IsPlaceOf : CExpr → CValue → Type 0
IsPlaceOf node (names number) = Names node number
IsPlaceOf node (designates value) = (is_bit_field node ≡ false) × IsObjectPointer value
IsPlaceOf node (designates_bits at bit width) = IsFieldPlace node at bit width
IsPlaceOf node (scalar value) = ⊥
IsPlaceOf node (cells held from) = ⊥
IsPlaceOf node missing = ⊥

-- ---- operands

-- what an expression gives, by what it is: an lvalue gives a place (6.3.2.1p1), and any other a value
abbrev pub IsGivenBy : CHome → CExpr → CValue → Type 0
IsGivenBy home node value = (IsLvalue home node × IsPlaceOf node value) ⊎ (IsTyped home node × IsGiven home.program node value)

-- a finished operand of a typed expression
pub record IsOperandOf (home : CHome) (node : CExpr) (operand : COperand) : Type 0 where
  pub type_is : operand.type ≡ type_of node
  pub given : IsGivenBy home node operand.value
