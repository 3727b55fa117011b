-- Conversions of values.
use Rattle.std.proofs.Common.{◌≡◌, ℕ, Bool, true, false, if◌then◌else◌, ℤ, Option, Some, None, option_map, IsSome, slice_get, Result, Ok, Err, refl, sym, ap, subst, ◌∙◌}
use Rattle.cr_base.specs.Scalar.{IsInteger, IsInRange, converted}
use Rattle.cr_base.specs.declared.rule.URule.TheVariants.{U11}
use Rattle.cr_base.specs.declared.scalar.Scalar.{Scalar}
use Rattle.cr_base.specs.declared.scalar.Scalar.TheVariants.{Truth, Whole, Object, Code}
use Rattle.cx_core.specs.Conversions.{scalar_of, scalar_of_basic, scalar_of_pointer, basic_of_enum, IsIntegerType, IsScalarType}
use Rattle.cx_core.specs.declared.ty.Basic.{Basic}
use Rattle.cx_core.specs.declared.ty.Basic.TheVariants as basics
use Rattle.cx_core.specs.Trees.{CTy, ty, CTyForm, void, basic, enum_type, pointer, array, record_type, function, form_of_type, CTypes, CProgram}
use Rattle.cx_core.specs.Typing.{IsConversion}
use Rattle.cx_mean.specs.Operands.{CValue, scalar, by_pointers}
use Rattle.cx_mean.specs.Settings.{setting_of}
use Rattle.cx_mean.specs.Values.{is_of_kind, is_true, number_in, to_scalar, converted_scalar, converted_value}
use Rattle.cx_numbers.specs.Numbers.{CWhy, breaks, stuck, number_of_truth}
use Rattle.mem_bytes.specs.Access.{and_then}
use Rattle.mem_bytes.specs.Coding.{IsValueOf}
use Rattle.mem_bytes.specs.declared.value.Ptr.{Ptr}
use Rattle.mem_bytes.specs.declared.value.Value.{Value}
use Rattle.mem_bytes.specs.declared.value.Value.TheVariants.{Whole as Number, Null, Object as Pointer, Code as Function}
use Rattle.mem_bytes.specs.Memory.{Block, Blocks, live_block}
use Rattle.mem_bytes.specs.Pointers.{live_size, usable}
use Rattle.cx_typed_values.specs.Outcomes.{Comes}
use Rattle.cx_typed_values.specs.Values.{IsNear, IsScalarOf, IsConvertedTo, ConversionsGiveValues}
use Rattle.cx_typed_values.proofs.Ranges.{converted_in_range}
use Rattle.cx_typed_values.proofs.ScalarKinds.{IsNumber, number_of_kind, same_kind, basic_integer, IsIntegerKind, integer_kind}
use Rattle.cx_typed_values.proofs.UnaryValues.{truth_of_value}

-- ---- to `_Bool`

truth_in_kind : (holds : Bool) → IsInRange Truth (number_of_truth holds)
truth_in_kind true = converted_in_range Truth (number_of_truth true) tt
truth_in_kind false = converted_in_range Truth (number_of_truth false) tt

-- a value that a conversion to a kind gives
pub record IsOf (kind : Scalar) (value : Value) : Type 0 where
  pub of_kind : IsValueOf kind value
  pub near : IsNear value

truth_comes : (found : Result Bool CWhy) → Comes (λ (_ : Bool). Unit {0}) found → Comes (IsOf Truth) (and_then found (λ truth. Ok (Number (number_of_truth truth))))
truth_comes (Ok truth) comes = record { of_kind = truth_in_kind truth; near = tt }
truth_comes (Err (breaks rule)) comes = tt
truth_comes (Err stuck) comes = comes

-- ---- to a kind

whole_comes : (width : ℕ) (signed : Bool) (blocks : Blocks) (value : Value) (number : ℤ) → value ≡ Number number → IsInteger (Whole width signed) → Comes (IsOf (Whole width signed)) (to_scalar (Whole width signed) blocks value)
whole_comes width signed blocks value number is integer =
    subst (λ one. Comes (IsOf (Whole width signed)) (to_scalar (Whole width signed) blocks one)) (sym is)
    (record { of_kind = converted_in_range (Whole width signed) number integer; near = tt })

-- a conversion from an integer to a basic type, `_Bool` too
basic_comes : (which : Basic) (blocks : Blocks) (value : Value) (number : ℤ) → value ≡ Number number → Comes (IsOf (scalar_of_basic which)) (to_scalar (scalar_of_basic which) blocks value)
basic_comes basics.Truth blocks value number is = truth_comes (is_true blocks value) (truth_of_value blocks value)
basic_comes basics.Char blocks value number is = whole_comes 8 true blocks value number is refl
basic_comes basics.SignedChar blocks value number is = whole_comes 8 true blocks value number is refl
basic_comes basics.UnsignedChar blocks value number is = whole_comes 8 false blocks value number is refl
basic_comes basics.Short blocks value number is = whole_comes 16 true blocks value number is refl
basic_comes basics.UnsignedShort blocks value number is = whole_comes 16 false blocks value number is refl
basic_comes basics.Int blocks value number is = whole_comes 32 true blocks value number is refl
basic_comes basics.Unsigned blocks value number is = whole_comes 32 false blocks value number is refl
basic_comes basics.Long blocks value number is = whole_comes 64 true blocks value number is refl
basic_comes basics.UnsignedLong blocks value number is = whole_comes 64 false blocks value number is refl
basic_comes basics.LongLong blocks value number is = whole_comes 64 true blocks value number is refl
basic_comes basics.UnsignedLongLong blocks value number is = whole_comes 64 false blocks value number is refl

live_comes : (kind : Scalar) (at : Ptr) (found : Option Block) → IsOf kind (Pointer at) → Comes (IsOf kind) (by_pointers U11 (and_then (live_size found) (λ _. Ok (Pointer at))))
live_comes kind at None is = tt
live_comes kind at (Some block) is = is

object_comes : (blocks : Blocks) (value : Value) → IsOf Object value → Comes (IsOf Object) (to_scalar Object blocks value)
object_comes blocks Null is = is
object_comes blocks (Pointer at) is = live_comes Object at (live_block blocks at.block) is
object_comes blocks (Number number) is = absurd is.of_kind
object_comes blocks (Function number) is = absurd is.of_kind

code_comes : (blocks : Blocks) (value : Value) → IsOf Code value → Comes (IsOf Code) (to_scalar Code blocks value)
code_comes blocks Null is = is
code_comes blocks (Function number) is = is
code_comes blocks (Number number) is = absurd is.of_kind
code_comes blocks (Pointer at) is = absurd is.of_kind

-- between pointers to objects, or between pointers to functions
pointer_comes : (to : CTy) (blocks : Blocks) (value : Value) → IsOf (scalar_of_pointer to) value → Comes (IsOf (scalar_of_pointer to)) (to_scalar (scalar_of_pointer to) blocks value)
pointer_comes (ty (function result params variadic) is_const) blocks value is = code_comes blocks value is
pointer_comes (ty void is_const) blocks value is = object_comes blocks value is
pointer_comes (ty (basic which) is_const) blocks value is = object_comes blocks value is
pointer_comes (ty (enum_type number) is_const) blocks value is = object_comes blocks value is
pointer_comes (ty (pointer to) is_const) blocks value is = object_comes blocks value is
pointer_comes (ty (array element length) is_const) blocks value is = object_comes blocks value is
pointer_comes (ty (record_type number) is_const) blocks value is = object_comes blocks value is

-- ---- to a type

made_by : (types : CTypes) (type : CTy) (kind : Scalar) (found : Result Value CWhy) → scalar_of types (form_of_type type) ≡ Some kind → Comes (IsOf kind) found
    → Comes (IsConvertedTo types type) (and_then found (λ new. Ok (scalar new)))
made_by types type kind (Ok new) e comes = record { kind = kind; kind_is = e; of_kind = comes.of_kind; near = comes.near }
made_by types type kind (Err (breaks rule)) e comes = tt
made_by types type kind (Err stuck) e comes = comes

by_kind : (types : CTypes) (type : CTy) (kind : Scalar) (blocks : Blocks) (value : Value) → scalar_of types (form_of_type type) ≡ Some kind → Comes (IsOf kind) (to_scalar kind blocks value)
    → Comes (IsConvertedTo types type) (converted_scalar (scalar_of types (form_of_type type)) blocks (scalar value))
by_kind types type kind blocks value e comes =
    subst (λ found. Comes (IsConvertedTo types type) (converted_scalar found blocks (scalar value))) (sym e) (made_by types type kind (to_scalar kind blocks value) e comes)

-- the number of an integer type
integer_number : (types : CTypes) (from : CTy) (value : Value) → IsIntegerType types from → IsScalarOf types from value → (number : ℤ) × (value ≡ Number number)
integer_number types from value is given =
    let kind = integer_kind types from is in
    let same : given.kind ≡ scalar_of_basic kind.which = same_kind given.kind (scalar_of_basic kind.which) (sym given.kind_is ∙ kind.kind_is) in
    let one = number_of_kind (scalar_of_basic kind.which) value (basic_integer kind.which) (subst (λ k. IsValueOf k value) same given.of_kind) in
    (one.number, one.is)

to_basic : (types : CTypes) (from : CTy) (which : Basic) (is_const : Bool) (blocks : Blocks) (value : Value) → IsIntegerType types from → IsScalarOf types from value
    → Comes (IsConvertedTo types (ty (basic which) is_const)) (converted_scalar (Some (scalar_of_basic which)) blocks (scalar value))
to_basic types from which is_const blocks value is given =
    let one = integer_number types from value is given in
    made_by types (ty (basic which) is_const) (scalar_of_basic which) (to_scalar (scalar_of_basic which) blocks value) refl (basic_comes which blocks value one.0 one.1)

to_enum : (types : CTypes) (from : CTy) (number : ℕ) (is_const : Bool) (blocks : Blocks) (value : Value) (found : Option Bool) → slice_get types.enums number ≡ found
    → IsSome (option_map (λ is_int. scalar_of_basic (basic_of_enum is_int)) found) → IsIntegerType types from → IsScalarOf types from value
    → Comes (IsConvertedTo types (ty (enum_type number) is_const)) (converted_scalar (scalar_of types (enum_type number)) blocks (scalar value))
to_enum types from number is_const blocks value None e some is given = cc
to_enum types from number is_const blocks value (Some is_int) e some is given =
    let one = integer_number types from value is given in
    by_kind types (ty (enum_type number) is_const) (scalar_of_basic (basic_of_enum is_int)) blocks value (ap (option_map (λ b. scalar_of_basic (basic_of_enum b))) e)
    (basic_comes (basic_of_enum is_int) blocks value one.0 one.1)

to_pointer : (types : CTypes) (from to : CTy) (is_const : Bool) (blocks : Blocks) (value : Value) → scalar_of types (form_of_type from) ≡ Some (scalar_of_pointer to) → IsScalarOf types from value
    → Comes (IsConvertedTo types (ty (pointer to) is_const)) (converted_scalar (Some (scalar_of_pointer to)) blocks (scalar value))
to_pointer types from to is_const blocks value e given =
    let same : given.kind ≡ scalar_of_pointer to = same_kind given.kind (scalar_of_pointer to) (sym given.kind_is ∙ e) in
    made_by types (ty (pointer to) is_const) (scalar_of_pointer to) (to_scalar (scalar_of_pointer to) blocks value) refl
    (pointer_comes to blocks value (record { of_kind = subst (λ k. IsValueOf k value) same given.of_kind; near = given.near }))

scalar_conversions : (program : CProgram) (from type : CTy) (blocks : Blocks) (value : Value) → IsConversion program.types from type → IsScalarType program.types type → IsScalarOf program.types from value
    → Comes (IsConvertedTo program.types type) (converted_value (setting_of program) type blocks (scalar value))
scalar_conversions program from (ty void is_const) blocks value is some given = cc
scalar_conversions program from (ty (basic basics.Truth) is_const) blocks value is some given =
    made_by program.types (ty (basic basics.Truth) is_const) Truth (to_scalar Truth blocks value) refl (truth_comes (is_true blocks value) (truth_of_value blocks value))
scalar_conversions program from (ty (basic basics.Char) is_const) blocks value is some given = to_basic program.types from basics.Char is_const blocks value is.allowed given
scalar_conversions program from (ty (basic basics.SignedChar) is_const) blocks value is some given = to_basic program.types from basics.SignedChar is_const blocks value is.allowed given
scalar_conversions program from (ty (basic basics.UnsignedChar) is_const) blocks value is some given = to_basic program.types from basics.UnsignedChar is_const blocks value is.allowed given
scalar_conversions program from (ty (basic basics.Short) is_const) blocks value is some given = to_basic program.types from basics.Short is_const blocks value is.allowed given
scalar_conversions program from (ty (basic basics.UnsignedShort) is_const) blocks value is some given = to_basic program.types from basics.UnsignedShort is_const blocks value is.allowed given
scalar_conversions program from (ty (basic basics.Int) is_const) blocks value is some given = to_basic program.types from basics.Int is_const blocks value is.allowed given
scalar_conversions program from (ty (basic basics.Unsigned) is_const) blocks value is some given = to_basic program.types from basics.Unsigned is_const blocks value is.allowed given
scalar_conversions program from (ty (basic basics.Long) is_const) blocks value is some given = to_basic program.types from basics.Long is_const blocks value is.allowed given
scalar_conversions program from (ty (basic basics.UnsignedLong) is_const) blocks value is some given = to_basic program.types from basics.UnsignedLong is_const blocks value is.allowed given
scalar_conversions program from (ty (basic basics.LongLong) is_const) blocks value is some given = to_basic program.types from basics.LongLong is_const blocks value is.allowed given
scalar_conversions program from (ty (basic basics.UnsignedLongLong) is_const) blocks value is some given = to_basic program.types from basics.UnsignedLongLong is_const blocks value is.allowed given
scalar_conversions program from (ty (enum_type number) is_const) blocks value is some given =
    to_enum program.types from number is_const blocks value (slice_get program.types.enums number) refl some is.allowed given
scalar_conversions program from (ty (pointer to) is_const) blocks value is some given = to_pointer program.types from to is_const blocks value is.allowed.1 given
scalar_conversions program from (ty (array element length) is_const) blocks value is some given = cc
scalar_conversions program from (ty (record_type number) is_const) blocks value is some given = cc
scalar_conversions program from (ty (function result params variadic) is_const) blocks value is some given = cc

void_conversions : (program : CProgram) (type : CTy) (blocks : Blocks) (value : CValue) → form_of_type type ≡ void
    → Comes (IsConvertedTo program.types type) (converted_value (setting_of program) type blocks value)
void_conversions program (ty void is_const) blocks value e = refl
void_conversions program (ty (basic which) is_const) blocks value e = cc
void_conversions program (ty (enum_type number) is_const) blocks value e = cc
void_conversions program (ty (pointer to) is_const) blocks value e = cc
void_conversions program (ty (array element length) is_const) blocks value e = cc
void_conversions program (ty (record_type number) is_const) blocks value e = cc
void_conversions program (ty (function result params variadic) is_const) blocks value e = cc

pub conversions : ConversionsGiveValues
conversions = record { to_scalar = scalar_conversions; to_void = void_conversions }
