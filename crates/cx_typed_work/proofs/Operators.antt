-- What operators and conversions give as nodes whose operands are typed.
use Rattle.std.proofs.Common.{◌≡◌, ◌⊎◌, inl, inr, ℕ, Bool, true, false, IsTrue, option_map, slice_get, Option, Some, None, IsSome, Result, Ok, Err, refl, sym, ap, subst, ◌∙◌}
use Rattle.cr_base.specs.declared.refusal.Place.{Place}
use Rattle.cr_base.specs.declared.scalar.Scalar.{Scalar}
use Rattle.cr_base.specs.declared.scalar.Scalar.TheVariants.{Truth, Whole, Object, Code}
use Rattle.cx_core.specs.Conversions.{scalar_of, scalar_of_basic, scalar_of_pointer, basic_of_enum, IsIntegerType, IsScalarType, IsPromoted}
use Rattle.cx_core.specs.declared.ty.Basic.{Basic}
use Rattle.cx_core.specs.declared.ty.Basic.TheVariants as basics
use Rattle.cx_core.specs.declared.expr.Op1.{Op1}
use Rattle.cx_core.specs.declared.expr.Op1.TheVariants.{Plus, Minus, Complement, Not}
use Rattle.cx_core.specs.Trees.{CTy, ty, CTyForm, void, basic, enum_type, pointer, array, record_type, function, form_of_type, CTypes, CProgram, CExpr, expr, convert, unary, binary, type_of}
use Rattle.cx_core.specs.Typing.{CHome, types_of_home, IsTyped, IsPointer, IsConversion, IsUnaryOf}
use Rattle.cx_core.specs.ValidTypes.{IsTypeIn, AreTypes}
use Rattle.cx_mean.specs.Operands.{CWhy, breaks, stuck, CValue, scalar, cells, names, designates, designates_bits, missing, scalar_value}
use Rattle.cx_mean.specs.Settings.{setting_of}
use Rattle.cx_mean.specs.Values.{unary_value, to_scalar, converted_scalar, converted_value}
use Rattle.mem_bytes.specs.Access.{and_then}
use Rattle.mem_bytes.specs.Coding.{IsValueOf}
use Rattle.mem_bytes.specs.declared.value.Value.{Value}
use Rattle.mem_bytes.specs.declared.value.Value.TheVariants.{Whole as Number, Null, Object as Pointer, Code as Function}
use Rattle.mem_bytes.specs.Memory.{Blocks}
use Rattle.cx_typed_values.proofs.ConvertedValues.{conversions}
use Rattle.cx_typed_values.proofs.ScalarKinds.{integer_kind, promoted_kind}
use Rattle.cx_typed_values.proofs.UnaryValues.{unary_values}
use Rattle.cx_typed_values.specs.Outcomes.{Comes}
use Rattle.cx_typed_values.specs.Values.{IsNear, IsScalarOf, IsConvertedTo}
use Rattle.cx_typed_work.proofs.Accesses.{beside}
use Rattle.cx_typed_work.proofs.Given.{value_given}
use Rattle.cx_typed_work.proofs.Nodes.{scalar_comes}
use Rattle.cx_typed_work.proofs.Outcomes.{comes_and, comes_as}
use Rattle.cx_typed_work.proofs.Stores.{record_no_scalar}
use Rattle.cx_typed_work.specs.Operands.{IsScalarIn, IsGiven, IsGivenBy}
use Rattle.cx_typed_work.specs.Scenes.{IsLeading}

-- ---- scalar types

pub some_of : {A : Type 0} (found : Option A) (one : A) → found ≡ Some one → IsSome found
some_of found one e = subst IsSome (sym e) refl

pub integer_is_scalar : (types : CTypes) (type : CTy) → IsIntegerType types type → IsScalarType types type
integer_is_scalar types type is = some_of (scalar_of types (form_of_type type)) _ (integer_kind types type is).kind_is

pub pointer_is_scalar : (types : CTypes) (type : CTy) → IsPointer type → IsScalarType types type
pointer_is_scalar types (ty (pointer to) is_const) is = refl
pointer_is_scalar types (ty void is_const) is = absurd is
pointer_is_scalar types (ty (basic which) is_const) is = absurd is
pointer_is_scalar types (ty (enum_type number) is_const) is = absurd is
pointer_is_scalar types (ty (array element length) is_const) is = absurd is
pointer_is_scalar types (ty (record_type number) is_const) is = absurd is
pointer_is_scalar types (ty (function result params variadic) is_const) is = absurd is

-- ---- what leads somewhere

-- a value leads somewhere where its kind isn't that of functions
pub leads_by : (program : CProgram) (kind : Scalar) (value : Value) → IsValueOf kind value → IsNear value → (kind ≡ Code → ⊥) → IsLeading program value
leads_by program kind (Pointer at) of_kind near other = near
leads_by program kind Null of_kind near other = tt
leads_by program kind (Number number) of_kind near other = tt
leads_by program Truth (Function number) of_kind near other = absurd of_kind
leads_by program (Whole width signed) (Function number) of_kind near other = absurd of_kind
leads_by program Object (Function number) of_kind near other = absurd of_kind
leads_by program Code (Function number) of_kind near other = absurd (other refl)

near_by : (program : CProgram) (value : Value) → IsLeading program value → IsNear value
near_by program (Pointer at) leads = leads
near_by program Null leads = tt
near_by program (Number number) leads = tt
near_by program (Function number) leads = tt

-- a value as operators take it, and as they give it
pub scalar_out : (program : CProgram) (type : CTy) (value : Value) → IsScalarIn program type value → IsScalarOf program.types type value
scalar_out program type value is = record { kind = is.kind; kind_is = is.kind_is; of_kind = is.of_kind; near = near_by program value is.leads }

pub scalar_in : (program : CProgram) (type : CTy) (value : Value) → (scalar_of program.types (form_of_type type) ≡ Some Code → ⊥) → IsScalarOf program.types type value → IsScalarIn program type value
scalar_in program type value other is =
    record { kind = is.kind; kind_is = is.kind_is; of_kind = is.of_kind; leads = leads_by program is.kind value is.of_kind is.near (λ code. other (is.kind_is ∙ ap Some code)) }

pub integer_no_code : (types : CTypes) (type : CTy) → IsIntegerType types type → scalar_of types (form_of_type type) ≡ Some Code → ⊥
integer_no_code types type is e =
    let kind = integer_kind types type is in
    by kind.which (sym kind.kind_is ∙ e)
  where
    by : (which : Basic) → Some (scalar_of_basic which) ≡ Some Code → ⊥
    by basics.Truth e' = cc
    by basics.Char e' = cc
    by basics.SignedChar e' = cc
    by basics.UnsignedChar e' = cc
    by basics.Short e' = cc
    by basics.UnsignedShort e' = cc
    by basics.Int e' = cc
    by basics.Unsigned e' = cc
    by basics.Long e' = cc
    by basics.UnsignedLong e' = cc
    by basics.LongLong e' = cc
    by basics.UnsignedLongLong e' = cc

pub promoted_no_code : (types : CTypes) (type : CTy) → IsPromoted type → scalar_of types (form_of_type type) ≡ Some Code → ⊥
promoted_no_code types type is e = let kind = promoted_kind types type is in cc (kind.kind_is, e)

-- ---- conversions (6.3)

-- what a conversion gives, as its node gives it
abbrev pub IsConvertedIn : CProgram → CTy → CValue → Type 0
IsConvertedIn program type (scalar value) = IsScalarIn program type value
IsConvertedIn program type missing = form_of_type type ≡ void
IsConvertedIn program type (cells held from) = ⊥
IsConvertedIn program type (names number) = ⊥
IsConvertedIn program type (designates value) = ⊥
IsConvertedIn program type (designates_bits at bit width) = ⊥

converted_in : (program : CProgram) (type : CTy) (value : CValue) → (scalar_of program.types (form_of_type type) ≡ Some Code → ⊥) → IsConvertedTo program.types type value → IsConvertedIn program type value
converted_in program type (scalar value) other is = scalar_in program type value other is
converted_in program type missing other is = is
converted_in program type (cells held from) other is = is
converted_in program type (names number) other is = is
converted_in program type (designates value) other is = is
converted_in program type (designates_bits at bit width) other is = is

-- a pointer to a function that is converted leads where it did
code_converted : (program : CProgram) (from type : CTy) (blocks : Blocks) (value : Value) → scalar_of program.types (form_of_type type) ≡ Some Code → scalar_of program.types (form_of_type from) ≡ Some Code → IsScalarIn program from value
    → Comes (IsConvertedIn program type) (converted_scalar (Some Code) blocks (scalar value))
code_converted program from type blocks value e same is =
    let kind : is.kind ≡ Code = cc (is.kind_is, same) in
    by value (subst (λ k. IsValueOf k value) kind is.of_kind) is.leads
  where
    by : (one : Value) → IsValueOf Code one → IsLeading program one → Comes (IsConvertedIn program type) (converted_scalar (Some Code) blocks (scalar one))
    by Null of_kind leads = record { kind = Code; kind_is = e; of_kind = tt; leads = tt }
    by (Function number) of_kind leads = record { kind = Code; kind_is = e; of_kind = tt; leads = leads }
    by (Number number) of_kind leads = absurd of_kind
    by (Pointer at) of_kind leads = absurd of_kind

-- nothing has no value that could be converted to a scalar type
missing_converted : (P : CValue → Type 0) (blocks : Blocks) (found : Option Scalar) → IsSome found → Comes P (converted_scalar found blocks missing)
missing_converted P blocks None some = cc
missing_converted P blocks (Some kind) some = tt

-- an operand of scalar type, converted to one
scalar_converted : (program : CProgram) (blocks : Blocks) (from : CExpr) (type : CTy) (value : CValue) → IsConversion program.types (type_of from) type → IsScalarType program.types (type_of from)
    → IsScalarType program.types type → IsGiven program from value → Comes (IsConvertedIn program type) (converted_scalar (scalar_of program.types (form_of_type type)) blocks missing)
    → ((one : Value) → converted_value (setting_of program) type blocks (scalar one) ≡ converted_scalar (scalar_of program.types (form_of_type type)) blocks (scalar one))
    → ((one : Value) → IsScalarIn program (type_of from) one → Comes (IsConvertedTo program.types type) (converted_scalar (scalar_of program.types (form_of_type type)) blocks (scalar one))
    → Comes (IsConvertedIn program type) (converted_scalar (scalar_of program.types (form_of_type type)) blocks (scalar one)))
    → Comes (IsConvertedIn program type) (converted_scalar (scalar_of program.types (form_of_type type)) blocks value)
scalar_converted program blocks from type (scalar value) conversion scalar_from is (inl given) lacks same leads =
    leads value given (subst (Comes (IsConvertedTo program.types type)) (same value) (conversions.to_scalar program (type_of from) type blocks value conversion is (scalar_out program (type_of from) value given)))
scalar_converted program blocks from type (scalar value) conversion scalar_from is (inr given) lacks same leads = absurd given.1
scalar_converted program blocks from type missing conversion scalar_from is given lacks same leads = lacks
scalar_converted program blocks from type (cells held origin) conversion scalar_from is (inl given) lacks same leads =
    absurd (no_record (scalar_of program.types (form_of_type (type_of from))) refl scalar_from)
  where
    no_record : (found : Option Scalar) → scalar_of program.types (form_of_type (type_of from)) ≡ found → IsSome found → ⊥
    no_record None e some = cc
    no_record (Some kind) e some = record_no_scalar program.types (form_of_type (type_of from)) kind given.is_record e
scalar_converted program blocks from type (cells held origin) conversion scalar_from is (inr given) lacks same leads = absurd given.1
scalar_converted program blocks from type (names number) conversion scalar_from is (inl given) lacks same leads = absurd given
scalar_converted program blocks from type (names number) conversion scalar_from is (inr given) lacks same leads = absurd given.1
scalar_converted program blocks from type (designates to) conversion scalar_from is (inl given) lacks same leads = absurd given
scalar_converted program blocks from type (designates to) conversion scalar_from is (inr given) lacks same leads = absurd given.1
scalar_converted program blocks from type (designates_bits at bit width) conversion scalar_from is (inl given) lacks same leads = absurd given
scalar_converted program blocks from type (designates_bits at bit width) conversion scalar_from is (inr given) lacks same leads = absurd given.1

basic_from : (types : CTypes) (from : CTy) (which : Basic) (is_const : Bool) → IsConversion types from (ty (basic which) is_const) → IsScalarType types from
basic_from types from basics.Truth is_const is = is.allowed
basic_from types from basics.Char is_const is = integer_is_scalar types from is.allowed
basic_from types from basics.SignedChar is_const is = integer_is_scalar types from is.allowed
basic_from types from basics.UnsignedChar is_const is = integer_is_scalar types from is.allowed
basic_from types from basics.Short is_const is = integer_is_scalar types from is.allowed
basic_from types from basics.UnsignedShort is_const is = integer_is_scalar types from is.allowed
basic_from types from basics.Int is_const is = integer_is_scalar types from is.allowed
basic_from types from basics.Unsigned is_const is = integer_is_scalar types from is.allowed
basic_from types from basics.Long is_const is = integer_is_scalar types from is.allowed
basic_from types from basics.UnsignedLong is_const is = integer_is_scalar types from is.allowed
basic_from types from basics.LongLong is_const is = integer_is_scalar types from is.allowed
basic_from types from basics.UnsignedLongLong is_const is = integer_is_scalar types from is.allowed

enum_some : (found : Option Bool) → IsSome found → IsSome (option_map (λ is_int. scalar_of_basic (basic_of_enum is_int)) found)
enum_some None some = cc
enum_some (Some is_int) some = refl

converted_each : (program : CProgram) (type : CTy) → (scalar_of program.types (form_of_type type) ≡ Some Code → ⊥) → (value : CValue) → IsConvertedTo program.types type value → IsConvertedIn program type value
converted_each program type other value is = converted_in program type value other is

enum_integer : (found : Option Bool) → IsSome (option_map (λ is_int. scalar_of_basic (basic_of_enum is_int)) found) → IsSome (option_map basic_of_enum found)
enum_integer None some = cc
enum_integer (Some is_int) some = refl

pointer_converted : (program : CProgram) (from to : CTy) (is_const : Bool) (blocks : Blocks) (one : Value) (kind : Scalar) → scalar_of_pointer to ≡ kind
    → scalar_of program.types (form_of_type from) ≡ scalar_of program.types (pointer to) → IsScalarIn program from one
    → Comes (IsConvertedTo program.types (ty (pointer to) is_const)) (converted_scalar (Some kind) blocks (scalar one)) → Comes (IsConvertedIn program (ty (pointer to) is_const)) (converted_scalar (Some kind) blocks (scalar one))
pointer_converted program from to is_const blocks one Code k same good comes = code_converted program from (ty (pointer to) is_const) blocks one (ap Some k) (same ∙ ap Some k) good
pointer_converted program from to is_const blocks one Object k same good comes =
    comes_as (IsConvertedTo program.types (ty (pointer to) is_const)) (IsConvertedIn program (ty (pointer to) is_const)) _ comes (converted_each program (ty (pointer to) is_const) (λ e. cc (e, k)))
pointer_converted program from to is_const blocks one Truth k same good comes =
    comes_as (IsConvertedTo program.types (ty (pointer to) is_const)) (IsConvertedIn program (ty (pointer to) is_const)) _ comes (converted_each program (ty (pointer to) is_const) (λ e. cc (e, k)))
pointer_converted program from to is_const blocks one (Whole width signed) k same good comes =
    comes_as (IsConvertedTo program.types (ty (pointer to) is_const)) (IsConvertedIn program (ty (pointer to) is_const)) _ comes (converted_each program (ty (pointer to) is_const) (λ e. cc (e, k)))

-- what a conversion gives
pub converted_comes : (program : CProgram) (unit : ℕ) (blocks : Blocks) (from : CExpr) (form : CTyForm) (is_const : Bool) (value : CValue) → AreTypes program.types → IsTypeIn program.types unit (ty form is_const)
    → IsConversion program.types (type_of from) (ty form is_const) → IsGiven program from value
    → Comes (IsConvertedIn program (ty form is_const)) (converted_value (setting_of program) (ty form is_const) blocks value)
converted_comes program unit blocks from void is_const value types type_in conversion given = refl
converted_comes program unit blocks from (basic which) is_const value types type_in conversion given =
    scalar_converted program blocks from (ty (basic which) is_const) value conversion (basic_from program.types (type_of from) which is_const conversion) refl given
    (missing_converted (IsConvertedIn program (ty (basic which) is_const)) blocks (Some (scalar_of_basic which)) refl) (λ one. refl)
    (λ one good comes. comes_as (IsConvertedTo program.types (ty (basic which) is_const)) (IsConvertedIn program (ty (basic which) is_const)) _ comes (converted_each program (ty (basic which) is_const) (integer_no_code program.types (ty (basic which) is_const) refl)))
converted_comes program unit blocks from (enum_type number) is_const value types type_in conversion given =
    let some = enum_some (slice_get program.types.enums number) (beside program.types.enum_units program.types.enums number unit types.enum_units type_in) in
    scalar_converted program blocks from (ty (enum_type number) is_const) value conversion (integer_is_scalar program.types (type_of from) conversion.allowed) some given
    (missing_converted (IsConvertedIn program (ty (enum_type number) is_const)) blocks (scalar_of program.types (enum_type number)) some) (λ one. refl)
    (λ one good comes. comes_as (IsConvertedTo program.types (ty (enum_type number) is_const)) (IsConvertedIn program (ty (enum_type number) is_const)) _ comes (converted_each program (ty (enum_type number) is_const) (integer_no_code program.types (ty (enum_type number) is_const) (enum_integer (slice_get program.types.enums number) some))))
converted_comes program unit blocks from (pointer to) is_const value types type_in conversion given =
    scalar_converted program blocks from (ty (pointer to) is_const) value conversion (pointer_is_scalar program.types (type_of from) conversion.allowed.0) refl given
    (missing_converted (IsConvertedIn program (ty (pointer to) is_const)) blocks (scalar_of program.types (pointer to)) refl) (λ one. refl)
    (λ one good comes. pointer_converted program (type_of from) to is_const blocks one (scalar_of_pointer to) refl conversion.allowed.1 good comes)
converted_comes program unit blocks from (array element length) is_const value types type_in conversion given = absurd conversion.allowed
converted_comes program unit blocks from (record_type number) is_const value types type_in conversion given = absurd conversion.allowed
converted_comes program unit blocks from (function result params variadic) is_const value types type_in conversion given = absurd conversion.allowed

-- what a conversion gives is what its node gives
converted_given : (home : CHome) (type : CTy) (place : Place) (from : CExpr) (value : CValue) → IsTyped home (expr type place (convert from)) → IsConvertedIn home.program type value
    → IsGivenBy home (expr type place (convert from)) value
converted_given home type place from (scalar value) is given = inr (is, inl given)
converted_given home (ty void is_const) place from missing is given = inr (is, inr (refl, tt))
converted_given home (ty (basic which) is_const) place from missing is given = cc
converted_given home (ty (enum_type number) is_const) place from missing is given = cc
converted_given home (ty (pointer to) is_const) place from missing is given = cc
converted_given home (ty (array element length) is_const) place from missing is given = cc
converted_given home (ty (record_type number) is_const) place from missing is given = cc
converted_given home (ty (function result params variadic) is_const) place from missing is given = cc
converted_given home type place from (cells held origin) is given = absurd given
converted_given home type place from (names number) is given = absurd given
converted_given home type place from (designates to) is given = absurd given
converted_given home type place from (designates_bits at bit width) is given = absurd given

pub convert_comes : (home : CHome) (form : CTyForm) (is_const : Bool) (place : Place) (from : CExpr) (blocks : Blocks) (value : CValue) → AreTypes home.program.types → IsTyped home (expr (ty form is_const) place (convert from))
    → IsGivenBy home from value → Comes (IsGivenBy home (expr (ty form is_const) place (convert from))) (converted_value (setting_of home.program) (ty form is_const) blocks value)
convert_comes home form is_const place from blocks value types is given =
    comes_as (IsConvertedIn home.program (ty form is_const)) (IsGivenBy home (expr (ty form is_const) place (convert from))) _
    (converted_comes home.program home.unit blocks from form is_const value types is.0 is.1.1 (value_given home from value is.1.0 given))
    (λ new fits. converted_given home (ty form is_const) place from new is fits)

-- ---- operators with one operand (6.5.3.3)

unary_operand : (types : CTypes) (op : Op1) (type operand : CTy) → IsUnaryOf types op type operand → IsScalarType types operand
unary_operand types Plus type operand is = subst (IsScalarType types) (sym is.value_is) (some_of (scalar_of types (form_of_type type)) _ (promoted_kind types type is.promoted).kind_is)
unary_operand types Minus type operand is = subst (IsScalarType types) (sym is.value_is) (some_of (scalar_of types (form_of_type type)) _ (promoted_kind types type is.promoted).kind_is)
unary_operand types Complement type operand is = subst (IsScalarType types) (sym is.value_is) (some_of (scalar_of types (form_of_type type)) _ (promoted_kind types type is.promoted).kind_is)
unary_operand types Not type operand is = is.scalar

unary_no_code : (types : CTypes) (op : Op1) (type operand : CTy) → IsUnaryOf types op type operand → scalar_of types (form_of_type type) ≡ Some Code → ⊥
unary_no_code types Plus type operand is = promoted_no_code types type is.promoted
unary_no_code types Minus type operand is = promoted_no_code types type is.promoted
unary_no_code types Complement type operand is = promoted_no_code types type is.promoted
unary_no_code types Not type operand is = λ e. cc (ap (λ (t : CTy). scalar_of types (form_of_type t)) is.type_is, e)

pub unary_comes : (home : CHome) (type : CTy) (place : Place) (op : Op1) (operand : CExpr) (blocks : Blocks) (value : CValue) → IsTyped home (expr type place (unary op operand)) → IsGivenBy home operand value
    → Comes (IsGivenBy home (expr type place (unary op operand)))
    (and_then (scalar_value value) (λ given. and_then (unary_value (setting_of home.program) op type blocks given) (λ new. Ok (scalar new))))
unary_comes home type place op operand blocks value is given =
    comes_and (IsScalarIn home.program (type_of operand)) (IsGivenBy home (expr type place (unary op operand))) (scalar_value value) _
    (scalar_comes home.program operand value (unary_operand home.program.types op type (type_of operand) is.1.1) (value_given home operand value is.1.0 given)) (λ one fits.
    comes_and (IsScalarOf home.program.types type) (IsGivenBy home (expr type place (unary op operand))) (unary_value (setting_of home.program) op type blocks one) _
    (unary_values home.program op type (type_of operand) blocks one is.1.1 (scalar_out home.program (type_of operand) one fits)) (λ new good. inr (is, inl (scalar_in home.program type new (unary_no_code home.program.types op type (type_of operand) is.1.1) good))))
