-- Kinds of scalar types, and values of a kind.
use Rattle.std.proofs.Common.{◌≡◌, ℕ, Bool, true, false, IsTrue, ℤ, Option, Some, None, option_map, IsSome, slice_get, refl, ap}
use Rattle.cr_base.specs.Scalar.{is_width, IsInteger, IsInRange}
use Rattle.cr_base.specs.declared.scalar.Scalar.{Scalar}
use Rattle.cr_base.specs.declared.scalar.Scalar.TheVariants.{Truth, Whole, Object, Code}
use Rattle.cx_core.specs.Conversions.{scalar_of, scalar_of_basic, basic_of_enum, IsIntegerType, IsPromoted}
use Rattle.cx_core.specs.declared.ty.Basic.{Basic}
use Rattle.cx_core.specs.declared.ty.Basic.TheVariants as basics
use Rattle.cx_core.specs.Trees.{CTy, ty, CTyForm, void, basic, enum_type, pointer, array, record_type, function, form_of_type, CTypes}
use Rattle.mem_bytes.specs.Coding.{IsValueOf}
use Rattle.mem_bytes.specs.declared.value.Value.{Value}
use Rattle.mem_bytes.specs.declared.value.Value.TheVariants.{Whole as Number, Null, Object as Pointer, Code as Function}

-- a type with numbers of a width
pub record IsWholeKind (types : CTypes) (type : CTy) : Type 0 where
  pub width : ℕ
  pub signed : Bool
  pub kind_is : scalar_of types (form_of_type type) ≡ Some (Whole width signed)
  pub is_one : IsTrue (is_width width)

pub promoted_kind : (types : CTypes) (type : CTy) → IsPromoted type → IsWholeKind types type
promoted_kind types (ty (basic basics.Truth) is_const) p = cc (p.0)
promoted_kind types (ty (basic basics.Char) is_const) p = cc (p.0)
promoted_kind types (ty (basic basics.SignedChar) is_const) p = cc (p.0)
promoted_kind types (ty (basic basics.UnsignedChar) is_const) p = cc (p.0)
promoted_kind types (ty (basic basics.Short) is_const) p = cc (p.0)
promoted_kind types (ty (basic basics.UnsignedShort) is_const) p = cc (p.0)
promoted_kind types (ty (basic basics.Int) is_const) p = record { width = 32; signed = true; kind_is = refl; is_one = refl }
promoted_kind types (ty (basic basics.Unsigned) is_const) p = record { width = 32; signed = false; kind_is = refl; is_one = refl }
promoted_kind types (ty (basic basics.Long) is_const) p = record { width = 64; signed = true; kind_is = refl; is_one = refl }
promoted_kind types (ty (basic basics.UnsignedLong) is_const) p = record { width = 64; signed = false; kind_is = refl; is_one = refl }
promoted_kind types (ty (basic basics.LongLong) is_const) p = record { width = 64; signed = true; kind_is = refl; is_one = refl }
promoted_kind types (ty (basic basics.UnsignedLongLong) is_const) p = record { width = 64; signed = false; kind_is = refl; is_one = refl }
promoted_kind types (ty void is_const) p = cc (p.0)
promoted_kind types (ty (enum_type number) is_const) p = cc (p.0)
promoted_kind types (ty (pointer to) is_const) p = cc (p.0)
promoted_kind types (ty (array element length) is_const) p = cc (p.0)
promoted_kind types (ty (record_type number) is_const) p = cc (p.0)
promoted_kind types (ty (function result params variadic) is_const) p = cc (p.0)

-- a basic type is an integer type
pub basic_integer : (which : Basic) → IsInteger (scalar_of_basic which)
basic_integer basics.Truth = tt
basic_integer basics.Char = refl
basic_integer basics.SignedChar = refl
basic_integer basics.UnsignedChar = refl
basic_integer basics.Short = refl
basic_integer basics.UnsignedShort = refl
basic_integer basics.Int = refl
basic_integer basics.Unsigned = refl
basic_integer basics.Long = refl
basic_integer basics.UnsignedLong = refl
basic_integer basics.LongLong = refl
basic_integer basics.UnsignedLongLong = refl

-- a value of an integer kind is a number in its range
pub record IsNumber (kind : Scalar) (value : Value) : Type 0 where
  pub number : ℤ
  pub is : value ≡ Number number
  pub in_range : IsInRange kind number

pub number_of_kind : (kind : Scalar) (value : Value) → IsInteger kind → IsValueOf kind value → IsNumber kind value
number_of_kind Truth (Number number) integer of_kind = record { number = number; is = refl; in_range = of_kind }
number_of_kind Truth Null integer of_kind = absurd of_kind
number_of_kind Truth (Pointer at) integer of_kind = absurd of_kind
number_of_kind Truth (Function number) integer of_kind = absurd of_kind
number_of_kind (Whole width signed) (Number number) integer of_kind = record { number = number; is = refl; in_range = of_kind }
number_of_kind (Whole width signed) Null integer of_kind = absurd of_kind
number_of_kind (Whole width signed) (Pointer at) integer of_kind = absurd of_kind
number_of_kind (Whole width signed) (Function number) integer of_kind = absurd of_kind
number_of_kind Object value integer of_kind = absurd integer
number_of_kind Code value integer of_kind = absurd integer

pub same_kind : (one other : Scalar) → Some one ≡ Some other → one ≡ other
same_kind one other e = cc

-- an integer type has the kind of a basic type
pub record IsIntegerKind (types : CTypes) (type : CTy) : Type 0 where
  pub which : Basic
  pub kind_is : scalar_of types (form_of_type type) ≡ Some (scalar_of_basic which)

enum_kind : (types : CTypes) (number : ℕ) (is_const : Bool) (found : Option Bool) → slice_get types.enums number ≡ found → IsSome (option_map basic_of_enum found) → IsIntegerKind types (ty (enum_type number) is_const)
enum_kind types number is_const None e some = cc
enum_kind types number is_const (Some is_int) e some = record { which = basic_of_enum is_int; kind_is = ap (option_map (λ b. scalar_of_basic (basic_of_enum b))) e }

pub integer_kind : (types : CTypes) (type : CTy) → IsIntegerType types type → IsIntegerKind types type
integer_kind types (ty (basic which) is_const) is = record { which = which; kind_is = refl }
integer_kind types (ty (enum_type number) is_const) is = enum_kind types number is_const (slice_get types.enums number) refl is
integer_kind types (ty void is_const) is = cc
integer_kind types (ty (pointer to) is_const) is = cc
integer_kind types (ty (array element length) is_const) is = cc
integer_kind types (ty (record_type number) is_const) is = cc
integer_kind types (ty (function result params variadic) is_const) is = cc
