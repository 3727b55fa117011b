-- The types of the subset as scalars, and their values (the Rust Reference, "Numeric types", "Boolean type", "Pointer types" and
-- "Type layout").
use Rattle.std.specs.Prelude.{ℕ, ◌==◌, Bool, true, false, ◌&&◌, ℤ, int_le, int_lt, Option, Some, None, bytes_eq}
use Rattle.cr_base.specs.Scalar.{least, above}
use Rattle.cr_base.specs.declared.scalar.Scalar.{Scalar}
use Rattle.cr_base.specs.declared.scalar.Scalar.TheVariants as scalar
use Rattle.rs_text.specs.declared.integer.IntegerTy.{IntegerTy}
use Rattle.rs_text.specs.declared.integer.IntegerTy.TheVariants.{I8, I16, I32, I64, U8, U16, U32, U64, Isize, Usize}
use Rattle.rs_text.specs.Tree.{Ty, Integer, Boolean, Void, Pointer, Array, Code, Record, Tys, no_tys, more_tys, OptionTy, no_ty, some_ty}

-- an integer type as memory sees it; `isize` and `usize` have 64 bits
abbrev pub integer_scalar : IntegerTy → Scalar
integer_scalar I8 = scalar.Whole 8 true
integer_scalar I16 = scalar.Whole 16 true
integer_scalar I32 = scalar.Whole 32 true
integer_scalar I64 = scalar.Whole 64 true
integer_scalar U8 = scalar.Whole 8 false
integer_scalar U16 = scalar.Whole 16 false
integer_scalar U32 = scalar.Whole 32 false
integer_scalar U64 = scalar.Whole 64 false
integer_scalar Isize = scalar.Whole 64 true
integer_scalar Usize = scalar.Whole 64 false

-- a scalar type as memory sees it: an integer, `bool`, a raw pointer, or a function pointer; the others aren't scalar
abbrev pub scalar_of : Ty → Option Scalar
scalar_of (Integer ty) = Some (integer_scalar ty)
scalar_of Boolean = Some scalar.Truth
scalar_of (Pointer target) = Some scalar.Object
scalar_of (Code params result) = Some scalar.Code
scalar_of Void = None
scalar_of (Array element size) = None
scalar_of (Record m x) = None

abbrev pub is_scalar : Ty → Bool
is_scalar Void = false
is_scalar (Array element size) = false
is_scalar (Record m x) = false
is_scalar (Integer ty) = true
is_scalar Boolean = true
is_scalar (Pointer target) = true
is_scalar (Code params result) = true

-- ---- integer types

abbrev pub is_signed_integer : IntegerTy → Bool
is_signed_integer I8 = true
is_signed_integer I16 = true
is_signed_integer I32 = true
is_signed_integer I64 = true
is_signed_integer Isize = true
is_signed_integer _ = false

-- how many bits a value of an integer type has
abbrev pub width_of : IntegerTy → ℕ
width_of I8 = 8
width_of I16 = 16
width_of I32 = 32
width_of I64 = 64
width_of U8 = 8
width_of U16 = 16
width_of U32 = 32
width_of U64 = 64
width_of Isize = 64
width_of Usize = 64

-- a number by which an integer type is told from the others
abbrev pub integer_number : IntegerTy → ℕ
integer_number I8 = 0
integer_number I16 = 1
integer_number I32 = 2
integer_number I64 = 3
integer_number U8 = 4
integer_number U16 = 5
integer_number U32 = 6
integer_number U64 = 7
integer_number Isize = 8
integer_number Usize = 9

abbrev pub same_integer : IntegerTy → IntegerTy → Bool
same_integer one other = integer_number one == integer_number other

-- a number is a value of an integer type
abbrev pub fits_integer : IntegerTy → ℤ → Bool
fits_integer ty value = int_le (least (integer_scalar ty)) value && int_lt value (above (integer_scalar ty))

-- a number can be written as a literal of a type
abbrev pub literal_fits : Ty → ℤ → Bool
literal_fits (Integer ty) value = fits_integer ty value
literal_fits _ value = false

abbrev pub is_integer : Ty → Bool
is_integer (Integer ty) = true
is_integer _ = false

abbrev pub is_boolean : Ty → Bool
is_boolean Boolean = true
is_boolean _ = false

-- ---- equal types

abbrev mutual
  pub same_type : Ty → Ty → Bool
  same_type (Integer one) (Integer other) = same_integer one other
  same_type Boolean Boolean = true
  same_type Void Void = true
  same_type (Pointer one) (Pointer other) = same_type one other
  same_type (Array one one_size) (Array other other_size) = same_type one other && one_size == other_size
  same_type (Code params result) (Code other_params other_result) = same_types params other_params && same_results result other_result
  same_type (Record m x) (Record other_m other_x) = bytes_eq m other_m && bytes_eq x other_x
  same_type _ _ = false

  pub same_types : Tys → Tys → Bool
  same_types no_tys no_tys = true
  same_types (more_tys one others) (more_tys first rest) = same_type one first && same_types others rest
  same_types _ _ = false

  pub same_results : OptionTy → OptionTy → Bool
  same_results no_ty no_ty = true
  same_results (some_ty one) (some_ty other) = same_type one other
  same_results _ _ = false

-- two scalar types that pass alike in a call: all raw pointers count as one, and all function pointers as one
abbrev pub alike : Ty → Ty → Bool
alike (Integer one) (Integer other) = same_integer one other
alike Boolean Boolean = true
alike (Pointer one) (Pointer other) = true
alike (Code params result) (Code other_params other_result) = true
alike _ _ = false
