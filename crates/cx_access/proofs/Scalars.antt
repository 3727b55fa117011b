-- Scalars, extents and kinds of types.
use Rattle.std.proofs.Common.{◌≡◌, refl, sym, ◌∙◌, ap, ◌/◌, Option, Some, None, option_map, IfSome, ℕ, slice_get, Bool, true, false}
use Rattle.cr_base.specs.declared.layout.Laid.{Laid}
use Rattle.cr_base.specs.declared.scalar.Scalar.{Scalar}
use Rattle.cx_core.specs.Conversions.{scalar_of, scalar_of_basic, scalar_of_pointer, width_of_basic}
use Rattle.cx_core.specs.declared.ty.Basic.{Basic}
use Rattle.cx_core.specs.declared.ty.Basic.TheVariants as which
use Rattle.cx_core.specs.Layouts.{bytes, extent}
use Rattle.cx_core.specs.Trees.{CTy, ty, CTyForm, void, basic, enum_type, pointer, array, record_type, function, form_of_type, unqualified, CTypes}
use Rattle.cx_mean.specs.Accesses.{kind_of}
use Rattle.cx_mean.specs.Settings.{CSetting, extent_in, scalar_in_type}
use Rattle.mem_bytes.specs.Coding.{IsScalar}

pub basics_fit : (one : Basic) → IsScalar (scalar_of_basic one)
basics_fit which.Truth = tt
basics_fit which.Char = refl
basics_fit which.SignedChar = refl
basics_fit which.UnsignedChar = refl
basics_fit which.Short = refl
basics_fit which.UnsignedShort = refl
basics_fit which.Int = refl
basics_fit which.Unsigned = refl
basics_fit which.Long = refl
basics_fit which.UnsignedLong = refl
basics_fit which.LongLong = refl
basics_fit which.UnsignedLongLong = refl

enum_fits : (found : Option Bool) → IfSome (option_map (λ is_int. scalar_of_basic (Rattle.cx_core.specs.Conversions.basic_of_enum is_int)) found) IsScalar
enum_fits None = tt
enum_fits (Some true) = refl
enum_fits (Some false) = refl

pointer_fits : (to : CTy) → IsScalar (scalar_of_pointer to)
pointer_fits (ty void is_const) = tt
pointer_fits (ty (basic one) is_const) = tt
pointer_fits (ty (enum_type number) is_const) = tt
pointer_fits (ty (pointer to) is_const) = tt
pointer_fits (ty (array element length) is_const) = tt
pointer_fits (ty (record_type number) is_const) = tt
pointer_fits (ty (function result params variadic) is_const) = tt

-- a scalar that memory sees in a type is one of the profile
pub scalars_fit : (types : CTypes) (form : CTyForm) → IfSome (scalar_of types form) IsScalar
scalars_fit types void = tt
scalars_fit types (basic one) = basics_fit one
scalars_fit types (enum_type number) = enum_fits (slice_get types.enums number)
scalars_fit types (pointer to) = pointer_fits to
scalars_fit types (array element length) = tt
scalars_fit types (record_type number) = tt
scalars_fit types (function result params variadic) = tt

-- qualifiers make no difference
pub unqualified_scalar : (setting : CSetting) (type : CTy) → scalar_in_type setting (unqualified type) ≡ scalar_in_type setting type
unqualified_scalar setting (ty form is_const) = refl

pub unqualified_extent : (setting : CSetting) (type : CTy) → extent_in setting (unqualified type) ≡ extent_in setting type
unqualified_extent setting (ty form is_const) = refl

pub unqualified_kind : (setting : CSetting) (type : CTy) → kind_of setting (unqualified type) ≡ kind_of setting type
unqualified_kind setting (ty form is_const) = refl

pub basic_extent : (setting : CSetting) (one : Basic) → extent_in setting (ty (basic one) false) ≡ Some (bytes (width_of_basic one / 8))
basic_extent setting which.Truth = refl
basic_extent setting which.Char = refl
basic_extent setting which.SignedChar = refl
basic_extent setting which.UnsignedChar = refl
basic_extent setting which.Short = refl
basic_extent setting which.UnsignedShort = refl
basic_extent setting which.Int = refl
basic_extent setting which.Unsigned = refl
basic_extent setting which.Long = refl
basic_extent setting which.UnsignedLong = refl
basic_extent setting which.LongLong = refl
basic_extent setting which.UnsignedLongLong = refl

-- an extent by its size and its alignment
some_laid : (size align : ℕ) (one : Laid) → size ≡ one.size → align ≡ one.align → Some (record { size = size; align = align }) ≡ Some one
some_laid size align one size_is align_is = rw (size_is, align_is) refl

some_number : {first second : ℕ} → Some first ≡ Some second → first ≡ second
some_number same = cc

pub laid_by_parts : (found : Option Laid) (size align : ℕ) → Some size ≡ option_map (λ one. one.size) found → Some align ≡ option_map (λ one. one.align) found →
    Some (record { size = size; align = align }) ≡ found
laid_by_parts None size align size_is align_is = cc
laid_by_parts (Some one) size align size_is align_is = some_laid size align one (some_number size_is) (some_number align_is)

pub none_by_part : (found : Option Laid) (part : Laid → ℕ) → None ≡ option_map part found → None ≡ found
none_by_part None part is = refl
none_by_part (Some one) part is = cc
