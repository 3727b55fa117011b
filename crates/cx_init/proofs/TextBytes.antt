-- The bytes of string literals in arrays.
use Rattle.std.proofs.Common.{arith, ◌≡◌, refl, ℕ, ◌+◌, ◌-◌, Bool, false, List, [], ◌∷◌, Option, None, Some, option_map, nat_le, pos, slice_get}
use Rattle.std.proofs.lemmas.Bool.Decides.{nat_tests}
use Rattle.cr_base.specs.Scalar.{wrapped}
use Rattle.cr_base.specs.declared.refusal.Place.{Place as TextPlace}
use Rattle.cx_core.specs.Conversions.{scalar_of, scalar_of_basic, scalar_of_pointer, basic_of, basic_of_enum}
use Rattle.cx_core.specs.Trees.{CTy, ty, CTyForm, void, basic, enum_type, pointer, array, record_type, function, CTypes}
use Rattle.cx_rules.specs.Initial.{CAt, has_element, bytes_from, as_scalar}

pub no_more : (types : CTypes) (at : TextPlace) (where_is : CAt) (element : CTy) (length : Option ℕ) (index : ℕ) (bytes : List ℕ)
    → has_element types element length index ≡ false → bytes_from types at where_is element length index bytes ≡ []
no_more types at where_is element length index [] none = refl
no_more types at where_is element length index (byte ∷ bytes) none = rw none refl

enum_by : (found : Option Bool) (byte : ℕ) → as_scalar (option_map scalar_of_basic (option_map basic_of_enum found)) byte ≡ as_scalar (option_map (λ is_int. scalar_of_basic (basic_of_enum is_int)) found) byte
enum_by None byte = refl
enum_by (Some is_int) byte = refl

pointer_as : (to : CTy) (byte : ℕ) → pos byte ≡ wrapped (scalar_of_pointer to) (pos byte)
pointer_as (ty (function result params variadic) is_const) byte = refl
pointer_as (ty void is_const) byte = refl
pointer_as (ty (basic which) is_const) byte = refl
pointer_as (ty (enum_type number) is_const) byte = refl
pointer_as (ty (pointer to) is_const) byte = refl
pointer_as (ty (array element length) is_const) byte = refl
pointer_as (ty (record_type number) is_const) byte = refl

-- a byte in a scalar that is no integer is itself
pub scalar_by : (types : CTypes) (form : CTyForm) (byte : ℕ) → as_scalar (option_map scalar_of_basic (basic_of types form)) byte ≡ as_scalar (scalar_of types form) byte
scalar_by types void byte = refl
scalar_by types (basic which) byte = refl
scalar_by types (enum_type number) byte = enum_by (slice_get types.enums number) byte
scalar_by types (pointer to) byte = pointer_as to byte
scalar_by types (array element length) byte = refl
scalar_by types (record_type number) byte = refl
scalar_by types (function result params variadic) byte = refl

pub fits_by : (count length : ℕ) → nat_le (count - 1) length ≡ nat_le count (length + 1)
fits_by count length = grind (arith, nat_tests)
