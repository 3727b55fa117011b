-- Integer types and the arithmetic conversions (ISO C99, 6.2.5, 6.3.1.1 and 6.3.1.8).
use Rattle.std.specs.Prelude.{◌≡◌, ℕ, ◌-◌, nat_le, Bool, true, false, if◌then◌else◌, Option, None, Some, option_map, IsSome, slice_get}
use Rattle.std.specs.Bool.{beq}
use denote.Enum.Bare.{sameb}
use Rattle.cr_base.specs.declared.scalar.Scalar.{Scalar}
use Rattle.cr_base.specs.declared.scalar.Scalar.TheVariants as scalar
use Rattle.cx_core.specs.contracts.ty.Basic.{the_type}
use Rattle.cx_core.specs.declared.ty.Basic.{Basic}
use Rattle.cx_core.specs.declared.ty.Basic.TheVariants.{Truth, Char, SignedChar, UnsignedChar, Short, UnsignedShort, Int, Unsigned, Long, UnsignedLong, LongLong, UnsignedLongLong}
use Rattle.cx_core.specs.Trees.{CTy, ty, CTyForm, void, basic, enum_type, pointer, array, record_type, function, form_of_type, unqualified, CTypes}

-- ---- integer types (6.2.5)

-- two basic types are the same
unfoldable pub same_basic : Basic → Basic → Bool
same_basic = sameb the_type

-- the width of a type in bits, with its sign bit (6.2.6.2p6; the choice of the profile)
abbrev pub width_of_basic : Basic → ℕ
width_of_basic Truth = 8
width_of_basic Char = 8
width_of_basic SignedChar = 8
width_of_basic UnsignedChar = 8
width_of_basic Short = 16
width_of_basic UnsignedShort = 16
width_of_basic Int = 32
width_of_basic Unsigned = 32
width_of_basic Long = 64
width_of_basic UnsignedLong = 64
width_of_basic LongLong = 64
width_of_basic UnsignedLongLong = 64

-- whether a type has negative values (6.2.5p4; `char` does in this profile)
abbrev pub is_signed : Basic → Bool
is_signed Truth = false
is_signed Char = true
is_signed SignedChar = true
is_signed UnsignedChar = false
is_signed Short = true
is_signed UnsignedShort = false
is_signed Int = true
is_signed Unsigned = false
is_signed Long = true
is_signed UnsignedLong = false
is_signed LongLong = true
is_signed UnsignedLongLong = false

-- the scalar type that memory sees in it
abbrev pub scalar_of_basic : Basic → Scalar
scalar_of_basic Truth = scalar.Truth
scalar_of_basic Char = scalar.Whole 8 true
scalar_of_basic SignedChar = scalar.Whole 8 true
scalar_of_basic UnsignedChar = scalar.Whole 8 false
scalar_of_basic Short = scalar.Whole 16 true
scalar_of_basic UnsignedShort = scalar.Whole 16 false
scalar_of_basic Int = scalar.Whole 32 true
scalar_of_basic Unsigned = scalar.Whole 32 false
scalar_of_basic Long = scalar.Whole 64 true
scalar_of_basic UnsignedLong = scalar.Whole 64 false
scalar_of_basic LongLong = scalar.Whole 64 true
scalar_of_basic UnsignedLongLong = scalar.Whole 64 false

-- the type with which an enumerated type is compatible (6.7.2.2p4): `int`, or else `unsigned int`
abbrev pub basic_of_enum : Bool → Basic
basic_of_enum true = Int
basic_of_enum false = Unsigned

-- the basic type that an integer type is, or with which it is compatible; none for other types
abbrev pub basic_of : CTypes → CTyForm → Option Basic
basic_of types (basic which) = Some which
basic_of types (enum_type number) = option_map basic_of_enum (slice_get types.enums number)
basic_of types void = None
basic_of types (pointer to) = None
basic_of types (array element length) = None
basic_of types (record_type number) = None
basic_of types (function result params variadic) = None

-- an integer type (6.2.5p17)
abbrev pub IsIntegerType : CTypes → CTy → Type 0
IsIntegerType types type = IsSome (basic_of types (form_of_type type))

-- ---- ranks and values (6.3.1.1)

-- the conversion rank of an integer type (6.3.1.1p1)
abbrev pub rank : Basic → ℕ
rank Truth = 0
rank Char = 1
rank SignedChar = 1
rank UnsignedChar = 1
rank Short = 2
rank UnsignedShort = 2
rank Int = 3
rank Unsigned = 3
rank Long = 4
rank UnsignedLong = 4
rank LongLong = 5
rank UnsignedLongLong = 5

abbrev pub without_sign : Bool → ℕ → ℕ
without_sign true width = width - 1
without_sign false width = width

-- how many bits a value has beside its sign (6.2.6.2p6): of a type, or of a bit-field of so many bits
abbrev pub precision : Basic → Option ℕ → ℕ
precision Truth None = 1
precision which None = without_sign (is_signed which) (width_of_basic which)
precision which (Some width) = without_sign (is_signed which) width

-- what the integer promotions make of a value of a type, or of a bit-field of so many bits (6.3.1.1p2): `int` where
-- it can represent all its values, else `unsigned int`; a type of higher rank stays
abbrev pub promoted_basic : Basic → Option ℕ → Basic
promoted_basic which bits =
    if nat_le (rank which) (rank Int)
    then (if nat_le (precision which bits) (precision Int None) then Int else Unsigned)
    else which

abbrev promoted_as : CTy → Option ℕ → Option Basic → CTy
promoted_as type bits None = unqualified type
promoted_as type bits (Some which) = ty (basic (promoted_basic which bits)) false

-- the promoted type of a value of a type, or of a bit-field of so many bits; other types than integer types stay
abbrev pub promoted : CTypes → CTy → Option ℕ → CTy
promoted types type bits = promoted_as type bits (basic_of types (form_of_type type))

-- an integer type that the integer promotions leave as it is, unqualified
abbrev pub is_promoted_basic : Basic → Bool
is_promoted_basic which = nat_le (rank Int) (rank which)

-- ---- the usual arithmetic conversions (6.3.1.8)

-- the unsigned type that corresponds to a signed one (6.2.5p6)
abbrev pub unsigned_of : Basic → Basic
unsigned_of Truth = Truth
unsigned_of Char = UnsignedChar
unsigned_of SignedChar = UnsignedChar
unsigned_of UnsignedChar = UnsignedChar
unsigned_of Short = UnsignedShort
unsigned_of UnsignedShort = UnsignedShort
unsigned_of Int = Unsigned
unsigned_of Unsigned = Unsigned
unsigned_of Long = UnsignedLong
unsigned_of UnsignedLong = UnsignedLong
unsigned_of LongLong = UnsignedLongLong
unsigned_of UnsignedLongLong = UnsignedLongLong

-- the common type of an unsigned and a signed type: the unsigned one where its rank isn't less; else the signed one where
-- it can represent all values of the unsigned one; else the unsigned type that corresponds to the signed one
abbrev pub common_mixed : (unsigned : Basic) → (signed : Basic) → Basic
common_mixed unsigned signed =
    if nat_le (rank signed) (rank unsigned) then unsigned
    else if nat_le (precision unsigned None) (precision signed None) then signed
    else unsigned_of signed

abbrev pub higher_rank : Basic → Basic → Basic
higher_rank first second = if nat_le (rank first) (rank second) then second else first

-- the common type of two promoted types: where both are signed, or both unsigned, that of higher rank
abbrev pub common_basic : Basic → Basic → Basic
common_basic first second =
    if beq (is_signed first) (is_signed second)
    then higher_rank first second
    else if is_signed first then common_mixed second first
    else common_mixed first second

-- the promoted integer types
abbrev is_promoted_form : CTyForm → Bool
is_promoted_form (basic which) = is_promoted_basic which
is_promoted_form void = false
is_promoted_form (enum_type number) = false
is_promoted_form (pointer to) = false
is_promoted_form (array element length) = false
is_promoted_form (record_type number) = false
is_promoted_form (function result params variadic) = false

-- the type of a value that the integer promotions leave as it is
abbrev pub IsPromoted : CTy → Type 0
IsPromoted (ty form is_const) = (is_promoted_form form ≡ true) × (is_const ≡ false)

abbrev common_forms : CTyForm → CTyForm → CTyForm
common_forms (basic first) (basic second) = basic (common_basic first second)
common_forms form _ = form

-- the common type of two values of promoted types
abbrev pub common_type : CTy → CTy → CTy
common_type first second = ty (common_forms (form_of_type first) (form_of_type second)) false

-- ---- scalar types (6.2.5p21)

abbrev pub scalar_of_pointer : CTy → Scalar
scalar_of_pointer (ty (function result params variadic) is_const) = scalar.Code
scalar_of_pointer (ty _ is_const) = scalar.Object

-- the scalar type that memory sees in a type, or none where it isn't scalar
abbrev pub scalar_of : CTypes → CTyForm → Option Scalar
scalar_of types (basic which) = Some (scalar_of_basic which)
scalar_of types (enum_type number) = option_map (λ is_int. scalar_of_basic (basic_of_enum is_int)) (slice_get types.enums number)
scalar_of types (pointer to) = Some (scalar_of_pointer to)
scalar_of types void = None
scalar_of types (array element length) = None
scalar_of types (record_type number) = None
scalar_of types (function result params variadic) = None

-- a scalar type
abbrev pub IsScalarType : CTypes → CTy → Type 0
IsScalarType types type = IsSome (scalar_of types (form_of_type type))
