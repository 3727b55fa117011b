-- Conversions of typed values are typed (ISO C99, 6.3.1, 6.3.2, 6.5.16.1).
use Rattle.std.proofs.Common.{◌≡◌, ℕ, nat_le, Bool, true, false, if◌then◌else◌, Option, None, Some, option_map, slice_get, refl}
use Rattle.std.specs.Prelude.{IsSome}
use Rattle.std.specs.Bool.{beq}
use Rattle.cx_core.specs.declared.ty.Basic.{Basic}
use Rattle.cx_core.specs.declared.ty.Basic.TheVariants.{Truth, Char, SignedChar, UnsignedChar, Short, UnsignedShort, Int, Unsigned, Long, UnsignedLong, LongLong, UnsignedLongLong}
use Rattle.cx_core.specs.Conversions.{basic_of, basic_of_enum, scalar_of, scalar_of_basic, rank, precision, promoted, promoted_basic, is_promoted_basic, unsigned_of, common_mixed, higher_rank, common_basic, is_signed, IsIntegerType, IsScalarType}
use Rattle.cx_core.specs.Trees.{CTy, ty, CTyForm, void, basic, enum_type, pointer, array, record_type, function, form_of_type, unqualified, CTypes, CExpr, expr, convert, type_of, place_of}
use Rattle.cx_core.specs.Typing.{CHome, IsTyped, IsConversion}
use Rattle.cx_core.specs.ValidTypes.{IsTypeIn}
use Rattle.cx_rules.specs.Operands.{converted_to}
use Rattle.cx_rules.specs.Types.{same_type}
use Rattle.cx_typed.proofs.Same.{type_is}

-- ---- integer types

scalar_by : (found : Option Bool) → IsSome (option_map basic_of_enum found) → IsSome (option_map (λ is_int. scalar_of_basic (basic_of_enum is_int)) found)
scalar_by None is = absurd cc
scalar_by (Some is_int) is = refl

scalar_form : (types : CTypes) (form : CTyForm) → IsSome (basic_of types form) → IsSome (scalar_of types form)
scalar_form types (basic which) is = refl
scalar_form types (enum_type number) is = scalar_by (slice_get types.enums number) is
scalar_form types void is = absurd cc
scalar_form types (pointer to) is = absurd cc
scalar_form types (array element length) is = absurd cc
scalar_form types (record_type number) is = absurd cc
scalar_form types (function result params variadic) is = absurd cc

pub integer_is_scalar : (types : CTypes) (type : CTy) → IsIntegerType types type → IsScalarType types type
integer_is_scalar types type is = scalar_form types (form_of_type type) is

-- an integer is converted to any integer type
pub integer_conversion : (types : CTypes) (from : CTy) (which : Basic) → IsIntegerType types from → IsConversion types from (ty (basic which) false)
integer_conversion types from Truth is = record { plain = refl; allowed = integer_is_scalar types from is }
integer_conversion types from Char is = record { plain = refl; allowed = is }
integer_conversion types from SignedChar is = record { plain = refl; allowed = is }
integer_conversion types from UnsignedChar is = record { plain = refl; allowed = is }
integer_conversion types from Short is = record { plain = refl; allowed = is }
integer_conversion types from UnsignedShort is = record { plain = refl; allowed = is }
integer_conversion types from Int is = record { plain = refl; allowed = is }
integer_conversion types from Unsigned is = record { plain = refl; allowed = is }
integer_conversion types from Long is = record { plain = refl; allowed = is }
integer_conversion types from UnsignedLong is = record { plain = refl; allowed = is }
integer_conversion types from LongLong is = record { plain = refl; allowed = is }
integer_conversion types from UnsignedLongLong is = record { plain = refl; allowed = is }

-- ---- promotions (6.3.1.1p2)

int_or : (fits : Bool) → is_promoted_basic (if fits then Int else Unsigned) ≡ true
int_or true = refl
int_or false = refl

promoted_is : (which : Basic) (bits : Option ℕ) → is_promoted_basic (promoted_basic which bits) ≡ true
promoted_is Truth bits = int_or (nat_le (precision Truth bits) (precision Int None))
promoted_is Char bits = int_or (nat_le (precision Char bits) (precision Int None))
promoted_is SignedChar bits = int_or (nat_le (precision SignedChar bits) (precision Int None))
promoted_is UnsignedChar bits = int_or (nat_le (precision UnsignedChar bits) (precision Int None))
promoted_is Short bits = int_or (nat_le (precision Short bits) (precision Int None))
promoted_is UnsignedShort bits = int_or (nat_le (precision UnsignedShort bits) (precision Int None))
promoted_is Int bits = int_or (nat_le (precision Int bits) (precision Int None))
promoted_is Unsigned bits = int_or (nat_le (precision Unsigned bits) (precision Int None))
promoted_is Long bits = refl
promoted_is UnsignedLong bits = refl
promoted_is LongLong bits = refl
promoted_is UnsignedLongLong bits = refl

abbrev pub promoted_found : CTy → Option ℕ → Option Basic → CTy
promoted_found type bits None = unqualified type
promoted_found type bits (Some which) = ty (basic (promoted_basic which bits)) false

-- what the promotions make of an integer
pub record PromotesTo (types : CTypes) (type : CTy) (bits : Option ℕ) : Type 0 where
  pub which : Basic
  pub promoted_to : promoted types type bits ≡ ty (basic which) false
  pub is_promoted : is_promoted_basic which ≡ true

promotes_by : (type : CTy) (bits : Option ℕ) (found : Option Basic) → IsSome found → (which : Basic) × (promoted_found type bits found ≡ ty (basic which) false) × (is_promoted_basic which ≡ true)
promotes_by type bits None is = absurd cc
promotes_by type bits (Some which) is = (promoted_basic which bits, refl, promoted_is which bits)

pub promotes : (types : CTypes) (type : CTy) (bits : Option ℕ) → IsIntegerType types type → PromotesTo types type bits
promotes types type bits is =
    let made = promotes_by type bits (basic_of types (form_of_type type)) is in
    record { which = made.0; promoted_to = made.1; is_promoted = made.2 }

-- ---- the usual arithmetic conversions (6.3.1.8)

either_is : {A : Type 0} (P : A → Type 0) (test : Bool) (one other : A) → P one → P other → P (if test then one else other)
either_is P true one other first second = first
either_is P false one other first second = second

abbrev IsHigh : Basic → Type 0
IsHigh which = is_promoted_basic which ≡ true

unsigned_is : (which : Basic) → IsHigh which → IsHigh (unsigned_of which)
unsigned_is Truth is = absurd cc
unsigned_is Char is = absurd cc
unsigned_is SignedChar is = absurd cc
unsigned_is UnsignedChar is = absurd cc
unsigned_is Short is = absurd cc
unsigned_is UnsignedShort is = absurd cc
unsigned_is Int is = refl
unsigned_is Unsigned is = refl
unsigned_is Long is = refl
unsigned_is UnsignedLong is = refl
unsigned_is LongLong is = refl
unsigned_is UnsignedLongLong is = refl

mixed_is : (unsigned signed : Basic) → IsHigh unsigned → IsHigh signed → IsHigh (common_mixed unsigned signed)
mixed_is unsigned signed first second =
    either_is IsHigh (nat_le (rank signed) (rank unsigned)) unsigned (if nat_le (precision unsigned None) (precision signed None) then signed else unsigned_of signed) first
    (either_is IsHigh (nat_le (precision unsigned None) (precision signed None)) signed (unsigned_of signed) second (unsigned_is signed second))

pub common_is : (one other : Basic) → IsHigh one → IsHigh other → IsHigh (common_basic one other)
common_is one other first second =
    either_is IsHigh (beq (is_signed one) (is_signed other)) (higher_rank one other) (if is_signed one then common_mixed other one else common_mixed one other)
    (either_is IsHigh (nat_le (rank one) (rank other)) other one second first)
    (either_is IsHigh (is_signed one) (common_mixed other one) (common_mixed one other) (mixed_is other one second first) (mixed_is one other first second))

-- ---- conversions

module _ (home : CHome) where
  -- a value is converted where it doesn't have the type
  pub record IsConverted (type : CTy) (value : CExpr) : Type 0 where
    pub typed : IsTyped home value
    pub type_is : type_of value ≡ type

  converted_by : (type : CTy) (value : CExpr) (same : Bool) → same_type (type_of value) type ≡ same → IsTypeIn home.program.types home.unit type
      → (same ≡ false → IsConversion home.program.types (type_of value) type) → IsTyped home value
      → IsConverted type (if same then value else expr type (place_of value) (convert value))
  converted_by type value true is known allowed typed = record { typed = typed; type_is = type_is (type_of value) type is }
  converted_by type value false is known allowed typed = record { typed = (known, (typed, allowed refl)); type_is = refl }

  pub converted_is : (type : CTy) (value : CExpr) → IsTypeIn home.program.types home.unit type → (same_type (type_of value) type ≡ false → IsConversion home.program.types (type_of value) type)
      → IsTyped home value → IsConverted type (converted_to type value)
  converted_is type value known allowed typed = converted_by type value (same_type (type_of value) type) refl known allowed typed

  -- an integer, converted to an integer type that has no list
  pub integer_is : (which : Basic) (value : CExpr) → IsIntegerType home.program.types (type_of value) → IsTyped home value
      → IsConverted (ty (basic which) false) (converted_to (ty (basic which) false) value)
  integer_is which value integer typed = converted_is (ty (basic which) false) value tt (λ other. integer_conversion home.program.types (type_of value) which integer) typed
