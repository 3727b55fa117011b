-- A value that may be assigned where a type stands is typed there once it is converted (ISO C99, 6.5.16.1p1, p2).
use Rattle.std.proofs.Common.{◌≡◌, ℕ, ◌==◌, Bool, true, false, ◌&&◌, ◌||◌, if◌then◌else◌, List, Some, refl, sym, ap, ◌∙◌, subst, arith}
use Rattle.std.proofs.lemmas.Bool.Decides.{nat_tests}
use Rattle.cr_base.specs.declared.scalar.Scalar.TheVariants as scalar
use Rattle.cx_core.specs.declared.ty.Basic.{Basic}
use Rattle.cx_core.specs.declared.ty.Basic.TheVariants.{Truth, Char, SignedChar, UnsignedChar, Short, UnsignedShort, Int, Unsigned, Long, UnsignedLong, LongLong, UnsignedLongLong}
use Rattle.cx_core.specs.Conversions.{basic_of, scalar_of_pointer, IsIntegerType}
use Rattle.cx_core.specs.Trees.{CTy, ty, void, basic, enum_type, pointer, array, record_type, function, is_const_type, unqualified, CTypes, CExpr, expr, null, type_of, place_of}
use Rattle.cx_core.specs.Typing.{CHome, IsTyped, IsConversion}
use Rattle.cx_core.specs.ValidTypes.{IsTypeIn}
use Rattle.cx_rules.specs.Operands.{converted_to, fitted, is_null_constant}
use Rattle.cx_rules.specs.Pairs.{is_assignable, types_match, pointers_match, void_beside}
use Rattle.cx_rules.specs.Types.{same_type, is_integer, is_pointer, point_alike, keeps_qualifiers, compatible}
use Rattle.cx_typed.proofs.Conversions.{IsConverted, converted_is, integer_conversion}
use Rattle.cx_typed.proofs.Growing.{some_stays, basic_grows, type_stays}
use Rattle.cx_typed.proofs.Same.{both, number_is}
use Rattle.cx_typed.proofs.Values.{unqualified_known}
use Rattle.cx_typed.specs.Growth.{Grows}
use Rattle.cx_typed.specs.Operands.{IsKnownType, IsValueType}

-- ---- pointers to what goes together

pub same_scalar : (types : CTypes) (first second : CTy) → compatible types (unqualified first) (unqualified second) ≡ true → scalar_of_pointer first ≡ scalar_of_pointer second
same_scalar types (ty (function one params variadic) first_const) (ty (function other others more) second_const) is = refl
same_scalar types (ty (function one params variadic) first_const) (ty form second_const) is = absurd cc
same_scalar types (ty form first_const) (ty (function other others more) second_const) is = absurd cc
same_scalar types (ty form first_const) (ty other second_const) is = refl

pub void_scalar : (first second : CTy) → void_beside (ty (pointer first) false) (ty (pointer second) false) ≡ true
    → (scalar_of_pointer first ≡ scalar.Object) × (scalar_of_pointer second ≡ scalar.Object)
void_scalar (ty void first_const) (ty (function other others more) second_const) is = absurd cc
void_scalar (ty void first_const) (ty form second_const) is = (refl, refl)
void_scalar (ty form first_const) (ty other second_const) is = absurd cc

pub either_of : {A : Type 0} (a b : Bool) → (a || b) ≡ true → (a ≡ true → A) → (b ≡ true → A) → A
either_of true b is first second = first refl
either_of false b is first second = second is

pub no_more : (a : Bool) → (a || false) ≡ true → a ≡ true
no_more true is = refl
no_more false is = absurd cc

-- what pointers point to goes together, whatever the qualifiers of the pointers are
pointers_go : (types : CTypes) (first second : CTy) (first_const : Bool)
    → (keeps_qualifiers (ty (pointer first) first_const) (ty (pointer second) false)
    && (point_alike types (ty (pointer first) first_const) (ty (pointer second) false)
    || (void_beside (ty (pointer first) first_const) (ty (pointer second) false) || void_beside (ty (pointer second) false) (ty (pointer first) first_const)))) ≡ true
    → scalar_of_pointer second ≡ scalar_of_pointer first
pointers_go types first second first_const is =
    either_of (compatible types (unqualified first) (unqualified second))
    (void_beside (ty (pointer first) false) (ty (pointer second) false) || void_beside (ty (pointer second) false) (ty (pointer first) false)) (both is).1
    (λ alike. sym (same_scalar types first second alike))
    (λ beside. either_of (void_beside (ty (pointer first) false) (ty (pointer second) false)) (void_beside (ty (pointer second) false) (ty (pointer first) false)) beside
    (λ one. (void_scalar first second one).1 ∙ sym (void_scalar first second one).0)
    (λ other. (void_scalar second first other).0 ∙ sym (void_scalar second first other).1))

pub record_number : (types : CTypes) (number : ℕ) (type : CTy) → is_const_type type ≡ false → compatible types (ty (record_type number) false) (unqualified type) ≡ true
    → type ≡ ty (record_type number) false
record_number types number (ty (record_type other) is_const) plain is =
    ap (λ c. ty (record_type other) c) plain ∙ ap (λ n. ty (record_type n) false) (sym (number_is number other (no_more (number == other) is)))
record_number types number (ty void is_const) plain is = absurd cc
record_number types number (ty (basic which) is_const) plain is = absurd cc
record_number types number (ty (enum_type other) is_const) plain is = absurd cc
record_number types number (ty (pointer to) is_const) plain is = absurd cc
record_number types number (ty (array element length) is_const) plain is = absurd cc
record_number types number (ty (function result params variadic) is_const) plain is = absurd cc

same_number : (number : ℕ) → (number == number) ≡ true
same_number number = grind (arith, nat_tests)

pub same_record : (number : ℕ) → same_type (ty (record_type number) false) (ty (record_type number) false) ≡ true
same_record number = same_number number

module _ (opens : List ℕ) (types : CTypes) (home : CHome) (grows : Grows opens types home.program.types) where
  integer_at_home : (type : CTy) → IsValueType opens types home.unit type → is_integer types type ≡ true → IsIntegerType home.program.types type
  integer_at_home (ty form is_const) held is =
      some_stays (basic_of types form) (basic_of home.program.types form) (basic_grows opens types home.program.types grows form held.known.settled) is

  -- ---- by the type that is wanted

  to_pointer : (to : CTy) (is_const : Bool) (from : CTy) → IsValueType opens types home.unit from
      → pointers_match types (ty (pointer to) is_const) from ≡ true → IsConversion home.program.types from (ty (pointer to) false)
  to_pointer to is_const (ty (pointer other) other_const) held is = record {
    plain = refl;
    allowed = (held.plain, ap Some (pointers_go types to other is_const (subst (λ c. pointers_match types (ty (pointer to) is_const) (ty (pointer other) c) ≡ true) held.plain is)));
  }
  to_pointer to is_const (ty void other_const) held is = absurd cc
  to_pointer to is_const (ty (basic which) other_const) held is = absurd cc
  to_pointer to is_const (ty (enum_type number) other_const) held is = absurd cc
  to_pointer to is_const (ty (array element length) other_const) held is = absurd cc
  to_pointer to is_const (ty (record_type number) other_const) held is = absurd cc
  to_pointer to is_const (ty (function result params variadic) other_const) held is = absurd cc

  from_pointer : (from : CTy) → is_pointer from ≡ true → IsConversion home.program.types from (ty (basic Truth) false)
  from_pointer (ty (pointer to) is_const) is = record { plain = refl; allowed = refl }
  from_pointer (ty void is_const) is = absurd cc
  from_pointer (ty (basic which) is_const) is = absurd cc
  from_pointer (ty (enum_type number) is_const) is = absurd cc
  from_pointer (ty (array element length) is_const) is = absurd cc
  from_pointer (ty (record_type number) is_const) is = absurd cc
  from_pointer (ty (function result params variadic) is_const) is = absurd cc

  to_basic : (which : Basic) (is_const : Bool) (from : CTy) (is_null : Bool) → IsValueType opens types home.unit from
      → types_match types (ty (basic which) is_const) from is_null ≡ true → IsConversion home.program.types from (ty (basic which) false)
  to_basic Truth is_const from is_null held is =
      either_of (is_integer types from) (is_pointer from) is (λ one. integer_conversion home.program.types from Truth (integer_at_home from held one)) (λ other. from_pointer from other)
  to_basic Char is_const from is_null held is = integer_conversion home.program.types from Char (integer_at_home from held (no_more (is_integer types from) is))
  to_basic SignedChar is_const from is_null held is = integer_conversion home.program.types from SignedChar (integer_at_home from held (no_more (is_integer types from) is))
  to_basic UnsignedChar is_const from is_null held is = integer_conversion home.program.types from UnsignedChar (integer_at_home from held (no_more (is_integer types from) is))
  to_basic Short is_const from is_null held is = integer_conversion home.program.types from Short (integer_at_home from held (no_more (is_integer types from) is))
  to_basic UnsignedShort is_const from is_null held is = integer_conversion home.program.types from UnsignedShort (integer_at_home from held (no_more (is_integer types from) is))
  to_basic Int is_const from is_null held is = integer_conversion home.program.types from Int (integer_at_home from held (no_more (is_integer types from) is))
  to_basic Unsigned is_const from is_null held is = integer_conversion home.program.types from Unsigned (integer_at_home from held (no_more (is_integer types from) is))
  to_basic Long is_const from is_null held is = integer_conversion home.program.types from Long (integer_at_home from held (no_more (is_integer types from) is))
  to_basic UnsignedLong is_const from is_null held is = integer_conversion home.program.types from UnsignedLong (integer_at_home from held (no_more (is_integer types from) is))
  to_basic LongLong is_const from is_null held is = integer_conversion home.program.types from LongLong (integer_at_home from held (no_more (is_integer types from) is))
  to_basic UnsignedLongLong is_const from is_null held is = integer_conversion home.program.types from UnsignedLongLong (integer_at_home from held (no_more (is_integer types from) is))

  -- ---- all

  fitted_by : (type : CTy) (value : CExpr) (is_null : Bool) → IsKnownType opens types home.unit type → IsValueType opens types home.unit (type_of value)
      → types_match types type (type_of value) is_null ≡ true → IsTyped home value → IsTypeIn home.program.types home.unit (unqualified type)
      → IsConverted home (unqualified type) (if is_pointer type && is_null then expr (unqualified type) (place_of value) null else converted_to (unqualified type) value)
  fitted_by (ty (pointer to) is_const) value true known held is typed there = record { typed = (there, refl); type_is = refl }
  fitted_by (ty (pointer to) is_const) value false known held is typed there =
      converted_is home (ty (pointer to) false) value there
      (λ other. to_pointer to is_const (type_of value) held (no_more (pointers_match types (ty (pointer to) is_const) (type_of value)) is)) typed
  fitted_by (ty (basic which) is_const) value is_null known held is typed there =
      converted_is home (ty (basic which) false) value there (λ other. to_basic which is_const (type_of value) is_null held is) typed
  fitted_by (ty (enum_type number) is_const) value is_null known held is typed there =
      converted_is home (ty (enum_type number) false) value there
      (λ other. record {
        plain = refl;
        allowed = integer_at_home (type_of value) held (both (no_more (is_integer types (ty (enum_type number) is_const) && is_integer types (type_of value)) is)).1;
      }) typed
  fitted_by (ty (record_type number) is_const) value is_null known held is typed there =
      let same : type_of value ≡ ty (record_type number) false = record_number types number (type_of value) held.plain (no_more (compatible types (ty (record_type number) false) (unqualified (type_of value))) is) in
      converted_is home (ty (record_type number) false) value there
      (λ other. absurd (let h : true ≡ false = sym (subst (λ t. same_type t (ty (record_type number) false) ≡ true) (sym same) (same_record number)) ∙ other in cc)) typed
  fitted_by (ty void is_const) value is_null known held is typed there = absurd cc
  fitted_by (ty (array element length) is_const) value is_null known held is typed there = absurd cc
  fitted_by (ty (function result params variadic) is_const) value is_null known held is typed there = absurd cc

  -- a value that may be assigned
  pub fitted_is : (type : CTy) (value : CExpr) → IsKnownType opens types home.unit type → IsValueType opens types home.unit (type_of value)
      → is_assignable types type value ≡ true → IsTyped home value → IsConverted home (unqualified type) (fitted types type value)
  unfolding is_assignable
  fitted_is type value known held is typed =
      fitted_by type value (is_null_constant types value) known held is typed
      (type_stays opens types home.program.types grows home.unit (unqualified type) (unqualified_known opens types home.unit type known).type_in)
