-- Pointers in pairs: those that are compared, subtracted and moved (ISO C99, 6.5.6, 6.5.8, 6.5.9).
use Rattle.std.proofs.Common.{◌≡◌, ℕ, Bool, true, false, ◌&&◌, if◌then◌else◌, List, Some, refl, sym, ap, subst}
use Rattle.cr_base.specs.declared.scalar.Scalar.TheVariants as scalar
use Rattle.cx_core.proofs.Relation.{compatible_reflexive}
use Rattle.cx_core.specs.Conversions.{scalar_of, scalar_of_pointer}
use Rattle.cx_core.specs.Trees.{CTy, ty, void, basic, enum_type, pointer, array, record_type, function, form_of_type, is_const_type, unqualified, CTypes, CExpr, expr, null, type_of, place_of}
use Rattle.cx_core.specs.Typing.{CHome, IsTyped, IsConversion, IsElementPointer, PointAlike}
use Rattle.cx_core.specs.ValidTypes.{IsTypeIn}
use Rattle.cx_rules.specs.Operands.{converted_to, fitted, is_null_constant}
use Rattle.cx_rules.specs.Types.{is_pointer, is_element_pointer, is_object_pointer, point_alike}
use Rattle.cx_typed.proofs.Conversions.{IsConverted, converted_is}
use Rattle.cx_typed.proofs.Growing.{complete_stays, type_stays}
use Rattle.cx_typed.proofs.Stays.{compatible_stays}
use Rattle.cx_typed.specs.Growth.{Grows, IsSettled}
use Rattle.cx_typed.specs.Operands.{IsKnownType, IsValueType}

-- a value of pointer type, and what it points to
pub record Points (type : CTy) : Type 0 where
  pub to : CTy
  pub type_is : type ≡ ty (pointer to) false

pub points : (type : CTy) → is_const_type type ≡ false → is_pointer type ≡ true → Points type
points (ty (pointer to) is_const) plain is = record { to = to; type_is = ap (ty (pointer to)) plain }
points (ty void is_const) plain is = absurd cc
points (ty (basic which) is_const) plain is = absurd cc
points (ty (enum_type number) is_const) plain is = absurd cc
points (ty (array element length) is_const) plain is = absurd cc
points (ty (record_type number) is_const) plain is = absurd cc
points (ty (function result params variadic) is_const) plain is = absurd cc

-- tests that hold of pointers alone
pub element_is_pointer : (types : CTypes) (type : CTy) → is_element_pointer types type ≡ true → is_pointer type ≡ true
element_is_pointer types (ty (pointer to) is_const) is = refl
element_is_pointer types (ty void is_const) is = absurd cc
element_is_pointer types (ty (basic which) is_const) is = absurd cc
element_is_pointer types (ty (enum_type number) is_const) is = absurd cc
element_is_pointer types (ty (array element length) is_const) is = absurd cc
element_is_pointer types (ty (record_type number) is_const) is = absurd cc
element_is_pointer types (ty (function result params variadic) is_const) is = absurd cc

pub first_is_pointer : (types : CTypes) (first second : CTy) → point_alike types first second ≡ true → is_pointer first ≡ true
first_is_pointer types (ty (pointer to) is_const) second is = refl
first_is_pointer types (ty void is_const) second is = absurd cc
first_is_pointer types (ty (basic which) is_const) second is = absurd cc
first_is_pointer types (ty (enum_type number) is_const) second is = absurd cc
first_is_pointer types (ty (array element length) is_const) second is = absurd cc
first_is_pointer types (ty (record_type number) is_const) second is = absurd cc
first_is_pointer types (ty (function result params variadic) is_const) second is = absurd cc

pub second_is_pointer : (types : CTypes) (to : CTy) (first_const : Bool) (second : CTy) → point_alike types (ty (pointer to) first_const) second ≡ true → is_pointer second ≡ true
second_is_pointer types to first_const (ty (pointer other) is_const) is = refl
second_is_pointer types to first_const (ty void is_const) is = absurd cc
second_is_pointer types to first_const (ty (basic which) is_const) is = absurd cc
second_is_pointer types to first_const (ty (enum_type number) is_const) is = absurd cc
second_is_pointer types to first_const (ty (array element length) is_const) is = absurd cc
second_is_pointer types to first_const (ty (record_type number) is_const) is = absurd cc
second_is_pointer types to first_const (ty (function result params variadic) is_const) is = absurd cc

pub object_is_pointer : (type : CTy) → is_object_pointer type ≡ true → is_pointer type ≡ true
object_is_pointer (ty (pointer to) is_const) is = refl
object_is_pointer (ty void is_const) is = absurd cc
object_is_pointer (ty (basic which) is_const) is = absurd cc
object_is_pointer (ty (enum_type number) is_const) is = absurd cc
object_is_pointer (ty (array element length) is_const) is = absurd cc
object_is_pointer (ty (record_type number) is_const) is = absurd cc
object_is_pointer (ty (function result params variadic) is_const) is = absurd cc

-- the type is that of a pointer to an object
pub object_scalar : (types : CTypes) (type : CTy) → is_object_pointer type ≡ true → scalar_of types (form_of_type type) ≡ Some scalar.Object
object_scalar types (ty (pointer (ty (function result params variadic) to_const)) is_const) is = absurd cc
object_scalar types (ty (pointer (ty form to_const)) is_const) is = refl
object_scalar types (ty void is_const) is = absurd cc
object_scalar types (ty (basic which) is_const) is = absurd cc
object_scalar types (ty (enum_type number) is_const) is = absurd cc
object_scalar types (ty (array element length) is_const) is = absurd cc
object_scalar types (ty (record_type number) is_const) is = absurd cc
object_scalar types (ty (function result params variadic) is_const) is = absurd cc

module _ (opens : List ℕ) (types : CTypes) (home : CHome) (grows : Grows opens types home.program.types) where
  settled_plain : (type : CTy) → IsSettled opens type → IsSettled opens (unqualified type)
  settled_plain (ty form is_const) settled = settled

  pub elements_there : (type : CTy) → IsValueType opens types home.unit type → is_element_pointer types type ≡ true → IsElementPointer home.program.types type
  elements_there (ty (pointer to) is_const) held is = (held.plain, complete_stays opens types home.program.types grows to is)
  elements_there (ty void is_const) held is = absurd cc
  elements_there (ty (basic which) is_const) held is = absurd cc
  elements_there (ty (enum_type number) is_const) held is = absurd cc
  elements_there (ty (array element length) is_const) held is = absurd cc
  elements_there (ty (record_type number) is_const) held is = absurd cc
  elements_there (ty (function result params variadic) is_const) held is = absurd cc

  -- pointers to versions of compatible types
  alike_there : (first second : CTy) (first_const second_const : Bool) → IsSettled opens first → IsSettled opens second
      → point_alike types (ty (pointer first) first_const) (ty (pointer second) second_const) ≡ true
      → PointAlike home.program.types (ty (pointer first) first_const) (ty (pointer second) second_const)
  alike_there first second first_const second_const one other is =
      compatible_stays opens types home.program.types grows (unqualified first) (unqualified second) (settled_plain first one) (settled_plain second other) is

  pub point_alike_there : (first second : CTy) → IsValueType opens types home.unit first → IsValueType opens types home.unit second → point_alike types first second ≡ true
      → PointAlike home.program.types first second
  point_alike_there (ty (pointer first) first_const) (ty (pointer second) second_const) one other is =
      alike_there first second first_const second_const one.known.settled other.known.settled is
  point_alike_there (ty (pointer first) first_const) (ty void second_const) one other is = absurd cc
  point_alike_there (ty (pointer first) first_const) (ty (basic which) second_const) one other is = absurd cc
  point_alike_there (ty (pointer first) first_const) (ty (enum_type number) second_const) one other is = absurd cc
  point_alike_there (ty (pointer first) first_const) (ty (array element length) second_const) one other is = absurd cc
  point_alike_there (ty (pointer first) first_const) (ty (record_type number) second_const) one other is = absurd cc
  point_alike_there (ty (pointer first) first_const) (ty (function result params variadic) second_const) one other is = absurd cc
  point_alike_there (ty void first_const) second one other is = absurd cc
  point_alike_there (ty (basic which) first_const) second one other is = absurd cc
  point_alike_there (ty (enum_type number) first_const) second one other is = absurd cc
  point_alike_there (ty (array element length) first_const) second one other is = absurd cc
  point_alike_there (ty (record_type number) first_const) second one other is = absurd cc
  point_alike_there (ty (function result params variadic) first_const) second one other is = absurd cc

  -- a pointer is like itself
  pub alike_itself : (type : CTy) → is_pointer type ≡ true → PointAlike home.program.types type type
  alike_itself (ty (pointer to) is_const) is = compatible_reflexive home.program.types (unqualified to)
  alike_itself (ty void is_const) is = absurd cc
  alike_itself (ty (basic which) is_const) is = absurd cc
  alike_itself (ty (enum_type number) is_const) is = absurd cc
  alike_itself (ty (array element length) is_const) is = absurd cc
  alike_itself (ty (record_type number) is_const) is = absurd cc
  alike_itself (ty (function result params variadic) is_const) is = absurd cc

  -- ---- a value that is converted to a pointer

  fitted_to : (to : CTy) (value : CExpr) (is_null : Bool) → IsTypeIn home.program.types home.unit to → (is_null ≡ false → IsConversion home.program.types (type_of value) (ty (pointer to) false))
      → IsTyped home value → IsConverted home (ty (pointer to) false) (if true && is_null then expr (ty (pointer to) false) (place_of value) null else converted_to (ty (pointer to) false) value)
  fitted_to to value true known allowed typed = record { typed = (known, refl); type_is = refl }
  fitted_to to value false known allowed typed = converted_is home (ty (pointer to) false) value known (λ other. allowed refl) typed

  pub pointer_from : (to from : CTy) → scalar_of_pointer from ≡ scalar_of_pointer to → IsConversion home.program.types (ty (pointer from) false) (ty (pointer to) false)
  pointer_from to from same = record { plain = refl; allowed = (refl, ap Some same) }

  -- to the type of a pointer, where the value is a null pointer constant or may be converted
  pub pointer_fitted : (type : CTy) (value : CExpr) → IsValueType opens types home.unit type → is_pointer type ≡ true
      → (is_null_constant types value ≡ false → IsConversion home.program.types (type_of value) type) → IsTyped home value → IsConverted home type (fitted types type value)
  pointer_fitted type value held is allowed typed =
      let made = points type held.plain is in
      subst (λ t. IsConverted home t (fitted types t value)) (sym made.type_is)
      (fitted_to made.to value (is_null_constant types value)
      (type_stays opens types home.program.types grows home.unit (ty (pointer made.to) false) (subst (IsKnownType opens types home.unit) made.type_is held.known).type_in)
      (λ other. subst (IsConversion home.program.types (type_of value)) made.type_is (allowed other)) typed)
