-- Promoted values, and values of a common type (ISO C99, 6.3.1.1, 6.3.1.8).
use Rattle.std.proofs.Common.{◌≡◌, ℕ, Bool, true, false, ◌||◌, not, List, slice_get, refl, sym, ap, ◌∙◌, subst}
use Rattle.cx_core.specs.declared.ty.Basic.{Basic}
use Rattle.cx_core.specs.Conversions.{basic_of, basic_of_enum, scalar_of, scalar_of_basic, is_promoted_basic, common_basic, common_type, IsIntegerType, IsScalarType, IsPromoted}
use Rattle.cx_core.specs.Trees.{CTy, ty, CTyForm, void, basic, enum_type, pointer, array, record_type, function, CTypes}
use Rattle.cx_core.specs.Typing.{CHome}
use Rattle.cx_rules.specs.Operands.{COperand, converted_to, value_of, value_type, holds_nothing, promoted_type, promoted_value, common_of, width_of_operand}
use Rattle.cx_rules.specs.Types.{is_integer, is_scalar}
use Rattle.cx_typed.proofs.Conversions.{promotes, IsConverted, integer_is, common_is}
use Rattle.cx_typed.proofs.Growing.{some_stays, map_gives, basic_grows}
use Rattle.cx_typed.proofs.Values.{value_is, value_type_is}
use Rattle.cx_typed.specs.Growth.{Gives, Grows, IsSettledForm}
use Rattle.cx_typed.specs.Operands.{IsValueType, IsOperandType, IsTypedOperand}

pub neither : {a b : Bool} → (a || b) ≡ false → (a ≡ false) × (b ≡ false)
neither {a = false} {b = false} is = (refl, refl)
neither {a = false} {b = true} is = absurd cc
neither {a = true} {b = b} is = absurd cc

pub not_not : {a : Bool} → not a ≡ false → a ≡ true
not_not {a = true} is = refl
not_not {a = false} is = absurd cc

pub is_not : {a : Bool} → not a ≡ true → a ≡ false
is_not {a = true} is = absurd cc
is_not {a = false} is = refl

-- ---- the types of promoted values

module _ (opens : List ℕ) (types : CTypes) (unit : ℕ) where
  pub basic_value : (which : Basic) → IsValueType opens types unit (ty (basic which) false)
  basic_value which = record { known = record { type_in = tt; settled = tt }; plain = refl; form = tt }

  pub promoted_type_is : (operand : COperand) → is_integer types (value_type operand) ≡ true → IsValueType opens types unit (promoted_type types operand)
  promoted_type_is operand is =
      let made = promotes types (value_type operand) (width_of_operand operand) is in
      subst (IsValueType opens types unit) (sym made.promoted_to) (basic_value made.which)

-- the common type of two operands
pub record HaveCommon (types : CTypes) (left right : COperand) : Type 0 where
  pub which : Basic
  pub common_to : common_of types left right ≡ ty (basic which) false
  pub is_promoted : is_promoted_basic which ≡ true

pub have_common : (types : CTypes) (left right : COperand) → is_integer types (value_type left) ≡ true → is_integer types (value_type right) ≡ true → HaveCommon types left right
have_common types left right one other =
    let first = promotes types (value_type left) (width_of_operand left) one in
    let second = promotes types (value_type right) (width_of_operand right) other in
    record {
      which = common_basic first.which second.which;
      common_to = ap (λ t. common_type t (promoted_type types right)) first.promoted_to ∙ ap (common_type (ty (basic first.which) false)) second.promoted_to;
      is_promoted = common_is first.which second.which first.is_promoted second.is_promoted;
    }

pub common_value_type : (opens : List ℕ) (types : CTypes) (unit : ℕ) (left right : COperand) → is_integer types (value_type left) ≡ true → is_integer types (value_type right) ≡ true
    → IsValueType opens types unit (common_of types left right)
common_value_type opens types unit left right one other =
    let made = have_common types left right one other in
    subst (IsValueType opens types unit) (sym made.common_to) (basic_value opens types unit made.which)

-- ---- in a program

module _ (opens : List ℕ) (types : CTypes) (home : CHome) (grows : Grows opens types home.program.types) where
  pub integer_there : (type : CTy) → IsValueType opens types home.unit type → is_integer types type ≡ true → IsIntegerType home.program.types type
  integer_there (ty form is_const) held is =
      some_stays (basic_of types form) (basic_of home.program.types form) (basic_grows opens types home.program.types grows form held.known.settled) is

  scalar_grows : (form : CTyForm) → IsSettledForm opens form → Gives (scalar_of types form) (scalar_of home.program.types form)
  scalar_grows (enum_type number) settled = λ one is.
      map_gives (λ is_int. scalar_of_basic (basic_of_enum is_int)) (slice_get types.enums number) (slice_get home.program.types.enums number) (grows.enums number settled) one is
  scalar_grows void settled = λ one is. is
  scalar_grows (basic which) settled = λ one is. is
  scalar_grows (pointer to) settled = λ one is. is
  scalar_grows (array element length) settled = λ one is. is
  scalar_grows (record_type number) settled = λ one is. is
  scalar_grows (function result params variadic) settled = λ one is. is

  pub scalar_there : (type : CTy) → IsValueType opens types home.unit type → is_scalar types type ≡ true → IsScalarType home.program.types type
  scalar_there (ty form is_const) held is = some_stays (scalar_of types form) (scalar_of home.program.types form) (scalar_grows form held.known.settled) is

  -- an operand of integer type, converted to a basic type
  pub operand_to : (which : Basic) (operand : COperand) → IsOperandType opens types home.unit operand → holds_nothing types operand ≡ false → is_integer types (value_type operand) ≡ true
      → IsTypedOperand home operand → IsConverted home (ty (basic which) false) (converted_to (ty (basic which) false) (value_of operand))
  operand_to which operand held holds is typed =
      integer_is home which (value_of operand) (integer_there (value_type operand) (value_type_is opens types home.unit operand held) is)
      (value_is opens types home grows operand held holds typed)

  -- a promoted operand
  pub promoted_there : (operand : COperand) → IsOperandType opens types home.unit operand → holds_nothing types operand ≡ false → is_integer types (value_type operand) ≡ true
      → IsTypedOperand home operand → IsConverted home (promoted_type types operand) (promoted_value types operand) × IsPromoted (promoted_type types operand)
  promoted_there operand held holds is typed =
      let made = promotes types (value_type operand) (width_of_operand operand) is in (
        subst (λ type. IsConverted home type (converted_to type (value_of operand))) (sym made.promoted_to) (operand_to made.which operand held holds is typed),
        subst IsPromoted (sym made.promoted_to) (made.is_promoted, refl),
      )

  -- an operand converted to a common type
  pub common_there : (left right operand : COperand) → is_integer types (value_type left) ≡ true → is_integer types (value_type right) ≡ true
      → IsOperandType opens types home.unit operand → holds_nothing types operand ≡ false → is_integer types (value_type operand) ≡ true
      → IsTypedOperand home operand → IsConverted home (common_of types left right) (converted_to (common_of types left right) (value_of operand))
  common_there left right operand one other held holds is typed =
      let made = have_common types left right one other in
      subst (λ type. IsConverted home type (converted_to type (value_of operand))) (sym made.common_to) (operand_to made.which operand held holds is typed)

  pub common_promoted : (left right : COperand) → is_integer types (value_type left) ≡ true → is_integer types (value_type right) ≡ true → IsPromoted (common_of types left right)
  common_promoted left right one other =
      let made = have_common types left right one other in
      subst IsPromoted (sym made.common_to) (made.is_promoted, refl)
