-- Laws of types: each form is well typed under the types of its operands (the Rust Reference, "Type system").
use Rattle.std.specs.Prelude.{◌≡◌, ℕ, ℤ, ◌≤◌, ◌<◌, Bool, true, false, if◌then◌else◌, List, Option, Some, None}
use Rattle.cr_base.specs.Layout.{most_bytes}
use Rattle.cr_base.specs.declared.layout.Spot.{Spot}
use Rattle.cx_core.specs.declared.expr.Op1.{Op1}
use Rattle.cx_core.specs.declared.expr.Op1.TheVariants.{Not as Negates}
use Rattle.cx_core.specs.declared.expr.Op2.{Op2}
use Rattle.cx_core.specs.declared.expr.Op2.TheVariants as op2
use Rattle.rs_mean.specs.Scalars.{fits_integer, is_scalar, is_integer, same_integer}
use Rattle.rs_mean.specs.Typing.{Scope, BodyScope, of, is_bits, is_code, is_function_of, is_pointer, is_target, casts, kind_of, own_function_at, place_type, stmts_typed, type_stands}
use Rattle.rs_text.specs.declared.integer.IntegerTy.{IntegerTy}
use Rattle.rs_text.specs.declared.integer.IntegerTy.TheVariants.{I32, I64, U64}
use Rattle.rs_text.specs.Tree.{Ty, Integer, Boolean, Pointer, Code, Tys, OptionTy, Place, Expr, stmts}
use Rattle.lift_forms.specs.BitFields.{bit_read, bit_write, read_type}
use Rattle.lift_forms.specs.Given.{Given, nothing, truth, value, place}
pub use Rattle.lift_forms.specs.Operators.{is_comparison}
use Rattle.lift_forms.specs.Operators.{Operand, constant, null_of, zero_of, value_of, test_of, opposite_of, unary_form, binary_form, and_form, or_form, choice_form, function_form, converted}
use Rattle.lift_forms.specs.Places.{Kept, object_place, address_form}

-- an expression has a value of a type
abbrev pub IsOfType : Scope → Expr → Ty → Type 0
IsOfType scope e ty = kind_of scope e ≡ Some (of ty)

-- what is given has a value of a type: a truth value is an `i32`
abbrev pub IsGivenAs : Scope → Ty → Given → Type 0
IsGivenAs scope ty nothing = ⊥
IsGivenAs scope ty (truth e) = IsOfType scope e Boolean × (ty ≡ Integer I32)
IsGivenAs scope ty (value e) = IsOfType scope e ty
IsGivenAs scope ty (place p) = (place_type scope p ≡ Some ty) × (is_scalar ty ≡ true)

abbrev pub IsOperand : Scope → Operand → Type 0
IsOperand scope operand = IsGivenAs scope operand.ty operand.given

-- ---- the type of a result, where the operands may have these types

abbrev pub unary_result : Op1 → Ty → Option Ty
unary_result Negates ty = if is_scalar ty then Some (Integer I32) else None
unary_result op ty = if is_integer ty then Some ty else None

-- two integers: of one type, but for the count of a shift
abbrev pub numbers_result : Op2 → (one other : IntegerTy) → Option Ty
numbers_result op2.ShiftLeft one other = Some (Integer one)
numbers_result op2.ShiftRight one other = Some (Integer one)
numbers_result op one other = if same_integer one other then Some (if is_comparison op then Integer I32 else Integer one) else None

abbrev pub moved_result : Op2 → (target : Ty) → Option Ty
moved_result op2.Add target = if is_target target then Some (Pointer target) else None
moved_result op2.Subtract target = if is_target target then Some (Pointer target) else None
moved_result _ target = None

abbrev pub pointers_result : Op2 → (target : Ty) → Option Ty
pointers_result op2.Subtract target = if is_target target then Some (Integer I64) else None
pointers_result op target = if is_comparison op then Some (Integer I32) else None

abbrev pub functions_result : Op2 → Option Ty
functions_result op2.Equal = Some (Integer I32)
functions_result op2.NotEqual = Some (Integer I32)
functions_result _ = None

abbrev pub added_result : Op2 → (target : Ty) → Option Ty
added_result op2.Add target = moved_result op2.Add target
added_result _ target = None

abbrev pub binary_result : Op2 → (left right : Ty) → Option Ty
binary_result op (Integer one) (Integer other) = numbers_result op one other
binary_result op (Pointer target) (Integer which) = moved_result op target
binary_result op (Integer which) (Pointer target) = added_result op target
binary_result op (Pointer target) Boolean = moved_result op target
binary_result op Boolean (Pointer target) = added_result op target
binary_result op (Pointer target) (Pointer other) = pointers_result op target
binary_result op (Code params result) (Code others gives) = functions_result op
binary_result op left right = None

-- a value of the first type may be converted to the second one
abbrev pub converts : (from to : Ty) → Bool
converts from (Integer which) = is_bits from
converts from Boolean = is_scalar from
converts from (Pointer target) = is_pointer from
converts from (Code params result) = is_code from
converts from _ = false

-- ---- laws

pub record FormsAreTyped : Type 0 where
  pub values : (scope : Scope) (operand : Operand) → IsOperand scope operand → IsOfType scope (value_of operand) operand.ty
  pub tests : (scope : Scope) (operand : Operand) → IsOperand scope operand → is_scalar operand.ty ≡ true → IsOfType scope (test_of operand) Boolean
  pub opposites : (scope : Scope) (operand : Operand) → IsOperand scope operand → is_scalar operand.ty ≡ true → IsOfType scope (opposite_of operand) Boolean
  pub unary : (scope : Scope) (op : Op1) (operand : Operand) (ty : Ty) → IsOperand scope operand → unary_result op operand.ty ≡ Some ty →
      IsGivenAs scope ty (unary_form op operand)
  pub binary : (scope : Scope) (op : Op2) (left right : Operand) (ty : Ty) → type_stands scope.modules left.ty ≡ true →
      type_stands scope.modules right.ty ≡ true → IsOperand scope left → IsOperand scope right → binary_result op left.ty right.ty ≡ Some ty →
      IsGivenAs scope ty (binary_form op left right)
  pub both : (scope : Scope) (left right : Operand) → IsOperand scope left → IsOperand scope right → is_scalar left.ty ≡ true → is_scalar right.ty ≡ true →
      IsGivenAs scope (Integer I32) (and_form left right)
  pub either : (scope : Scope) (left right : Operand) → IsOperand scope left → IsOperand scope right → is_scalar left.ty ≡ true → is_scalar right.ty ≡ true →
      IsGivenAs scope (Integer I32) (or_form left right)
  pub choices : (scope : Scope) (condition if_true if_false : Operand) → IsOperand scope condition → IsOperand scope if_true → IsOperand scope if_false →
      is_scalar condition.ty ≡ true → if_true.ty ≡ if_false.ty → IsGivenAs scope if_true.ty (choice_form condition if_true if_false)
  pub conversions : (scope : Scope) (operand : Operand) (ty : Ty) → type_stands scope.modules operand.ty ≡ true → type_stands scope.modules ty ≡ true →
      IsOperand scope operand → converts operand.ty ty ≡ true → IsGivenAs scope ty (converted ty operand)

pub record ConstantsAreTyped : Type 0 where
  pub numbers : (scope : Scope) (which : IntegerTy) (number : ℤ) → fits_integer which number ≡ true → IsOfType scope (constant (Integer which) number) (Integer which)
  pub truths : (scope : Scope) (number : ℤ) → IsOfType scope (constant Boolean number) Boolean
  pub zeros : (scope : Scope) (ty : Ty) → type_stands scope.modules ty ≡ true → is_scalar ty ≡ true → IsOfType scope (zero_of ty) ty
  pub nulls : (scope : Scope) (target : Ty) → type_stands scope.modules (Pointer target) ≡ true → IsOfType scope (null_of (Pointer target)) (Pointer target)
  -- the function has just the types with which it is kept
  pub functions : (scope : Scope) (m x : List ℕ) (params : Tys) (result : OptionTy) (ty : Ty) → is_code ty ≡ true → type_stands scope.modules ty ≡ true →
      type_stands scope.modules (Code params result) ≡ true → is_function_of params result (own_function_at scope.modules m x) ≡ true →
      IsGivenAs scope ty (function_form m x (Code params result) ty)

pub record PlacesAreTyped : Type 0 where
  pub objects : (scope : Scope) (kept : Kept) (ty : Ty) → place_type scope kept.place ≡ Some kept.ty → is_target kept.ty ≡ true →
      type_stands scope.modules (Pointer ty) ≡ true → place_type scope (object_place kept ty) ≡ Some ty
  pub addresses : (scope : Scope) (ty target : Ty) (p : Place) → place_type scope p ≡ Some ty → is_target ty ≡ true →
      type_stands scope.modules (Pointer target) ≡ true → IsGivenAs scope (Pointer target) (address_form ty target p)

-- a bit-field of the profile: of 1 to 32 bits, in an object that isn't too large
pub record IsBitField (spot : Spot) : Type 0 where
  pub bit : spot.bit < 8
  pub some : 0 < spot.width
  pub most : spot.width ≤ 32
  pub near : spot.byte ≤ most_bytes

pub record BitFieldsAreTyped : Type 0 where
  pub reads : (scope : Scope) (base : Expr) (target : Ty) (spot : Spot) (signed : Bool) → IsBitField spot → IsOfType scope base (Pointer target) →
      IsOfType scope (bit_read base spot signed) (Integer (read_type signed))
  -- what is stored is an integer or a truth value
  pub writes : (scope : BodyScope) (base stored : Expr) (target ty : Ty) (spot : Spot) → IsBitField spot → IsOfType scope.names base (Pointer target) →
      IsOfType scope.names stored ty → casts ty (Integer U64) ≡ true → stmts_typed scope (stmts (bit_write base spot stored)) ≡ true
