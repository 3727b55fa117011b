-- Laws of validity: each form is one of the subset where its operands and their types are (the Rust Reference, "Expressions", "Types").
use Rattle.std.specs.Prelude.{◌≡◌, ℕ, ℤ, true, List}
use Rattle.cx_core.specs.declared.expr.Op1.{Op1}
use Rattle.cx_core.specs.declared.expr.Op2.{Op2}
use Rattle.rs_text.specs.Tree.{Ty, Place}
use Rattle.rs_text.specs.Valid.{is_value, valid_expr, valid_path, valid_place, valid_target, valid_ty}
use Rattle.lift_forms.specs.Given.{Given, nothing, truth, value, place}
use Rattle.lift_forms.specs.Operators.{Operand, constant, zero_of, value_of, test_of, unary_form, binary_form, and_form, or_form, choice_form, function_form, converted}
use Rattle.lift_forms.specs.Places.{Kept, object_place, address_form}

abbrev pub IsValidGiven : Given → Type 0
IsValidGiven nothing = Unit {0}
IsValidGiven (truth e) = valid_expr e ≡ true
IsValidGiven (value e) = valid_expr e ≡ true
IsValidGiven (place p) = valid_place p ≡ true

pub record FormsAreValid : Type 0 where
  pub values : (operand : Operand) → IsValidGiven operand.given → valid_expr (value_of operand) ≡ true
  pub tests : (operand : Operand) → IsValidGiven operand.given → valid_expr (test_of operand) ≡ true
  pub unary : (op : Op1) (operand : Operand) → IsValidGiven operand.given → IsValidGiven (unary_form op operand)
  pub binary : (op : Op2) (left right : Operand) → valid_ty left.ty ≡ true → valid_ty right.ty ≡ true → IsValidGiven left.given → IsValidGiven right.given →
      IsValidGiven (binary_form op left right)
  pub both : (left right : Operand) → IsValidGiven left.given → IsValidGiven right.given → IsValidGiven (and_form left right)
  pub either : (left right : Operand) → IsValidGiven left.given → IsValidGiven right.given → IsValidGiven (or_form left right)
  pub choices : (condition if_true if_false : Operand) → IsValidGiven condition.given → IsValidGiven if_true.given → IsValidGiven if_false.given →
      IsValidGiven (choice_form condition if_true if_false)
  pub conversions : (operand : Operand) (ty : Ty) → valid_ty operand.ty ≡ true → valid_ty ty ≡ true → IsValidGiven operand.given → IsValidGiven (converted ty operand)

pub record LeavesAreValid : Type 0 where
  pub constants : (ty : Ty) (number : ℤ) → is_value number ≡ true → valid_expr (constant ty number) ≡ true
  pub zeros : (ty : Ty) → valid_ty ty ≡ true → valid_expr (zero_of ty) ≡ true
  pub functions : (m x : List ℕ) (kept ty : Ty) → valid_path m x ≡ true → valid_ty kept ≡ true → valid_ty ty ≡ true → IsValidGiven (function_form m x kept ty)
  pub objects : (kept : Kept) (ty : Ty) → valid_place kept.place ≡ true → valid_target ty ≡ true → valid_place (object_place kept ty) ≡ true
  pub addresses : (ty target : Ty) (p : Place) → valid_place p ≡ true → valid_target target ≡ true → IsValidGiven (address_form ty target p)
