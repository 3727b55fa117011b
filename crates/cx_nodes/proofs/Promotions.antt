-- The type of a promoted value.
use Rattle.std.proofs.Common.{◌≡◌, refl, ap, Bool, true, false}
use Rattle.std.specs.Prelude.{ℕ, Option, None, Some, is_some}
use denote.Enum.Bare.{same_true}
use Rattle.cx_core.specs.contracts.ty.Basic.{the_type}
use Rattle.cx_core.specs.Conversions.{same_basic, basic_of, promoted, promoted_basic}
use Rattle.cx_core.specs.declared.ty.Basic.{Basic}
use Rattle.cx_core.specs.Trees.{CTy, ty, CTypes, void, basic, enum_type, pointer, array, record_type, function, form_of_type, CExpr, type_of}
use Rattle.cx_rules.specs.Meanings.{trailing_value}
use Rattle.cx_rules.specs.Operands.{COperand, converted_to, promoted_type, promoted_value, value_of, value_type}
use Rattle.cx_rules.specs.Types.{same_type, is_integer}

same_basic_same : (one other : Basic) → same_basic one other ≡ true → one ≡ other
unfolding same_basic
same_basic_same one other is = same_true the_type tt one other is

same_form_same : (is_const : Bool) (one other : Basic) → same_type (ty (basic one) is_const) (ty (basic other) false) ≡ true → ty (basic one) is_const ≡ ty (basic other) false
same_form_same false one other is = ap (λ b. ty (basic b) false) (same_basic_same one other is)
same_form_same true one other is = cc

same_type_same : (type : CTy) (which : Basic) → same_type type (ty (basic which) false) ≡ true → type ≡ ty (basic which) false
same_type_same (ty (basic one) is_const) which is = same_form_same is_const one which is
same_type_same (ty void false) which is = cc
same_type_same (ty void true) which is = cc
same_type_same (ty (enum_type number) false) which is = cc
same_type_same (ty (enum_type number) true) which is = cc
same_type_same (ty (pointer to) false) which is = cc
same_type_same (ty (pointer to) true) which is = cc
same_type_same (ty (array element length) false) which is = cc
same_type_same (ty (array element length) true) which is = cc
same_type_same (ty (record_type number) false) which is = cc
same_type_same (ty (record_type number) true) which is = cc
same_type_same (ty (function result params variadic) false) which is = cc
same_type_same (ty (function result params variadic) true) which is = cc

converted_by : (which : Basic) (value : CExpr) (same : Bool) → same_type (type_of value) (ty (basic which) false) ≡ same
    → type_of (converted_to (ty (basic which) false) value) ≡ ty (basic which) false
converted_by which value true is = rw is (same_type_same (type_of value) which is)
converted_by which value false is = rw is refl

promoted_by : (types : CTypes) (type : CTy) (width : Option ℕ) (value : CExpr) (found : Option Basic) → basic_of types (form_of_type type) ≡ found → is_some found ≡ true
    → type_of (converted_to (promoted types type width) value) ≡ promoted types type width
promoted_by types type width value (Some which) is there = rw is (converted_by (promoted_basic which width) value _ refl)
promoted_by types type width value None is there = cc

promoted_is : (types : CTypes) (arg : COperand) → is_integer types (value_type arg) ≡ true → type_of (promoted_value types arg) ≡ promoted_type types arg
promoted_is types arg is = promoted_by types (value_type arg) _ (value_of arg) _ refl is

pub trailing_is : (types : CTypes) (arg : COperand) → is_integer types (value_type arg) ≡ true → type_of (trailing_value types arg) ≡ promoted_type types arg
trailing_is types arg is = rw is (promoted_is types arg is)
