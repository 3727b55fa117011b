-- What an operand whose value is used has: a value, and an address that points to an object.
use Rattle.std.proofs.Common.{◌≡◌, ◌⊎◌, inl, inr, true, false, not, Some, None, refl, sym, ap, subst, ◌∙◌}
use Rattle.cr_base.specs.declared.scalar.Scalar.TheVariants as scalars
use Rattle.cx_core.specs.Conversions.{IsPromoted, IsIntegerType, IsScalarType}
use Rattle.cx_core.specs.declared.expr.Op1.{Op1}
use Rattle.cx_core.specs.declared.expr.Op1.TheVariants as op1
use Rattle.cx_core.specs.declared.expr.Op2.{Op2}
use Rattle.cx_core.specs.declared.ty.Basic.TheVariants as basics
use Rattle.cx_core.specs.Trees.{CTy, ty, void, basic, enum_type, pointer, array, record_type, function, form_of_type, unqualified, CTypes, CExpr, expr, type_of}
use Rattle.cx_core.specs.Typing.{IsLvalue, IsAddressOf, IsConversion, IsUnaryOf, IsAssignOf}
use Rattle.cx_core.specs.ValidTypes.{IsObjectForm}
use Rattle.lift_does.proofs.Around.{Around}
use Rattle.lift_does.proofs.Binary.{BinaryThere}
use Rattle.lift_does.proofs.BinaryTypes.{object_form}
use Rattle.lift_does.proofs.Places.{object_kind, lvalue_object}
use Rattle.lift_does.proofs.Types.{kind_there}
use Rattle.lift_exprs.specs.Names.{type_in}
use Rattle.lift_forms.specs.LawsTyping.{binary_result}
use Rattle.lift_held.specs.Held.{is_void}
use Rattle.rs_mean.specs.Scalars.{scalar_of}
use Rattle.rs_text.specs.Tree.{Ty, Integer, Boolean, Void, Pointer, Array, Code, Record}

pub scalar_has : (types : CTypes) (type : CTy) → IsScalarType types type → is_void type ≡ false
scalar_has types (ty void is_const) is = cc is
scalar_has types (ty (basic which) is_const) is = refl
scalar_has types (ty (enum_type number) is_const) is = refl
scalar_has types (ty (pointer to) is_const) is = refl
scalar_has types (ty (array element length) is_const) is = refl
scalar_has types (ty (record_type number) is_const) is = refl
scalar_has types (ty (function result params variadic) is_const) is = refl

integer_has : (types : CTypes) (type : CTy) → IsIntegerType types type → is_void type ≡ false
integer_has types (ty void is_const) is = cc is
integer_has types (ty (basic which) is_const) is = refl
integer_has types (ty (enum_type number) is_const) is = refl
integer_has types (ty (pointer to) is_const) is = refl
integer_has types (ty (array element length) is_const) is = refl
integer_has types (ty (record_type number) is_const) is = refl
integer_has types (ty (function result params variadic) is_const) is = refl

pub promoted_has : (type : CTy) → IsPromoted type → is_void type ≡ false
promoted_has (ty void is_const) is = cc (is.0)
promoted_has (ty (basic which) is_const) is = refl
promoted_has (ty (enum_type number) is_const) is = refl
promoted_has (ty (pointer to) is_const) is = refl
promoted_has (ty (array element length) is_const) is = refl
promoted_has (ty (record_type number) is_const) is = refl
promoted_has (ty (function result params variadic) is_const) is = refl

pub object_has : (type : CTy) → IsObjectForm (form_of_type type) → is_void type ≡ false
object_has (ty void is_const) is = absurd is
object_has (ty (basic which) is_const) is = refl
object_has (ty (enum_type number) is_const) is = refl
object_has (ty (pointer to) is_const) is = refl
object_has (ty (array element length) is_const) is = refl
object_has (ty (record_type number) is_const) is = refl
object_has (ty (function result params variadic) is_const) is = refl

unqualified_has : (type : CTy) → is_void (unqualified type) ≡ is_void type
unqualified_has (ty form is_const) = refl

pub unary_has : (types : CTypes) (op : Op1) (type value : CTy) → IsUnaryOf types op type value → is_void value ≡ false
unary_has types op1.Not type value is = scalar_has types value is.scalar
unary_has types op1.Plus type value is = ap is_void is.value_is ∙ promoted_has type is.promoted
unary_has types op1.Minus type value is = ap is_void is.value_is ∙ promoted_has type is.promoted
unary_has types op1.Complement type value is = ap is_void is.value_is ∙ promoted_has type is.promoted

pub convert_has : (types : CTypes) (from type : CTy) → IsConversion types from type → not (is_void type) ≡ true → is_void from ≡ false
convert_has types from (ty void is_const) is used = cc (used)
convert_has types from (ty (basic basics.Truth) is_const) is used = scalar_has types from is.allowed
convert_has types from (ty (basic which) is_const) is used = integer_has types from is.allowed
convert_has types from (ty (enum_type number) is_const) is used = integer_has types from is.allowed
convert_has types (ty (pointer of) const) (ty (pointer to) is_const) is used = refl
convert_has types (ty void const) (ty (pointer to) is_const) is used = absurd is.allowed.0
convert_has types (ty (basic which) const) (ty (pointer to) is_const) is used = refl
convert_has types (ty (enum_type number) const) (ty (pointer to) is_const) is used = refl
convert_has types (ty (array element length) const) (ty (pointer to) is_const) is used = refl
convert_has types (ty (record_type number) const) (ty (pointer to) is_const) is used = refl
convert_has types (ty (function result params variadic) const) (ty (pointer to) is_const) is used = refl
convert_has types from (ty (array element length) is_const) is used = absurd is.allowed
convert_has types from (ty (record_type number) is_const) is used = absurd is.allowed
convert_has types from (ty (function result params variadic) is_const) is used = absurd is.allowed

right_void : (op : Op2) (one gives : Ty) → binary_result op one Void ≡ Some gives → ⊥
right_void op (Integer which) gives e = cc (e)
right_void op Boolean gives e = cc (e)
right_void op (Pointer target) gives e = cc (e)
right_void op (Code params result) gives e = cc (e)
right_void op Void gives e = cc (e)
right_void op (Array element size) gives e = cc (e)
right_void op (Record m y) gives e = cc (e)

module _ (x : Around) where
  pub left_has : (op : Op2) (type left right : CTy) → BinaryThere x op type left right → is_void left ≡ false
  left_has op type (ty void is_const) right is = let clash : None ≡ Some (type_in x.names type) = is.result in cc (clash)
  left_has op type (ty (basic which) is_const) right is = refl
  left_has op type (ty (enum_type number) is_const) right is = refl
  left_has op type (ty (pointer to) is_const) right is = refl
  left_has op type (ty (array element length) is_const) right is = refl
  left_has op type (ty (record_type number) is_const) right is = refl
  left_has op type (ty (function result params variadic) is_const) right is = refl

  pub right_has : (op : Op2) (type left right : CTy) → BinaryThere x op type left right → is_void right ≡ false
  right_has op type left (ty void is_const) is = absurd (right_void op (type_in x.names left) (type_in x.names type) is.result)
  right_has op type left (ty (basic which) is_const) is = refl
  right_has op type left (ty (enum_type number) is_const) is = refl
  right_has op type left (ty (pointer to) is_const) is = refl
  right_has op type left (ty (array element length) is_const) is = refl
  right_has op type left (ty (record_type number) is_const) is = refl
  right_has op type left (ty (function result params variadic) is_const) is = refl

  pub lvalue_has : (e : CExpr) → IsLvalue x.home e → is_void (type_of e) ≡ false
  lvalue_has e is = object_has (type_of e) (lvalue_object x e is)

  pub assigned_has : (type : CTy) (target value : CExpr) → IsLvalue x.home target → IsAssignOf x.home.program.types type (type_of target) (type_of value) → is_void (type_of value) ≡ false
  assigned_has type target value lvalue is = ap is_void is.value_is ∙ (ap is_void is.type_is ∙ (unqualified_has (type_of target) ∙ lvalue_has target lvalue))

  -- an address is a pointer to an object
  to_object : (type to : CTy) → IsObjectForm (form_of_type to) → type ≡ ty (pointer to) false → scalar_of (type_in x.names type) ≡ Some scalars.Object
  to_object type to is same = subst (λ (t : CTy). scalar_of (type_in x.names t) ≡ Some scalars.Object) (sym same) (kind_there x (ty (pointer to) false) scalars.Object (ap Some (object_kind to is)))

  pub address_kind : (type : CTy) (of : CExpr) → IsLvalue x.home of → IsAddressOf type of → scalar_of (type_in x.names type) ≡ Some scalars.Object
  address_kind type (expr (ty (array element length) is_const) at form) lvalue is = by is.type_is
    where
      by : (type ≡ ty (pointer (ty (array element length) is_const)) false) ⊎ (type ≡ ty (pointer element) false) → scalar_of (type_in x.names type) ≡ Some scalars.Object
      by (inl same) = to_object type (ty (array element length) is_const) tt same
      by (inr same) = to_object type element (object_form x.home.program.types element lvalue.0.1.complete) same
  address_kind type (expr (ty (basic which) is_const) at form) lvalue is = by is.type_is
    where
      by : (type ≡ ty (pointer (ty (basic which) is_const)) false) ⊎ ⊥ → scalar_of (type_in x.names type) ≡ Some scalars.Object
      by (inl same) = to_object type (ty (basic which) is_const) tt same
      by (inr none) = absurd none
  address_kind type (expr (ty (enum_type number) is_const) at form) lvalue is = by is.type_is
    where
      by : (type ≡ ty (pointer (ty (enum_type number) is_const)) false) ⊎ ⊥ → scalar_of (type_in x.names type) ≡ Some scalars.Object
      by (inl same) = to_object type (ty (enum_type number) is_const) tt same
      by (inr none) = absurd none
  address_kind type (expr (ty (pointer to) is_const) at form) lvalue is = by is.type_is
    where
      by : (type ≡ ty (pointer (ty (pointer to) is_const)) false) ⊎ ⊥ → scalar_of (type_in x.names type) ≡ Some scalars.Object
      by (inl same) = to_object type (ty (pointer to) is_const) tt same
      by (inr none) = absurd none
  address_kind type (expr (ty (record_type number) is_const) at form) lvalue is = by is.type_is
    where
      by : (type ≡ ty (pointer (ty (record_type number) is_const)) false) ⊎ ⊥ → scalar_of (type_in x.names type) ≡ Some scalars.Object
      by (inl same) = to_object type (ty (record_type number) is_const) tt same
      by (inr none) = absurd none
  address_kind type (expr (ty void is_const) at form) lvalue is = absurd lvalue.1
  address_kind type (expr (ty (function result params variadic) is_const) at form) lvalue is = absurd lvalue.1
