-- What operators with two operands give as nodes whose operands are typed, and addresses.
use Rattle.std.proofs.Common.{◌≡◌, ◌⊎◌, inl, inr, ℕ, Bool, true, false, Option, Some, None, IsSome, Result, Ok, Err, refl, sym, ap, subst, ◌∙◌}
use Rattle.cr_base.specs.declared.refusal.Place.{Place}
use Rattle.cr_base.specs.declared.scalar.Scalar.{Scalar}
use Rattle.cr_base.specs.declared.scalar.Scalar.TheVariants.{Object, Code}
use Rattle.cx_core.specs.Conversions.{scalar_of, scalar_of_pointer, IsScalarType, IsPromoted}
use Rattle.cx_core.specs.declared.expr.Op2.{Op2}
use Rattle.cx_core.specs.declared.expr.Op2.TheVariants.{Multiply, Divide, Remainder, Add, Subtract, ShiftLeft, ShiftRight, Less, Greater, LessOrEqual, GreaterOrEqual, Equal, NotEqual, BitAnd, BitXor, BitOr}
use Rattle.cx_core.specs.Trees.{CTy, ty, CTyForm, void, basic, enum_type, pointer, array, record_type, function, form_of_type, CTypes, CProgram, CExpr, expr, binary, type_of}
use Rattle.cx_core.specs.Typing.{CHome, IsTyped, IsElementPointer, AreCommon, IsMoved, PointAlike, IsDifference, IsShift, AreNumbers, AreOrdered, AreEqual, int_type, difference_type, IsBinaryOf}
use Rattle.cx_mean.specs.Nodes.{typed_value}
use Rattle.cx_mean.specs.Operands.{CWhy, CValue, scalar, COperand, scalar_value}
use Rattle.cx_mean.specs.Settings.{setting_of}
use Rattle.cx_mean.specs.Values.{CTyped, binary_value}
use Rattle.mem_bytes.specs.Access.{and_then}
use Rattle.mem_bytes.specs.declared.value.Value.{Value}
use Rattle.mem_bytes.specs.Memory.{Blocks}
use Rattle.cx_typed_values.proofs.BinaryValues.{binary_values}
use Rattle.cx_typed_values.proofs.ScalarKinds.{promoted_kind}
use Rattle.cx_typed_values.specs.Outcomes.{Comes}
use Rattle.cx_typed_values.specs.Values.{IsScalarOf, AreObjects}
use Rattle.cx_typed_work.proofs.Given.{value_given}
use Rattle.cx_typed_work.proofs.Nodes.{scalar_comes}
use Rattle.cx_typed_work.proofs.Operators.{some_of, integer_is_scalar, scalar_out, scalar_in, promoted_no_code}
use Rattle.cx_typed_work.proofs.Outcomes.{comes_and}
use Rattle.cx_typed_work.specs.Operands.{IsScalarIn, IsGivenBy, IsOperandOf}

-- ---- operands of operators are scalar (6.5.5 to 6.5.12)

pub record AreScalar (types : CTypes) (left right : CTy) : Type 0 where
  pub left_is : IsScalarType types left
  pub right_is : IsScalarType types right

pub promoted_is_scalar : (types : CTypes) (type : CTy) → IsPromoted type → IsScalarType types type
promoted_is_scalar types type is = some_of (scalar_of types (form_of_type type)) _ (promoted_kind types type is).kind_is

pub element_is_scalar : (types : CTypes) (type : CTy) → IsElementPointer types type → IsScalarType types type
element_is_scalar types (ty (pointer to) is_const) is = refl
element_is_scalar types (ty void is_const) is = absurd is
element_is_scalar types (ty (basic which) is_const) is = absurd is
element_is_scalar types (ty (enum_type number) is_const) is = absurd is
element_is_scalar types (ty (array element length) is_const) is = absurd is
element_is_scalar types (ty (record_type number) is_const) is = absurd is
element_is_scalar types (ty (function result params variadic) is_const) is = absurd is

alike_left : (types : CTypes) (left right : CTy) → PointAlike types left right → IsScalarType types left
alike_left types (ty (pointer to) is_const) right is = refl
alike_left types (ty void is_const) right is = absurd is
alike_left types (ty (basic which) is_const) right is = absurd is
alike_left types (ty (enum_type number) is_const) right is = absurd is
alike_left types (ty (array element length) is_const) right is = absurd is
alike_left types (ty (record_type number) is_const) right is = absurd is
alike_left types (ty (function result params variadic) is_const) right is = absurd is

alike_right : (types : CTypes) (left right : CTy) → PointAlike types left right → IsScalarType types right
alike_right types (ty (pointer to) is_const) (ty (pointer from) also) is = refl
alike_right types (ty (pointer to) is_const) (ty void also) is = absurd is
alike_right types (ty (pointer to) is_const) (ty (basic which) also) is = absurd is
alike_right types (ty (pointer to) is_const) (ty (enum_type number) also) is = absurd is
alike_right types (ty (pointer to) is_const) (ty (array element length) also) is = absurd is
alike_right types (ty (pointer to) is_const) (ty (record_type number) also) is = absurd is
alike_right types (ty (pointer to) is_const) (ty (function result params variadic) also) is = absurd is
alike_right types (ty void is_const) right is = absurd is
alike_right types (ty (basic which) is_const) right is = absurd is
alike_right types (ty (enum_type number) is_const) right is = absurd is
alike_right types (ty (array element length) is_const) right is = absurd is
alike_right types (ty (record_type number) is_const) right is = absurd is
alike_right types (ty (function result params variadic) is_const) right is = absurd is

common_scalar : (types : CTypes) (type left right : CTy) → AreCommon type left right → AreScalar types left right
common_scalar types type left right is =
    let one = promoted_is_scalar types type is.promoted in
    record { left_is = subst (IsScalarType types) (sym is.left_is) one; right_is = subst (IsScalarType types) (sym is.right_is) one }

moved_scalar : (types : CTypes) (type pointer_type by : CTy) → IsMoved types type pointer_type by → AreScalar types pointer_type by
moved_scalar types type pointer_type by is = record { left_is = element_is_scalar types pointer_type is.elements; right_is = integer_is_scalar types by is.integer }

other_way : (types : CTypes) (left right : CTy) → AreScalar types left right → AreScalar types right left
other_way types left right are = record { left_is = are.right_is; right_is = are.left_is }

sum_scalar : (types : CTypes) (type left right : CTy) → AreCommon type left right ⊎ (IsMoved types type left right ⊎ IsMoved types type right left) → AreScalar types left right
sum_scalar types type left right (inl is) = common_scalar types type left right is
sum_scalar types type left right (inr (inl is)) = moved_scalar types type left right is
sum_scalar types type left right (inr (inr is)) = other_way types right left (moved_scalar types type right left is)

subtraction_scalar : (types : CTypes) (type left right : CTy) → AreCommon type left right ⊎ (IsMoved types type left right ⊎ IsDifference types type left right) → AreScalar types left right
subtraction_scalar types type left right (inl is) = common_scalar types type left right is
subtraction_scalar types type left right (inr (inl is)) = moved_scalar types type left right is
subtraction_scalar types type left right (inr (inr is)) = record { left_is = element_is_scalar types left is.left_elements; right_is = element_is_scalar types right is.right_elements }

shift_scalar : (types : CTypes) (type left right : CTy) → IsShift type left right → AreScalar types left right
shift_scalar types type left right is =
    record { left_is = subst (IsScalarType types) (sym is.left_is) (promoted_is_scalar types type is.promoted); right_is = promoted_is_scalar types right is.right_promoted }

numbers_scalar : (types : CTypes) (type left right : CTy) → AreNumbers type left right → AreScalar types left right
numbers_scalar types type left right is =
    let one = promoted_is_scalar types left is.promoted in
    record { left_is = one; right_is = subst (IsScalarType types) (sym is.right_is) one }

order_scalar : (types : CTypes) (type left right : CTy) → AreNumbers type left right ⊎ AreOrdered types type left right → AreScalar types left right
order_scalar types type left right (inl is) = numbers_scalar types type left right is
order_scalar types type left right (inr is) = record { left_is = alike_left types left right is.alike; right_is = alike_right types left right is.alike }

equality_scalar : (types : CTypes) (type left right : CTy) → AreNumbers type left right ⊎ AreEqual types type left right → AreScalar types left right
equality_scalar types type left right (inl is) = numbers_scalar types type left right is
equality_scalar types type left right (inr is) = record { left_is = alike_left types left right is.alike; right_is = alike_right types left right is.alike }

pub both_scalar : (types : CTypes) (op : Op2) (type left right : CTy) → IsBinaryOf types op type left right → AreScalar types left right
both_scalar types Multiply type left right is = common_scalar types type left right is
both_scalar types Divide type left right is = common_scalar types type left right is
both_scalar types Remainder type left right is = common_scalar types type left right is
both_scalar types BitAnd type left right is = common_scalar types type left right is
both_scalar types BitXor type left right is = common_scalar types type left right is
both_scalar types BitOr type left right is = common_scalar types type left right is
both_scalar types Add type left right is = sum_scalar types type left right is
both_scalar types Subtract type left right is = subtraction_scalar types type left right is
both_scalar types ShiftLeft type left right is = shift_scalar types type left right is
both_scalar types ShiftRight type left right is = shift_scalar types type left right is
both_scalar types Less type left right is = order_scalar types type left right is
both_scalar types Greater type left right is = order_scalar types type left right is
both_scalar types LessOrEqual type left right is = order_scalar types type left right is
both_scalar types GreaterOrEqual type left right is = order_scalar types type left right is
both_scalar types Equal type left right is = equality_scalar types type left right is
both_scalar types NotEqual type left right is = equality_scalar types type left right is

-- ---- what they give is no pointer to a function

pub element_no_code : (types : CTypes) (type : CTy) → IsElementPointer types type → scalar_of types (form_of_type type) ≡ Some Code → ⊥
element_no_code types (ty (pointer (ty void inner)) is_const) is e = cc
element_no_code types (ty (pointer (ty (basic which) inner)) is_const) is e = cc
element_no_code types (ty (pointer (ty (enum_type number) inner)) is_const) is e = cc
element_no_code types (ty (pointer (ty (pointer to) inner)) is_const) is e = cc
element_no_code types (ty (pointer (ty (array element length) inner)) is_const) is e = cc
element_no_code types (ty (pointer (ty (record_type number) inner)) is_const) is e = cc
element_no_code types (ty (pointer (ty (function result params variadic) inner)) is_const) is e = cc (is.1)
element_no_code types (ty void is_const) is e = absurd is
element_no_code types (ty (basic which) is_const) is e = absurd is
element_no_code types (ty (enum_type number) is_const) is e = absurd is
element_no_code types (ty (array element length) is_const) is e = absurd is
element_no_code types (ty (record_type number) is_const) is e = absurd is
element_no_code types (ty (function result params variadic) is_const) is e = absurd is

moved_no_code : (types : CTypes) (type pointer_type by : CTy) → IsMoved types type pointer_type by → scalar_of types (form_of_type type) ≡ Some Code → ⊥
moved_no_code types type pointer_type by is e = element_no_code types pointer_type is.elements (subst (λ (t : CTy). scalar_of types (form_of_type t) ≡ Some Code) is.type_is e)

sum_no_code : (types : CTypes) (type left right : CTy) → AreCommon type left right ⊎ (IsMoved types type left right ⊎ IsMoved types type right left) → scalar_of types (form_of_type type) ≡ Some Code → ⊥
sum_no_code types type left right (inl is) = promoted_no_code types type is.promoted
sum_no_code types type left right (inr (inl is)) = moved_no_code types type left right is
sum_no_code types type left right (inr (inr is)) = moved_no_code types type right left is

plain_no_code : (types : CTypes) (type other : CTy) → type ≡ other → (scalar_of types (form_of_type other) ≡ Some Code → ⊥) → scalar_of types (form_of_type type) ≡ Some Code → ⊥
plain_no_code types type other same never e = never (subst (λ (t : CTy). scalar_of types (form_of_type t) ≡ Some Code) same e)

subtraction_no_code : (types : CTypes) (type left right : CTy) → AreCommon type left right ⊎ (IsMoved types type left right ⊎ IsDifference types type left right) → scalar_of types (form_of_type type) ≡ Some Code → ⊥
subtraction_no_code types type left right (inl is) = promoted_no_code types type is.promoted
subtraction_no_code types type left right (inr (inl is)) = moved_no_code types type left right is
subtraction_no_code types type left right (inr (inr is)) = plain_no_code types type difference_type is.type_is (λ e. cc)

order_no_code : (types : CTypes) (type left right : CTy) → AreNumbers type left right ⊎ AreOrdered types type left right → scalar_of types (form_of_type type) ≡ Some Code → ⊥
order_no_code types type left right (inl is) = plain_no_code types type int_type is.type_is (λ e. cc)
order_no_code types type left right (inr is) = plain_no_code types type int_type is.type_is (λ e. cc)

equality_no_code : (types : CTypes) (type left right : CTy) → AreNumbers type left right ⊎ AreEqual types type left right → scalar_of types (form_of_type type) ≡ Some Code → ⊥
equality_no_code types type left right (inl is) = plain_no_code types type int_type is.type_is (λ e. cc)
equality_no_code types type left right (inr is) = plain_no_code types type int_type is.type_is (λ e. cc)

pub binary_no_code : (types : CTypes) (op : Op2) (type left right : CTy) → IsBinaryOf types op type left right → scalar_of types (form_of_type type) ≡ Some Code → ⊥
binary_no_code types Multiply type left right is = promoted_no_code types type is.promoted
binary_no_code types Divide type left right is = promoted_no_code types type is.promoted
binary_no_code types Remainder type left right is = promoted_no_code types type is.promoted
binary_no_code types BitAnd type left right is = promoted_no_code types type is.promoted
binary_no_code types BitXor type left right is = promoted_no_code types type is.promoted
binary_no_code types BitOr type left right is = promoted_no_code types type is.promoted
binary_no_code types Add type left right is = sum_no_code types type left right is
binary_no_code types Subtract type left right is = subtraction_no_code types type left right is
binary_no_code types ShiftLeft type left right is = promoted_no_code types type is.promoted
binary_no_code types ShiftRight type left right is = promoted_no_code types type is.promoted
binary_no_code types Less type left right is = order_no_code types type left right is
binary_no_code types Greater type left right is = order_no_code types type left right is
binary_no_code types LessOrEqual type left right is = order_no_code types type left right is
binary_no_code types GreaterOrEqual type left right is = order_no_code types type left right is
binary_no_code types Equal type left right is = equality_no_code types type left right is
binary_no_code types NotEqual type left right is = equality_no_code types type left right is

-- ---- the node

-- an operand with its type
pub typed_comes : (home : CHome) (node : CExpr) (operand : COperand) → IsTyped home node → IsScalarType home.program.types (type_of node) → IsOperandOf home node operand
    → Comes (λ (one : CTyped). (one.type ≡ type_of node) × IsScalarIn home.program (type_of node) one.value) (typed_value operand)
typed_comes home node operand is scalar_is given =
    comes_and (IsScalarIn home.program (type_of node)) (λ (one : CTyped). (one.type ≡ type_of node) × IsScalarIn home.program (type_of node) one.value) (scalar_value operand.value) _
    (scalar_comes home.program node operand.value scalar_is (value_given home node operand.value is given.given)) (λ value fits. (given.type_is, fits))

pub binary_comes : (home : CHome) (type : CTy) (place : Place) (op : Op2) (left right : CExpr) (blocks : Blocks) (one other : COperand) → AreObjects blocks → IsTyped home (expr type place (binary op left right))
    → IsOperandOf home left one → IsOperandOf home right other
    → Comes (IsGivenBy home (expr type place (binary op left right)))
    (and_then (typed_value one) (λ first. and_then (typed_value other) (λ second. and_then (binary_value (setting_of home.program) op type blocks first second) (λ new. Ok (scalar new)))))
binary_comes home type place op left right blocks one other objects is first second =
    let are = both_scalar home.program.types op type (type_of left) (type_of right) is.1.2 in
    let Goal = IsGivenBy home (expr type place (binary op left right)) in
    comes_and (λ (t : CTyped). (t.type ≡ type_of left) × IsScalarIn home.program (type_of left) t.value) Goal (typed_value one) _ (typed_comes home left one is.1.0 are.left_is first) (λ a fits.
    comes_and (λ (t : CTyped). (t.type ≡ type_of right) × IsScalarIn home.program (type_of right) t.value) Goal (typed_value other) _ (typed_comes home right other is.1.1 are.right_is second) (λ b good.
    comes_and (IsScalarOf home.program.types type) Goal (binary_value (setting_of home.program) op type blocks a b) _
    (subst (λ l. Comes (IsScalarOf home.program.types type) (binary_value (setting_of home.program) op type blocks (record { type = l; value = a.value }) b)) (sym fits.0)
    (subst (λ r. Comes (IsScalarOf home.program.types type) (binary_value (setting_of home.program) op type blocks (record { type = type_of left; value = a.value }) (record { type = r; value = b.value }))) (sym good.0)
    (binary_values home.program op type (type_of left) (type_of right) blocks a.value b.value objects is.1.2 (scalar_out home.program (type_of left) a.value fits.1) (scalar_out home.program (type_of right) b.value good.1))))
    (λ new done. inr (is, inl (scalar_in home.program type new (binary_no_code home.program.types op type (type_of left) (type_of right) is.1.2) done)))))
