-- What is an expression of numbers has operands that are (ISO C99, 6.6p3, p6).
use Rattle.std.proofs.Common.{◌≡◌, ℕ, ℤ, Bool, true, false, ◌&&◌, if◌then◌else◌, List, Option, None, Some, is_some, is_none, option_map, refl, subst}
use Rattle.cr_base.specs.declared.refusal.Place.{Place as TextPlace}
use Rattle.cx_core.specs.declared.expr.Op1.{Op1}
use Rattle.cx_core.specs.declared.expr.Op1.TheVariants as op1
use Rattle.cx_core.specs.declared.expr.Op2.{Op2}
use Rattle.cx_core.specs.declared.expr.Op2.TheVariants as op
use Rattle.cx_core.specs.Trees.{CTy, ty, CTyForm, void, basic, enum_type, pointer, array, record_type, function, form_of_type, is_const_type, CTypes, CExpr, expr, CForm, whole, null, object, code, load, deref, member, address, convert, unary, binary, and, or, cond, assign, assign_by, step, call, call_by, comma, literal, type_of}
use Rattle.cx_core.specs.ValidTypes.{with_const}
use Rattle.cx_rules.specs.declared.kinds.OperandKind.{OperandKind}
use Rattle.cx_rules.specs.declared.kinds.OperandKind.TheVariants.{Value, Place, Function, VoidPlace}
use Rattle.cx_rules.specs.declared.kinds.Pairing.{Pairing}
use Rattle.cx_rules.specs.declared.kinds.Pairing.TheVariants.{Arithmetic, Shift, PointerInteger, IntegerPointer, Pointers, LeftConverted, RightConverted, Tests, Nothing}
use Rattle.cx_rules.specs.Meanings.{CFoundMember, by_pairing, binary_meaning, unary_meaning, deref_meaning, deref_as, address_meaning, address_of_place, index_meaning, chosen_as, cond_meaning, choice_type, assigned_by, dot_as, dot_meaning, find_member, arrow_meaning, call_as, call_form, callee_type, call_meaning}
use Rattle.cx_rules.specs.Nodes.{deref_node, address_node, binary_node, index_node, cond_node, dot_node, arrow_node, call_node}
use Rattle.cx_rules.specs.Operands.{COperand, a_place, value_of, value_of_place, value_type, converted_to, fitted, is_constant_form, are_constant_parts, constant_of, is_null_constant}
use Rattle.cx_rules.specs.Pairs.{pairing, is_nothing, both_integers, numbers_pair, shift_pair, sum_pair, difference_pair, differ, order_pair, ordered, equality_pair, void_beside}
use Rattle.cx_rules.specs.Rules.{is_moved, has_address, not_callable, lacks_member_behind}
use Rattle.cx_rules.specs.Scope.{CScope}
use Rattle.cx_rules.specs.Types.{same_type, is_integer, is_pointer, is_element_pointer, point_alike, target_of}
use Rattle.cx_typed.proofs.Binary.{chooses}
use Rattle.cx_typed.proofs.Promoted.{neither, not_not}
use Rattle.cx_typed.proofs.Same.{both}
use Rattle.cx_typed.specs.Constants.{IsWholeType, IsOfNumbers, IsFormOfNumbers}
use Rattle.cx_typed.specs.Operands.{IsOperandTypeBy, IsOperandType, IsCodePointer, IsVoidPointer}
use Rattle.cx_typed.specs.Unbroken.{IsUnbroken}

-- ---- integer constant expressions

integer_form : (types : CTypes) (type : CTy) → is_integer types type ≡ true → IsWholeType type
integer_form types (ty (basic which) is_const) is = tt
integer_form types (ty (enum_type number) is_const) is = tt
integer_form types (ty void is_const) is = absurd cc
integer_form types (ty (pointer to) is_const) is = absurd cc
integer_form types (ty (array element length) is_const) is = absurd cc
integer_form types (ty (record_type number) is_const) is = absurd cc
integer_form types (ty (function result params variadic) is_const) is = absurd cc

mutual
  numbers_are : (types : CTypes) (value : CExpr) → is_constant_form types value ≡ true → IsOfNumbers value
  numbers_are types (expr type place form) is = (integer_form types type (both is).0, parts_are types form (both is).1)

  parts_are : (types : CTypes) (form : CForm) → are_constant_parts types form ≡ true → IsFormOfNumbers form
  parts_are types (whole value) is = tt
  parts_are types (convert value) is = numbers_are types value is
  parts_are types (unary which value) is = numbers_are types value is
  parts_are types (binary which left right) is = (numbers_are types left (both is).0, numbers_are types right (both is).1)
  parts_are types (and left right) is = (numbers_are types left (both is).0, numbers_are types right (both is).1)
  parts_are types (or left right) is = (numbers_are types left (both is).0, numbers_are types right (both is).1)
  parts_are types (cond test first second) is = (numbers_are types test (both is).0, numbers_are types first (both (both is).1).0, numbers_are types second (both (both is).1).1)
  parts_are types null is = absurd cc
  parts_are types (object number) is = absurd cc
  parts_are types (code number) is = absurd cc
  parts_are types (load from) is = absurd cc
  parts_are types (deref from) is = absurd cc
  parts_are types (member of spot) is = absurd cc
  parts_are types (address of) is = absurd cc
  parts_are types (assign target value) is = absurd cc
  parts_are types (assign_by which computes target value) is = absurd cc
  parts_are types (step up post on) is = absurd cc
  parts_are types (call callee args) is = absurd cc
  parts_are types (call_by callee args) is = absurd cc
  parts_are types (comma first second) is = (numbers_are types first (both is).0, numbers_are types second (both is).1)
  parts_are types (literal number puts) is = absurd cc

constant_by : (types : CTypes) (value : CExpr) (test : Bool) (found : Option ℤ) → is_constant_form types value ≡ test → is_some (if test then found else None) ≡ true → IsOfNumbers value
constant_by types value true found form is = numbers_are types value form
constant_by types value false found form is = absurd cc

-- what has the value of a constant is one of numbers
pub constant_numbers : (types : CTypes) (value : CExpr) → is_none (constant_of types value) ≡ false → IsOfNumbers value
unfolding constant_of
constant_numbers types value is = constant_by types value (is_constant_form types value) _ refl (some_of _ is)
  where
    some_of : {A : Type 0} (found : Option A) → is_none found ≡ false → is_some found ≡ true
    some_of None none = absurd cc
    some_of (Some one) none = refl

-- ---- values

if_converted : (test : Bool) (type : CTy) (place : TextPlace) (value : CExpr) → IsOfNumbers (if test then value else expr type place (convert value)) → IsOfNumbers value
if_converted true type place value held = held
if_converted false type place value held = held.1

of_converted : (type : CTy) (value : CExpr) → IsOfNumbers (converted_to type value) → IsOfNumbers value
of_converted type (expr own place form) held = if_converted (same_type own type) type place (expr own place form) held

if_null : (test : Bool) (type : CTy) (place : TextPlace) (value other : CExpr) → (IsOfNumbers other → IsOfNumbers value) → IsOfNumbers (if test then expr type place null else other) → IsOfNumbers value
if_null true type place value other later held = absurd held.1
if_null false type place value other later held = later held

of_fitted : (types : CTypes) (type : CTy) (value : CExpr) → IsOfNumbers (fitted types type value) → IsOfNumbers value
of_fitted types type value held = if_null (is_pointer type && is_null_constant types value) _ _ value _ (of_converted _ value) held

-- a pointer is no number
no_pointer : (value : CExpr) (to : CTy) (is_const : Bool) → type_of value ≡ ty (pointer to) is_const → IsOfNumbers value → ⊥
no_pointer (expr type place form) to is_const is held = subst IsWholeType is held.0

-- nor is what an lvalue holds
no_place : (core : CExpr) → IsOfNumbers (value_of_place core) → ⊥
no_place (expr (ty (array element length) is_const) place form) held = held.1
no_place (expr (ty void is_const) place form) held = held.1
no_place (expr (ty (basic which) is_const) place form) held = held.1
no_place (expr (ty (enum_type number) is_const) place form) held = held.1
no_place (expr (ty (pointer to) is_const) place form) held = held.1
no_place (expr (ty (record_type number) is_const) place form) held = held.1
no_place (expr (ty (function result params variadic) is_const) place form) held = held.1

pub no_place_operand : (is_register : Bool) (core : CExpr) → IsOfNumbers (value_of (a_place is_register core)) → ⊥
no_place_operand is_register core held = no_place core held

-- ---- pointers

deref_none : (at : TextPlace) (from : CExpr) (type : CTy) → type_of from ≡ type → is_pointer type ≡ true → IsOfNumbers (value_of (deref_as at from (target_of type))) → ⊥
deref_none at from (ty (pointer (ty (function result params variadic) to_const)) is_const) e is held = no_pointer from _ is_const e held
deref_none at (expr own place form) (ty (pointer (ty void to_const)) is_const) e is held = held.0
deref_none at from (ty (pointer (ty (basic which) to_const)) is_const) e is held = held.1
deref_none at from (ty (pointer (ty (enum_type number) to_const)) is_const) e is held = held.1
deref_none at from (ty (pointer (ty (pointer to) to_const)) is_const) e is held = held.1
deref_none at from (ty (pointer (ty (array element length) to_const)) is_const) e is held = held.1
deref_none at from (ty (pointer (ty (record_type number) to_const)) is_const) e is held = held.1
deref_none at from (ty void is_const) e is held = absurd cc
deref_none at from (ty (basic which) is_const) e is held = absurd cc
deref_none at from (ty (enum_type number) is_const) e is held = absurd cc
deref_none at from (ty (array element length) is_const) e is held = absurd cc
deref_none at from (ty (record_type number) is_const) e is held = absurd cc
deref_none at from (ty (function result params variadic) is_const) e is held = absurd cc

pub follows_none : (scope : CScope) (types : CTypes) (at : TextPlace) (on : COperand) → IsUnbroken scope types (deref_node on) → IsOfNumbers (value_of (deref_meaning at (value_of on))) → ⊥
follows_none scope types at on unbroken held = deref_none at (value_of on) (value_type on) refl (not_not (neither unbroken.k10).1) held

element_is_pointer : (types : CTypes) (type : CTy) → is_element_pointer types type ≡ true → is_pointer type ≡ true
element_is_pointer types (ty (pointer to) is_const) is = refl
element_is_pointer types (ty void is_const) is = absurd cc
element_is_pointer types (ty (basic which) is_const) is = absurd cc
element_is_pointer types (ty (enum_type number) is_const) is = absurd cc
element_is_pointer types (ty (array element length) is_const) is = absurd cc
element_is_pointer types (ty (record_type number) is_const) is = absurd cc
element_is_pointer types (ty (function result params variadic) is_const) is = absurd cc

module _ (types : CTypes) (at : TextPlace) (left right : COperand) where
  abbrev IsPointerThere : Pairing → Type 0
  IsPointerThere how = is_moved how ≡ true → is_pointer (type_of (by_pairing at types op.Add left right how)) ≡ true

  moved_pointer : IsPointerThere (sum_pair types (value_type left) (value_type right))
  moved_pointer = chooses IsPointerThere (both_integers types (value_type left) (value_type right)) Arithmetic _ (λ is moved. absurd cc)
      (λ fails. chooses IsPointerThere (is_element_pointer types (value_type left) && is_integer types (value_type right)) PointerInteger _ (λ is moved. element_is_pointer types (value_type left) (both is).0)
      (λ more. chooses IsPointerThere (is_integer types (value_type left) && is_element_pointer types (value_type right)) IntegerPointer Nothing
      (λ is moved. element_is_pointer types (value_type right) (both is).1) (λ last moved. absurd cc)))

  pub index_none : (scope : CScope) → IsUnbroken scope types (index_node left right) → IsOfNumbers (value_of (index_meaning at types left right)) → ⊥
  unfolding pairing
  index_none scope unbroken held = deref_none at (by_pairing at types op.Add left right (sum_pair types (value_type left) (value_type right))) _ refl (moved_pointer (not_not (neither unbroken.k10).1)) held

module _ (opens : List ℕ) (types : CTypes) (unit : ℕ) (at : TextPlace) where
  place_address_none : (core : CExpr) → IsOperandTypeBy Place opens types unit core → IsOfNumbers (address_of_place at core) → ⊥
  place_address_none (expr type place (deref from)) known held = no_pointer from type false known.followed held
  place_address_none (expr type place (whole value)) known held = held.0
  place_address_none (expr type place null) known held = held.0
  place_address_none (expr type place (object number)) known held = held.0
  place_address_none (expr type place (code number)) known held = held.0
  place_address_none (expr type place (load from)) known held = held.0
  place_address_none (expr type place (member of spot)) known held = held.0
  place_address_none (expr type place (address of)) known held = held.0
  place_address_none (expr type place (convert value)) known held = held.0
  place_address_none (expr type place (unary which value)) known held = held.0
  place_address_none (expr type place (binary which left right)) known held = held.0
  place_address_none (expr type place (and left right)) known held = held.0
  place_address_none (expr type place (or left right)) known held = held.0
  place_address_none (expr type place (cond test first second)) known held = held.0
  place_address_none (expr type place (assign target value)) known held = held.0
  place_address_none (expr type place (assign_by which computes target value)) known held = held.0
  place_address_none (expr type place (step up post on)) known held = held.0
  place_address_none (expr type place (call callee args)) known held = held.0
  place_address_none (expr type place (call_by callee args)) known held = held.0
  place_address_none (expr type place (comma first second)) known held = held.0
  place_address_none (expr type place (literal number puts)) known held = held.0

  code_none : (value : CExpr) (type : CTy) → type_of value ≡ type → IsCodePointer type → IsOfNumbers value → ⊥
  code_none value (ty (pointer to) is_const) e target held = no_pointer value to is_const e held
  code_none value type e target held = absurd target

  void_none : (value : CExpr) (type : CTy) → type_of value ≡ type → IsVoidPointer type → IsOfNumbers value → ⊥
  void_none value (ty (pointer to) is_const) e target held = no_pointer value to is_const e held
  void_none value type e target held = absurd target

  address_by : (kind : OperandKind) (is_register : Bool) (core : CExpr) → IsOperandTypeBy kind opens types unit core → has_address (record { kind = kind; is_register = is_register; core = core }) ≡ true
      → IsOfNumbers (value_of (address_meaning at (record { kind = kind; is_register = is_register; core = core }))) → ⊥
  address_by Value is_register core known is held = absurd cc
  address_by Place is_register core known is held = place_address_none core known held
  address_by Function is_register core known is held = code_none core (type_of core) refl known.target held
  address_by VoidPlace is_register core known is held = void_none core (type_of core) refl known.target held

  pub address_none : (scope : CScope) (of : COperand) → IsOperandType opens types unit of → IsUnbroken scope types (address_node of) → IsOfNumbers (value_of (address_meaning at of)) → ⊥
  address_none scope of known unbroken held = address_by of.kind of.is_register of.core known (not_not unbroken.k15) held

-- ---- operators

pub unary_numbers : (at : TextPlace) (types : CTypes) (which : Op1) (on : COperand) → IsOfNumbers (value_of (unary_meaning at types which on)) → IsOfNumbers (value_of on)
unary_numbers at types op1.Not on held = held.1
unary_numbers at types op1.Plus on held = of_converted _ (value_of on) held.1
unary_numbers at types op1.Minus on held = of_converted _ (value_of on) held.1
unary_numbers at types op1.Complement on held = of_converted _ (value_of on) held.1

module _ (types : CTypes) (at : TextPlace) (which : Op2) (left right : COperand) where
  abbrev AreNumbers : Type 0
  AreNumbers = IsOfNumbers (value_of left) × IsOfNumbers (value_of right)

  abbrev SaysNumbers : Pairing → Type 0
  SaysNumbers how = is_nothing how ≡ false → IsOfNumbers (by_pairing at types which left right how) → AreNumbers

  says_arithmetic : SaysNumbers Arithmetic
  says_arithmetic is held = (of_converted _ (value_of left) held.1.0, of_converted _ (value_of right) held.1.1)

  says_shift : SaysNumbers Shift
  says_shift is held = (of_converted _ (value_of left) held.1.0, of_converted _ (value_of right) held.1.1)

  says_left : SaysNumbers PointerInteger
  says_left is held = held.1

  says_right : SaysNumbers IntegerPointer
  says_right is held = held.1

  says_pointers : SaysNumbers Pointers
  says_pointers is held = held.1

  says_left_converted : SaysNumbers LeftConverted
  says_left_converted is held = (of_fitted types (value_type right) (value_of left) held.1.0, held.1.1)

  says_right_converted : SaysNumbers RightConverted
  says_right_converted is held = (held.1.0, of_fitted types (value_type left) (value_of right) held.1.1)

  says_nothing_here : SaysNumbers Nothing
  says_nothing_here is held = absurd cc

  says_numbers : SaysNumbers (numbers_pair types (value_type left) (value_type right))
  says_numbers = chooses SaysNumbers (both_integers types (value_type left) (value_type right)) Arithmetic Nothing (λ is. says_arithmetic) (λ fails. says_nothing_here)

  says_shifted : SaysNumbers (shift_pair types (value_type left) (value_type right))
  says_shifted = chooses SaysNumbers (both_integers types (value_type left) (value_type right)) Shift Nothing (λ is. says_shift) (λ fails. says_nothing_here)

  says_sum : SaysNumbers (sum_pair types (value_type left) (value_type right))
  says_sum = chooses SaysNumbers (both_integers types (value_type left) (value_type right)) Arithmetic _ (λ is. says_arithmetic)
      (λ fails. chooses SaysNumbers (is_element_pointer types (value_type left) && is_integer types (value_type right)) PointerInteger _ (λ is. says_left)
      (λ more. chooses SaysNumbers (is_integer types (value_type left) && is_element_pointer types (value_type right)) IntegerPointer Nothing (λ is. says_right) (λ last. says_nothing_here)))

  says_difference : SaysNumbers (difference_pair types (value_type left) (value_type right))
  says_difference = chooses SaysNumbers (both_integers types (value_type left) (value_type right)) Arithmetic _ (λ is. says_arithmetic)
      (λ fails. chooses SaysNumbers (is_element_pointer types (value_type left) && is_integer types (value_type right)) PointerInteger _ (λ is. says_left)
      (λ more. chooses SaysNumbers (differ types (value_type left) (value_type right)) Pointers Nothing (λ is. says_pointers) (λ last. says_nothing_here)))

  says_order : SaysNumbers (order_pair types (value_type left) (value_type right))
  says_order = chooses SaysNumbers (both_integers types (value_type left) (value_type right)) Arithmetic _ (λ is. says_arithmetic)
      (λ fails. chooses SaysNumbers (ordered types (value_type left) (value_type right)) Pointers Nothing (λ is. says_pointers) (λ last. says_nothing_here))

  says_equality : (left_null right_null : Bool) → SaysNumbers (equality_pair types (value_type left) left_null (value_type right) right_null)
  says_equality left_null right_null = chooses SaysNumbers (both_integers types (value_type left) (value_type right)) Arithmetic _ (λ is. says_arithmetic)
      (λ fails. chooses SaysNumbers (is_pointer (value_type left) && right_null) RightConverted _ (λ is. says_right_converted)
      (λ more. chooses SaysNumbers (is_pointer (value_type right) && left_null) LeftConverted _ (λ is. says_left_converted)
      (λ still. chooses SaysNumbers (point_alike types (value_type left) (value_type right)) Pointers _ (λ is. says_pointers)
      (λ next. chooses SaysNumbers (void_beside (value_type left) (value_type right)) RightConverted _ (λ is. says_right_converted)
      (λ last. chooses SaysNumbers (void_beside (value_type right) (value_type left)) LeftConverted Nothing (λ is. says_left_converted) (λ none. says_nothing_here))))))

module _ (types : CTypes) (at : TextPlace) (left right : COperand) where
  says_by : (which : Op2) → is_nothing (pairing types which (value_of left) (value_of right)) ≡ false
      → IsOfNumbers (by_pairing at types which left right (pairing types which (value_of left) (value_of right))) → IsOfNumbers (value_of left) × IsOfNumbers (value_of right)
  unfolding pairing
  says_by op.Multiply = says_numbers types at op.Multiply left right
  says_by op.Divide = says_numbers types at op.Divide left right
  says_by op.Remainder = says_numbers types at op.Remainder left right
  says_by op.Add = says_sum types at op.Add left right
  says_by op.Subtract = says_difference types at op.Subtract left right
  says_by op.ShiftLeft = says_shifted types at op.ShiftLeft left right
  says_by op.ShiftRight = says_shifted types at op.ShiftRight left right
  says_by op.Less = says_order types at op.Less left right
  says_by op.Greater = says_order types at op.Greater left right
  says_by op.LessOrEqual = says_order types at op.LessOrEqual left right
  says_by op.GreaterOrEqual = says_order types at op.GreaterOrEqual left right
  says_by op.Equal = says_equality types at op.Equal left right (is_null_constant types (value_of left)) (is_null_constant types (value_of right))
  says_by op.NotEqual = says_equality types at op.NotEqual left right (is_null_constant types (value_of left)) (is_null_constant types (value_of right))
  says_by op.BitAnd = says_numbers types at op.BitAnd left right
  says_by op.BitXor = says_numbers types at op.BitXor left right
  says_by op.BitOr = says_numbers types at op.BitOr left right

  pub binary_numbers : (scope : CScope) (which : Op2) → IsUnbroken scope types (binary_node which left right) → IsOfNumbers (value_of (binary_meaning at types which left right))
      → IsOfNumbers (value_of left) × IsOfNumbers (value_of right)
  binary_numbers scope which unbroken held = says_by which (neither unbroken.k10).1 held

-- ---- casts, choices, members and calls

pub cast_numbers : (test : Bool) (type : CTy) (at : TextPlace) (value : CExpr) → IsOfNumbers (expr type at (if test then null else convert value)) → IsOfNumbers value
cast_numbers true type at value held = absurd held.1
cast_numbers false type at value held = held.1

choice_by : (at : TextPlace) (types : CTypes) (test first second : COperand) (found : Option CTy) → is_none found ≡ false → IsOfNumbers (value_of (chosen_as at types test first second found))
    → IsOfNumbers (value_of test) × IsOfNumbers (value_of first) × IsOfNumbers (value_of second)
choice_by at types test first second None some held = absurd cc
choice_by at types test first second (Some type) some held = (held.1.0, of_fitted types type (value_of first) held.1.1, of_fitted types type (value_of second) held.1.2)

pub choice_numbers : (scope : CScope) (at : TextPlace) (types : CTypes) (test first second : COperand) → IsUnbroken scope types (cond_node test first second)
    → IsOfNumbers (value_of (cond_meaning at types test first second)) → IsOfNumbers (value_of test) × IsOfNumbers (value_of first) × IsOfNumbers (value_of second)
choice_numbers scope at types test first second unbroken held = choice_by at types test first second (choice_type types first second) (neither unbroken.k16).1 held

dot_by : (at : TextPlace) (kind : OperandKind) (is_register : Bool) (core : CExpr) (found : Option CFoundMember) → is_none found ≡ false
    → IsOfNumbers (value_of (dot_as at (record { kind = kind; is_register = is_register; core = core }) found)) → ⊥
dot_by at kind is_register core None some held = absurd cc
dot_by at Value is_register core (Some one) some held = held.1
dot_by at Place is_register core (Some one) some held = no_place (expr (with_const (is_const_type (type_of core)) one.type) at (member core one.spot)) held
dot_by at Function is_register core (Some one) some held = held.1
dot_by at VoidPlace is_register core (Some one) some held = held.1

pub dot_none : (scope : CScope) (at : TextPlace) (types : CTypes) (of : COperand) (name : List ℕ) → IsUnbroken scope types (dot_node of name) → IsOfNumbers (value_of (dot_meaning at types of name)) → ⊥
dot_none scope at types of name unbroken held = dot_by at of.kind of.is_register of.core (find_member types (type_of of.core) name) (neither unbroken.k8).1 held

arrow_by : (at : TextPlace) (types : CTypes) (from : CExpr) (type : CTy) (name : List ℕ) → lacks_member_behind types (target_of type) name ≡ false
    → IsOfNumbers (value_of (dot_meaning at types (deref_as at from (target_of type)) name)) → ⊥
arrow_by at types from (ty (pointer (ty (record_type number) to_const)) is_const) name fine held = dot_by at Place false (expr (ty (record_type number) to_const) at (deref from)) (find_member types (ty (record_type number) to_const) name) fine held
arrow_by at types from (ty (pointer (ty (function result params variadic) to_const)) is_const) name fine held = absurd cc
arrow_by at types from (ty (pointer (ty void to_const)) is_const) name fine held = absurd cc
arrow_by at types from (ty (pointer (ty (basic which) to_const)) is_const) name fine held = absurd cc
arrow_by at types from (ty (pointer (ty (enum_type number) to_const)) is_const) name fine held = absurd cc
arrow_by at types from (ty (pointer (ty (pointer to) to_const)) is_const) name fine held = absurd cc
arrow_by at types from (ty (pointer (ty (array element length) to_const)) is_const) name fine held = absurd cc
arrow_by at types from (ty void is_const) name fine held = absurd cc
arrow_by at types from (ty (basic which) is_const) name fine held = absurd cc
arrow_by at types from (ty (enum_type number) is_const) name fine held = absurd cc
arrow_by at types from (ty (array element length) is_const) name fine held = absurd cc
arrow_by at types from (ty (record_type number) is_const) name fine held = absurd cc
arrow_by at types from (ty (function result params variadic) is_const) name fine held = absurd cc

pub arrow_none : (scope : CScope) (at : TextPlace) (types : CTypes) (of : COperand) (name : List ℕ) → IsUnbroken scope types (arrow_node of name) → IsOfNumbers (value_of (arrow_meaning at types of name)) → ⊥
arrow_none scope at types of name unbroken held = arrow_by at types (value_of of) (value_type of) name unbroken.k8 held

form_none : (by_name : Bool) (callee : CExpr) (args : _) → IsFormOfNumbers (call_form by_name callee args) → ⊥
form_none true (expr type place (code number)) args held = held
form_none true (expr type place (whole value)) args held = held
form_none true (expr type place null) args held = held
form_none true (expr type place (object number)) args held = held
form_none true (expr type place (load from)) args held = held
form_none true (expr type place (deref from)) args held = held
form_none true (expr type place (member of spot)) args held = held
form_none true (expr type place (address of)) args held = held
form_none true (expr type place (convert value)) args held = held
form_none true (expr type place (unary which value)) args held = held
form_none true (expr type place (binary which left right)) args held = held
form_none true (expr type place (and left right)) args held = held
form_none true (expr type place (or left right)) args held = held
form_none true (expr type place (cond test first second)) args held = held
form_none true (expr type place (assign target value)) args held = held
form_none true (expr type place (assign_by which computes target value)) args held = held
form_none true (expr type place (step up post on)) args held = held
form_none true (expr type place (call number others)) args held = held
form_none true (expr type place (call_by other others)) args held = held
form_none true (expr type place (comma first second)) args held = held
form_none true (expr type place (literal number puts)) args held = held
form_none false (expr type place form) args held = held

call_by_form : (at : TextPlace) (types : CTypes) (count : ℕ) (by_name : Bool) (callee : COperand) (args : List COperand) (found : Option CTyForm) → not_callable types count found ≡ false
    → IsOfNumbers (value_of (call_as at types by_name callee args found)) → ⊥
call_by_form at types count by_name callee args (Some (function result params variadic)) fine held = form_none by_name (value_of callee) _ held.1
call_by_form at types count by_name callee args None fine held = absurd cc
call_by_form at types count by_name callee args (Some void) fine held = absurd cc
call_by_form at types count by_name callee args (Some (basic which)) fine held = absurd cc
call_by_form at types count by_name callee args (Some (enum_type number)) fine held = absurd cc
call_by_form at types count by_name callee args (Some (pointer to)) fine held = absurd cc
call_by_form at types count by_name callee args (Some (array element length)) fine held = absurd cc
call_by_form at types count by_name callee args (Some (record_type number)) fine held = absurd cc

pub call_none : (scope : CScope) (at : TextPlace) (types : CTypes) (by_name : Bool) (callee : COperand) (args : List COperand) → IsUnbroken scope types (call_node callee args)
    → IsOfNumbers (value_of (call_meaning at types by_name callee args)) → ⊥
call_none scope at types by_name callee args unbroken held = call_by_form at types _ by_name callee args (option_map form_of_type (callee_type callee)) unbroken.k9 held

-- ---- assignments

pub assigned_none : (at : TextPlace) (types : CTypes) (which : Op2) (target value : COperand) (how : Pairing) → IsFormOfNumbers (assigned_by at types which target value how) → ⊥
assigned_none at types which target value Arithmetic held = held
assigned_none at types which target value Shift held = held
assigned_none at types which target value PointerInteger held = held
assigned_none at types which target value IntegerPointer held = held
assigned_none at types which target value Pointers held = held
assigned_none at types which target value LeftConverted held = held
assigned_none at types which target value RightConverted held = held
assigned_none at types which target value Tests held = held
assigned_none at types which target value Nothing held = held
