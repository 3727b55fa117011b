-- Operators with two operands are typed in a program (ISO C99, 6.5.5 to 6.5.12).
use Rattle.std.proofs.Common.{◌≡◌, ℕ, true, false, ◌&&◌, if◌then◌else◌, List, refl, sym, ◌∙◌, subst, inl, inr, ◌⊎◌}
use Rattle.cr_base.specs.declared.refusal.Place.{Place as TextPlace}
use Rattle.cx_core.specs.declared.expr.Op2.{Op2}
use Rattle.cx_core.specs.declared.expr.Op2.TheVariants as op
use Rattle.cx_core.specs.Conversions.{IsPromoted}
use Rattle.cx_core.specs.Trees.{CTy, ty, void, basic, enum_type, pointer, array, record_type, function, CTypes, expr, binary, type_of}
use Rattle.cx_core.specs.Typing.{CHome, IsTyped, IsConversion, IsBinaryOf, AreCommon, IsMoved, IsDifference, IsShift, AreNumbers, AreOrdered, AreEqual, PointAlike, int_type, difference_type}
use Rattle.cx_core.specs.ValidTypes.{IsTypeIn}
use Rattle.cx_rules.specs.declared.kinds.Pairing.{Pairing}
use Rattle.cx_rules.specs.declared.kinds.Pairing.TheVariants.{Arithmetic, Shift, PointerInteger, IntegerPointer, Pointers, LeftConverted, RightConverted, Nothing}
use Rattle.cx_rules.specs.Meanings.{by_pairing, binary_meaning, is_comparison}
use Rattle.cx_rules.specs.Nodes.{binary_node}
use Rattle.cx_rules.specs.Operands.{COperand, value_of, value_type, holds_nothing, converted_to, common_of, promoted_type, promoted_value, fitted, is_null_constant}
use Rattle.cx_rules.specs.Pairs.{pairing, is_nothing, both_integers, numbers_pair, shift_pair, sum_pair, difference_pair, differ, order_pair, ordered, equality_pair, void_beside}
use Rattle.cx_rules.specs.Scope.{CScope}
use Rattle.cx_rules.specs.Types.{is_integer, is_pointer, is_element_pointer, is_void_pointer, point_alike}
use Rattle.cx_typed.proofs.Binary.{chooses}
use Rattle.cx_typed.proofs.Conversions.{IsConverted}
use Rattle.cx_typed.proofs.Fitting.{void_scalar}
use Rattle.cx_typed.proofs.Growing.{type_stays}
use Rattle.cx_typed.proofs.Pointing.{points, object_is_pointer, object_scalar, elements_there, point_alike_there, alike_itself, pointer_from, pointer_fitted}
use Rattle.cx_typed.proofs.Promoted.{neither, promoted_type_is, promoted_there, common_value_type, common_there, common_promoted, integer_there}
use Rattle.cx_typed.proofs.Same.{both}
use Rattle.cx_typed.proofs.Single.{two_hold}
use Rattle.cx_typed.proofs.Values.{value_is, value_type_is}
use Rattle.cx_typed.specs.Growth.{Grows}
use Rattle.cx_typed.specs.Operands.{IsValueType, IsOperandType, IsTypedOperand}
use Rattle.cx_typed.specs.Unbroken.{IsUnbroken}

pub void_is_pointer : (type : CTy) → is_void_pointer type ≡ true → is_pointer type ≡ true
void_is_pointer (ty (pointer to) is_const) is = refl
void_is_pointer (ty void is_const) is = absurd cc
void_is_pointer (ty (basic which) is_const) is = absurd cc
void_is_pointer (ty (enum_type number) is_const) is = absurd cc
void_is_pointer (ty (array element length) is_const) is = absurd cc
void_is_pointer (ty (record_type number) is_const) is = absurd cc
void_is_pointer (ty (function result params variadic) is_const) is = absurd cc

module _ (opens : List ℕ) (types : CTypes) (home : CHome) (grows : Grows opens types home.program.types) (at : TextPlace)
    (left right : COperand) (left_held : IsOperandType opens types home.unit left) (right_held : IsOperandType opens types home.unit right)
    (left_holds : holds_nothing types left ≡ false) (right_holds : holds_nothing types right ≡ false)
    (left_typed : IsTypedOperand home left) (right_typed : IsTypedOperand home right) where
  abbrev left_type : CTy
  left_type = value_type left

  abbrev right_type : CTy
  right_type = value_type right

  left_is : IsTyped home (value_of left)
  left_is = value_is opens types home grows left left_held left_holds left_typed

  right_is : IsTyped home (value_of right)
  right_is = value_is opens types home grows right right_held right_holds right_typed

  left_value : IsValueType opens types home.unit left_type
  left_value = value_type_is opens types home.unit left left_held

  right_value : IsValueType opens types home.unit right_type
  right_value = value_type_is opens types home.unit right right_held

  there : (type : CTy) → IsValueType opens types home.unit type → IsTypeIn home.program.types home.unit type
  there type held = type_stays opens types home.program.types grows home.unit type held.known.type_in

  abbrev Computes : Op2 → Pairing → Type 0
  Computes op how = is_nothing how ≡ false → IsTyped home (by_pairing at types op left right how)

  computes_nothing : (op : Op2) → Computes op Nothing
  computes_nothing op is = absurd cc

  -- ---- numbers

  module _ (is : both_integers types left_type right_type ≡ true) where
    first_common : IsConverted home (common_of types left right) (converted_to (common_of types left right) (value_of left))
    first_common = common_there opens types home grows left right left (both is).0 (both is).1 left_held left_holds (both is).0 left_typed

    second_common : IsConverted home (common_of types left right) (converted_to (common_of types left right) (value_of right))
    second_common = common_there opens types home grows left right right (both is).0 (both is).1 right_held right_holds (both is).1 right_typed

    promoted_common : IsPromoted (common_of types left right)
    promoted_common = common_promoted opens types home grows left right (both is).0 (both is).1

    pub are_common : AreCommon (common_of types left right) (type_of (converted_to (common_of types left right) (value_of left))) (type_of (converted_to (common_of types left right) (value_of right)))
    are_common = record { promoted = promoted_common; left_is = first_common.type_is; right_is = second_common.type_is }

    are_numbers : AreNumbers int_type (type_of (converted_to (common_of types left right) (value_of left))) (type_of (converted_to (common_of types left right) (value_of right)))
    are_numbers = record {
      promoted = subst IsPromoted (sym first_common.type_is) promoted_common;
      right_is = second_common.type_is ∙ sym first_common.type_is;
      type_is = refl;
    }

    common_in : IsTypeIn home.program.types home.unit (common_of types left right)
    common_in = there (common_of types left right) (common_value_type opens types home.unit left right (both is).0 (both is).1)

    computes_common : (op : Op2) → is_comparison op ≡ false → ((type one other : CTy) → AreCommon type one other → IsBinaryOf home.program.types op type one other)
        → IsTyped home (by_pairing at types op left right Arithmetic)
    computes_common op plain given =
        subst (λ c. IsTyped home (expr (if c then int_type else common_of types left right) at (binary op (converted_to (common_of types left right) (value_of left)) (converted_to (common_of types left right) (value_of right)))))
        (sym plain)
        (common_in, (first_common.typed, second_common.typed, given (common_of types left right) _ _ are_common))

    computes_numbers : (op : Op2) → is_comparison op ≡ true → ((type one other : CTy) → AreNumbers type one other → IsBinaryOf home.program.types op type one other)
        → IsTyped home (by_pairing at types op left right Arithmetic)
    computes_numbers op compares given =
        subst (λ c. IsTyped home (expr (if c then int_type else common_of types left right) at (binary op (converted_to (common_of types left right) (value_of left)) (converted_to (common_of types left right) (value_of right)))))
        (sym compares)
        (tt, (first_common.typed, second_common.typed, given int_type _ _ are_numbers))

  numbers_typed : (op : Op2) → is_comparison op ≡ false → ((type one other : CTy) → AreCommon type one other → IsBinaryOf home.program.types op type one other)
      → Computes op (numbers_pair types left_type right_type)
  numbers_typed op plain given =
      chooses (Computes op) (both_integers types left_type right_type) Arithmetic Nothing (λ is other. computes_common is op plain given) (λ fails. computes_nothing op)

  -- ---- shifts

  shifted : (is : both_integers types left_type right_type ≡ true) → IsShift (promoted_type types left) (type_of (promoted_value types left)) (type_of (promoted_value types right))
  shifted is =
      let first = promoted_there opens types home grows left left_held left_holds (both is).0 left_typed in
      let second = promoted_there opens types home grows right right_held right_holds (both is).1 right_typed in
      record { promoted = first.1; left_is = first.0.type_is; right_promoted = subst IsPromoted (sym second.0.type_is) second.1 }

  shift_typed : (op : Op2) → ((type one other : CTy) → IsShift type one other → IsBinaryOf home.program.types op type one other) → Computes op (shift_pair types left_type right_type)
  shift_typed op given =
      chooses (Computes op) (both_integers types left_type right_type) Shift Nothing
      (λ is other. (
        there (promoted_type types left) (promoted_type_is opens types home.unit left (both is).0),
        (
          (promoted_there opens types home grows left left_held left_holds (both is).0 left_typed).0.typed,
          (promoted_there opens types home grows right right_held right_holds (both is).1 right_typed).0.typed,
          given (promoted_type types left) _ _ (shifted is),
        ),
      ))
      (λ fails. computes_nothing op)

  -- ---- sums and differences

  moved_left : is_element_pointer types left_type ≡ true → is_integer types right_type ≡ true → IsMoved home.program.types left_type left_type right_type
  moved_left elements integer = record {
    elements = elements_there opens types home grows left_type left_value elements;
    integer = integer_there opens types home grows right_type right_value integer;
    type_is = refl;
  }

  moved_right : is_integer types left_type ≡ true → is_element_pointer types right_type ≡ true → IsMoved home.program.types right_type right_type left_type
  moved_right integer elements = record {
    elements = elements_there opens types home grows right_type right_value elements;
    integer = integer_there opens types home grows left_type left_value integer;
    type_is = refl;
  }

  sum_typed : Computes op.Add (sum_pair types left_type right_type)
  sum_typed =
      chooses (Computes op.Add) (both_integers types left_type right_type) Arithmetic _ (λ is other. computes_common is op.Add refl (λ type one two held. inl held))
      (λ fails. chooses (Computes op.Add) (is_element_pointer types left_type && is_integer types right_type) PointerInteger _
      (λ is other. (there left_type left_value, (left_is, right_is, inr (inl (moved_left (both is).0 (both is).1)))))
      (λ more. chooses (Computes op.Add) (is_integer types left_type && is_element_pointer types right_type) IntegerPointer Nothing
      (λ is other. (there right_type right_value, (left_is, right_is, inr (inr (moved_right (both is).0 (both is).1)))))
      (λ last. computes_nothing op.Add)))

  differences : differ types left_type right_type ≡ true → IsDifference home.program.types difference_type left_type right_type
  differences is = record {
    left_elements = elements_there opens types home grows left_type left_value (both is).0;
    right_elements = elements_there opens types home grows right_type right_value (both (both is).1).0;
    alike = point_alike_there opens types home grows left_type right_type left_value right_value (both (both is).1).1;
    type_is = refl;
  }

  difference_typed : Computes op.Subtract (difference_pair types left_type right_type)
  difference_typed =
      chooses (Computes op.Subtract) (both_integers types left_type right_type) Arithmetic _ (λ is other. computes_common is op.Subtract refl (λ type one two held. inl held))
      (λ fails. chooses (Computes op.Subtract) (is_element_pointer types left_type && is_integer types right_type) PointerInteger _
      (λ is other. (there left_type left_value, (left_is, right_is, inr (inl (moved_left (both is).0 (both is).1)))))
      (λ more. chooses (Computes op.Subtract) (differ types left_type right_type) Pointers Nothing
      (λ is other. (tt, (left_is, right_is, inr (inr (differences is)))))
      (λ last. computes_nothing op.Subtract)))

  -- ---- comparisons

  ordered_is : ordered types left_type right_type ≡ true → AreOrdered home.program.types int_type left_type right_type
  ordered_is is = record {
    objects = object_scalar home.program.types left_type (both is).0;
    alike = point_alike_there opens types home grows left_type right_type left_value right_value (both (both is).1).0;
    type_is = refl;
  }

  pointers_typed : (op : Op2) → is_comparison op ≡ true → IsBinaryOf home.program.types op int_type left_type right_type → IsTyped home (by_pairing at types op left right Pointers)
  pointers_typed op compares held =
      subst (λ c. IsTyped home (expr (if c then int_type else difference_type) at (binary op (value_of left) (value_of right)))) (sym compares) (tt, (left_is, right_is, held))

  order_typed : (op : Op2) → is_comparison op ≡ true
      → ((one other : CTy) → AreNumbers int_type one other ⊎ AreOrdered home.program.types int_type one other → IsBinaryOf home.program.types op int_type one other)
      → ((type one other : CTy) → AreNumbers type one other → IsBinaryOf home.program.types op type one other)
      → Computes op (order_pair types left_type right_type)
  order_typed op compares given numbers =
      chooses (Computes op) (both_integers types left_type right_type) Arithmetic _ (λ is other. computes_numbers is op compares numbers)
      (λ fails. chooses (Computes op) (ordered types left_type right_type) Pointers Nothing
      (λ is other. pointers_typed op compares (given left_type right_type (inr (ordered_is is))))
      (λ last. computes_nothing op))

  -- a value, converted to the type of the pointer beside it
  right_fitted : is_pointer left_type ≡ true → (is_null_constant types (value_of right) ≡ false → IsConversion home.program.types right_type left_type)
      → IsConverted home left_type (fitted types left_type (value_of right))
  right_fitted is allowed = pointer_fitted opens types home grows left_type (value_of right) left_value is allowed right_is

  left_fitted : is_pointer right_type ≡ true → (is_null_constant types (value_of left) ≡ false → IsConversion home.program.types left_type right_type)
      → IsConverted home right_type (fitted types right_type (value_of left))
  left_fitted is allowed = pointer_fitted opens types home grows right_type (value_of left) right_value is allowed left_is

  right_converted : (op : Op2) → is_comparison op ≡ true → ((one other : CTy) → AreEqual home.program.types int_type one other → IsBinaryOf home.program.types op int_type one other)
      → is_pointer left_type ≡ true → (is_null_constant types (value_of right) ≡ false → IsConversion home.program.types right_type left_type)
      → IsTyped home (by_pairing at types op left right RightConverted)
  right_converted op compares given is allowed =
      let made = right_fitted is allowed in
      let equal : AreEqual home.program.types int_type left_type (type_of (fitted types left_type (value_of right))) =
      record { alike = subst (PointAlike home.program.types left_type) (sym made.type_is) (alike_itself opens types home grows left_type is); type_is = refl } in
      subst (λ c. IsTyped home (expr (if c then int_type else difference_type) at (binary op (value_of left) (fitted types left_type (value_of right))))) (sym compares)
      (tt, (left_is, made.typed, given left_type (type_of (fitted types left_type (value_of right))) equal))

  left_converted : (op : Op2) → is_comparison op ≡ true → ((one other : CTy) → AreEqual home.program.types int_type one other → IsBinaryOf home.program.types op int_type one other)
      → is_pointer right_type ≡ true → (is_null_constant types (value_of left) ≡ false → IsConversion home.program.types left_type right_type)
      → IsTyped home (by_pairing at types op left right LeftConverted)
  left_converted op compares given is allowed =
      let made = left_fitted is allowed in
      let equal : AreEqual home.program.types int_type (type_of (fitted types right_type (value_of left))) right_type =
      record { alike = subst (λ t. PointAlike home.program.types t right_type) (sym made.type_is) (alike_itself opens types home grows right_type is); type_is = refl } in
      subst (λ c. IsTyped home (expr (if c then int_type else difference_type) at (binary op (fitted types right_type (value_of left)) (value_of right)))) (sym compares)
      (tt, (made.typed, right_is, given (type_of (fitted types right_type (value_of left))) right_type equal))

  -- a pointer to `void`, and one to an object
  void_conversion : (one other : CTy) → IsValueType opens types home.unit one → IsValueType opens types home.unit other → void_beside one other ≡ true
      → IsConversion home.program.types other one
  void_conversion one other one_held other_held is =
      let first = points one one_held.plain (void_is_pointer one (both is).0) in
      let second = points other other_held.plain (object_is_pointer other (both is).1) in
      let beside : void_beside (ty (pointer first.to) false) (ty (pointer second.to) false) ≡ true =
      subst (λ t. void_beside t (ty (pointer second.to) false) ≡ true) first.type_is (subst (λ t. void_beside one t ≡ true) second.type_is is) in
      let scalars = void_scalar first.to second.to beside in
      subst (λ t. IsConversion home.program.types t one) (sym second.type_is)
      (subst (IsConversion home.program.types (ty (pointer second.to) false)) (sym first.type_is)
      (pointer_from opens types home grows first.to second.to (scalars.1 ∙ sym scalars.0)))

  equality_typed : (op : Op2) → is_comparison op ≡ true → ((one other : CTy) → AreEqual home.program.types int_type one other → IsBinaryOf home.program.types op int_type one other)
      → ((type one other : CTy) → AreNumbers type one other → IsBinaryOf home.program.types op type one other)
      → Computes op (equality_pair types left_type (is_null_constant types (value_of left)) right_type (is_null_constant types (value_of right)))
  equality_typed op compares given numbers =
      let left_null = is_null_constant types (value_of left) in
      let right_null = is_null_constant types (value_of right) in
      chooses (Computes op) (both_integers types left_type right_type) Arithmetic _ (λ is other. computes_numbers is op compares numbers)
      (λ fails. chooses (Computes op) (is_pointer left_type && right_null) RightConverted _
      (λ is other. right_converted op compares given (both is).0 (λ not_null. absurd (let h : true ≡ false = sym (both is).1 ∙ not_null in cc)))
      (λ more. chooses (Computes op) (is_pointer right_type && left_null) LeftConverted _
      (λ is other. left_converted op compares given (both is).0 (λ not_null. absurd (let h : true ≡ false = sym (both is).1 ∙ not_null in cc)))
      (λ still. chooses (Computes op) (point_alike types left_type right_type) Pointers _
      (λ is other. pointers_typed op compares (given left_type right_type
      (record { alike = point_alike_there opens types home grows left_type right_type left_value right_value is; type_is = refl })))
      (λ next. chooses (Computes op) (void_beside left_type right_type) RightConverted _
      (λ is other. right_converted op compares given (void_is_pointer left_type (both is).0) (λ not_null. void_conversion left_type right_type left_value right_value is))
      (λ last. chooses (Computes op) (void_beside right_type left_type) LeftConverted Nothing
      (λ is other. left_converted op compares given (void_is_pointer right_type (both is).0) (λ not_null. void_conversion right_type left_type right_value left_value is))
      (λ none. computes_nothing op))))))

  -- ---- all operators

  pub pair_typed : (op : Op2) → is_nothing (pairing types op (value_of left) (value_of right)) ≡ false
      → IsTyped home (by_pairing at types op left right (pairing types op (value_of left) (value_of right)))
  unfolding pairing
  pair_typed op.Multiply = numbers_typed op.Multiply refl (λ type one other held. held)
  pair_typed op.Divide = numbers_typed op.Divide refl (λ type one other held. held)
  pair_typed op.Remainder = numbers_typed op.Remainder refl (λ type one other held. held)
  pair_typed op.Add = sum_typed
  pair_typed op.Subtract = difference_typed
  pair_typed op.ShiftLeft = shift_typed op.ShiftLeft (λ type one other held. held)
  pair_typed op.ShiftRight = shift_typed op.ShiftRight (λ type one other held. held)
  pair_typed op.Less = order_typed op.Less refl (λ one other held. held) (λ type one other held. inl held)
  pair_typed op.Greater = order_typed op.Greater refl (λ one other held. held) (λ type one other held. inl held)
  pair_typed op.LessOrEqual = order_typed op.LessOrEqual refl (λ one other held. held) (λ type one other held. inl held)
  pair_typed op.GreaterOrEqual = order_typed op.GreaterOrEqual refl (λ one other held. held) (λ type one other held. inl held)
  pair_typed op.Equal = equality_typed op.Equal refl (λ one other held. inr held) (λ type one other held. inl held)
  pair_typed op.NotEqual = equality_typed op.NotEqual refl (λ one other held. inr held) (λ type one other held. inl held)
  pair_typed op.BitAnd = numbers_typed op.BitAnd refl (λ type one other held. held)
  pair_typed op.BitXor = numbers_typed op.BitXor refl (λ type one other held. held)
  pair_typed op.BitOr = numbers_typed op.BitOr refl (λ type one other held. held)

pub binary_typed : (opens : List ℕ) (scope : CScope) (types : CTypes) (home : CHome) → Grows opens types home.program.types → (at : TextPlace) (op : Op2) (left right : COperand)
    → IsOperandType opens types home.unit left → IsOperandType opens types home.unit right → IsUnbroken scope types (binary_node op left right)
    → IsTypedOperand home left → IsTypedOperand home right → IsTypedOperand home (binary_meaning at types op left right)
binary_typed opens scope types home grows at op left right left_held right_held unbroken left_typed right_typed =
    let holds = two_hold types left right (is_nothing (pairing types op (value_of left) (value_of right))) unbroken.k10 in
    pair_typed opens types home grows at left right left_held right_held holds.0 holds.1 left_typed right_typed op (neither unbroken.k10).1
