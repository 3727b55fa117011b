-- Operators with two operands, and elements of arrays (ISO C99, 6.5.2.1, 6.5.5 to 6.5.12).
use Rattle.std.proofs.Common.{◌≡◌, ℕ, Bool, true, false, ◌&&◌, if◌then◌else◌, List, refl}
use Rattle.cr_base.specs.declared.refusal.Place.{Place as TextPlace}
use Rattle.cx_core.specs.declared.expr.Op2.{Op2}
use Rattle.cx_core.specs.declared.expr.Op2.TheVariants as op
use Rattle.cx_core.specs.declared.ty.Basic.TheVariants.{Int, Long}
use Rattle.cx_core.specs.Trees.{CTy, CTypes, type_of}
use Rattle.cx_core.specs.Typing.{int_type, difference_type}
use Rattle.cx_rules.specs.declared.kinds.Pairing.{Pairing}
use Rattle.cx_rules.specs.declared.kinds.Pairing.TheVariants.{Arithmetic, Shift, PointerInteger, IntegerPointer, Pointers, LeftConverted, RightConverted, Nothing}
use Rattle.cx_rules.specs.Meanings.{by_pairing, binary_meaning, is_comparison}
use Rattle.cx_rules.specs.Nodes.{binary_node}
use Rattle.cx_rules.specs.Operands.{COperand, value_of, value_type, common_of, is_null_constant}
use Rattle.cx_rules.specs.Pairs.{pairing, is_nothing, both_integers, numbers_pair, shift_pair, sum_pair, difference_pair, differ, order_pair, ordered, equality_pair, void_beside}
use Rattle.cx_rules.specs.Scope.{CScope}
use Rattle.cx_rules.specs.Types.{is_integer, is_pointer, is_element_pointer, point_alike}
use Rattle.cx_typed.proofs.Promoted.{neither, basic_value, promoted_type_is, common_value_type}
use Rattle.cx_typed.proofs.Same.{both}
use Rattle.cx_typed.proofs.Values.{value_type_is}
use Rattle.cx_typed.specs.Operands.{IsValueType, IsOperandType}
use Rattle.cx_typed.specs.Unbroken.{IsUnbroken}

-- a choice by a test, whichever way it goes
pub chooses : {A : Type 0} (P : A → Type 0) (test : Bool) (this that : A) → (test ≡ true → P this) → (test ≡ false → P that) → P (if test then this else that)
chooses P true this that held failed = held refl
chooses P false this that held failed = failed refl

-- ---- the types of what pairs give

module _ (opens : List ℕ) (types : CTypes) (unit : ℕ) (at : TextPlace) (op : Op2) (left right : COperand) (left_held : IsOperandType opens types unit left) (right_held : IsOperandType opens types unit right) where
  abbrev left_type : CTy
  left_type = value_type left

  abbrev right_type : CTy
  right_type = value_type right

  -- the pairing is one of this operator
  abbrev GivesValue : Pairing → Type 0
  GivesValue how = is_nothing how ≡ false → IsValueType opens types unit (type_of (by_pairing at types op left right how))

  int_or_common : (test : Bool) (type : CTy) → IsValueType opens types unit type → IsValueType opens types unit (if test then int_type else type)
  int_or_common true type held = basic_value opens types unit Int
  int_or_common false type held = held

  int_or_long : (test : Bool) → IsValueType opens types unit (if test then int_type else difference_type)
  int_or_long true = basic_value opens types unit Int
  int_or_long false = basic_value opens types unit Long

  gives_arithmetic : both_integers types left_type right_type ≡ true → GivesValue Arithmetic
  gives_arithmetic is other = int_or_common (is_comparison op) (common_of types left right) (common_value_type opens types unit left right (both is).0 (both is).1)

  gives_left : GivesValue PointerInteger
  gives_left other = value_type_is opens types unit left left_held

  gives_right : GivesValue IntegerPointer
  gives_right other = value_type_is opens types unit right right_held

  gives_nothing_here : GivesValue Nothing
  gives_nothing_here is = absurd cc

  gives_numbers : GivesValue (numbers_pair types left_type right_type)
  gives_numbers = chooses GivesValue (both_integers types left_type right_type) Arithmetic Nothing gives_arithmetic (λ fails. gives_nothing_here)

  gives_shift : GivesValue (shift_pair types left_type right_type)
  gives_shift = chooses GivesValue (both_integers types left_type right_type) Shift Nothing (λ is other. promoted_type_is opens types unit left (both is).0) (λ fails. gives_nothing_here)

  gives_sum : GivesValue (sum_pair types left_type right_type)
  gives_sum = chooses GivesValue (both_integers types left_type right_type) Arithmetic _ gives_arithmetic
      (λ fails. chooses GivesValue (is_element_pointer types left_type && is_integer types right_type) PointerInteger _ (λ is. gives_left)
      (λ more. chooses GivesValue (is_integer types left_type && is_element_pointer types right_type) IntegerPointer Nothing (λ is. gives_right) (λ last. gives_nothing_here)))

  gives_difference : GivesValue (difference_pair types left_type right_type)
  gives_difference = chooses GivesValue (both_integers types left_type right_type) Arithmetic _ gives_arithmetic
      (λ fails. chooses GivesValue (is_element_pointer types left_type && is_integer types right_type) PointerInteger _ (λ is. gives_left)
      (λ more. chooses GivesValue (differ types left_type right_type) Pointers Nothing (λ is other. int_or_long (is_comparison op)) (λ last. gives_nothing_here)))

  gives_order : GivesValue (order_pair types left_type right_type)
  gives_order = chooses GivesValue (both_integers types left_type right_type) Arithmetic _ gives_arithmetic
      (λ fails. chooses GivesValue (ordered types left_type right_type) Pointers Nothing (λ is other. int_or_long (is_comparison op)) (λ last. gives_nothing_here))

  gives_equality : (left_null right_null : Bool) → GivesValue (equality_pair types left_type left_null right_type right_null)
  gives_equality left_null right_null = chooses GivesValue (both_integers types left_type right_type) Arithmetic _ gives_arithmetic
      (λ fails. chooses GivesValue (is_pointer left_type && right_null) RightConverted _ (λ is other. int_or_long (is_comparison op))
      (λ more. chooses GivesValue (is_pointer right_type && left_null) LeftConverted _ (λ is other. int_or_long (is_comparison op))
      (λ still. chooses GivesValue (point_alike types left_type right_type) Pointers _ (λ is other. int_or_long (is_comparison op))
      (λ next. chooses GivesValue (void_beside left_type right_type) RightConverted _ (λ is other. int_or_long (is_comparison op))
      (λ last. chooses GivesValue (void_beside right_type left_type) LeftConverted Nothing (λ is other. int_or_long (is_comparison op)) (λ none. gives_nothing_here))))))

module _ (opens : List ℕ) (types : CTypes) (unit : ℕ) (at : TextPlace) (left right : COperand) (left_held : IsOperandType opens types unit left) (right_held : IsOperandType opens types unit right) where
  gives_by : (op : Op2) → is_nothing (pairing types op (value_of left) (value_of right)) ≡ false
      → IsValueType opens types unit (type_of (by_pairing at types op left right (pairing types op (value_of left) (value_of right))))
  unfolding pairing
  gives_by op.Multiply = gives_numbers opens types unit at op.Multiply left right left_held right_held
  gives_by op.Divide = gives_numbers opens types unit at op.Divide left right left_held right_held
  gives_by op.Remainder = gives_numbers opens types unit at op.Remainder left right left_held right_held
  gives_by op.Add = gives_sum opens types unit at op.Add left right left_held right_held
  gives_by op.Subtract = gives_difference opens types unit at op.Subtract left right left_held right_held
  gives_by op.ShiftLeft = gives_shift opens types unit at op.ShiftLeft left right left_held right_held
  gives_by op.ShiftRight = gives_shift opens types unit at op.ShiftRight left right left_held right_held
  gives_by op.Less = gives_order opens types unit at op.Less left right left_held right_held
  gives_by op.Greater = gives_order opens types unit at op.Greater left right left_held right_held
  gives_by op.LessOrEqual = gives_order opens types unit at op.LessOrEqual left right left_held right_held
  gives_by op.GreaterOrEqual = gives_order opens types unit at op.GreaterOrEqual left right left_held right_held
  gives_by op.Equal = gives_equality opens types unit at op.Equal left right left_held right_held (is_null_constant types (value_of left)) (is_null_constant types (value_of right))
  gives_by op.NotEqual = gives_equality opens types unit at op.NotEqual left right left_held right_held (is_null_constant types (value_of left)) (is_null_constant types (value_of right))
  gives_by op.BitAnd = gives_numbers opens types unit at op.BitAnd left right left_held right_held
  gives_by op.BitXor = gives_numbers opens types unit at op.BitXor left right left_held right_held
  gives_by op.BitOr = gives_numbers opens types unit at op.BitOr left right left_held right_held

  -- what a binary operator gives has a value's type
  pub pair_known : (op : Op2) → is_nothing (pairing types op (value_of left) (value_of right)) ≡ false
      → IsValueType opens types unit (type_of (by_pairing at types op left right (pairing types op (value_of left) (value_of right))))
  pair_known op is = gives_by op is

  pub binary_known : (scope : CScope) (op : Op2) → IsUnbroken scope types (binary_node op left right) → IsOperandType opens types unit (binary_meaning at types op left right)
  binary_known scope op unbroken = gives_by op (neither unbroken.k10).1
