-- Operands: typed expressions before and after their values are taken (ISO C99, 6.3.2), and conversions.
use Rattle.std.specs.Prelude.{ℕ, ℤ, pos, Bool, true, false, not, ◌&&◌, ◌||◌, if◌then◌else◌, Option, None, Some, option_map, option_and_then}
use Rattle.std.specs.Ordering.{int_eq}
use Rattle.cr_base.specs.Scalar.{converted}
use Rattle.cr_base.specs.declared.scalar.Scalar.{Scalar}
use Rattle.cx_core.specs.Conversions.{basic_of, scalar_of_basic, promoted, common_type}
use Rattle.cx_core.specs.Trees.{CTy, ty, pointer, array, form_of_type, unqualified, CTypes, CExpr, expr, CForm, whole, null, load, address, convert, unary, binary, and, or, cond, comma, type_of, place_of}
use Rattle.cx_core.specs.Typing.{width_of}
use Rattle.cx_core.specs.declared.expr.Op1.{Op1}
use Rattle.cx_core.specs.declared.expr.Op2.{Op2}
use Rattle.cx_numbers.specs.Numbers.{CWhy, represents, number_of_binary, number_of_unary, number_of_truth, is_shift}
use Rattle.cx_rules.specs.declared.kinds.OperandKind.{OperandKind}
use Rattle.cx_rules.specs.declared.kinds.OperandKind.TheVariants.{Value, Place, Function, VoidPlace}
use Rattle.cx_rules.specs.Types.{is_integer, is_pointer, is_void, is_array, is_complete, same_type, void_type, void_pointer_type}
use Rattle.std.specs.Prelude.{Result, Ok, Err}

-- an expression as its parent finds it: what it is, and whether the object that it names, or one of which it names a part, is
-- declared `register`
pub record COperand : Type 0 where
  pub kind : OperandKind
  pub is_register : Bool
  pub core : CExpr

abbrev pub a_value : CExpr → COperand
a_value core = record { kind = Value; is_register = false; core = core }

abbrev pub a_place : Bool → CExpr → COperand
a_place is_register core = record { kind = Place; is_register = is_register; core = core }

-- ---- what an operand is

abbrev pub is_place : COperand → Bool
is_place operand = elim operand.kind as (λ _. Bool) [ Value ↦ false | Place ↦ true | Function ↦ false | VoidPlace ↦ false ]

abbrev pub is_designator : COperand → Bool
is_designator operand = elim operand.kind as (λ _. Bool) [ Value ↦ false | Place ↦ false | Function ↦ true | VoidPlace ↦ false ]

abbrev pub is_void_place : COperand → Bool
is_void_place operand = elim operand.kind as (λ _. Bool) [ Value ↦ false | Place ↦ false | Function ↦ false | VoidPlace ↦ true ]

-- the width of a bit-field, also of one of a value
abbrev pub width_of_operand : COperand → Option ℕ
width_of_operand operand = width_of operand.core

-- ---- values (6.3.2.1p2 to p4)

-- the value of an lvalue: of an array the address of its first element, else what it holds
abbrev pub value_of_place : CExpr → CExpr
value_of_place (expr (ty (array element length) is_const) place form) =
    expr (ty (pointer element) false) place (address (expr (ty (array element length) is_const) place form))
value_of_place (expr type place form) = expr (unqualified type) place (load (expr type place form))

-- what a pointer to `void` points to has no value
abbrev pub nothing_of : CExpr → CExpr
nothing_of (expr type place form) = expr void_type place (convert (expr type place form))

abbrev pub value_by : OperandKind → CExpr → CExpr
value_by Value core = core
value_by Place core = value_of_place core
value_by Function core = core
value_by VoidPlace core = nothing_of core

abbrev pub value_of : COperand → CExpr
value_of operand = value_by operand.kind operand.core

abbrev pub value_type : COperand → CTy
value_type operand = type_of (value_of operand)

-- ---- values that can't be taken

-- nothing, or what an lvalue of incomplete type would hold (6.3.2.1p2, 6.3.2.2)
abbrev pub gives_nothing : COperand → Bool
gives_nothing operand = is_void (value_type operand)

abbrev pub holds_nothing : CTypes → COperand → Bool
holds_nothing types operand = is_place operand && (not (is_array (type_of operand.core)) && not (is_complete types (type_of operand.core)))

-- an array that is declared `register`, whose address can't be taken (6.7.1, footnote 101)
abbrev pub is_register_array : COperand → Bool
is_register_array operand = is_place operand && (operand.is_register && is_array (type_of operand.core))

-- ---- integer constant expressions (6.6)

abbrev mutual
  -- its operands are integer constants, enumeration constants, character constants, `sizeof` expressions and casts of these to
  -- integer types (6.6p6); of the operators that a constant expression may have only where they aren't evaluated (6.6p3) a comma alone
  -- has such operands, and where it is evaluated it gives no number
  pub is_constant_form : CTypes → CExpr → Bool
  is_constant_form types (expr type place form) = is_integer types type && are_constant_parts types form

  pub are_constant_parts : CTypes → CForm → Bool
  are_constant_parts types (whole value) = true
  are_constant_parts types (convert value) = is_constant_form types value
  are_constant_parts types (unary op value) = is_constant_form types value
  are_constant_parts types (binary op left right) = is_constant_form types left && is_constant_form types right
  are_constant_parts types (and left right) = is_constant_form types left && is_constant_form types right
  are_constant_parts types (or left right) = is_constant_form types left && is_constant_form types right
  are_constant_parts types (cond test first second) =
      is_constant_form types test && (is_constant_form types first && is_constant_form types second)
  are_constant_parts types (comma first second) = is_constant_form types first && is_constant_form types second
  are_constant_parts types _ = false

abbrev pub number_in : Result ℤ CWhy → Option ℤ
number_in (Ok value) = Some value
number_in (Err why) = None

-- the integer type in which numbers of a type are; pointers are no numbers
abbrev pub scalar_in : CTypes → CTy → Option Scalar
scalar_in types type = option_map scalar_of_basic (basic_of types (form_of_type type))

-- a number in a type that represents it
abbrev pub number_within : Option Scalar → ℤ → Option ℤ
number_within None value = None
number_within (Some kind) value = if represents kind value then Some value else None

abbrev pub unary_number : Op1 → Option Scalar → ℤ → Option ℤ
unary_number op None value = None
unary_number op (Some kind) value = if represents kind value then number_in (number_of_unary op kind value) else None

abbrev pub binary_number : Op2 → Option Scalar → ℤ → Option ℤ → Option ℤ
binary_number op None left right = None
binary_number op (Some kind) left None = None
binary_number op (Some kind) left (Some right) =
    if represents kind left && (is_shift op || represents kind right) then number_in (number_of_binary op kind left right) else None

abbrev pub converted_number : Option Scalar → ℤ → Option ℤ
converted_number None value = None
converted_number (Some kind) value = Some (converted kind value)

abbrev pub is_zero : ℤ → Bool
is_zero value = int_eq value (pos 0)

-- `&&` and `||` evaluate the second operand only where the first doesn't decide (6.5.13p4, 6.5.14p4)
abbrev pub both_hold : Option ℤ → ℤ → Option ℤ
both_hold second first = if is_zero first then Some (pos 0) else option_map (λ value. number_of_truth (not (is_zero value))) second

abbrev pub either_holds : Option ℤ → ℤ → Option ℤ
either_holds second first = if is_zero first then option_map (λ value. number_of_truth (not (is_zero value))) second else Some (pos 1)

abbrev pub chosen : Option ℤ → Option ℤ → ℤ → Option ℤ
chosen first second test = if is_zero test then second else first

abbrev mutual
  -- the number that such an expression gives, or none where its value isn't defined, or a comma is evaluated
  pub number_of : CTypes → CExpr → Option ℤ
  number_of types (expr type place form) = number_of_form types type form

  pub number_of_form : CTypes → CTy → CForm → Option ℤ
  number_of_form types type (whole value) = number_within (scalar_in types type) value
  number_of_form types type (convert value) = option_and_then (converted_number (scalar_in types type)) (number_of types value)
  number_of_form types type (unary op value) = option_and_then (unary_number op (scalar_in types (type_of value))) (number_of types value)
  number_of_form types type (binary op left right) =
      option_and_then (λ first. binary_number op (scalar_in types (type_of left)) first (number_of types right)) (number_of types left)
  number_of_form types type (and left right) = option_and_then (both_hold (number_of types right)) (number_of types left)
  number_of_form types type (or left right) = option_and_then (either_holds (number_of types right)) (number_of types left)
  number_of_form types type (cond test first second) =
      option_and_then (chosen (number_of types first) (number_of types second)) (number_of types test)
  number_of_form types type (comma first second) = None
  number_of_form types type _ = None

-- the value of an integer constant expression
unfoldable pub constant_of : CTypes → CExpr → Option ℤ
constant_of types value = if is_constant_form types value then number_of types value else None

-- ---- null pointer constants (6.3.2.3p3)

abbrev pub has_value_zero : Option ℤ → Bool
has_value_zero None = false
has_value_zero (Some value) = is_zero value

abbrev pub is_null_form : CForm → Bool
is_null_form null = true
is_null_form _ = false

-- an integer constant expression with the value 0 cast to `void *`: no other expression of this type is a null pointer by itself
abbrev pub is_null_pointer : CExpr → Bool
is_null_pointer (expr type place form) = is_null_form form && same_type type void_pointer_type

unfoldable pub is_null_constant : CTypes → CExpr → Bool
is_null_constant types value = has_value_zero (constant_of types value) || is_null_pointer value

-- ---- conversions (6.3)

-- a value converted to a type: a node, unless it has that type
abbrev pub converted_to : CTy → CExpr → CExpr
converted_to type value = if same_type (type_of value) type then value else expr type (place_of value) (convert value)

-- a value as it is stored where this type stands (6.5.16.1p2): a null pointer constant becomes a null pointer of that type
abbrev pub fitted : CTypes → CTy → CExpr → CExpr
fitted types type value =
    if is_pointer type && is_null_constant types value
    then expr (unqualified type) (place_of value) null
    else converted_to (unqualified type) value

-- the promoted value of an operand (6.3.1.1p2)
abbrev pub promoted_type : CTypes → COperand → CTy
promoted_type types operand = promoted types (value_type operand) (width_of_operand operand)

abbrev pub promoted_value : CTypes → COperand → CExpr
promoted_value types operand = converted_to (promoted_type types operand) (value_of operand)

-- the common type of two operands of integer type (6.3.1.8)
abbrev pub common_of : CTypes → COperand → COperand → CTy
common_of types left right = common_type (promoted_type types left) (promoted_type types right)

-- a value whose value isn't taken stands under a conversion to `void` (6.8.3p2)
abbrev pub dropped : CExpr → CExpr
dropped value = if is_void (type_of value) then value else expr void_type (place_of value) (convert value)
