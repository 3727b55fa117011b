-- In which way a binary operator takes two operands (ISO C99, 6.5.5 to 6.5.14), and whether a value may be assigned (6.5.16.1).
use Rattle.std.specs.Prelude.{Bool, true, false, ◌&&◌, ◌||◌, if◌then◌else◌, is_some}
use Rattle.cx_core.specs.declared.expr.Op2.{Op2}
use Rattle.cx_core.specs.declared.expr.Op2.TheVariants as op
use Rattle.cx_core.specs.declared.ty.Basic.TheVariants as basics
use Rattle.cx_core.specs.Trees.{CTy, CTyForm, basic, form_of_type, unqualified, CTypes, CExpr, type_of}
use Rattle.cx_rules.specs.declared.kinds.Pairing.{Pairing}
use Rattle.cx_rules.specs.declared.kinds.Pairing.TheVariants.{Arithmetic, Shift, PointerInteger, IntegerPointer, Pointers, LeftConverted, RightConverted, Nothing}
use Rattle.cx_rules.specs.Operands.{is_null_constant}
use Rattle.std.specs.Bool.{beq}
use Rattle.cx_rules.specs.Types.{is_integer, is_pointer, is_element_pointer, is_object_pointer, is_void_pointer, point_alike, keeps_qualifiers, record_of, compatible, has_size, target_of, both_targets}

-- ---- pairings

abbrev pub both_integers : CTypes → CTy → CTy → Bool
both_integers types left right = is_integer types left && is_integer types right

abbrev otherwise : Bool → Pairing → Pairing → Pairing
otherwise test this that = if test then this else that

-- `*`, `/`, `%`, `&`, `^`, `|` (6.5.5p2, 6.5.10p2 to 6.5.12p2)
abbrev pub numbers_pair : CTypes → CTy → CTy → Pairing
numbers_pair types left right = otherwise (both_integers types left right) Arithmetic Nothing

-- `<<`, `>>` (6.5.7p2)
abbrev pub shift_pair : CTypes → CTy → CTy → Pairing
shift_pair types left right = otherwise (both_integers types left right) Shift Nothing

-- `+` (6.5.6p2)
abbrev pub sum_pair : CTypes → CTy → CTy → Pairing
sum_pair types left right =
    otherwise (both_integers types left right) Arithmetic
    (otherwise (is_element_pointer types left && is_integer types right) PointerInteger
    (otherwise (is_integer types left && is_element_pointer types right) IntegerPointer Nothing))

-- pointers to complete objects, of compatible types (6.5.6p3)
abbrev pub differ : CTypes → CTy → CTy → Bool
differ types left right = is_element_pointer types left && (is_element_pointer types right && point_alike types left right)

-- `-` (6.5.6p3)
abbrev pub difference_pair : CTypes → CTy → CTy → Pairing
difference_pair types left right =
    otherwise (both_integers types left right) Arithmetic
    (otherwise (is_element_pointer types left && is_integer types right) PointerInteger
    (otherwise (differ types left right) Pointers Nothing))

-- what two pointers point to has a size in both cases, or in neither
abbrev pub as_complete : CTypes → CTy → CTy → Bool
as_complete types left right = both_targets (λ one other. beq (has_size types one) (has_size types other)) (target_of left) (target_of right)

-- two pointers that may be compared: to compatible object types, or to compatible incomplete types (6.5.8p2)
abbrev pub ordered : CTypes → CTy → CTy → Bool
ordered types left right = is_object_pointer left && (point_alike types left right && as_complete types left right)

-- `<`, `>`, `<=`, `>=` (6.5.8p2)
abbrev pub order_pair : CTypes → CTy → CTy → Pairing
order_pair types left right =
    otherwise (both_integers types left right) Arithmetic
    (otherwise (ordered types left right) Pointers Nothing)

-- one points to `void`, and the other to an object type or an incomplete one
abbrev pub void_beside : CTy → CTy → Bool
void_beside one other = is_void_pointer one && is_object_pointer other

-- two pointers that may be equal (6.5.9p2)
abbrev pub pointers_pair : CTypes → CTy → CTy → Pairing
pointers_pair types left right =
    otherwise (point_alike types left right) Pointers
    (otherwise (void_beside left right) RightConverted
    (otherwise (void_beside right left) LeftConverted Nothing))

-- `==`, `!=` (6.5.9p2, p5), where it is known which of the two are null pointer constants
abbrev pub equality_pair : CTypes → CTy → Bool → CTy → Bool → Pairing
equality_pair types left left_is_null right right_is_null =
    otherwise (both_integers types left right) Arithmetic
    (otherwise (is_pointer left && right_is_null) RightConverted
    (otherwise (is_pointer right && left_is_null) LeftConverted (pointers_pair types left right)))

unfoldable pub pairing : CTypes → Op2 → CExpr → CExpr → Pairing
pairing types op.Multiply left right = numbers_pair types (type_of left) (type_of right)
pairing types op.Divide left right = numbers_pair types (type_of left) (type_of right)
pairing types op.Remainder left right = numbers_pair types (type_of left) (type_of right)
pairing types op.Add left right = sum_pair types (type_of left) (type_of right)
pairing types op.Subtract left right = difference_pair types (type_of left) (type_of right)
pairing types op.ShiftLeft left right = shift_pair types (type_of left) (type_of right)
pairing types op.ShiftRight left right = shift_pair types (type_of left) (type_of right)
pairing types op.Less left right = order_pair types (type_of left) (type_of right)
pairing types op.Greater left right = order_pair types (type_of left) (type_of right)
pairing types op.LessOrEqual left right = order_pair types (type_of left) (type_of right)
pairing types op.GreaterOrEqual left right = order_pair types (type_of left) (type_of right)
pairing types op.Equal left right = equality_pair types (type_of left) (is_null_constant types left) (type_of right) (is_null_constant types right)
pairing types op.NotEqual left right = equality_pair types (type_of left) (is_null_constant types left) (type_of right) (is_null_constant types right)
pairing types op.BitAnd left right = numbers_pair types (type_of left) (type_of right)
pairing types op.BitXor left right = numbers_pair types (type_of left) (type_of right)
pairing types op.BitOr left right = numbers_pair types (type_of left) (type_of right)

abbrev pub is_nothing : Pairing → Bool
is_nothing Nothing = true
is_nothing _ = false

-- a compound assignment takes numbers, shifts, and a pointer that is moved (6.5.16.2p1, p2)
abbrev pub joins : Pairing → Bool
joins Arithmetic = true
joins Shift = true
joins PointerInteger = true
joins _ = false

-- ---- simple assignment (6.5.16.1p1)

-- the target's type has this number of a record, and the value's too: compatible versions of one structure or union type
abbrev pub records_match : CTypes → CTy → CTy → Bool
records_match types target value = is_some (record_of target) && compatible types (unqualified target) (unqualified value)

abbrev pub is_truth_form : CTyForm → Bool
is_truth_form (basic basics.Truth) = true
is_truth_form _ = false

-- pointers to compatible types, or one of them to `void`; what the left one points to has the qualifiers of what the right one does
abbrev pub pointers_match : CTypes → CTy → CTy → Bool
pointers_match types target value =
    keeps_qualifiers target value
    && (point_alike types target value || (void_beside target value || void_beside value target))

-- a value of a type may be assigned where the target's type stands; it may be a null pointer constant
abbrev pub types_match : CTypes → CTy → CTy → Bool → Bool
types_match types target value is_null =
    (is_integer types target && is_integer types value)
    || (records_match types target value
    || (pointers_match types target value
    || ((is_pointer target && is_null)
    || (is_truth_form (form_of_type target) && is_pointer value))))

-- a value may be assigned where this type stands
unfoldable pub is_assignable : CTypes → CTy → CExpr → Bool
is_assignable types target value = types_match types target (type_of value) (is_null_constant types value)
