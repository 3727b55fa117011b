-- Operators with two operands over values.
use Rattle.std.proofs.Common.{arith, ◌≡◌, ◌⊎◌, inl, inr, ℕ, Bool, true, false, not, IsTrue, ℤ, pos, neg_ℤ, ◌*ℤ◌, int_le, int_lt, Option, Some, None, IsSome, Result, Ok, Err, refl, sym, ap, subst, ◌∙◌}
use Rattle.std.proofs.lemmas.Int.{ints}
use Rattle.std.specs.Ordering.{int_eq}
use Rattle.cr_base.specs.Scalar.{is_width, IsInRange}
use Rattle.cr_base.specs.declared.layout.Laid.{Laid}
use Rattle.cr_base.specs.declared.rule.URule.TheVariants.{U11, U12}
use Rattle.cr_base.specs.declared.scalar.Scalar.{Scalar}
use Rattle.cr_base.specs.declared.scalar.Scalar.TheVariants.{Whole, Object, Code}
use Rattle.cx_core.specs.Compatible.{AreCompatible}
use Rattle.cx_core.specs.Conversions.{scalar_of, scalar_of_basic, scalar_of_pointer, IsIntegerType}
use Rattle.cx_core.specs.declared.expr.Op2.{Op2}
use Rattle.cx_core.specs.declared.expr.Op2.TheVariants.{Multiply, Divide, Remainder, Add, Subtract, ShiftLeft, ShiftRight, Less, Greater, LessOrEqual, GreaterOrEqual, Equal, NotEqual, BitAnd, BitXor, BitOr}
use Rattle.cx_core.specs.Layouts.{extent, layouts_of}
use Rattle.cx_core.specs.Trees.{CTy, ty, CTyForm, void, basic, enum_type, pointer, array, record_type, function, form_of_type, unqualified, CTypes, CProgram}
use Rattle.cx_core.specs.Typing.{AreCommon, AreNumbers, AreOrdered, AreEqual, IsShift, IsMoved, IsDifference, IsElementPointer, PointAlike, int_type, difference_type}
use Rattle.cx_core.specs.ValidTypes.{IsComplete}
use Rattle.cx_mean.specs.Operands.{by_pointers, needed}
use Rattle.cx_mean.specs.Settings.{setting_of, element_extent}
use Rattle.cx_mean.specs.Values.{binary_value}
use Rattle.cx_numbers.specs.Numbers.{CWhy, breaks, stuck, number_of_binary, number_of_truth}
use Rattle.mem_bytes.specs.Access.{and_then}
use Rattle.mem_bytes.specs.Coding.{IsValueOf}
use Rattle.mem_bytes.specs.declared.value.Value.{Value}
use Rattle.mem_bytes.specs.declared.value.Value.TheVariants.{Whole as Number, Null, Object as Pointer, Code as Function}
use Rattle.mem_bytes.specs.Memory.{Blocks}
use Rattle.mem_bytes.specs.Pointers.{moved, distance, difference, equality}
use Rattle.cx_typed_values.specs.Outcomes.{Comes}
use Rattle.cx_typed_values.specs.Values.{IsNear, IsScalarOf, AreObjects, BinaryOperatorsGiveValues}
use Rattle.cx_typed_values.proofs.Operators.{binary_comes, truth_comes}
use Rattle.cx_typed_values.proofs.PointerValues.{same_pointers, IsObjectPointer, moved_comes, IsDistance, distance_comes, difference_comes, IsPointing, equality_comes}
use Rattle.cx_typed_values.proofs.ScalarKinds.{IsWholeKind, promoted_kind, IsNumber, number_of_kind, same_kind, basic_integer, integer_kind}
use Rattle.cx_typed_values.proofs.UnaryValues.{whole_value, arithmetic_comes}

-- what an operator gives
abbrev Gives : CProgram → Op2 → CTy → CTy → CTy → Blocks → Value → Value → Type 0
Gives program op type left right blocks first second =
    Comes (IsScalarOf program.types type) (binary_value (setting_of program) op type blocks (record { type = left; value = first }) (record { type = right; value = second }))

-- ---- two numbers

number_in_type : (types : CTypes) (type operand : CTy) (value : Value) (kind : IsWholeKind types type) → operand ≡ type → IsScalarOf types operand value → IsNumber (Whole kind.width kind.signed) value
number_in_type types type operand value kind is given =
    let same : given.kind ≡ Whole kind.width kind.signed =
    same_kind given.kind (Whole kind.width kind.signed) (sym given.kind_is ∙ ap (λ t. scalar_of types (form_of_type t)) is ∙ kind.kind_is) in
    number_of_kind (Whole kind.width kind.signed) value kind.is_one (subst (λ k. IsValueOf k value) same given.of_kind)

abbrev numbers_of : Op2 → Option Scalar → ℤ → ℤ → Result Value CWhy
numbers_of op found one other = and_then (needed found) (λ kind. and_then (number_of_binary op kind one other) (λ number. Ok (Number number)))

numbers_by : (types : CTypes) (type : CTy) (op : Op2) (kind : IsWholeKind types type) (one other : ℤ) → Comes (IsInRange (Whole kind.width kind.signed)) (number_of_binary op (Whole kind.width kind.signed) one other)
    → Comes (IsScalarOf types type) (numbers_of op (scalar_of types (form_of_type type)) one other)
numbers_by types type op kind one other comes =
    subst (λ (found : Option Scalar). Comes (IsScalarOf types type) (numbers_of op found one other)) (sym kind.kind_is)
    (arithmetic_comes types type kind.width kind.signed (number_of_binary op (Whole kind.width kind.signed) one other) kind.kind_is comes)

two_numbers_give : (program : CProgram) (op : Op2) (type left right : CTy) (blocks : Blocks) (first second : Value) (one other : ℤ) → first ≡ Number one → second ≡ Number other
    → Comes (IsScalarOf program.types type) (numbers_of op (scalar_of program.types (form_of_type type)) one other) → Gives program op type left right blocks first second
two_numbers_give program op type left right blocks first second one other e f comes =
    subst (λ v. Gives program op type left right blocks v second) (sym e) (subst (λ w. Gives program op type left right blocks (Number one) w) (sym f) comes)

abbrev NumbersCome : Op2 → Type 0
NumbersCome op = (width : ℕ) (signed : Bool) (one other : ℤ) → IsTrue (is_width width) → IsInRange (Whole width signed) one → IsInRange (Whole width signed) other
    → Comes (IsInRange (Whole width signed)) (number_of_binary op (Whole width signed) one other)

common : (program : CProgram) (op : Op2) (type left right : CTy) (blocks : Blocks) (first second : Value) → NumbersCome op → AreCommon type left right
    → IsScalarOf program.types left first → IsScalarOf program.types right second → Gives program op type left right blocks first second
common program op type left right blocks first second numbers is one other =
    let kind = promoted_kind program.types type is.promoted in
    let n = number_in_type program.types type left first kind is.left_is one in
    let m = number_in_type program.types type right second kind is.right_is other in
    two_numbers_give program op type left right blocks first second n.number m.number n.is m.is
    (numbers_by program.types type op kind n.number m.number (numbers kind.width kind.signed n.number m.number kind.is_one n.in_range m.in_range))

abbrev ShiftsCome : Op2 → Type 0
ShiftsCome op = (width : ℕ) (signed : Bool) (one other : ℤ) → IsTrue (is_width width) → IsInRange (Whole width signed) one
    → Comes (IsInRange (Whole width signed)) (number_of_binary op (Whole width signed) one other)

shift : (program : CProgram) (op : Op2) (type left right : CTy) (blocks : Blocks) (first second : Value) → ShiftsCome op → IsShift type left right
    → IsScalarOf program.types left first → IsScalarOf program.types right second → Gives program op type left right blocks first second
shift program op type left right blocks first second numbers is one other =
    let kind = promoted_kind program.types type is.promoted in
    let n = number_in_type program.types type left first kind is.left_is one in
    let m = number_in_type program.types right right second (promoted_kind program.types right is.right_promoted) refl other in
    two_numbers_give program op type left right blocks first second n.number m.number n.is m.is
    (numbers_by program.types type op kind n.number m.number (numbers kind.width kind.signed n.number m.number kind.is_one n.in_range))

-- a comparison of numbers gives an `int`
compared : (program : CProgram) (op : Op2) (type left right : CTy) (blocks : Blocks) (first second : Value)
    → ((one other : ℤ) → Comes (IsScalarOf program.types int_type) (numbers_of op (Some (Whole 32 true)) one other)) → AreNumbers type left right
    → IsScalarOf program.types left first → IsScalarOf program.types right second → Gives program op type left right blocks first second
compared program op type left right blocks first second holds is one other =
    let kind = promoted_kind program.types left is.promoted in
    let n = number_in_type program.types left left first kind refl one in
    let m = number_in_type program.types left right second kind is.right_is other in
    two_numbers_give program op type left right blocks first second n.number m.number n.is m.is
    (subst (λ t. Comes (IsScalarOf program.types t) (numbers_of op (scalar_of program.types (form_of_type t)) n.number m.number)) (sym is.type_is) (holds n.number m.number))

-- ---- pointers

object_pointer : (types : CTypes) (type : CTy) (value : Value) → scalar_of types (form_of_type type) ≡ Some Object → IsScalarOf types type value → IsObjectPointer value
object_pointer types type value e given =
    let same : given.kind ≡ Object = same_kind given.kind Object (sym given.kind_is ∙ e) in
    record { of_kind = subst (λ k. IsValueOf k value) same given.of_kind; near = given.near }

object_pointing : (value : Value) → IsValueOf Object value → IsPointing value
object_pointing (Number number) is = is
object_pointing Null is = tt
object_pointing (Pointer at) is = tt
object_pointing (Function number) is = tt

code_pointing : (value : Value) → IsValueOf Code value → IsPointing value
code_pointing (Number number) is = is
code_pointing Null is = tt
code_pointing (Pointer at) is = tt
code_pointing (Function number) is = tt

-- what an operator gives of two pointers of which the first has this type
abbrev pair_of : CProgram → Op2 → Blocks → CTy → Value → Value → Result ℤ CWhy
pair_of program Subtract blocks type first second =
    and_then (needed (element_extent (setting_of program) (form_of_type type))) (λ laid. by_pointers U11 (difference blocks laid.size first second))
pair_of program Less blocks type first second = and_then (by_pointers U12 (distance blocks first second)) (λ bytes. Ok (number_of_truth (int_lt bytes (pos 0))))
pair_of program Greater blocks type first second = and_then (by_pointers U12 (distance blocks first second)) (λ bytes. Ok (number_of_truth (int_lt (pos 0) bytes)))
pair_of program LessOrEqual blocks type first second = and_then (by_pointers U12 (distance blocks first second)) (λ bytes. Ok (number_of_truth (int_le bytes (pos 0))))
pair_of program GreaterOrEqual blocks type first second = and_then (by_pointers U12 (distance blocks first second)) (λ bytes. Ok (number_of_truth (int_le (pos 0) bytes)))
pair_of program Equal blocks type first second = and_then (by_pointers U12 (equality blocks first second)) (λ same. Ok (number_of_truth same))
pair_of program NotEqual blocks type first second = and_then (by_pointers U12 (equality blocks first second)) (λ same. Ok (number_of_truth (not same)))
pair_of program op blocks type first second = Err stuck

-- two operands, none of which is a number
abbrev Apart : CProgram → Op2 → CTy → CTy → CTy → Blocks → Value → Value → Type 0
Apart program op type left right blocks first second = IsPointing first → IsPointing second
    → Comes (IsScalarOf program.types type) (and_then (pair_of program op blocks left first second) (λ number. Ok (Number number)))
    → Gives program op type left right blocks first second

apart_subtract : (program : CProgram) (type left right : CTy) (blocks : Blocks) (first second : Value) → Apart program Subtract type left right blocks first second
apart_subtract program type left right blocks Null Null one other comes = comes
apart_subtract program type left right blocks Null (Pointer q) one other comes = comes
apart_subtract program type left right blocks Null (Function q) one other comes = comes
apart_subtract program type left right blocks (Pointer p) Null one other comes = comes
apart_subtract program type left right blocks (Pointer p) (Pointer q) one other comes = comes
apart_subtract program type left right blocks (Pointer p) (Function q) one other comes = comes
apart_subtract program type left right blocks (Function p) Null one other comes = comes
apart_subtract program type left right blocks (Function p) (Pointer q) one other comes = comes
apart_subtract program type left right blocks (Function p) (Function q) one other comes = comes
apart_subtract program type left right blocks (Number n) second one other comes = absurd one
apart_subtract program type left right blocks Null (Number n) one other comes = absurd other
apart_subtract program type left right blocks (Pointer p) (Number n) one other comes = absurd other
apart_subtract program type left right blocks (Function p) (Number n) one other comes = absurd other

apart_less : (program : CProgram) (type left right : CTy) (blocks : Blocks) (first second : Value) → Apart program Less type left right blocks first second
apart_less program type left right blocks Null Null one other comes = comes
apart_less program type left right blocks Null (Pointer q) one other comes = comes
apart_less program type left right blocks Null (Function q) one other comes = comes
apart_less program type left right blocks (Pointer p) Null one other comes = comes
apart_less program type left right blocks (Pointer p) (Pointer q) one other comes = comes
apart_less program type left right blocks (Pointer p) (Function q) one other comes = comes
apart_less program type left right blocks (Function p) Null one other comes = comes
apart_less program type left right blocks (Function p) (Pointer q) one other comes = comes
apart_less program type left right blocks (Function p) (Function q) one other comes = comes
apart_less program type left right blocks (Number n) second one other comes = absurd one
apart_less program type left right blocks Null (Number n) one other comes = absurd other
apart_less program type left right blocks (Pointer p) (Number n) one other comes = absurd other
apart_less program type left right blocks (Function p) (Number n) one other comes = absurd other

apart_greater : (program : CProgram) (type left right : CTy) (blocks : Blocks) (first second : Value) → Apart program Greater type left right blocks first second
apart_greater program type left right blocks Null Null one other comes = comes
apart_greater program type left right blocks Null (Pointer q) one other comes = comes
apart_greater program type left right blocks Null (Function q) one other comes = comes
apart_greater program type left right blocks (Pointer p) Null one other comes = comes
apart_greater program type left right blocks (Pointer p) (Pointer q) one other comes = comes
apart_greater program type left right blocks (Pointer p) (Function q) one other comes = comes
apart_greater program type left right blocks (Function p) Null one other comes = comes
apart_greater program type left right blocks (Function p) (Pointer q) one other comes = comes
apart_greater program type left right blocks (Function p) (Function q) one other comes = comes
apart_greater program type left right blocks (Number n) second one other comes = absurd one
apart_greater program type left right blocks Null (Number n) one other comes = absurd other
apart_greater program type left right blocks (Pointer p) (Number n) one other comes = absurd other
apart_greater program type left right blocks (Function p) (Number n) one other comes = absurd other

apart_less_or_equal : (program : CProgram) (type left right : CTy) (blocks : Blocks) (first second : Value) → Apart program LessOrEqual type left right blocks first second
apart_less_or_equal program type left right blocks Null Null one other comes = comes
apart_less_or_equal program type left right blocks Null (Pointer q) one other comes = comes
apart_less_or_equal program type left right blocks Null (Function q) one other comes = comes
apart_less_or_equal program type left right blocks (Pointer p) Null one other comes = comes
apart_less_or_equal program type left right blocks (Pointer p) (Pointer q) one other comes = comes
apart_less_or_equal program type left right blocks (Pointer p) (Function q) one other comes = comes
apart_less_or_equal program type left right blocks (Function p) Null one other comes = comes
apart_less_or_equal program type left right blocks (Function p) (Pointer q) one other comes = comes
apart_less_or_equal program type left right blocks (Function p) (Function q) one other comes = comes
apart_less_or_equal program type left right blocks (Number n) second one other comes = absurd one
apart_less_or_equal program type left right blocks Null (Number n) one other comes = absurd other
apart_less_or_equal program type left right blocks (Pointer p) (Number n) one other comes = absurd other
apart_less_or_equal program type left right blocks (Function p) (Number n) one other comes = absurd other

apart_greater_or_equal : (program : CProgram) (type left right : CTy) (blocks : Blocks) (first second : Value) → Apart program GreaterOrEqual type left right blocks first second
apart_greater_or_equal program type left right blocks Null Null one other comes = comes
apart_greater_or_equal program type left right blocks Null (Pointer q) one other comes = comes
apart_greater_or_equal program type left right blocks Null (Function q) one other comes = comes
apart_greater_or_equal program type left right blocks (Pointer p) Null one other comes = comes
apart_greater_or_equal program type left right blocks (Pointer p) (Pointer q) one other comes = comes
apart_greater_or_equal program type left right blocks (Pointer p) (Function q) one other comes = comes
apart_greater_or_equal program type left right blocks (Function p) Null one other comes = comes
apart_greater_or_equal program type left right blocks (Function p) (Pointer q) one other comes = comes
apart_greater_or_equal program type left right blocks (Function p) (Function q) one other comes = comes
apart_greater_or_equal program type left right blocks (Number n) second one other comes = absurd one
apart_greater_or_equal program type left right blocks Null (Number n) one other comes = absurd other
apart_greater_or_equal program type left right blocks (Pointer p) (Number n) one other comes = absurd other
apart_greater_or_equal program type left right blocks (Function p) (Number n) one other comes = absurd other

apart_equal : (program : CProgram) (type left right : CTy) (blocks : Blocks) (first second : Value) → Apart program Equal type left right blocks first second
apart_equal program type left right blocks Null Null one other comes = comes
apart_equal program type left right blocks Null (Pointer q) one other comes = comes
apart_equal program type left right blocks Null (Function q) one other comes = comes
apart_equal program type left right blocks (Pointer p) Null one other comes = comes
apart_equal program type left right blocks (Pointer p) (Pointer q) one other comes = comes
apart_equal program type left right blocks (Pointer p) (Function q) one other comes = comes
apart_equal program type left right blocks (Function p) Null one other comes = comes
apart_equal program type left right blocks (Function p) (Pointer q) one other comes = comes
apart_equal program type left right blocks (Function p) (Function q) one other comes = comes
apart_equal program type left right blocks (Number n) second one other comes = absurd one
apart_equal program type left right blocks Null (Number n) one other comes = absurd other
apart_equal program type left right blocks (Pointer p) (Number n) one other comes = absurd other
apart_equal program type left right blocks (Function p) (Number n) one other comes = absurd other

apart_not_equal : (program : CProgram) (type left right : CTy) (blocks : Blocks) (first second : Value) → Apart program NotEqual type left right blocks first second
apart_not_equal program type left right blocks Null Null one other comes = comes
apart_not_equal program type left right blocks Null (Pointer q) one other comes = comes
apart_not_equal program type left right blocks Null (Function q) one other comes = comes
apart_not_equal program type left right blocks (Pointer p) Null one other comes = comes
apart_not_equal program type left right blocks (Pointer p) (Pointer q) one other comes = comes
apart_not_equal program type left right blocks (Pointer p) (Function q) one other comes = comes
apart_not_equal program type left right blocks (Function p) Null one other comes = comes
apart_not_equal program type left right blocks (Function p) (Pointer q) one other comes = comes
apart_not_equal program type left right blocks (Function p) (Function q) one other comes = comes
apart_not_equal program type left right blocks (Number n) second one other comes = absurd one
apart_not_equal program type left right blocks Null (Number n) one other comes = absurd other
apart_not_equal program type left right blocks (Pointer p) (Number n) one other comes = absurd other
apart_not_equal program type left right blocks (Function p) (Number n) one other comes = absurd other

-- two types of pointers
record ArePointers (types : CTypes) (left right : CTy) : Type 0 where
  to : CTy
  to_other : CTy
  is_const : Bool
  other_const : Bool
  left_is : left ≡ ty (pointer to) is_const
  right_is : right ≡ ty (pointer to_other) other_const
  compatible : AreCompatible types (unqualified to) (unqualified to_other)

pointers_alike : (types : CTypes) (left right : CTy) → PointAlike types left right → ArePointers types left right
pointers_alike types (ty (pointer l) lc) (ty (pointer r) rc) are = record { to = l; to_other = r; is_const = lc; other_const = rc; left_is = refl; right_is = refl; compatible = are }
pointers_alike types (ty (pointer l) lc) (ty void rc) are = absurd are
pointers_alike types (ty (pointer l) lc) (ty (basic r) rc) are = absurd are
pointers_alike types (ty (pointer l) lc) (ty (enum_type r) rc) are = absurd are
pointers_alike types (ty (pointer l) lc) (ty (array r n) rc) are = absurd are
pointers_alike types (ty (pointer l) lc) (ty (record_type r) rc) are = absurd are
pointers_alike types (ty (pointer l) lc) (ty (function r ps more) rc) are = absurd are
pointers_alike types (ty void lc) right are = absurd are
pointers_alike types (ty (basic r) lc) right are = absurd are
pointers_alike types (ty (enum_type r) lc) right are = absurd are
pointers_alike types (ty (array r n) lc) right are = absurd are
pointers_alike types (ty (record_type r) lc) right are = absurd are
pointers_alike types (ty (function r ps more) lc) right are = absurd are

-- both are pointers to objects, or both to functions
kinds_alike : (types : CTypes) (left right : CTy) → PointAlike types left right → scalar_of types (form_of_type left) ≡ scalar_of types (form_of_type right)
kinds_alike types left right are =
    let parts = pointers_alike types left right are in
    ap (λ t. scalar_of types (form_of_type t)) parts.left_is ∙ ap (λ kind. Some kind) (same_pointers types parts.to parts.to_other parts.compatible)
    ∙ sym (ap (λ t. scalar_of types (form_of_type t)) parts.right_is)

pointing_by : (to : CTy) (value : Value) → IsValueOf (scalar_of_pointer to) value → IsPointing value
pointing_by (ty (function r ps more) c) value is = code_pointing value is
pointing_by (ty void c) value is = object_pointing value is
pointing_by (ty (basic r) c) value is = object_pointing value is
pointing_by (ty (enum_type r) c) value is = object_pointing value is
pointing_by (ty (pointer r) c) value is = object_pointing value is
pointing_by (ty (array r n) c) value is = object_pointing value is
pointing_by (ty (record_type r) c) value is = object_pointing value is

pointing : (types : CTypes) (type to : CTy) (is_const : Bool) (value : Value) → type ≡ ty (pointer to) is_const → IsScalarOf types type value → IsPointing value
pointing types type to is_const value e given =
    let same : given.kind ≡ scalar_of_pointer to = same_kind given.kind (scalar_of_pointer to) (sym given.kind_is ∙ ap (λ t. scalar_of types (form_of_type t)) e) in
    pointing_by to value (subst (λ k. IsValueOf k value) same given.of_kind)

-- ---- orders and equality of pointers

ordered_by : (types : CTypes) (holds : ℤ → Bool) (found : Result ℤ CWhy) → Comes IsDistance found
    → Comes (IsScalarOf types int_type) (and_then (and_then found (λ bytes. Ok (number_of_truth (holds bytes)))) (λ number. Ok (Number number)))
ordered_by types holds (Ok bytes) comes = whole_value types int_type 32 true (number_of_truth (holds bytes)) refl (truth_comes (holds bytes))
ordered_by types holds (Err (breaks rule)) comes = tt
ordered_by types holds (Err stuck) comes = comes

equal_by : (types : CTypes) (holds : Bool → Bool) (found : Result Bool CWhy) → Comes (λ (_ : Bool). Unit {0}) found
    → Comes (IsScalarOf types int_type) (and_then (and_then found (λ same. Ok (number_of_truth (holds same)))) (λ number. Ok (Number number)))
equal_by types holds (Ok same) comes = whole_value types int_type 32 true (number_of_truth (holds same)) refl (truth_comes (holds same))
equal_by types holds (Err (breaks rule)) comes = tt
equal_by types holds (Err stuck) comes = comes

ordered : (program : CProgram) (op : Op2) (type left right : CTy) (blocks : Blocks) (first second : Value) → Apart program op type left right blocks first second
    → (IsObjectPointer first → IsObjectPointer second → Comes (IsScalarOf program.types int_type) (and_then (pair_of program op blocks left first second) (λ number. Ok (Number number))))
    → AreOrdered program.types type left right → IsScalarOf program.types left first → IsScalarOf program.types right second → Gives program op type left right blocks first second
ordered program op type left right blocks first second is_apart comes is one other =
    let n = object_pointer program.types left first is.objects one in
    let m = object_pointer program.types right second (sym (kinds_alike program.types left right is.alike) ∙ is.objects) other in
    is_apart (object_pointing first n.of_kind) (object_pointing second m.of_kind)
    (subst (λ t. Comes (IsScalarOf program.types t) (and_then (pair_of program op blocks left first second) (λ number. Ok (Number number)))) (sym is.type_is) (comes n m))

equal : (program : CProgram) (op : Op2) (type left right : CTy) (blocks : Blocks) (first second : Value) → Apart program op type left right blocks first second
    → (IsPointing first → IsPointing second → Comes (IsScalarOf program.types int_type) (and_then (pair_of program op blocks left first second) (λ number. Ok (Number number))))
    → AreEqual program.types type left right → IsScalarOf program.types left first → IsScalarOf program.types right second → Gives program op type left right blocks first second
equal program op type left right blocks first second is_apart comes is one other =
    let parts = pointers_alike program.types left right is.alike in
    let n = pointing program.types left parts.to parts.is_const first parts.left_is one in
    let m = pointing program.types right parts.to_other parts.other_const second parts.right_is other in
    is_apart n m
    (subst (λ t. Comes (IsScalarOf program.types t) (and_then (pair_of program op blocks left first second) (λ number. Ok (Number number)))) (sym is.type_is) (comes n m))

-- ---- pointers to elements

-- a pointer to a complete object type
record IsToElements (types : CTypes) (type : CTy) : Type 0 where
  to : CTy
  is_const : Bool
  type_is : type ≡ ty (pointer to) is_const
  complete : IsComplete types to

elements_of : (types : CTypes) (type : CTy) → IsElementPointer types type → IsToElements types type
elements_of types (ty (pointer to) c) are = record { to = to; is_const = c; type_is = refl; complete = are.1 }
elements_of types (ty void c) are = absurd are
elements_of types (ty (basic r) c) are = absurd are
elements_of types (ty (enum_type r) c) are = absurd are
elements_of types (ty (array r n) c) are = absurd are
elements_of types (ty (record_type r) c) are = absurd are
elements_of types (ty (function r ps more) c) are = absurd are

complete_object : (types : CTypes) (to : CTy) → IsComplete types to → scalar_of_pointer to ≡ Object
complete_object types (ty (function r ps more) c) complete = cc complete
complete_object types (ty void c) complete = refl
complete_object types (ty (basic r) c) complete = refl
complete_object types (ty (enum_type r) c) complete = refl
complete_object types (ty (pointer r) c) complete = refl
complete_object types (ty (array r n) c) complete = refl
complete_object types (ty (record_type r) c) complete = refl

elements_kind : (types : CTypes) (type : CTy) → IsToElements types type → scalar_of types (form_of_type type) ≡ Some Object
elements_kind types type are = ap (λ t. scalar_of types (form_of_type t)) are.type_is ∙ ap (λ kind. Some kind) (complete_object types are.to are.complete)

-- ---- a pointer that is moved

moved_by : (types : CTypes) (type : CTy) (blocks : Blocks) (value : Value) (count : ℤ) (found : Option Laid) → IsSome found
    → ((bytes : ℤ) → Comes IsObjectPointer (by_pointers U11 (moved blocks value bytes))) → scalar_of types (form_of_type type) ≡ Some Object
    → Comes (IsScalarOf types type) (and_then (and_then (needed found) (λ laid. Ok (count *ℤ pos laid.size))) (λ bytes. by_pointers U11 (moved blocks value bytes)))
moved_by types type blocks value count None some comes kind = cc
moved_by types type blocks value count (Some laid) some comes kind = given (by_pointers U11 (moved blocks value (count *ℤ pos laid.size))) (comes (count *ℤ pos laid.size)) where
  given : (found : Result Value CWhy) → Comes IsObjectPointer found → Comes (IsScalarOf types type) found
  given (Ok new) is = record { kind = Object; kind_is = kind; of_kind = is.of_kind; near = is.near }
  given (Err (breaks rule)) is = tt
  given (Err stuck) is = is

-- what a pointer of a type gives, moved by a number of elements
abbrev moving : CProgram → CTy → Blocks → Value → ℤ → Result Value CWhy
moving program type blocks value count =
    and_then (and_then (needed (element_extent (setting_of program) (form_of_type type))) (λ laid. Ok (count *ℤ pos laid.size))) (λ bytes. by_pointers U11 (moved blocks value bytes))

moving_comes : (program : CProgram) (type : CTy) (blocks : Blocks) (value : Value) (count : ℤ) → AreObjects blocks → IsElementPointer program.types type → IsScalarOf program.types type value
    → Comes (IsScalarOf program.types type) (moving program type blocks value count)
moving_comes program type blocks value count are elements one =
    let parts = elements_of program.types type elements in
    let kind = elements_kind program.types type parts in
    let pointer_is = object_pointer program.types type value kind one in
    moved_by program.types type blocks value count (element_extent (setting_of program) (form_of_type type))
    (subst (λ t. IsSome (element_extent (setting_of program) (form_of_type t))) (sym parts.type_is) parts.complete)
    (λ bytes. moved_comes blocks value bytes U11 are pointer_is.of_kind) kind

-- the number of an integer type
integer_number : (types : CTypes) (type : CTy) (value : Value) → IsIntegerType types type → IsScalarOf types type value → (number : ℤ) × (value ≡ Number number)
integer_number types type value is given =
    let kind = integer_kind types type is in
    let same : given.kind ≡ scalar_of_basic kind.which = same_kind given.kind (scalar_of_basic kind.which) (sym given.kind_is ∙ kind.kind_is) in
    let one = number_of_kind (scalar_of_basic kind.which) value (basic_integer kind.which) (subst (λ k. IsValueOf k value) same given.of_kind) in
    (one.number, one.is)

added : (program : CProgram) (type left right : CTy) (blocks : Blocks) (value : Value) (count : ℤ) → IsValueOf Object value
    → Comes (IsScalarOf program.types type) (moving program left blocks value count) → Gives program Add type left right blocks value (Number count)
added program type left right blocks Null count is comes = comes
added program type left right blocks (Pointer at) count is comes = comes
added program type left right blocks (Number number) count is comes = absurd is
added program type left right blocks (Function number) count is comes = absurd is

taken : (program : CProgram) (type left right : CTy) (blocks : Blocks) (value : Value) (count : ℤ) → IsValueOf Object value
    → Comes (IsScalarOf program.types type) (moving program left blocks value (neg_ℤ count)) → Gives program Subtract type left right blocks value (Number count)
taken program type left right blocks Null count is comes = comes
taken program type left right blocks (Pointer at) count is comes = comes
taken program type left right blocks (Number number) count is comes = absurd is
taken program type left right blocks (Function number) count is comes = absurd is

added_in_front : (program : CProgram) (type left right : CTy) (blocks : Blocks) (value : Value) (count : ℤ) → IsValueOf Object value
    → Comes (IsScalarOf program.types type) (moving program right blocks value count) → Gives program Add type left right blocks (Number count) value
added_in_front program type left right blocks Null count is comes = comes
added_in_front program type left right blocks (Pointer at) count is comes = comes
added_in_front program type left right blocks (Number number) count is comes = absurd is
added_in_front program type left right blocks (Function number) count is comes = absurd is

pointer_of : (program : CProgram) (type : CTy) (value : Value) → IsElementPointer program.types type → IsScalarOf program.types type value → IsValueOf Object value
pointer_of program type value elements one =
    let pointer_is = object_pointer program.types type value (elements_kind program.types type (elements_of program.types type elements)) one in
    pointer_is.of_kind

moved_up : (program : CProgram) (type left right : CTy) (blocks : Blocks) (first second : Value) → AreObjects blocks → IsMoved program.types type left right
    → IsScalarOf program.types left first → IsScalarOf program.types right second → Gives program Add type left right blocks first second
moved_up program type left right blocks first second are is one other =
    let m = integer_number program.types right second is.integer other in
    let count = m.0 in
    subst (λ v. Gives program Add type left right blocks first v) (sym m.1)
    (added program type left right blocks first count (pointer_of program left first is.elements one)
    (subst (λ t. Comes (IsScalarOf program.types t) (moving program left blocks first count)) (sym is.type_is) (moving_comes program left blocks first count are is.elements one)))

moved_down : (program : CProgram) (type left right : CTy) (blocks : Blocks) (first second : Value) → AreObjects blocks → IsMoved program.types type left right
    → IsScalarOf program.types left first → IsScalarOf program.types right second → Gives program Subtract type left right blocks first second
moved_down program type left right blocks first second are is one other =
    let m = integer_number program.types right second is.integer other in
    let count = m.0 in
    subst (λ v. Gives program Subtract type left right blocks first v) (sym m.1)
    (taken program type left right blocks first count (pointer_of program left first is.elements one)
    (subst (λ t. Comes (IsScalarOf program.types t) (moving program left blocks first (neg_ℤ count))) (sym is.type_is) (moving_comes program left blocks first (neg_ℤ count) are is.elements one)))

moved_behind : (program : CProgram) (type left right : CTy) (blocks : Blocks) (first second : Value) → AreObjects blocks → IsMoved program.types type right left
    → IsScalarOf program.types left first → IsScalarOf program.types right second → Gives program Add type left right blocks first second
moved_behind program type left right blocks first second are is one other =
    let n = integer_number program.types left first is.integer one in
    subst (λ v. Gives program Add type left right blocks v second) (sym n.1)
    (added_in_front program type left right blocks second n.0 (pointer_of program right second is.elements other)
    (subst (λ t. Comes (IsScalarOf program.types t) (moving program right blocks second n.0)) (sym is.type_is) (moving_comes program right blocks second n.0 are is.elements other)))

-- ---- a difference of pointers

distance_in_long : (types : CTypes) (found : Result ℤ CWhy) → Comes IsDistance found → Comes (IsScalarOf types difference_type) (and_then found (λ number. Ok (Number number)))
distance_in_long types (Ok bytes) is = whole_value types difference_type 64 true bytes refl (omega (arith, ints, is.least, is.most), omega (arith, ints, is.least, is.most))
distance_in_long types (Err (breaks rule)) is = tt
distance_in_long types (Err stuck) is = is

differ_by : (types : CTypes) (blocks : Blocks) (first second : Value) (found : Option Laid) → IsSome found → IsObjectPointer first → IsObjectPointer second
    → Comes (IsScalarOf types difference_type) (and_then (and_then (needed found) (λ laid. by_pointers U11 (difference blocks laid.size first second))) (λ number. Ok (Number number)))
differ_by types blocks first second None some one other = cc
differ_by types blocks first second (Some laid) some one other =
    distance_in_long types (by_pointers U11 (difference blocks laid.size first second)) (difference_comes blocks laid.size first second U11 one other)

differ : (program : CProgram) (type left right : CTy) (blocks : Blocks) (first second : Value) → IsDifference program.types type left right
    → IsScalarOf program.types left first → IsScalarOf program.types right second → Gives program Subtract type left right blocks first second
differ program type left right blocks first second is one other =
    let parts = elements_of program.types left is.left_elements in
    let n = object_pointer program.types left first (elements_kind program.types left parts) one in
    let m = object_pointer program.types right second (elements_kind program.types right (elements_of program.types right is.right_elements)) other in
    apart_subtract program type left right blocks first second (object_pointing first n.of_kind) (object_pointing second m.of_kind)
    (subst (λ t. Comes (IsScalarOf program.types t) (and_then (pair_of program Subtract blocks left first second) (λ number. Ok (Number number)))) (sym is.type_is)
    (differ_by program.types blocks first second (element_extent (setting_of program) (form_of_type left))
    (subst (λ t. IsSome (element_extent (setting_of program) (form_of_type t))) (sym parts.type_is) parts.complete) n m))

-- ---- all

pub binary_values : BinaryOperatorsGiveValues
binary_values program Multiply type left right blocks first second are is one other = common program Multiply type left right blocks first second (λ width signed one other w first second. binary_comes Multiply width signed one other w first (λ _. second)) is one other
binary_values program Divide type left right blocks first second are is one other = common program Divide type left right blocks first second (λ width signed one other w first second. binary_comes Divide width signed one other w first (λ _. second)) is one other
binary_values program Remainder type left right blocks first second are is one other = common program Remainder type left right blocks first second (λ width signed one other w first second. binary_comes Remainder width signed one other w first (λ _. second)) is one other
binary_values program BitAnd type left right blocks first second are is one other = common program BitAnd type left right blocks first second (λ width signed one other w first second. binary_comes BitAnd width signed one other w first (λ _. second)) is one other
binary_values program BitXor type left right blocks first second are is one other = common program BitXor type left right blocks first second (λ width signed one other w first second. binary_comes BitXor width signed one other w first (λ _. second)) is one other
binary_values program BitOr type left right blocks first second are is one other = common program BitOr type left right blocks first second (λ width signed one other w first second. binary_comes BitOr width signed one other w first (λ _. second)) is one other
binary_values program ShiftLeft type left right blocks first second are is one other = shift program ShiftLeft type left right blocks first second (λ width signed one other w first. binary_comes ShiftLeft width signed one other w first (λ e. cc)) is one other
binary_values program ShiftRight type left right blocks first second are is one other = shift program ShiftRight type left right blocks first second (λ width signed one other w first. binary_comes ShiftRight width signed one other w first (λ e. cc)) is one other
binary_values program Add type left right blocks first second are (inl is) one other = common program Add type left right blocks first second (λ width signed one other w first second. binary_comes Add width signed one other w first (λ _. second)) is one other
binary_values program Add type left right blocks first second are (inr (inl is)) one other = moved_up program type left right blocks first second are is one other
binary_values program Add type left right blocks first second are (inr (inr is)) one other = moved_behind program type left right blocks first second are is one other
binary_values program Subtract type left right blocks first second are (inl is) one other = common program Subtract type left right blocks first second (λ width signed one other w first second. binary_comes Subtract width signed one other w first (λ _. second)) is one other
binary_values program Subtract type left right blocks first second are (inr (inl is)) one other = moved_down program type left right blocks first second are is one other
binary_values program Subtract type left right blocks first second are (inr (inr is)) one other = differ program type left right blocks first second is one other
binary_values program Less type left right blocks first second are (inl is) one other = compared program Less type left right blocks first second (λ one other. whole_value program.types int_type 32 true (number_of_truth (int_lt one other)) refl (truth_comes (int_lt one other))) is one other
binary_values program Less type left right blocks first second are (inr is) one other =
    ordered program Less type left right blocks first second (apart_less program type left right blocks first second) (λ n m. ordered_by program.types (λ bytes. int_lt bytes (pos 0)) (by_pointers U12 (distance blocks first second)) (distance_comes blocks first second U12 n m)) is one other
binary_values program Greater type left right blocks first second are (inl is) one other = compared program Greater type left right blocks first second (λ one other. whole_value program.types int_type 32 true (number_of_truth (int_lt other one)) refl (truth_comes (int_lt other one))) is one other
binary_values program Greater type left right blocks first second are (inr is) one other =
    ordered program Greater type left right blocks first second (apart_greater program type left right blocks first second) (λ n m. ordered_by program.types (λ bytes. int_lt (pos 0) bytes) (by_pointers U12 (distance blocks first second)) (distance_comes blocks first second U12 n m)) is one other
binary_values program LessOrEqual type left right blocks first second are (inl is) one other = compared program LessOrEqual type left right blocks first second (λ one other. whole_value program.types int_type 32 true (number_of_truth (int_le one other)) refl (truth_comes (int_le one other))) is one other
binary_values program LessOrEqual type left right blocks first second are (inr is) one other =
    ordered program LessOrEqual type left right blocks first second (apart_less_or_equal program type left right blocks first second) (λ n m. ordered_by program.types (λ bytes. int_le bytes (pos 0)) (by_pointers U12 (distance blocks first second)) (distance_comes blocks first second U12 n m)) is one other
binary_values program GreaterOrEqual type left right blocks first second are (inl is) one other = compared program GreaterOrEqual type left right blocks first second (λ one other. whole_value program.types int_type 32 true (number_of_truth (int_le other one)) refl (truth_comes (int_le other one))) is one other
binary_values program GreaterOrEqual type left right blocks first second are (inr is) one other =
    ordered program GreaterOrEqual type left right blocks first second (apart_greater_or_equal program type left right blocks first second) (λ n m. ordered_by program.types (λ bytes. int_le (pos 0) bytes) (by_pointers U12 (distance blocks first second)) (distance_comes blocks first second U12 n m)) is one other
binary_values program Equal type left right blocks first second are (inl is) one other = compared program Equal type left right blocks first second (λ one other. whole_value program.types int_type 32 true (number_of_truth (int_eq one other)) refl (truth_comes (int_eq one other))) is one other
binary_values program Equal type left right blocks first second are (inr is) one other =
    equal program Equal type left right blocks first second (apart_equal program type left right blocks first second) (λ n m. equal_by program.types (λ same. same) (by_pointers U12 (equality blocks first second)) (equality_comes blocks first second U12 n m)) is one other
binary_values program NotEqual type left right blocks first second are (inl is) one other = compared program NotEqual type left right blocks first second (λ one other. whole_value program.types int_type 32 true (number_of_truth (not (int_eq one other))) refl (truth_comes (not (int_eq one other)))) is one other
binary_values program NotEqual type left right blocks first second are (inr is) one other =
    equal program NotEqual type left right blocks first second (apart_not_equal program type left right blocks first second) (λ n m. equal_by program.types (λ same. not same) (by_pointers U12 (equality blocks first second)) (equality_comes blocks first second U12 n m)) is one other
