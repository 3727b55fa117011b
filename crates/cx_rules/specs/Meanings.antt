-- What the forms of expressions mean, by what their operands mean (ISO C99, 6.5).
use Rattle.std.specs.Prelude.{ℕ, ◌+◌, ℤ, pos, Bool, true, false, ◌&&◌, ◌||◌, if◌then◌else◌, List, [], ◌∷◌, Option, None, Some, option_map, is_some, bytes_eq, slice_get}
use Rattle.std.specs.Option.{option_flatten}
use Rattle.cr_base.specs.declared.layout.Spot.{Spot}
use Rattle.cr_base.specs.declared.refusal.Place.{Place as TextPlace}
use Rattle.cx_core.specs.declared.expr.Op1.{Op1}
use Rattle.cx_core.specs.declared.expr.Op1.TheVariants as op1
use Rattle.cx_core.specs.declared.expr.Op2.{Op2}
use Rattle.cx_core.specs.declared.expr.Op2.TheVariants as op2
use Rattle.cx_core.specs.declared.ty.Basic.{Basic}
use Rattle.cx_core.specs.declared.ty.Basic.TheVariants as basics
use Rattle.cx_core.specs.Trees.{CTy, ty, CTyForm, basic, pointer, function, CParams, unlisted, listed, CTys, no_types, more_types, form_of_type, is_const_type, unqualified, CTypes, CMember, CRecord, CExpr, expr, CForm, whole, null, object, code, deref, member, address, convert, unary, binary, and, or, cond, assign, assign_by, step, call, call_by, comma, CExprs, no_exprs, more_exprs, type_of}
use Rattle.cx_core.specs.ValidTypes.{member_of, spot_of, with_const}
use Rattle.cx_lex.specs.declared.token.Ty0.{Ty0}
use Rattle.cx_lex.specs.declared.token.Ty0.TheVariants as ty0
use Rattle.cx_rules.specs.declared.kinds.OperandKind.TheVariants.{Function, VoidPlace}
use Rattle.cx_rules.specs.declared.kinds.Pairing.{Pairing}
use Rattle.cx_rules.specs.declared.kinds.Pairing.TheVariants.{Arithmetic, Shift, PointerInteger, IntegerPointer, Pointers, LeftConverted, RightConverted, Tests, Nothing}
use Rattle.cx_rules.specs.Operands.{COperand, a_value, a_place, is_place, value_of, value_type, is_null_constant, converted_to, fitted, promoted_type, promoted_value, common_of}
use Rattle.cx_rules.specs.Pairs.{pairing, void_beside}
use Rattle.cx_rules.specs.Scope.{CMeant, an_object, a_function, a_type_name, an_enumerator, a_tag}
use Rattle.cx_rules.specs.Types.{int_type, size_type, difference_type, void_type, is_void, is_function, is_integer, is_pointer, is_function_pointer, target_of, size_of, point_alike, composite, qualified, record_of, compatible}

-- ---- constants and names (6.4.4, 6.5.1)

-- what a node whose children broke a rule means: nothing is asked of it
abbrev pub no_meaning : TextPlace → COperand
no_meaning at = a_value (expr int_type at (whole (pos 0)))

abbrev pub basic_of_constant : Ty0 → Basic
basic_of_constant ty0.Int = basics.Int
basic_of_constant ty0.Unsigned = basics.Unsigned
basic_of_constant ty0.Long = basics.Long
basic_of_constant ty0.UnsignedLong = basics.UnsignedLong
basic_of_constant ty0.LongLong = basics.LongLong
basic_of_constant ty0.UnsignedLongLong = basics.UnsignedLongLong

abbrev pub number_meaning : TextPlace → ℕ → Ty0 → COperand
number_meaning at value type = a_value (expr (ty (basic (basic_of_constant type)) false) at (whole (pos value)))

abbrev pub int_meaning : TextPlace → ℤ → COperand
int_meaning at value = a_value (expr int_type at (whole value))

abbrev pub name_meaning : TextPlace → Option CMeant → COperand
name_meaning at (Some (an_object number type is_register linkage)) = a_place is_register (expr type at (object number))
name_meaning at (Some (a_function number type linkage)) =
    record { kind = Function; is_register = false; core = expr (ty (pointer type) false) at (code number) }
name_meaning at (Some (an_enumerator value)) = int_meaning at value
name_meaning at (Some (a_type_name type)) = no_meaning at
name_meaning at (Some (a_tag is_record is_open number)) = no_meaning at
name_meaning at None = no_meaning at

-- ---- pointers (6.5.2.1, 6.5.3.2)

-- what a pointer points to
abbrev pub deref_as : TextPlace → CExpr → Option CTy → COperand
deref_as at from None = no_meaning at
deref_as at from (Some to) =
    if is_function to then record { kind = Function; is_register = false; core = from }
    else if is_void to then record { kind = VoidPlace; is_register = false; core = from }
    else a_place false (expr to at (deref from))

abbrev pub deref_meaning : TextPlace → CExpr → COperand
deref_meaning at from = deref_as at from (target_of (type_of from))

-- the address of what a pointer points to is the pointer
abbrev pub address_of_place : TextPlace → CExpr → CExpr
address_of_place at (expr type place (deref from)) = from
address_of_place at (expr type place form) = expr (ty (pointer type) false) at (address (expr type place form))

abbrev pub address_meaning : TextPlace → COperand → COperand
address_meaning at of = a_value (if is_place of then address_of_place at of.core else of.core)

-- ---- operators (6.5.3.3, 6.5.5 to 6.5.14)

abbrev pub is_comparison : Op2 → Bool
is_comparison op2.Less = true
is_comparison op2.Greater = true
is_comparison op2.LessOrEqual = true
is_comparison op2.GreaterOrEqual = true
is_comparison op2.Equal = true
is_comparison op2.NotEqual = true
is_comparison _ = false

-- the type of what an operator gives that computes in a type
abbrev pub result_of : Op2 → CTy → CTy
result_of op computes = if is_comparison op then int_type else computes

abbrev pub pointers_result : Op2 → CTy
pointers_result op = if is_comparison op then int_type else difference_type

abbrev pub by_pairing : TextPlace → CTypes → Op2 → COperand → COperand → Pairing → CExpr
by_pairing at types op left right Arithmetic =
    expr (result_of op (common_of types left right)) at
    (binary op (converted_to (common_of types left right) (value_of left)) (converted_to (common_of types left right) (value_of right)))
by_pairing at types op left right Shift = expr (promoted_type types left) at (binary op (promoted_value types left) (promoted_value types right))
by_pairing at types op left right PointerInteger = expr (value_type left) at (binary op (value_of left) (value_of right))
by_pairing at types op left right IntegerPointer = expr (value_type right) at (binary op (value_of left) (value_of right))
by_pairing at types op left right Pointers = expr (pointers_result op) at (binary op (value_of left) (value_of right))
by_pairing at types op left right LeftConverted =
    expr (pointers_result op) at (binary op (fitted types (value_type right) (value_of left)) (value_of right))
by_pairing at types op left right RightConverted =
    expr (pointers_result op) at (binary op (value_of left) (fitted types (value_type left) (value_of right)))
by_pairing at types op left right Tests = expr int_type at (whole (pos 0))
by_pairing at types op left right Nothing = expr int_type at (whole (pos 0))

abbrev pub binary_meaning : TextPlace → CTypes → Op2 → COperand → COperand → COperand
binary_meaning at types op left right = a_value (by_pairing at types op left right (pairing types op (value_of left) (value_of right)))

-- an element of an array is what the moved pointer points to (6.5.2.1p2)
abbrev pub index_meaning : TextPlace → CTypes → COperand → COperand → COperand
index_meaning at types of index = deref_meaning at (by_pairing at types op2.Add of index (pairing types op2.Add (value_of of) (value_of index)))

abbrev pub unary_meaning : TextPlace → CTypes → Op1 → COperand → COperand
unary_meaning at types op1.Not on = a_value (expr int_type at (unary op1.Not (value_of on)))
unary_meaning at types op on = a_value (expr (promoted_type types on) at (unary op (promoted_value types on)))

abbrev pub and_meaning : TextPlace → COperand → COperand → COperand
and_meaning at left right = a_value (expr int_type at (and (value_of left) (value_of right)))

abbrev pub or_meaning : TextPlace → COperand → COperand → COperand
or_meaning at left right = a_value (expr int_type at (or (value_of left) (value_of right)))

abbrev pub comma_meaning : TextPlace → COperand → COperand → COperand
comma_meaning at first second = a_value (expr (value_type second) at (comma (value_of first) (value_of second)))

-- ---- `sizeof` (6.5.3.4)

abbrev pub size_meaning : TextPlace → CTypes → CTy → COperand
size_meaning at types type = a_value (expr size_type at (whole (elim (size_of types type) as (λ _. ℤ) [ None ↦ pos 0 | Some size ↦ pos size ])))

-- ---- casts (6.5.4)

-- a null pointer constant becomes a null pointer: that of type `void *` by its conversion, unless the type points to functions
abbrev pub makes_null : CTypes → CTy → CExpr → Bool
makes_null types type value =
    is_pointer type && (is_null_constant types value && (is_integer types (type_of value) || is_function_pointer type))

abbrev pub cast_meaning : TextPlace → CTypes → CTy → COperand → COperand
cast_meaning at types type on =
    a_value (expr (unqualified type) at (if makes_null types type (value_of on) then null else convert (value_of on)))

-- ---- `?:` (6.5.15p5, p6)

-- a pointer to what both point to, with the qualifiers of both
abbrev pub pointer_to_both : (CTy → CTy → CTy) → Option CTy → Option CTy → Option CTy
pointer_to_both join (Some first) (Some second) =
    Some (ty (pointer (qualified (is_const_type first || is_const_type second) (join first second))) false)
pointer_to_both join (Some first) None = None
pointer_to_both join None second = None

abbrev pub unqualified_composite : CTy → CTy → CTy
unqualified_composite first second = composite (unqualified first) (unqualified second)

abbrev pub pointer_choice : CTypes → CTy → CTy → Option CTy
pointer_choice types first second =
    if point_alike types first second then pointer_to_both unqualified_composite (target_of first) (target_of second)
    else if void_beside first second || void_beside second first then pointer_to_both (λ _ _. void_type) (target_of first) (target_of second)
    else None

-- the type of the second and third operand together, or none where they are no pair of 6.5.15p3
abbrev pub choice_type : CTypes → COperand → COperand → Option CTy
choice_type types first second =
    if is_integer types (value_type first) && is_integer types (value_type second) then Some (common_of types first second)
    else if is_void (value_type first) && is_void (value_type second) then Some void_type
    else if is_some (record_of (value_type first)) && compatible types (value_type first) (value_type second) then Some (value_type first)
    else if is_pointer (value_type first) && is_null_constant types (value_of second) then Some (value_type first)
    else if is_pointer (value_type second) && is_null_constant types (value_of first) then Some (value_type second)
    else pointer_choice types (value_type first) (value_type second)

abbrev pub chosen_as : TextPlace → CTypes → COperand → COperand → COperand → Option CTy → COperand
chosen_as at types test first second None = no_meaning at
chosen_as at types test first second (Some type) =
    a_value (expr type at (cond (value_of test) (fitted types type (value_of first)) (fitted types type (value_of second))))

abbrev pub cond_meaning : TextPlace → CTypes → COperand → COperand → COperand → COperand
cond_meaning at types test first second = chosen_as at types test first second (choice_type types first second)

-- ---- assignment (6.5.16, 6.5.2.4, 6.5.3.1)

abbrev pub assign_meaning : TextPlace → CTypes → COperand → COperand → COperand
assign_meaning at types target value =
    a_value (expr (unqualified (type_of target.core)) at (assign target.core (fitted types (type_of target.core) (value_of value))))

-- the type in which a compound assignment computes, and its value in that type (6.5.16.2p3)
abbrev pub assigned_by : TextPlace → CTypes → Op2 → COperand → COperand → Pairing → CForm
assigned_by at types op target value Shift = assign_by op (promoted_type types target) target.core (promoted_value types value)
assigned_by at types op target value PointerInteger = assign_by op (value_type target) target.core (value_of value)
assigned_by at types op target value _ =
    assign_by op (common_of types target value) target.core (converted_to (common_of types target value) (value_of value))

abbrev pub assign_by_meaning : TextPlace → CTypes → Op2 → COperand → COperand → COperand
assign_by_meaning at types op target value =
    a_value (expr (unqualified (type_of target.core)) at (assigned_by at types op target value (pairing types op (value_of target) (value_of value))))

abbrev pub step_meaning : TextPlace → (up post : Bool) → COperand → COperand
step_meaning at up post on = a_value (expr (unqualified (type_of on.core)) at (step up post on.core))

-- ---- members (6.5.2.3)

abbrev pub is_named : List ℕ → Option (List ℕ) → Bool
is_named name None = false
is_named name (Some other) = bytes_eq other name

-- the number of the first member with a name
abbrev pub named_from : ℕ → List ℕ → List CMember → Option ℕ
named_from from name [] = None
named_from from name (one ∷ others) = if is_named name one.name then Some from else named_from (from + 1) name others

abbrev pub members_of : Option CRecord → List CMember
members_of None = []
members_of (Some one) = one.members

abbrev pub members_in : CTypes → Option ℕ → List CMember
members_in types None = []
members_in types (Some number) = members_of (option_flatten (slice_get types.records number))

-- a member of a structure or union type by its name: its number from 0, its type there, and where it stands
pub record CFoundMember : Type 0 where
  pub index : ℕ
  pub type : CTy
  pub spot : Spot

abbrev pub found_as : ℕ → Option CMember → Option Spot → Option CFoundMember
found_as index (Some one) (Some spot) = Some (record { index = index; type = one.type; spot = spot })
found_as index (Some one) None = None
found_as index None spot = None

abbrev pub found_at : CTypes → CTyForm → Option ℕ → Option CFoundMember
found_at types form None = None
found_at types form (Some index) = found_as index (member_of types form index) (spot_of types form index)

abbrev pub find_member : CTypes → CTy → List ℕ → Option CFoundMember
find_member types type name = found_at types (form_of_type type) (named_from 0 name (members_in types (record_of type)))

abbrev pub dot_as : TextPlace → COperand → Option CFoundMember → COperand
dot_as at of None = no_meaning at
dot_as at of (Some one) =
    if is_place of
    then a_place of.is_register (expr (with_const (is_const_type (type_of of.core)) one.type) at (member of.core one.spot))
    else a_value (expr (unqualified one.type) at (member of.core one.spot))

abbrev pub dot_meaning : TextPlace → CTypes → COperand → List ℕ → COperand
dot_meaning at types of name = dot_as at of (find_member types (type_of of.core) name)

-- `p->m` is `(*p).m`
abbrev pub arrow_meaning : TextPlace → CTypes → COperand → List ℕ → COperand
arrow_meaning at types of name = dot_meaning at types (deref_meaning at (value_of of)) name

-- ---- calls (6.5.2.2)

-- the type of the called function
abbrev pub callee_type : COperand → Option CTy
callee_type callee = target_of (value_type callee)

-- an argument behind those that parameters take, with the default promotions (6.5.2.2p6)
abbrev pub trailing_value : CTypes → COperand → CExpr
trailing_value types arg = if is_integer types (value_type arg) then promoted_value types arg else value_of arg

abbrev pub args_for : CTypes → CTys → List COperand → CExprs
args_for types params [] = no_exprs
args_for types no_types (arg ∷ args) = more_exprs (trailing_value types arg) (args_for types no_types args)
args_for types (more_types param params) (arg ∷ args) = more_exprs (fitted types param (value_of arg)) (args_for types params args)

abbrev pub args_of : CTypes → CParams → List COperand → CExprs
args_of types unlisted args = args_for types no_types args
args_of types (listed params) args = args_for types params args

-- a function that is called by its name; the truth value says that a name stands there
abbrev pub call_form : Bool → CExpr → CExprs → CForm
call_form true (expr type place (code number)) args = call number args
call_form by_name callee args = call_by callee args

abbrev pub call_as : TextPlace → CTypes → Bool → COperand → List COperand → Option CTyForm → COperand
call_as at types by_name callee args (Some (function result params variadic)) =
    a_value (expr (unqualified result) at (call_form by_name (value_of callee) (args_of types params args)))
call_as at types by_name callee args _ = no_meaning at

abbrev pub call_meaning : TextPlace → CTypes → Bool → COperand → List COperand → COperand
call_meaning at types by_name callee args = call_as at types by_name callee args (option_map form_of_type (callee_type callee))

-- the types of the arguments behind those that parameters take
abbrev pub trailing_from : CTypes → CTys → List COperand → List CTy
trailing_from types params [] = []
trailing_from types no_types (arg ∷ args) = type_of (trailing_value types arg) ∷ trailing_from types no_types args
trailing_from types (more_types param params) (arg ∷ args) = trailing_from types params args

abbrev pub trailing_as : CTypes → List COperand → Option CTyForm → List CTy
trailing_as types args (Some (function result (listed params) variadic)) = trailing_from types params args
trailing_as types args _ = []

abbrev pub trailing_types : CTypes → COperand → List COperand → List CTy
trailing_types types callee args = trailing_as types args (option_map form_of_type (callee_type callee))
