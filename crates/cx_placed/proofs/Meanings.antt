-- What a form of expression means stands where its operands do, and where the form itself does (ISO C99, 6.5).
use Rattle.std.proofs.Common.{ℕ, Bool, true, false, if◌then◌else◌, List, [], ◌∷◌, Option, None, Some, option_map}
use Rattle.cr_base.specs.declared.refusal.Place.{Place as TextPlace}
use Rattle.cx_core.specs.declared.expr.Op1.{Op1}
use Rattle.cx_core.specs.declared.expr.Op1.TheVariants as op1
use Rattle.cx_core.specs.declared.expr.Op2.{Op2}
use Rattle.cx_core.specs.declared.expr.Op2.TheVariants as op2
use Rattle.cx_core.specs.Trees.{CTy, CTyForm, void, basic, enum_type, pointer, array, record_type, function, CParams, unlisted, listed, CTys, no_types, more_types, form_of_type, is_const_type, unqualified, type_of, CTypes, CExpr, expr, whole, null, object, code, load, deref, member, address, convert, unary, binary, and, or, cond, assign, assign_by, step, call, call_by, comma, literal, CExprs}
use Rattle.cx_core.specs.ValidTypes.{with_const}
use Rattle.cx_placed.proofs.Lists.{by_test}
use Rattle.cx_placed.proofs.Operands.{OperandStands, OperandsStand, value_stands, converted_stands, fitted_stands, promoted_stands}
use Rattle.cx_placed.specs.Places.{ExprStandsIn, FormStandsIn, ExprsStandIn}
use Rattle.cx_rules.specs.declared.kinds.OperandKind.TheVariants.{Function, VoidPlace}
use Rattle.cx_rules.specs.declared.kinds.Pairing.{Pairing}
use Rattle.cx_rules.specs.declared.kinds.Pairing.TheVariants.{Arithmetic, Shift, PointerInteger, IntegerPointer, Pointers, LeftConverted, RightConverted, Tests, Nothing}
use Rattle.cx_rules.specs.Meanings.{makes_null, name_meaning, deref_as, deref_meaning, address_of_place, address_meaning, by_pairing, binary_meaning, index_meaning, unary_meaning, cast_meaning, chosen_as, choice_type, cond_meaning, assign_meaning, assigned_by, assign_by_meaning, CFoundMember, find_member, dot_as, dot_meaning, arrow_meaning, callee_type, trailing_value, args_for, args_of, call_form, call_as, call_meaning}
use Rattle.cx_rules.specs.Operands.{COperand, a_place, a_value, is_place, value_of, value_type, common_of, promoted_value}
use Rattle.cx_rules.specs.Pairs.{pairing}
use Rattle.cx_rules.specs.Scope.{CMeant, an_object, a_function, a_type_name, an_enumerator, a_tag}
use Rattle.cx_rules.specs.Types.{is_function, is_void, is_integer, target_of}

module _ (Among : ℕ → Type 0) where
  pub name_stands : (at : TextPlace) (meant : Option CMeant) → Among at.unit → OperandStands Among (name_meaning at meant)
  name_stands at None own = (own, tt)
  name_stands at (Some (an_object number type is_register linkage)) own = (own, tt)
  name_stands at (Some (a_function number type linkage)) own = (own, tt)
  name_stands at (Some (a_type_name type)) own = (own, tt)
  name_stands at (Some (an_enumerator value)) own = (own, tt)
  name_stands at (Some (a_tag is_record is_open number)) own = (own, tt)

  -- ---- pointers

  deref_as_stands : (at : TextPlace) (from : CExpr) (to : Option CTy) → Among at.unit → ExprStandsIn Among from → OperandStands Among (deref_as at from to)
  deref_as_stands at from None own held = (own, tt)
  deref_as_stands at from (Some to) own held =
      by_test (OperandStands Among) (is_function to) (record { kind = Function; is_register = false; core = from })
      (if is_void to then record { kind = VoidPlace; is_register = false; core = from } else a_place false (expr to at (deref from))) held
      (by_test (OperandStands Among) (is_void to) (record { kind = VoidPlace; is_register = false; core = from }) (a_place false (expr to at (deref from))) held (own, held))

  pub deref_stands : (at : TextPlace) (from : CExpr) → Among at.unit → ExprStandsIn Among from → OperandStands Among (deref_meaning at from)
  deref_stands at from own held = deref_as_stands at from (target_of (type_of from)) own held

  of_place_stands : (at : TextPlace) (one : CExpr) → Among at.unit → ExprStandsIn Among one → ExprStandsIn Among (address_of_place at one)
  of_place_stands at (expr type place (deref from)) own held = held.1
  of_place_stands at (expr type place (whole value)) own held = (own, held)
  of_place_stands at (expr type place null) own held = (own, held)
  of_place_stands at (expr type place (object number)) own held = (own, held)
  of_place_stands at (expr type place (code number)) own held = (own, held)
  of_place_stands at (expr type place (load from)) own held = (own, held)
  of_place_stands at (expr type place (member of spot)) own held = (own, held)
  of_place_stands at (expr type place (address of)) own held = (own, held)
  of_place_stands at (expr type place (convert value)) own held = (own, held)
  of_place_stands at (expr type place (unary op value)) own held = (own, held)
  of_place_stands at (expr type place (binary op left right)) own held = (own, held)
  of_place_stands at (expr type place (and left right)) own held = (own, held)
  of_place_stands at (expr type place (or left right)) own held = (own, held)
  of_place_stands at (expr type place (cond test first second)) own held = (own, held)
  of_place_stands at (expr type place (assign target value)) own held = (own, held)
  of_place_stands at (expr type place (assign_by op computes target value)) own held = (own, held)
  of_place_stands at (expr type place (step up post on)) own held = (own, held)
  of_place_stands at (expr type place (call callee args)) own held = (own, held)
  of_place_stands at (expr type place (call_by callee args)) own held = (own, held)
  of_place_stands at (expr type place (comma first second)) own held = (own, held)
  of_place_stands at (expr type place (literal number puts)) own held = (own, held)

  pub address_stands : (at : TextPlace) (one : COperand) → Among at.unit → OperandStands Among one → OperandStands Among (address_meaning at one)
  address_stands at one own held = by_test (ExprStandsIn Among) (is_place one) (address_of_place at one.core) one.core (of_place_stands at one.core own held) held

  -- ---- operators

  by_pairing_stands : (at : TextPlace) (types : CTypes) (op : Op2) (left right : COperand) (pair : Pairing) → Among at.unit → OperandStands Among left → OperandStands Among right
      → ExprStandsIn Among (by_pairing at types op left right pair)
  by_pairing_stands at types op left right Arithmetic own one other =
      (own, (converted_stands Among (common_of types left right) (value_of left) (value_stands Among left one), converted_stands Among (common_of types left right) (value_of right) (value_stands Among right other)))
  by_pairing_stands at types op left right Shift own one other = (own, (promoted_stands Among types left one, promoted_stands Among types right other))
  by_pairing_stands at types op left right PointerInteger own one other = (own, (value_stands Among left one, value_stands Among right other))
  by_pairing_stands at types op left right IntegerPointer own one other = (own, (value_stands Among left one, value_stands Among right other))
  by_pairing_stands at types op left right Pointers own one other = (own, (value_stands Among left one, value_stands Among right other))
  by_pairing_stands at types op left right LeftConverted own one other =
      (own, (fitted_stands Among types (value_type right) (value_of left) (value_stands Among left one), value_stands Among right other))
  by_pairing_stands at types op left right RightConverted own one other =
      (own, (value_stands Among left one, fitted_stands Among types (value_type left) (value_of right) (value_stands Among right other)))
  by_pairing_stands at types op left right Tests own one other = (own, tt)
  by_pairing_stands at types op left right Nothing own one other = (own, tt)

  pub binary_stands : (at : TextPlace) (types : CTypes) (op : Op2) (left right : COperand) → Among at.unit → OperandStands Among left → OperandStands Among right
      → OperandStands Among (binary_meaning at types op left right)
  binary_stands at types op left right own one other = by_pairing_stands at types op left right (pairing types op (value_of left) (value_of right)) own one other

  pub index_stands : (at : TextPlace) (types : CTypes) (of index : COperand) → Among at.unit → OperandStands Among of → OperandStands Among index
      → OperandStands Among (index_meaning at types of index)
  index_stands at types of index own one other =
      deref_stands at (by_pairing at types op2.Add of index (pairing types op2.Add (value_of of) (value_of index))) own (by_pairing_stands at types op2.Add of index (pairing types op2.Add (value_of of) (value_of index)) own one other)

  pub unary_stands : (at : TextPlace) (types : CTypes) (op : Op1) (on : COperand) → Among at.unit → OperandStands Among on → OperandStands Among (unary_meaning at types op on)
  unary_stands at types op1.Not on own held = (own, value_stands Among on held)
  unary_stands at types op1.Plus on own held = (own, promoted_stands Among types on held)
  unary_stands at types op1.Minus on own held = (own, promoted_stands Among types on held)
  unary_stands at types op1.Complement on own held = (own, promoted_stands Among types on held)

  pub cast_stands : (at : TextPlace) (types : CTypes) (type : CTy) (on : COperand) → Among at.unit → OperandStands Among on → OperandStands Among (cast_meaning at types type on)
  cast_stands at types type on own held = (own, by_test (FormStandsIn Among) (makes_null types type (value_of on)) null (convert (value_of on)) tt (value_stands Among on held))

  -- ---- `?:`

  chosen_stands : (at : TextPlace) (types : CTypes) (test first second : COperand) (type : Option CTy) → Among at.unit → OperandStands Among test → OperandStands Among first
      → OperandStands Among second → OperandStands Among (chosen_as at types test first second type)
  chosen_stands at types test first second None own held one other = (own, tt)
  chosen_stands at types test first second (Some type) own held one other = (
    own,
    (
      value_stands Among test held,
      fitted_stands Among types type (value_of first) (value_stands Among first one),
      fitted_stands Among types type (value_of second) (value_stands Among second other),
    ),
  )

  pub cond_stands : (at : TextPlace) (types : CTypes) (test first second : COperand) → Among at.unit → OperandStands Among test → OperandStands Among first
      → OperandStands Among second → OperandStands Among (cond_meaning at types test first second)
  cond_stands at types test first second own held one other = chosen_stands at types test first second (choice_type types first second) own held one other

  -- ---- assignment

  pub assign_stands : (at : TextPlace) (types : CTypes) (target value : COperand) → Among at.unit → OperandStands Among target → OperandStands Among value
      → OperandStands Among (assign_meaning at types target value)
  assign_stands at types target value own one other = (own, (one, fitted_stands Among types (type_of target.core) (value_of value) (value_stands Among value other)))

  assigned_stands : (at : TextPlace) (types : CTypes) (op : Op2) (target value : COperand) (pair : Pairing) → OperandStands Among target → OperandStands Among value
      → FormStandsIn Among (assigned_by at types op target value pair)
  assigned_stands at types op target value Shift one other = (one, promoted_stands Among types value other)
  assigned_stands at types op target value PointerInteger one other = (one, value_stands Among value other)
  assigned_stands at types op target value Arithmetic one other = (one, converted_stands Among (common_of types target value) (value_of value) (value_stands Among value other))
  assigned_stands at types op target value IntegerPointer one other = (one, converted_stands Among (common_of types target value) (value_of value) (value_stands Among value other))
  assigned_stands at types op target value Pointers one other = (one, converted_stands Among (common_of types target value) (value_of value) (value_stands Among value other))
  assigned_stands at types op target value LeftConverted one other = (one, converted_stands Among (common_of types target value) (value_of value) (value_stands Among value other))
  assigned_stands at types op target value RightConverted one other = (one, converted_stands Among (common_of types target value) (value_of value) (value_stands Among value other))
  assigned_stands at types op target value Tests one other = (one, converted_stands Among (common_of types target value) (value_of value) (value_stands Among value other))
  assigned_stands at types op target value Nothing one other = (one, converted_stands Among (common_of types target value) (value_of value) (value_stands Among value other))

  pub assign_by_stands : (at : TextPlace) (types : CTypes) (op : Op2) (target value : COperand) → Among at.unit → OperandStands Among target → OperandStands Among value
      → OperandStands Among (assign_by_meaning at types op target value)
  assign_by_stands at types op target value own one other = (own, assigned_stands at types op target value (pairing types op (value_of target) (value_of value)) one other)

  -- ---- members

  dot_as_stands : (at : TextPlace) (of : COperand) (found : Option CFoundMember) → Among at.unit → OperandStands Among of → OperandStands Among (dot_as at of found)
  dot_as_stands at of None own held = (own, tt)
  dot_as_stands at of (Some one) own held =
      by_test (OperandStands Among) (is_place of) (a_place of.is_register (expr (with_const (is_const_type (type_of of.core)) one.type) at (member of.core one.spot)))
      (a_value (expr (unqualified one.type) at (member of.core one.spot))) (own, held) (own, held)

  pub dot_stands : (at : TextPlace) (types : CTypes) (of : COperand) (name : List ℕ) → Among at.unit → OperandStands Among of → OperandStands Among (dot_meaning at types of name)
  dot_stands at types of name own held = dot_as_stands at of (find_member types (type_of of.core) name) own held

  pub arrow_stands : (at : TextPlace) (types : CTypes) (of : COperand) (name : List ℕ) → Among at.unit → OperandStands Among of → OperandStands Among (arrow_meaning at types of name)
  arrow_stands at types of name own held = dot_stands at types (deref_meaning at (value_of of)) name own (deref_stands at (value_of of) own (value_stands Among of held))

  -- ---- calls

  trailing_stands : (types : CTypes) (arg : COperand) → OperandStands Among arg → ExprStandsIn Among (trailing_value types arg)
  trailing_stands types arg held =
      by_test (ExprStandsIn Among) (is_integer types (value_type arg)) (promoted_value types arg) (value_of arg) (promoted_stands Among types arg held) (value_stands Among arg held)

  args_for_stand : (types : CTypes) (params : CTys) (args : List COperand) → OperandsStand Among args → ExprsStandIn Among (args_for types params args)
  args_for_stand types params [] held = tt
  args_for_stand types no_types (arg ∷ args) held = (trailing_stands types arg held.0, args_for_stand types no_types args held.1)
  args_for_stand types (more_types param params) (arg ∷ args) held =
      (fitted_stands Among types param (value_of arg) (value_stands Among arg held.0), args_for_stand types params args held.1)

  args_stand : (types : CTypes) (params : CParams) (args : List COperand) → OperandsStand Among args → ExprsStandIn Among (args_of types params args)
  args_stand types unlisted args held = args_for_stand types no_types args held
  args_stand types (listed params) args held = args_for_stand types params args held

  call_form_stands : (by_name : Bool) (callee : CExpr) (args : CExprs) → ExprStandsIn Among callee → ExprsStandIn Among args → FormStandsIn Among (call_form by_name callee args)
  call_form_stands false (expr type place form) args held given = (held, given)
  call_form_stands true (expr type place (code number)) args held given = given
  call_form_stands true (expr type place (whole value)) args held given = (held, given)
  call_form_stands true (expr type place null) args held given = (held, given)
  call_form_stands true (expr type place (object number)) args held given = (held, given)
  call_form_stands true (expr type place (load from)) args held given = (held, given)
  call_form_stands true (expr type place (deref from)) args held given = (held, given)
  call_form_stands true (expr type place (member of spot)) args held given = (held, given)
  call_form_stands true (expr type place (address of)) args held given = (held, given)
  call_form_stands true (expr type place (convert value)) args held given = (held, given)
  call_form_stands true (expr type place (unary op value)) args held given = (held, given)
  call_form_stands true (expr type place (binary op left right)) args held given = (held, given)
  call_form_stands true (expr type place (and left right)) args held given = (held, given)
  call_form_stands true (expr type place (or left right)) args held given = (held, given)
  call_form_stands true (expr type place (cond test first second)) args held given = (held, given)
  call_form_stands true (expr type place (assign target value)) args held given = (held, given)
  call_form_stands true (expr type place (assign_by op computes target value)) args held given = (held, given)
  call_form_stands true (expr type place (step up post on)) args held given = (held, given)
  call_form_stands true (expr type place (call callee others)) args held given = (held, given)
  call_form_stands true (expr type place (call_by callee others)) args held given = (held, given)
  call_form_stands true (expr type place (comma first second)) args held given = (held, given)
  call_form_stands true (expr type place (literal number puts)) args held given = (held, given)

  call_as_stands : (at : TextPlace) (types : CTypes) (by_name : Bool) (callee : COperand) (args : List COperand) (form : Option CTyForm) → Among at.unit
      → OperandStands Among callee → OperandsStand Among args → OperandStands Among (call_as at types by_name callee args form)
  call_as_stands at types by_name callee args (Some (function result params variadic)) own held given =
      (own, call_form_stands by_name (value_of callee) (args_of types params args) (value_stands Among callee held) (args_stand types params args given))
  call_as_stands at types by_name callee args None own held given = (own, tt)
  call_as_stands at types by_name callee args (Some void) own held given = (own, tt)
  call_as_stands at types by_name callee args (Some (basic which)) own held given = (own, tt)
  call_as_stands at types by_name callee args (Some (enum_type number)) own held given = (own, tt)
  call_as_stands at types by_name callee args (Some (pointer to)) own held given = (own, tt)
  call_as_stands at types by_name callee args (Some (array element length)) own held given = (own, tt)
  call_as_stands at types by_name callee args (Some (record_type number)) own held given = (own, tt)

  pub call_stands : (at : TextPlace) (types : CTypes) (by_name : Bool) (callee : COperand) (args : List COperand) → Among at.unit
      → OperandStands Among callee → OperandsStand Among args → OperandStands Among (call_meaning at types by_name callee args)
  call_stands at types by_name callee args own held given = call_as_stands at types by_name callee args (option_map form_of_type (callee_type callee)) own held given
