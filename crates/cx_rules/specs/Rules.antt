-- Which node breaks which rule of the profile (ISO C99, 6.5 to 6.9, and the profile's own rules). A node is asked only where no node
-- before it breaks one, so its children are well typed.
use Rattle.std.specs.Prelude.{ℕ, ◌+◌, ◌==◌, nat_lt, ℤ, pos, neg_ℤ, int_lt, int_le, Bool, true, false, not, ◌&&◌, ◌||◌, if◌then◌else◌, List, [], ◌∷◌, ◌++◌, length, Option, None, Some, option_map, is_some, is_none, bytes_eq, slice_get}
use Rattle.std.specs.Bool.{beq}
use Rattle.std.specs.List.{list_any, find}
use Rattle.std.specs.Option.{option_and_then, option_flatten}
use Rattle.std.specs.Ordering.{int_eq}
use Rattle.cr_base.specs.declared.rule.Rule.{Rule}
use Rattle.cr_base.specs.declared.rule.Rule.TheVariants as rule
use Rattle.cx_core.specs.declared.expr.Op1.{Op1}
use Rattle.cx_core.specs.declared.expr.Op1.TheVariants as op1
use Rattle.cx_core.specs.declared.expr.Op2.TheVariants as op2
use Rattle.cx_core.specs.declared.program.Linkage.{Linkage}
use Rattle.cx_core.specs.declared.program.Linkage.TheVariants.{External, Internal, Nothing as NoLinkage}
use Rattle.cx_core.specs.declared.ty.Basic.{Basic}
use Rattle.cx_core.specs.declared.ty.Basic.TheVariants as basics
use Rattle.cr_base.specs.Scalar.{converted}
use Rattle.cr_base.specs.declared.scalar.Scalar.{Scalar}
use Rattle.cx_core.specs.Conversions.{basic_of, rank}
use Rattle.cx_core.specs.Layouts.{layouts_of, row_of}
use Rattle.cx_core.specs.Trees.{CTy, ty, CTyForm, function, CParams, unlisted, listed, CTys, no_types, more_types, array, form_of_type, is_const_type, unqualified, CTypes, CMember, CRecordTag, type_of}
use Rattle.cx_core.specs.ValidTypes.{holds_const, most_bits}
use Rattle.cx_lex.specs.declared.token.Keyword.{Keyword}
use Rattle.cx_lex.specs.declared.token.Keyword.TheVariants as keyword
use Rattle.cx_rules.specs.declared.kinds.Pairing.{Pairing}
use Rattle.cx_rules.specs.declared.kinds.Pairing.TheVariants.{PointerInteger, IntegerPointer}
use Rattle.cx_rules.specs.declared.kinds.SpecsPlace.{SpecsPlace}
use Rattle.cx_rules.specs.declared.kinds.SpecsPlace.TheVariants.{File, Definition, Block, ForClause, Parameter, Plain}
use Rattle.cx_rules.specs.Meanings.{choice_type, find_member, callee_type}
use Rattle.cx_rules.specs.Nodes.{CDeclaredFacts, CNode, name_node, literal_node, index_node, call_node, dot_node, arrow_node, step_node, address_node, deref_node, unary_node, sizeof_expr_node, sizeof_type_node, cast_node, binary_node, tests_node, cond_node, assign_node, assign_by_node, comma_node, specs_node, record_use_node, record_node, enum_use_node, enum_node, enumerator_node, member_node, array_node, identifiers_node, derives_node, param_node, given_node, element_node, designated_node, declares_node, empty_node, head_node, tentative_node, label_node, case_node, default_node, dropped_node, controls_node, switch_node, goto_node, jump_node, return_node, CPlaced}
use Rattle.cx_rules.specs.Operands.{COperand, is_place, is_designator, is_void_place, value_of, value_type, width_of_operand, gives_nothing, holds_nothing, is_register_array, scalar_in, constant_of, is_null_constant}
use Rattle.cx_rules.specs.Pairs.{pairing, is_nothing, joins, is_assignable}
use Rattle.cx_rules.specs.Scope.{CScope, CMeant, an_object, a_function, an_enumerator, CTag, ordinary, innermost}
use Rattle.cx_rules.specs.Shapes.{CSpecs, same_key, has_storage, specs_type, base_type, CStep, to_function, derived, has_incomplete_elements, has_function_fault, has_restrict_fault, last_step}
use Rattle.cx_rules.specs.Types.{is_void, is_array, is_function, is_integer, is_scalar, is_pointer, is_function_pointer, is_object_pointer, is_element_pointer, is_incomplete, is_complete, is_too_large, target_of, truth_type, same_type}

-- ---- parts of rules

abbrev pub value_is : (ℤ → Bool) → Option ℤ → Bool
value_is test None = false
value_is test (Some value) = test value

abbrev pub is_given : (COperand → Bool) → Option COperand → Bool
is_given test None = false
is_given test (Some operand) = test operand

-- a constant that is written, where one is
abbrev pub constant_in : CTypes → Option COperand → Option ℤ
constant_in types None = None
constant_in types (Some operand) = constant_of types (value_of operand)

abbrev pub not_constant : CTypes → COperand → Bool
not_constant types operand = is_none (constant_of types (value_of operand))

abbrev pub as_list : Option COperand → List COperand
as_list None = []
as_list (Some operand) = operand ∷ []

-- the operands whose values a node takes
abbrev pub taken : CNode → List COperand
taken (index_node of index) = of ∷ index ∷ []
taken (call_node callee args) = callee ∷ args
taken (arrow_node of name) = of ∷ []
taken (deref_node of) = of ∷ []
taken (unary_node op on) = on ∷ []
taken (cast_node type on) = if is_void type then [] else on ∷ []
taken (binary_node op left right) = left ∷ right ∷ []
taken (tests_node left right) = left ∷ right ∷ []
taken (cond_node test first second) = test ∷ []
taken (assign_node target value) = value ∷ []
taken (assign_by_node op target value) = value ∷ []
taken (enumerator_node name written value) = as_list written
taken (member_node is_last name type width before) = as_list width
taken (array_node is_plain length) = as_list length
taken (given_node facts) = as_list facts.value
taken (element_node index has_place) = index ∷ []
taken (case_node switch value before) = value ∷ []
taken (controls_node value) = value ∷ []
taken (switch_node value) = value ∷ []
taken (return_node result value) = if is_void result then [] else as_list value
taken _ = []

-- the operands that a node evaluates, which may give nothing
abbrev pub passed : CNode → List COperand
passed (cast_node type on) = if is_void type then on ∷ [] else []
passed (cond_node test first second) = first ∷ second ∷ []
passed (comma_node first second) = first ∷ second ∷ []
passed (dropped_node value) = value ∷ []
passed (return_node result value) = if is_void result then as_list value else []
passed _ = []

-- ---- O3 to O11: what the profile leaves out

abbrev pub broken_o3 : CTypes → CNode → Bool
broken_o3 types (array_node is_plain length) = not is_plain || is_given (not_constant types) length
broken_o3 types _ = false

abbrev pub not_listed : Option CTyForm → Bool
not_listed (Some (function result unlisted variadic)) = true
not_listed _ = false

abbrev pub is_empty : {A : Type 0} → List A → Bool
is_empty [] = true
is_empty (first ∷ others) = false

abbrev pub broken_o4 : CNode → Bool
broken_o4 (identifiers_node names) = not (is_empty names)
broken_o4 (call_node callee args) = not (is_empty args) && not_listed (option_map form_of_type (callee_type callee))
broken_o4 _ = false

abbrev pub is_variadic : CTyForm → Bool
is_variadic (function result params variadic) = variadic
is_variadic _ = false

abbrev pub broken_o5 : CNode → Bool
broken_o5 (head_node facts) = is_variadic (form_of_type facts.type)
broken_o5 _ = false

abbrev pub wider_than_int : Option Basic → Bool
wider_than_int None = false
wider_than_int (Some which) = nat_lt (rank basics.Int) (rank which)

abbrev pub broken_o6 : CTypes → CNode → Bool
broken_o6 types (member_node is_last name type width before) = is_some width && wider_than_int (basic_of types (form_of_type type))
broken_o6 types _ = false

abbrev pub broken_o7 : CTypes → CNode → Bool
broken_o7 types (cast_node type on) =
    (is_pointer (value_type on) && (is_integer types type && not (same_type (unqualified type) truth_type)))
    || (is_integer types (value_type on) && (is_pointer type && not (is_null_constant types (value_of on))))
broken_o7 types _ = false

abbrev pub broken_o8 : CTypes → CNode → Bool
broken_o8 types (cast_node type on) =
    not (is_null_constant types (value_of on))
    && ((is_function_pointer type && is_object_pointer (value_type on)) || (is_object_pointer type && is_function_pointer (value_type on)))
broken_o8 types _ = false

abbrev pub broken_o9 : CNode → Bool
broken_o9 (specs_node place specs) = specs.is_inline && not (has_storage keyword.Static specs)
broken_o9 _ = false

abbrev pub is_open_array : CTyForm → Bool
is_open_array (array element None) = true
is_open_array _ = false

abbrev pub broken_o10 : CNode → Bool
broken_o10 (member_node is_last name type width before) = is_last && is_open_array (form_of_type type)
broken_o10 _ = false

abbrev pub is_array_member : Option CTy → Bool
is_array_member None = false
is_array_member (Some type) = is_array type

abbrev pub broken_o11 : CTypes → CNode → Bool
broken_o11 types (dot_node of name) =
    not (is_place of) && is_array_member (option_map (λ one. one.type) (find_member types (type_of of.core) name))
broken_o11 types _ = false

-- ---- K1 to K6: names, type words, storage classes, incomplete types, lengths

abbrev pub not_declared : Option CMeant → Bool
not_declared (Some (an_object number type is_register linkage)) = false
not_declared (Some (a_function number type linkage)) = false
not_declared (Some (an_enumerator value)) = false
not_declared _ = true

abbrev pub broken_k1 : CNode → Bool
broken_k1 (name_node meant) = not_declared meant
broken_k1 _ = false

-- the innermost scope declares the name
abbrev pub is_taken : CScope → List ℕ → Bool
is_taken scope name = is_some (ordinary name (innermost scope))

abbrev pub is_taken_by : CScope → Option (List ℕ) → Bool
is_taken_by scope None = false
is_taken_by scope (Some name) = is_taken scope name

abbrev pub broken_k2 : CScope → CNode → Bool
broken_k2 scope (enumerator_node name written value) = is_taken scope name
broken_k2 scope (param_node is_only specs name type) = is_taken_by scope name
broken_k2 scope (declares_node facts) = facts.clashes
broken_k2 scope (head_node facts) = facts.clashes
broken_k2 scope _ = false

-- a pointer to an object type or an incomplete one, or an array of such (6.7.3p2, p8)
abbrev pub takes_restrict : CTy → Bool
takes_restrict (ty (array element length) is_const) = takes_restrict element
takes_restrict type = is_object_pointer type

abbrev pub broken_k3 : CNode → Bool
broken_k3 (specs_node place specs) = is_none (specs_type specs) || (specs.is_restrict && not (takes_restrict (base_type specs)))
broken_k3 (derives_node from steps) = has_restrict_fault from steps
broken_k3 _ = false

-- some storage class isn't one of these
abbrev pub has_other : List Keyword → CSpecs → Bool
has_other allowed specs = list_any (λ word. not (list_any (same_key word) allowed)) specs.storage

abbrev pub misplaced : SpecsPlace → CSpecs → Bool
misplaced File specs = has_storage keyword.Auto specs || has_storage keyword.Register specs
misplaced Definition specs = has_other (keyword.Extern ∷ keyword.Static ∷ []) specs
misplaced Block specs = false
misplaced ForClause specs = has_other (keyword.Auto ∷ keyword.Register ∷ []) specs
misplaced Parameter specs = has_other (keyword.Register ∷ []) specs || specs.is_inline
misplaced Plain specs = false

abbrev pub declares_typedef : CSpecs → Bool
declares_typedef specs = has_storage keyword.Typedef specs

-- a function that a declaration declares
abbrev pub declares_function : CDeclaredFacts → Bool
declares_function facts = is_function facts.type && not (declares_typedef facts.specs)

abbrev pub misplaced_function : SpecsPlace → CSpecs → Bool
misplaced_function Block specs = has_other (keyword.Extern ∷ []) specs
misplaced_function ForClause specs = true
misplaced_function _ specs = false

abbrev pub broken_k4 : CNode → Bool
broken_k4 (specs_node place specs) = nat_lt 1 (length specs.storage) || misplaced place specs
broken_k4 (declares_node facts) =
    (facts.specs.is_inline && not (declares_function facts)) || (declares_function facts && misplaced_function facts.where_stands facts.specs)
broken_k4 (empty_node specs) = specs.is_inline
broken_k4 (head_node facts) = facts.specs.is_inline && not (is_function facts.type)
broken_k4 _ = false

abbrev pub is_unlinked : Linkage → Bool
is_unlinked NoLinkage = true
is_unlinked External = false
is_unlinked Internal = false

-- an object without linkage whose type isn't complete (6.7p7)
abbrev pub lacks_size : CTypes → CDeclaredFacts → Bool
lacks_size types facts = not (declares_typedef facts.specs) && (is_unlinked facts.linkage && is_incomplete types facts.type)

abbrev pub any_incomplete : CTypes → CTys → Bool
any_incomplete types no_types = false
any_incomplete types (more_types first others) = is_incomplete types first || any_incomplete types others

abbrev pub params_incomplete : CTypes → CParams → Bool
params_incomplete types unlisted = false
params_incomplete types (listed params) = any_incomplete types params

-- `void` as a whole result: an unqualified one (6.9.1p3)
abbrev pub is_plain_void : CTy → Bool
is_plain_void result = is_void result && not (is_const_type result)

abbrev pub result_incomplete : CTypes → CTy → Bool
result_incomplete types result = not (is_plain_void result) && is_incomplete types result

abbrev pub parts_incomplete : CTypes → CTyForm → Bool
parts_incomplete types (function result params variadic) = result_incomplete types result || params_incomplete types params
parts_incomplete types _ = false

abbrev pub broken_k5 : CTypes → CNode → Bool
broken_k5 types (derives_node from steps) = has_incomplete_elements types from steps
broken_k5 types (member_node is_last name type width before) = is_incomplete types type
broken_k5 types (declares_node facts) = lacks_size types facts
broken_k5 types (head_node facts) = parts_incomplete types (form_of_type facts.type)
broken_k5 types (tentative_node type) = not (is_array type) && is_incomplete types type
broken_k5 types _ = false

abbrev pub broken_k6 : CTypes → CNode → Bool
broken_k6 types (array_node is_plain length) = value_is (λ value. int_lt value (pos 1)) (constant_in types length)
broken_k6 types _ = false

-- ---- K7 to K9: function types, members, calls

-- a parameter of type `void`, but for the only one, which then says that there is none (6.7.5.3p10)
abbrev pub says_nothing : Bool → CSpecs → Option (List ℕ) → CTy → Bool
says_nothing is_only specs name type = is_only && (is_none name && (is_empty specs.storage && not (is_const_type type)))

abbrev pub is_function_step : Option CStep → Bool
is_function_step (Some (to_function params variadic within)) = true
is_function_step _ = false

abbrev pub broken_k7 : CNode → Bool
broken_k7 (derives_node from steps) = has_function_fault from steps
broken_k7 (param_node is_only specs name type) = is_void type && not (says_nothing is_only specs name type)
broken_k7 (head_node facts) = not (is_function_step (last_step facts.steps))
broken_k7 _ = false

abbrev pub is_given_name : List ℕ → Option (List ℕ) → Bool
is_given_name name None = false
is_given_name name (Some other) = bytes_eq other name

abbrev pub has_name : Option (List ℕ) → CMember → Bool
has_name None one = false
has_name (Some name) one = is_given_name name one.name

abbrev pub lacks_member : CTypes → CTy → List ℕ → Bool
lacks_member types type name = is_none (find_member types type name)

abbrev pub lacks_member_behind : CTypes → Option CTy → List ℕ → Bool
lacks_member_behind types None name = true
lacks_member_behind types (Some type) name = lacks_member types type name

-- what stands left of `.` isn't a pointer, be it to a function or to `void`
abbrev pub is_record_operand : COperand → Bool
is_record_operand of = not (is_designator of || is_void_place of)

abbrev pub broken_k8 : CTypes → CNode → Bool
broken_k8 types (record_node is_union found number members) = not (list_any (λ one. is_some one.name) members)
broken_k8 types (member_node is_last name type width before) = is_function type || list_any (has_name name) before
broken_k8 types (dot_node of name) = not (is_record_operand of) || lacks_member types (type_of of.core) name
broken_k8 types (arrow_node of name) = lacks_member_behind types (target_of (value_type of)) name
broken_k8 types _ = false

-- how many arguments a function takes
abbrev pub types_count : CTys → ℕ
types_count no_types = 0
types_count (more_types first others) = 1 + types_count others

abbrev pub count_is_wrong : CParams → Bool → ℕ → Bool
count_is_wrong unlisted variadic count = false
count_is_wrong (listed params) true count = nat_lt count (types_count params)
count_is_wrong (listed params) false count = not (types_count params == count)

abbrev pub not_callable : CTypes → ℕ → Option CTyForm → Bool
not_callable types count (Some (function result params variadic)) = count_is_wrong params variadic count || result_incomplete types result
not_callable types count _ = true

abbrev pub broken_k9 : CTypes → CNode → Bool
broken_k9 types (call_node callee args) = not_callable types (length args) (option_map form_of_type (callee_type callee))
broken_k9 types _ = false

-- ---- K10 to K16: operands

abbrev pub is_moved : Pairing → Bool
is_moved PointerInteger = true
is_moved IntegerPointer = true
is_moved _ = false

abbrev pub not_signable : CTypes → Op1 → CTy → Bool
not_signable types op1.Not type = not (is_scalar types type)
not_signable types op type = not (is_integer types type)

abbrev pub not_stepped : CTypes → CTy → Bool
not_stepped types type = not (is_integer types type || is_element_pointer types type)

-- an object of type `void`, which is no lvalue (6.3.2.1p1) and has no value (6.3.2.2)
abbrev pub names_void : Option CMeant → Bool
names_void (Some (an_object number type is_register linkage)) = is_void type
names_void _ = false

abbrev pub not_operands : CTypes → CNode → Bool
not_operands types (name_node meant) = names_void meant
not_operands types (index_node of index) = not (is_moved (pairing types op2.Add (value_of of) (value_of index)))
not_operands types (step_node on) = not_stepped types (value_type on)
not_operands types (deref_node of) = not (is_pointer (value_type of))
not_operands types (unary_node op on) = not_signable types op (value_type on)
not_operands types (binary_node op left right) = is_nothing (pairing types op (value_of left) (value_of right))
not_operands types (tests_node left right) = not (is_scalar types (value_type left) && is_scalar types (value_type right))
not_operands types (assign_by_node op target value) = not (joins (pairing types op (value_of target) (value_of value)))
not_operands types _ = false

abbrev pub broken_k10 : CTypes → CNode → Bool
broken_k10 types node =
    (list_any gives_nothing (taken node) || list_any (holds_nothing types) (taken node ++ passed node)) || not_operands types node

-- a modifiable lvalue (6.3.2.1p1)
abbrev pub is_modifiable : CTypes → COperand → Bool
is_modifiable types target =
    is_place target
    && (not (is_array (type_of target.core)) && (is_complete types (type_of target.core) && not (holds_const types (type_of target.core))))

abbrev pub broken_k11 : CTypes → CNode → Bool
broken_k11 types (step_node on) = not (is_modifiable types on)
broken_k11 types (assign_node target value) = not (is_modifiable types target)
broken_k11 types (assign_by_node op target value) = not (is_modifiable types target)
broken_k11 types _ = false

abbrev pub some_unassignable : CTypes → CTys → List COperand → Bool
some_unassignable types no_types args = false
some_unassignable types (more_types param params) [] = false
some_unassignable types (more_types param params) (arg ∷ args) =
    not (is_assignable types param (value_of arg)) || some_unassignable types params args

abbrev pub args_unassignable : CTypes → List COperand → Option CTyForm → Bool
args_unassignable types args (Some (function result (listed params) variadic)) = some_unassignable types params args
args_unassignable types args _ = false

abbrev pub broken_k12 : CTypes → CNode → Bool
broken_k12 types (assign_node target value) = not (is_assignable types (type_of target.core) (value_of value))
broken_k12 types (call_node callee args) = args_unassignable types args (option_map form_of_type (callee_type callee))
broken_k12 types (given_node facts) = facts.has_place && not facts.is_assignable
broken_k12 types (return_node result value) = not (is_void result) && is_given (λ one. not (is_assignable types result (value_of one))) value
broken_k12 types _ = false

abbrev pub broken_k13 : CTypes → CNode → Bool
broken_k13 types (cast_node type on) = not (is_void type) && not (is_scalar types type && is_scalar types (value_type on))
broken_k13 types _ = false

abbrev pub is_bit_field : COperand → Bool
is_bit_field operand = is_some (width_of_operand operand)

-- a function, an incomplete type or a bit-field
abbrev pub has_no_size : CTypes → COperand → Bool
has_no_size types of = is_designator of || (is_void_place of || (is_bit_field of || not (is_complete types (type_of of.core))))

abbrev pub broken_k14 : CTypes → CNode → Bool
broken_k14 types (sizeof_expr_node of) = has_no_size types of
broken_k14 types (sizeof_type_node type) = not (is_complete types type)
broken_k14 types _ = false

-- what the address can be taken of: an lvalue that is no bit-field and not declared `register`, a function, and what a pointer
-- points to (6.5.3.2p1)
abbrev pub has_address : COperand → Bool
has_address of = is_designator of || (is_void_place of || (is_place of && not (of.is_register || is_bit_field of)))

abbrev pub lacks_address : CNode → Bool
lacks_address (address_node of) = not (has_address of)
lacks_address _ = false

abbrev pub broken_k15 : CNode → Bool
broken_k15 node = list_any is_register_array (taken node ++ passed node) || lacks_address node

abbrev pub broken_k16 : CTypes → CNode → Bool
broken_k16 types (cond_node test first second) = not (is_scalar types (value_type test)) || is_none (choice_type types first second)
broken_k16 types _ = false

-- ---- K17 to K24: constants, statements, initialisers, bit-fields, enumerators, tags

abbrev pub broken_k17 : CTypes → CNode → Bool
broken_k17 types (enumerator_node name written value) = is_given (not_constant types) written
broken_k17 types (member_node is_last name type width before) = is_given (not_constant types) width
broken_k17 types (case_node switch value before) = not_constant types value
broken_k17 types (element_node index has_place) = not_constant types index
broken_k17 types (given_node facts) = facts.has_place && not facts.is_constant
broken_k17 types _ = false

-- the value of a `case` label, converted to the type of the `switch` (6.8.4.2p5)
abbrev pub converted_case : Option Scalar → ℤ → Option ℤ
converted_case None value = None
converted_case (Some kind) value = Some (converted kind value)

abbrev pub case_value : CTypes → CTy → COperand → Option ℤ
case_value types switch value = option_and_then (converted_case (scalar_in types switch)) (constant_of types (value_of value))

-- a value that an earlier label has, once both are converted to the type of the `switch` (6.8.4.2p3)
abbrev pub repeats_case : CTypes → CTy → COperand → List ℤ → Bool
repeats_case types switch value before = value_is (λ one. list_any (int_eq one) before) (case_value types switch value)

abbrev pub not_case : CTypes → Option CTy → COperand → List ℤ → Bool
not_case types None value before = true
not_case types (Some switch) value before = repeats_case types switch value before

abbrev pub broken_k18 : CTypes → CNode → Bool
broken_k18 types (case_node switch value before) = not_case types switch value before
broken_k18 types (default_node switch before) = is_none switch || before
broken_k18 types (controls_node value) = not (is_scalar types (value_type value))
broken_k18 types (switch_node value) = not (is_integer types (value_type value))
broken_k18 types (jump_node is_inside) = not is_inside
broken_k18 types _ = false

abbrev pub broken_k19 : CNode → Bool
broken_k19 (label_node name before) = list_any (bytes_eq name) before
broken_k19 (goto_node name labels) = not (list_any (bytes_eq name) labels)
broken_k19 _ = false

abbrev pub broken_k20 : CNode → Bool
broken_k20 (return_node result (Some value)) = is_void result
broken_k20 (return_node result None) = not (is_void result)
broken_k20 _ = false

abbrev pub broken_k21 : CNode → Bool
broken_k21 (given_node facts) = not facts.has_place
broken_k21 (element_node index has_place) = not has_place
broken_k21 (designated_node has_place) = not has_place
broken_k21 _ = false

abbrev pub most_width : Option Basic → ℕ
most_width None = 0
most_width (Some which) = most_bits which

-- a width that a bit-field of this type and name can't have (6.7.2.1p3)
abbrev pub not_width : CTypes → CTy → Option (List ℕ) → ℤ → Bool
not_width types type name width =
    int_lt width (pos 0)
    || (int_lt (pos (most_width (basic_of types (form_of_type type)))) width || (is_some name && int_eq width (pos 0)))

abbrev pub broken_k22 : CTypes → CNode → Bool
broken_k22 types (member_node is_last name type width before) =
    is_some width && (not (is_integer types type) || value_is (not_width types type name) (constant_in types width))
broken_k22 types _ = false

abbrev pub broken_k23 : CNode → Bool
broken_k23 (enumerator_node name written value) = not (int_le (neg_ℤ (pos 2147483648)) value && int_le value (pos 2147483647))
broken_k23 _ = false

abbrev pub is_other_record : Bool → Option CRecordTag → Bool
is_other_record is_union None = true
is_other_record is_union (Some one) = not (beq one.is_union is_union)

-- the tag of another kind of type
abbrev pub is_other_kind : CTypes → Bool → CTag → Bool
is_other_kind types is_union one = not one.is_record || is_other_record is_union (slice_get types.record_tags one.number)

abbrev pub tag_is : (CTag → Bool) → Option CTag → Bool
tag_is test None = false
tag_is test (Some one) = test one

abbrev pub has_members : CTypes → ℕ → Bool
has_members types number = is_some (option_flatten (slice_get types.records number))

abbrev pub is_completed : CTypes → CTag → Bool
is_completed types one = has_members types one.number

abbrev pub not_there : Option CTag → Bool
not_there None = true
not_there (Some one) = one.is_record || one.is_open

abbrev pub broken_k24 : CTypes → CNode → Bool
broken_k24 types (record_use_node is_union found) = tag_is (is_other_kind types is_union) found
-- completed before, or by a list of members inside of its own
broken_k24 types (record_node is_union found number members) =
    has_members types number || tag_is (λ one. is_other_kind types is_union one || is_completed types one) found
broken_k24 types (enum_use_node found) = not_there found
broken_k24 types (enum_node found) = is_some found
broken_k24 types _ = false

-- ---- M3: sizes

abbrev pub record_too_large : CTypes → Bool → ℕ → List CMember → Bool
record_too_large types is_union number members =
    is_none (row_of (layouts_of types) (record { number = number; tag = None; is_union = is_union; members = members }))

abbrev pub broken_m3 : CTypes → CNode → Bool
broken_m3 types (literal_node type) = is_too_large types type
broken_m3 types (derives_node from steps) = is_too_large types (derived from steps)
broken_m3 types (record_node is_union found number members) = record_too_large types is_union number members
broken_m3 types (declares_node facts) = is_too_large types facts.type
broken_m3 types _ = false

-- ---- all rules of nodes

abbrev pub breaks_in : CScope → CTypes → Rule → CNode → Bool
breaks_in scope types rule.O3 node = broken_o3 types node
breaks_in scope types rule.O4 node = broken_o4 node
breaks_in scope types rule.O5 node = broken_o5 node
breaks_in scope types rule.O6 node = broken_o6 types node
breaks_in scope types rule.O7 node = broken_o7 types node
breaks_in scope types rule.O8 node = broken_o8 types node
breaks_in scope types rule.O9 node = broken_o9 node
breaks_in scope types rule.O10 node = broken_o10 node
breaks_in scope types rule.O11 node = broken_o11 types node
breaks_in scope types rule.K1 node = broken_k1 node
breaks_in scope types rule.K2 node = broken_k2 scope node
breaks_in scope types rule.K3 node = broken_k3 node
breaks_in scope types rule.K4 node = broken_k4 node
breaks_in scope types rule.K5 node = broken_k5 types node
breaks_in scope types rule.K6 node = broken_k6 types node
breaks_in scope types rule.K7 node = broken_k7 node
breaks_in scope types rule.K8 node = broken_k8 types node
breaks_in scope types rule.K9 node = broken_k9 types node
breaks_in scope types rule.K10 node = broken_k10 types node
breaks_in scope types rule.K11 node = broken_k11 types node
breaks_in scope types rule.K12 node = broken_k12 types node
breaks_in scope types rule.K13 node = broken_k13 types node
breaks_in scope types rule.K14 node = broken_k14 types node
breaks_in scope types rule.K15 node = broken_k15 node
breaks_in scope types rule.K16 node = broken_k16 types node
breaks_in scope types rule.K17 node = broken_k17 types node
breaks_in scope types rule.K18 node = broken_k18 types node
breaks_in scope types rule.K19 node = broken_k19 node
breaks_in scope types rule.K20 node = broken_k20 node
breaks_in scope types rule.K21 node = broken_k21 node
breaks_in scope types rule.K22 node = broken_k22 types node
breaks_in scope types rule.K23 node = broken_k23 node
breaks_in scope types rule.K24 node = broken_k24 types node
breaks_in scope types rule.M3 node = broken_m3 types node
breaks_in scope types _ node = false

-- a node breaks a rule
unfoldable pub breaks : Rule → CPlaced → Bool
breaks one placed = breaks_in placed.scope placed.scope.types one placed.node

-- the rules of nodes in the order in which they count at one node
unfoldable pub node_rules : List Rule
node_rules =
    rule.O3 ∷ rule.O4 ∷ rule.O5 ∷ rule.O6 ∷ rule.O7 ∷ rule.O8 ∷ rule.O9 ∷ rule.O10 ∷ rule.O11
    ∷ rule.K1 ∷ rule.K2 ∷ rule.K3 ∷ rule.K4 ∷ rule.K5 ∷ rule.K6 ∷ rule.K7 ∷ rule.K8 ∷ rule.K9 ∷ rule.K10 ∷ rule.K11 ∷ rule.K12
    ∷ rule.K13 ∷ rule.K14 ∷ rule.K15 ∷ rule.K16 ∷ rule.K17 ∷ rule.K18 ∷ rule.K19 ∷ rule.K20 ∷ rule.K21 ∷ rule.K22 ∷ rule.K23
    ∷ rule.K24 ∷ rule.M3 ∷ []

-- the rule that counts at a node, where it breaks one
unfoldable pub rule_at : CPlaced → Option Rule
rule_at placed = find (λ one. breaks one placed) node_rules
