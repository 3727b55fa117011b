-- The rule of each node as a chain of tests.
use Rattle.std.proofs.Common.{◌≡◌, refl, ap}
use Rattle.std.specs.Prelude.{ℕ, false, not, ◌&&◌, if◌then◌else◌, List, None, Some, option_map, is_none}
use Rattle.cr_base.specs.declared.rule.Rule.TheVariants.{O7, O8, O11, K8, K10, K11, K12, K13, K14, K15, K16, M3}
use Rattle.cx_breaks.proofs.Chains.{one_taker, two_takers, stored_value, stored_by, two_passed, one_tested, either_lacks, cast_operand}
use Rattle.cx_breaks.specs.Asked.{lacks_value, lacks_object, is_fixed, type_taken, is_null, pairing_taken, may_be_stored, is_unchosen, names_object, may_change, has_place, is_sizeless, is_no_pointee, member_named, lacks_behind}
use Rattle.cx_breaks.specs.Casts.{crosses_numbers, crosses_functions}
use Rattle.cx_breaks.specs.Placed.{placed}
use Rattle.cx_core.specs.declared.expr.Op1.{Op1}
use Rattle.cx_core.specs.declared.expr.Op2.{Op2}
use Rattle.cx_core.specs.declared.expr.Op2.TheVariants as op2
use Rattle.cx_core.specs.Trees.{CTy, CTypes, type_of}
use Rattle.cx_rules.specs.Meanings.{choice_type, find_member}
use Rattle.cx_rules.specs.Nodes.{literal_node, address_node, deref_node, unary_node, sizeof_expr_node, sizeof_type_node, index_node, dot_node, arrow_node, step_node, cast_node, binary_node, tests_node, cond_node, assign_node, assign_by_node, comma_node}
use Rattle.cx_rules.specs.Operands.{COperand, gives_nothing, holds_nothing, is_null_constant, is_place, is_register_array, value_of, value_type}
use Rattle.cx_rules.specs.Pairs.{is_assignable, is_nothing, joins, pairing}
use Rattle.cx_rules.specs.Rules.{rule_at, breaks, node_rules, is_array_member, is_modifiable, is_moved, is_record_operand, lacks_member_behind, not_signable, not_stepped}
use Rattle.cx_rules.specs.Scope.{CScope}
use Rattle.cx_rules.specs.Types.{is_complete, is_pointer, is_scalar, is_too_large, is_void, target_of}

pub literal : (types : CTypes) (scope : CScope) (line : ℕ) (type : CTy) → rule_at (placed types scope line (literal_node type))
    ≡ (if is_too_large types type then Some M3 else None)
unfolding rule_at breaks node_rules
literal types scope line type = refl

pub address : (types : CTypes) (scope : CScope) (line : ℕ) (of : COperand) → rule_at (placed types scope line (address_node of))
    ≡ (if not (has_place of) then Some K15 else None)
unfolding rule_at breaks node_rules has_place
address types scope line of = refl

pub deref : (types : CTypes) (scope : CScope) (line : ℕ) (of : COperand) → rule_at (placed types scope line (deref_node of))
    ≡ (if lacks_value types of then Some K10 else if not (is_pointer (type_taken of)) then Some K10 else if is_fixed of then Some K15 else None)
unfolding rule_at breaks node_rules lacks_value type_taken is_fixed
deref types scope line of = one_taker (gives_nothing of) (holds_nothing types of) (not (is_pointer (value_type of))) (is_register_array of)

pub unary : (types : CTypes) (scope : CScope) (line : ℕ) (op : Op1) (on : COperand) → rule_at (placed types scope line (unary_node op on))
    ≡ (if lacks_value types on then Some K10 else if not_signable types op (type_taken on) then Some K10 else if is_fixed on then Some K15 else None)
unfolding rule_at breaks node_rules lacks_value type_taken is_fixed
unary types scope line op on = one_taker (gives_nothing on) (holds_nothing types on) (not_signable types op (value_type on)) (is_register_array on)

pub sizeof_expr : (types : CTypes) (scope : CScope) (line : ℕ) (of : COperand) → rule_at (placed types scope line (sizeof_expr_node of))
    ≡ (if is_sizeless types of then Some K14 else None)
unfolding rule_at breaks node_rules is_sizeless
sizeof_expr types scope line of = refl

pub sizeof_type : (types : CTypes) (scope : CScope) (line : ℕ) (type : CTy) → rule_at (placed types scope line (sizeof_type_node type))
    ≡ (if not (is_complete types type) then Some K14 else None)
unfolding rule_at breaks node_rules
sizeof_type types scope line type = refl

pub index : (types : CTypes) (scope : CScope) (line : ℕ) (of index_of : COperand) → rule_at (placed types scope line (index_node of index_of))
    ≡ (if lacks_value types of then Some K10 else if lacks_value types index_of then Some K10 else if not (is_moved (pairing_taken types op2.Add of index_of)) then Some K10 else if is_fixed of then Some K15 else if is_fixed index_of then Some K15 else None)
unfolding rule_at breaks node_rules lacks_value is_fixed pairing_taken
index types scope line of index_of = two_takers (gives_nothing of) (gives_nothing index_of) (holds_nothing types of) (holds_nothing types index_of) (not (is_moved (pairing types op2.Add (value_of of) (value_of index_of)))) (is_register_array of) (is_register_array index_of)

pub binary : (types : CTypes) (scope : CScope) (line : ℕ) (op : Op2) (left right : COperand) → rule_at (placed types scope line (binary_node op left right))
    ≡ (if lacks_value types left then Some K10 else if lacks_value types right then Some K10 else if is_nothing (pairing_taken types op left right) then Some K10 else if is_fixed left then Some K15 else if is_fixed right then Some K15 else None)
unfolding rule_at breaks node_rules lacks_value is_fixed pairing_taken
binary types scope line op left right = two_takers (gives_nothing left) (gives_nothing right) (holds_nothing types left) (holds_nothing types right) (is_nothing (pairing types op (value_of left) (value_of right))) (is_register_array left) (is_register_array right)

pub tests : (types : CTypes) (scope : CScope) (line : ℕ) (left right : COperand) → rule_at (placed types scope line (tests_node left right))
    ≡ (if lacks_value types left then Some K10 else if lacks_value types right then Some K10 else if not (is_scalar types (type_taken left) && is_scalar types (type_taken right)) then Some K10 else if is_fixed left then Some K15 else if is_fixed right then Some K15 else None)
unfolding rule_at breaks node_rules lacks_value is_fixed type_taken
tests types scope line left right = two_takers (gives_nothing left) (gives_nothing right) (holds_nothing types left) (holds_nothing types right) (not (is_scalar types (value_type left) && is_scalar types (value_type right))) (is_register_array left) (is_register_array right)

pub arrow : (types : CTypes) (scope : CScope) (line : ℕ) (of : COperand) (name : List ℕ) → rule_at (placed types scope line (arrow_node of name))
    ≡ (if lacks_behind types of name then Some K8 else if lacks_value types of then Some K10 else if is_fixed of then Some K15 else None)
unfolding rule_at breaks node_rules lacks_value lacks_behind is_fixed
arrow types scope line of name = ap (λ rule. if lacks_member_behind types (target_of (value_type of)) name then Some K8 else rule) (one_taker (gives_nothing of) (holds_nothing types of) false (is_register_array of))

pub dot : (types : CTypes) (scope : CScope) (line : ℕ) (of : COperand) (name : List ℕ) → rule_at (placed types scope line (dot_node of name))
    ≡ (if not (names_object of) && is_array_member (option_map (λ one. one.type) (member_named types of name)) then Some O11 else if not (is_no_pointee of) then Some K8 else if is_none (member_named types of name) then Some K8 else None)
unfolding rule_at breaks node_rules names_object member_named is_no_pointee
dot types scope line of name = either_lacks (not (is_place of) && is_array_member (option_map (λ one. one.type) (find_member types (type_of of.core) name))) (not (is_record_operand of)) (is_none (find_member types (type_of of.core) name))

pub assign : (types : CTypes) (scope : CScope) (line : ℕ) (target value : COperand) → rule_at (placed types scope line (assign_node target value))
    ≡ (if lacks_value types value then Some K10 else if not (may_change types target) then Some K11 else if not (may_be_stored types target value) then Some K12 else if is_fixed value then Some K15 else None)
unfolding rule_at breaks node_rules lacks_value may_change may_be_stored is_fixed
assign types scope line target value = stored_value (gives_nothing value) (holds_nothing types value) (not (is_modifiable types target)) (not (is_assignable types (type_of target.core) (value_of value))) (is_register_array value)

pub assign_by : (types : CTypes) (scope : CScope) (line : ℕ) (op : Op2) (target value : COperand) → rule_at (placed types scope line (assign_by_node op target value))
    ≡ (if lacks_value types value then Some K10 else if not (joins (pairing_taken types op target value)) then Some K10 else if not (may_change types target) then Some K11 else if is_fixed value then Some K15 else None)
unfolding rule_at breaks node_rules lacks_value may_change pairing_taken is_fixed
assign_by types scope line op target value = stored_by (gives_nothing value) (holds_nothing types value) (not (joins (pairing types op (value_of target) (value_of value)))) (not (is_modifiable types target)) (is_register_array value)

pub step : (types : CTypes) (scope : CScope) (line : ℕ) (on : COperand) → rule_at (placed types scope line (step_node on))
    ≡ (if not_stepped types (type_taken on) then Some K10 else if not (may_change types on) then Some K11 else None)
unfolding rule_at breaks node_rules may_change type_taken
step types scope line on = refl

pub cond : (types : CTypes) (scope : CScope) (line : ℕ) (test first second : COperand) → rule_at (placed types scope line (cond_node test first second))
    ≡ (if lacks_value types test then Some K10 else if lacks_object types first then Some K10 else if lacks_object types second then Some K10 else if is_fixed test then Some K15 else if is_fixed first then Some K15 else if is_fixed second then Some K15 else if not (is_scalar types (type_taken test)) then Some K16 else if is_unchosen types first second then Some K16 else None)
unfolding rule_at breaks node_rules lacks_value lacks_object is_fixed type_taken is_unchosen
cond types scope line test first second = one_tested (gives_nothing test) (holds_nothing types test) (holds_nothing types first) (holds_nothing types second) (is_register_array test) (is_register_array first) (is_register_array second) (not (is_scalar types (value_type test))) (is_none (choice_type types first second))

pub comma : (types : CTypes) (scope : CScope) (line : ℕ) (first second : COperand) → rule_at (placed types scope line (comma_node first second))
    ≡ (if lacks_object types first then Some K10 else if lacks_object types second then Some K10 else if is_fixed first then Some K15 else if is_fixed second then Some K15 else None)
unfolding rule_at breaks node_rules lacks_object is_fixed
comma types scope line first second = two_passed (holds_nothing types first) (holds_nothing types second) (is_register_array first) (is_register_array second)

pub cast : (types : CTypes) (scope : CScope) (line : ℕ) (type : CTy) (on : COperand) → rule_at (placed types scope line (cast_node type on))
    ≡ (if crosses_numbers types type (type_taken on) (is_null types on) then Some O7 else if crosses_functions type (type_taken on) (is_null types on) then Some O8 else if (if is_void type then lacks_object types on else lacks_value types on) then Some K10 else if not (is_void type) && not (is_scalar types type && is_scalar types (type_taken on)) then Some K13 else if is_fixed on then Some K15 else None)
unfolding rule_at breaks node_rules lacks_value lacks_object is_fixed type_taken is_null
cast types scope line type on = ap (λ rule. if crosses_numbers types type (value_type on) (is_null_constant types (value_of on)) then Some O7 else if crosses_functions type (value_type on) (is_null_constant types (value_of on)) then Some O8 else rule) (cast_operand (is_void type) gives_nothing (holds_nothing types) is_register_array on (is_scalar types type && is_scalar types (value_type on)))
