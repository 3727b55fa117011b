-- The rule of each statement as a chain of tests.
use Rattle.std.proofs.Common.{◌≡◌, refl}
use Rattle.std.specs.Prelude.{ℕ, ℤ, Bool, true, false, not, ◌&&◌, ◌||◌, if◌then◌else◌, List, [], ◌++◌, Option, None, Some, bytes_eq, is_none}
use Rattle.std.specs.List.{list_any}
use Rattle.cr_base.specs.declared.rule.Rule.TheVariants.{K10, K12, K15, K17, K18, K19, K20}
use Rattle.cx_breaks.specs.Asked.{lacks_value, lacks_object, is_fixed}
use Rattle.cx_breaks.specs.Placed.{placed}
use Rattle.cx_core.specs.Trees.{CTy, CTypes}
use Rattle.cx_rules.specs.Nodes.{label_node, case_node, default_node, dropped_node, controls_node, switch_node, goto_node, jump_node, return_node}
use Rattle.cx_rules.specs.Operands.{COperand, gives_nothing, holds_nothing, is_register_array, value_of, value_type}
use Rattle.cx_rules.specs.Pairs.{is_assignable}
use Rattle.cx_rules.specs.Rules.{rule_at, breaks, node_rules, not_case, not_constant}
use Rattle.cx_rules.specs.Scope.{CScope}
use Rattle.cx_rules.specs.Types.{is_integer, is_scalar, is_void}
use Rattle.cx_stmt_breaks.proofs.Chains.{asked_value, constant_value, passed_value, either_label, returned}
use Rattle.cx_stmt_breaks.specs.Asked.{has_scalar, has_integer, is_unconstant, is_misfit, is_no_case}

-- `return` without a value
nothing_returned : {A : Type 0} (gives holds fixed : A → Bool) (v : Bool) →
    (if (list_any gives (if v then [] else []) || list_any holds ((if v then [] else []) ++ (if v then [] else []))) || false then Some K10
    else if not v && false then Some K12
    else if list_any fixed ((if v then [] else []) ++ (if v then [] else [])) || false then Some K15
    else if not v then Some K20 else None)
    ≡ (if not v then Some K20 else None)
nothing_returned gives holds fixed true = refl
nothing_returned gives holds fixed false = refl

pub label : (types : CTypes) (scope : CScope) (line : ℕ) (name : List ℕ) (before : List (List ℕ)) → rule_at (placed types scope line (label_node name before))
    ≡ (if list_any (bytes_eq name) before then Some K19 else None)
unfolding rule_at breaks node_rules
label types scope line name before = refl

pub goto : (types : CTypes) (scope : CScope) (line : ℕ) (name : List ℕ) (labels : List (List ℕ)) → rule_at (placed types scope line (goto_node name labels))
    ≡ (if not (list_any (bytes_eq name) labels) then Some K19 else None)
unfolding rule_at breaks node_rules
goto types scope line name labels = refl

pub case_label : (types : CTypes) (scope : CScope) (line : ℕ) (switch : Option CTy) (value : COperand) (before : List ℤ) → rule_at (placed types scope line (case_node switch value before))
    ≡ (if lacks_value types value then Some K10 else if is_fixed value then Some K15 else if is_unconstant types value then Some K17 else if is_no_case types switch value before then Some K18 else None)
unfolding rule_at breaks node_rules lacks_value is_fixed is_unconstant is_no_case
case_label types scope line switch value before = constant_value (gives_nothing value) (holds_nothing types value) (is_register_array value) (not_constant types value) (not_case types switch value before)

pub default_label : (types : CTypes) (scope : CScope) (line : ℕ) (switch : Option CTy) (before : Bool) → rule_at (placed types scope line (default_node switch before))
    ≡ (if is_none switch then Some K18 else if before then Some K18 else None)
unfolding rule_at breaks node_rules
default_label types scope line switch before = either_label (is_none switch) before

pub dropped : (types : CTypes) (scope : CScope) (line : ℕ) (value : COperand) → rule_at (placed types scope line (dropped_node value))
    ≡ (if lacks_object types value then Some K10 else if is_fixed value then Some K15 else None)
unfolding rule_at breaks node_rules lacks_object is_fixed
dropped types scope line value = passed_value (holds_nothing types value) (is_register_array value)

pub controls : (types : CTypes) (scope : CScope) (line : ℕ) (value : COperand) → rule_at (placed types scope line (controls_node value))
    ≡ (if lacks_value types value then Some K10 else if is_fixed value then Some K15 else if not (has_scalar types value) then Some K18 else None)
unfolding rule_at breaks node_rules lacks_value is_fixed has_scalar
controls types scope line value = asked_value (gives_nothing value) (holds_nothing types value) (is_register_array value) (not (is_scalar types (value_type value)))

pub switches : (types : CTypes) (scope : CScope) (line : ℕ) (value : COperand) → rule_at (placed types scope line (switch_node value))
    ≡ (if lacks_value types value then Some K10 else if is_fixed value then Some K15 else if not (has_integer types value) then Some K18 else None)
unfolding rule_at breaks node_rules lacks_value is_fixed has_integer
switches types scope line value = asked_value (gives_nothing value) (holds_nothing types value) (is_register_array value) (not (is_integer types (value_type value)))

pub jump : (types : CTypes) (scope : CScope) (line : ℕ) (is_inside : Bool) → rule_at (placed types scope line (jump_node is_inside))
    ≡ (if not is_inside then Some K18 else None)
unfolding rule_at breaks node_rules
jump types scope line is_inside = refl

pub returns_nothing : (types : CTypes) (scope : CScope) (line : ℕ) (result : CTy) → rule_at (placed types scope line (return_node result None))
    ≡ (if not (is_void result) then Some K20 else None)
unfolding rule_at breaks node_rules
returns_nothing types scope line result = nothing_returned gives_nothing (holds_nothing types) is_register_array (is_void result)

pub returns_value : (types : CTypes) (scope : CScope) (line : ℕ) (result : CTy) (value : COperand) → rule_at (placed types scope line (return_node result (Some value)))
    ≡ (if (if is_void result then lacks_object types value else lacks_value types value) then Some K10 else if not (is_void result) && is_misfit types result value then Some K12 else if is_fixed value then Some K15 else if is_void result then Some K20 else None)
unfolding rule_at breaks node_rules lacks_value lacks_object is_fixed is_misfit
returns_value types scope line result value = returned (is_void result) gives_nothing (holds_nothing types) is_register_array value (not (is_assignable types result (value_of value)))
