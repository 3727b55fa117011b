-- The rule of each part of an initialiser as a chain of tests.
use Rattle.std.proofs.Common.{◌≡◌, refl}
use Rattle.std.specs.Prelude.{ℕ, Bool, not, ◌&&◌, if◌then◌else◌, None, Some}
use Rattle.cr_base.specs.declared.rule.Rule.TheVariants.{K10, K12, K15, K17, K21}
use Rattle.cx_breaks.specs.Asked.{lacks_value, is_fixed}
use Rattle.cx_breaks.specs.Placed.{placed}
use Rattle.cx_core.specs.Trees.{CTypes}
use Rattle.cx_rules.specs.Nodes.{given_node, element_node, designated_node}
use Rattle.cx_rules.specs.Operands.{COperand, gives_nothing, holds_nothing, is_register_array}
use Rattle.cx_rules.specs.Rules.{rule_at, breaks, node_rules, not_constant}
use Rattle.cx_rules.specs.Scope.{CScope}
use Rattle.cx_stmt_breaks.proofs.Chains.{given_value, indexed_value}
use Rattle.cx_stmt_breaks.specs.Asked.{is_unconstant}
use Rattle.cx_stmt_breaks.specs.declared.initialisers.Given.{Given}
use Rattle.cx_stmt_breaks.specs.Facts.{given_facts}

pub gives_list : (types : CTypes) (scope : CScope) (line : ℕ) (given : Given) → rule_at (placed types scope line (given_node (given_facts None given)))
    ≡ (if given.has_place && not given.is_assignable then Some K12 else if given.has_place && not given.is_constant then Some K17 else if not given.has_place then Some K21 else None)
unfolding rule_at breaks node_rules
gives_list types scope line given = refl

pub gives_value : (types : CTypes) (scope : CScope) (line : ℕ) (value : COperand) (given : Given) → rule_at (placed types scope line (given_node (given_facts (Some value) given)))
    ≡ (if lacks_value types value then Some K10 else if given.has_place && not given.is_assignable then Some K12 else if is_fixed value then Some K15 else if given.has_place && not given.is_constant then Some K17 else if not given.has_place then Some K21 else None)
unfolding rule_at breaks node_rules lacks_value is_fixed
gives_value types scope line value given = given_value (gives_nothing value) (holds_nothing types value) (given.has_place && not given.is_assignable) (is_register_array value) (given.has_place && not given.is_constant) (not given.has_place)

pub element : (types : CTypes) (scope : CScope) (line : ℕ) (value : COperand) (has_place : Bool) → rule_at (placed types scope line (element_node value has_place))
    ≡ (if lacks_value types value then Some K10 else if is_fixed value then Some K15 else if is_unconstant types value then Some K17 else if not has_place then Some K21 else None)
unfolding rule_at breaks node_rules lacks_value is_fixed is_unconstant
element types scope line value has_place = indexed_value (gives_nothing value) (holds_nothing types value) (is_register_array value) (not_constant types value) (not has_place)

pub designated : (types : CTypes) (scope : CScope) (line : ℕ) (has_place : Bool) → rule_at (placed types scope line (designated_node has_place))
    ≡ (if not has_place then Some K21 else None)
unfolding rule_at breaks node_rules
designated types scope line has_place = refl
