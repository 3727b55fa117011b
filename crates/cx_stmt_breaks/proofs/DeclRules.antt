-- The rule of each part of a declaration as a chain of tests.
use Rattle.std.proofs.Common.{◌≡◌, refl}
use Rattle.std.specs.Prelude.{ℕ, Bool, true, false, not, ◌&&◌, ◌||◌, if◌then◌else◌, List, None, Some}
use Rattle.cr_base.specs.declared.rule.Rule.TheVariants.{O5, K2, K4, K5, K7, M3}
use Rattle.cx_breaks.specs.Placed.{placed}
use Rattle.cx_core.specs.declared.program.Linkage.{Linkage}
use Rattle.cx_core.specs.Trees.{CTy, CTypes, form_of_type}
use Rattle.cx_rules.specs.declared.kinds.SpecsPlace.{SpecsPlace}
use Rattle.cx_rules.specs.Nodes.{declares_node, empty_node, head_node, tentative_node}
use Rattle.cx_rules.specs.Rules.{rule_at, breaks, node_rules, declares_typedef, is_function_step, is_variadic, misplaced_function, parts_incomplete}
use Rattle.cx_rules.specs.Scope.{CScope}
use Rattle.cx_rules.specs.Shapes.{CSpecs, CStep, last_step}
use Rattle.cx_rules.specs.Types.{is_array, is_function, is_incomplete, is_too_large}
use Rattle.cx_stmt_breaks.specs.Declarations.{lacks_size}

declared_parts : (c a b k m : Bool) → (if c then Some K2 else if a || b then Some K4 else if k then Some K5 else if m then Some M3 else None)
    ≡ (if c then Some K2 else if a then Some K4 else if b then Some K4 else if k then Some K5 else if m then Some M3 else None)
declared_parts true a b k m = refl
declared_parts false true b k m = refl
declared_parts false false b k m = refl

pub declares : (types : CTypes) (scope : CScope) (line : ℕ) (place : SpecsPlace) (specs : CSpecs) (type : CTy) (linkage : Linkage) (clashes has_init : Bool) → rule_at (placed types scope line (declares_node (record { where_stands = place; specs = specs; type = type; linkage = linkage; clashes = clashes; has_init = has_init })))
    ≡ (if clashes then Some K2 else if specs.is_inline && not (is_function type && not (declares_typedef specs)) then Some K4 else if (is_function type && not (declares_typedef specs)) && misplaced_function place specs then Some K4 else if lacks_size types specs type linkage then Some K5 else if is_too_large types type then Some M3 else None)
unfolding rule_at breaks node_rules
declares types scope line place specs type linkage clashes has_init = declared_parts clashes (specs.is_inline && not (is_function type && not (declares_typedef specs))) ((is_function type && not (declares_typedef specs)) && misplaced_function place specs) (lacks_size types specs type linkage) (is_too_large types type)

pub empty : (types : CTypes) (scope : CScope) (line : ℕ) (specs : CSpecs) → rule_at (placed types scope line (empty_node specs))
    ≡ (if specs.is_inline then Some K4 else None)
unfolding rule_at breaks node_rules
empty types scope line specs = refl

pub tentative : (types : CTypes) (scope : CScope) (line : ℕ) (type : CTy) → rule_at (placed types scope line (tentative_node type))
    ≡ (if not (is_array type) && is_incomplete types type then Some K5 else None)
unfolding rule_at breaks node_rules
tentative types scope line type = refl

pub head : (types : CTypes) (scope : CScope) (line : ℕ) (specs : CSpecs) (type : CTy) (steps : List CStep) (clashes : Bool) → rule_at (placed types scope line (head_node (record { specs = specs; type = type; steps = steps; clashes = clashes })))
    ≡ (if is_variadic (form_of_type type) then Some O5 else if clashes then Some K2 else if specs.is_inline && not (is_function type) then Some K4 else if parts_incomplete types (form_of_type type) then Some K5 else if not (is_function_step (last_step steps)) then Some K7 else None)
unfolding rule_at breaks node_rules
head types scope line specs type steps clashes = refl
