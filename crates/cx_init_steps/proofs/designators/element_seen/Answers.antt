use Rattle.std.proofs.Common.{rules, ◌≡◌, refl, sym, ap, subst, ◌∙◌, None, option_map, is_some, map, true, false}
use Rattle.cx_breaks.specs.Placed.{placed}
use Rattle.cx_kinds.specs.Known.{types_in}
use Rattle.cx_rules.specs.Rules.{rule_at}
use Rattle.cx_context.specs.Checks.{refusal_of}
use Rattle.cx_context.specs.Views.{scope_of}
use Rattle.cx_context.proofs.Settling.{refused_step, settled_no, settled_ok, changed_no, changed_ok}
use Rattle.cx_core.specs.Views.{view_type, view_puts}
use Rattle.cx_init.specs.Views.{view_filling, view_target, view_stored, view_filled}
use Rattle.cx_operands.specs.Views.{view_operand}
use Rattle.cx_parts.specs.Views.{view_at}
use Rattle.cx_rules.specs.Initial.{element_at, member_at}
use Rattle.cx_rules.specs.Nodes.{given_node, element_node, designated_node, literal_node}
use Rattle.cx_rules.specs.Operands.{constant_of, value_of}
use Rattle.cx_rules.specs.Pieces.{at_line, filled, value_facts, value_stored, text_facts, text_stored_at, whole_at, literal_made, literal_meaning}
use Rattle.cx_rules.specs.Readings.{fine, check_chain, check_here}
use Rattle.cx_rules.specs.Scope.{with_object_number, with_made_at}
use Rattle.cx_init_steps.proofs.designators.element_seen.Goals as goal

pub returns-in-Some : goal.returns-in-Some
unfolding check_chain check_here
returns-in-Some c =
    let same : (option_map view_at c.in_ok-found.found) ≡ (element_at (scope_of c.args.context.now).types (option_map view_at c.args.at.now) (constant_of (scope_of c.args.context.now).types (value_of (view_operand c.args.index)))) = search rules in
    refused_step (option_map view_at) _ (scope_of c.args.context.now) _ (refusal_of (scope_of c.args.context.now).unit c.args.line c.in-Some.rule) c.refused.ensures
    (settled_no _ (scope_of c.args.context.now).types (scope_of c.args.context.now) c.args.line (element_node (view_operand c.args.index) (is_some (element_at (scope_of c.args.context.now).types (option_map view_at c.args.at.now) (constant_of (scope_of c.args.context.now).types (value_of (view_operand c.args.index))))))
    (element_at (scope_of c.args.context.now).types (option_map view_at c.args.at.now) (constant_of (scope_of c.args.context.now).types (value_of (view_operand c.args.index))))
    c.element_rule_at.result c.in-Some.rule refl (subst (λ found. c.element_rule_at.result ≡ rule_at (placed (scope_of c.args.context.now).types (scope_of c.args.context.now) c.args.line (element_node (view_operand c.args.index) (is_some found)))) same (c.element_rule_at.ensures c.args.line)) c.in-Some.is)

pub returns : goal.returns
unfolding check_chain check_here
returns c =
    let same : (option_map view_at c.in_ok-found.found) ≡ (element_at (scope_of c.args.context.now).types (option_map view_at c.args.at.now) (constant_of (scope_of c.args.context.now).types (value_of (view_operand c.args.index)))) = search rules in
    let made : (option_map view_at c.in_ok-found.found) ≡ (element_at (scope_of c.args.context.now).types (option_map view_at c.args.at.now) (constant_of (scope_of c.args.context.now).types (value_of (view_operand c.args.index)))) = search rules in
    settled_ok _ (scope_of c.args.context.now).types (scope_of c.args.context.now) c.args.line (element_node (view_operand c.args.index) (is_some (element_at (scope_of c.args.context.now).types (option_map view_at c.args.at.now) (constant_of (scope_of c.args.context.now).types (value_of (view_operand c.args.index))))))
    (element_at (scope_of c.args.context.now).types (option_map view_at c.args.at.now) (constant_of (scope_of c.args.context.now).types (value_of (view_operand c.args.index))))
    c.element_rule_at.result refl (subst (λ found. c.element_rule_at.result ≡ rule_at (placed (scope_of c.args.context.now).types (scope_of c.args.context.now) c.args.line (element_node (view_operand c.args.index) (is_some found)))) same (c.element_rule_at.ensures c.args.line)) c.in_default.is
    ∙ ap (λ meaning. fine meaning (scope_of c.args.context.now)) (sym made)
