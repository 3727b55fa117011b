use Rattle.std.proofs.Common.{rules, ◌≡◌, sym, subst, ap, ◌∙◌, map}
use Rattle.cx_breaks.specs.Placed.{placed}
use Rattle.cx_rules.specs.Rules.{rule_at}
use Rattle.cx_context.specs.Checks.{refusal_of}
use Rattle.cx_context.specs.Views.{scope_of}
use Rattle.cx_kinds.specs.Known.{types_in}
use Rattle.cx_operands.specs.Views.{view_operand}
use Rattle.cx_rules.specs.Meanings.{call_meaning, trailing_types}
use Rattle.cx_rules.specs.Nodes.{call_node}
use Rattle.cx_rules.specs.Pieces.{called}
use Rattle.cx_rules.specs.Pieces.{at_line}
use Rattle.cx_rules.specs.Readings.{fine, check_chain, check_here}
use Rattle.cx_context.proofs.Settling.{refused_step, changed_no, changed_ok}
use Rattle.cx_expr_steps.proofs.uses.called.Goals as goal

pub returns-in-Some : goal.returns-in-Some
unfolding check_chain check_here
returns-in-Some c = refused_step view_operand _ (scope_of c.args.context.now) _ (refusal_of (scope_of c.args.context.now).unit c.args.line c.in-Some.rule) c.refused.ensures
    (changed_no _ (types_in c.known-known.result) (scope_of c.args.context.now) c.args.line (call_node (view_operand c.args.callee) (map view_operand c.args.args))
    (called c.args.by_name c.args.mentioned (trailing_types (scope_of c.args.context.now).types (view_operand c.args.callee) (map view_operand c.args.args)) (scope_of c.args.context.now))
    (call_meaning (at_line (scope_of c.args.context.now) c.args.line) (scope_of c.args.context.now).types c.args.by_name (view_operand c.args.callee) (map view_operand c.args.args))
    c.call_rule.result c.in-Some.rule c.known-known.ensures.types (subst (λ list. c.call_rule.result ≡ rule_at (placed (types_in c.known-known.result) (scope_of c.args.context.now) c.args.line (call_node (view_operand c.args.callee) (map view_operand list)))) c.as_slice-list.ensures (c.call_rule.ensures (scope_of c.args.context.now) c.args.line)) c.in-Some.is)

pub returns : goal.returns
unfolding check_chain check_here
returns c =
    let made : view_operand c.in_ok-made.made ≡ (call_meaning (at_line (scope_of c.args.context.now) c.args.line) (scope_of c.args.context.now).types c.args.by_name (view_operand c.args.callee) (map view_operand c.args.args)) = search rules in
    let after : scope_of c.set_called.new.self ≡ (called c.args.by_name c.args.mentioned (trailing_types (scope_of c.args.context.now).types (view_operand c.args.callee) (map view_operand c.args.args)) (scope_of c.args.context.now)) = search rules in
    changed_ok _ (types_in c.known-known.result) (scope_of c.args.context.now) c.args.line (call_node (view_operand c.args.callee) (map view_operand c.args.args))
    (called c.args.by_name c.args.mentioned (trailing_types (scope_of c.args.context.now).types (view_operand c.args.callee) (map view_operand c.args.args)) (scope_of c.args.context.now))
    (call_meaning (at_line (scope_of c.args.context.now) c.args.line) (scope_of c.args.context.now).types c.args.by_name (view_operand c.args.callee) (map view_operand c.args.args))
    c.call_rule.result c.known-known.ensures.types (subst (λ list. c.call_rule.result ≡ rule_at (placed (types_in c.known-known.result) (scope_of c.args.context.now) c.args.line (call_node (view_operand c.args.callee) (map view_operand list)))) c.as_slice-list.ensures (c.call_rule.ensures (scope_of c.args.context.now) c.args.line)) c.in_default.is
    ∙ (ap (λ meaning. fine meaning (called c.args.by_name c.args.mentioned (trailing_types (scope_of c.args.context.now).types (view_operand c.args.callee) (map view_operand c.args.args)) (scope_of c.args.context.now))) (sym made) ∙ ap (λ scope. fine (view_operand c.in_ok-made.made) scope) (sym after))
