use Rattle.cx_context.proofs.Settling.{refused_step, settled_no, settled_ok}
use Rattle.cx_context.specs.Checks.{refusal_of}
use Rattle.cx_context.specs.Views.{scope_of}
use Rattle.cx_core.specs.Views.{view_expr}
use Rattle.cx_kinds.specs.Known.{types_in}
use Rattle.cx_operands.specs.Views.{view_operand}
use Rattle.cx_rules.specs.Nodes.{dropped_node}
use Rattle.cx_rules.specs.Operands.{dropped, value_of}
use Rattle.cx_rules.specs.Readings.{fine, check_chain, check_here}
use Rattle.std.proofs.Common.{rules, ◌≡◌, sym, ap, ◌∙◌}
use Rattle.cx_stmt_steps.proofs.simple.dropped_seen.Goals as goal

pub returns-in-Some : goal.returns-in-Some
unfolding check_chain check_here
returns-in-Some c = refused_step view_expr _ (scope_of c.args.context.now) _ (refusal_of (scope_of c.args.context.now).unit c.args.line c.in-Some.rule) c.refused.ensures
    (settled_no _ (types_in c.known-known.result) (scope_of c.args.context.now) c.args.line (dropped_node (view_operand c.args.value))
    (dropped (value_of (view_operand c.args.value)))
    c.dropped_rule.result c.in-Some.rule c.known-known.ensures.types (c.dropped_rule.ensures (scope_of c.args.context.now) c.args.line) c.in-Some.is)

pub returns : goal.returns
unfolding check_chain check_here
returns c =
    let made : view_expr c.in_ok-made.made ≡ (dropped (value_of (view_operand c.args.value))) = search rules in
    settled_ok _ (types_in c.known-known.result) (scope_of c.args.context.now) c.args.line (dropped_node (view_operand c.args.value))
    (dropped (value_of (view_operand c.args.value)))
    c.dropped_rule.result c.known-known.ensures.types (c.dropped_rule.ensures (scope_of c.args.context.now) c.args.line) c.in_default.is
    ∙ ap (λ meaning. fine meaning (scope_of c.args.context.now)) (sym made)
