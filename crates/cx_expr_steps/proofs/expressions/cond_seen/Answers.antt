use Rattle.std.proofs.Common.{rules, ◌≡◌, sym, ap, ◌∙◌}
use Rattle.cx_context.specs.Checks.{refusal_of}
use Rattle.cx_context.specs.Views.{scope_of}
use Rattle.cx_kinds.specs.Known.{types_in}
use Rattle.cx_operands.specs.Views.{view_operand}
use Rattle.cx_rules.specs.Meanings.{cond_meaning}
use Rattle.cx_rules.specs.Nodes.{cond_node}
use Rattle.cx_rules.specs.Pieces.{at_line}
use Rattle.cx_rules.specs.Readings.{fine, check_chain, check_here}
use Rattle.cx_context.proofs.Settling.{refused_step, settled_no, settled_ok}
use Rattle.cx_expr_steps.proofs.expressions.cond_seen.Goals as goal

pub returns-in-Some : goal.returns-in-Some
unfolding check_chain check_here
returns-in-Some c = refused_step view_operand _ (scope_of c.args.context.now) _ (refusal_of (scope_of c.args.context.now).unit c.args.line c.in-Some.rule) c.refused.ensures
    (settled_no _ (types_in c.known-known.result) (scope_of c.args.context.now) c.args.line (cond_node (view_operand c.args.test) (view_operand c.args.first) (view_operand c.args.second))
    (cond_meaning (at_line (scope_of c.args.context.now) c.args.line) (scope_of c.args.context.now).types (view_operand c.args.test) (view_operand c.args.first) (view_operand c.args.second))
    c.cond_rule.result c.in-Some.rule c.known-known.ensures.types (c.cond_rule.ensures (scope_of c.args.context.now) c.args.line) c.in-Some.is)

pub returns : goal.returns
unfolding check_chain check_here
returns c =
    let made : view_operand c.in_ok-made.made ≡ (cond_meaning (at_line (scope_of c.args.context.now) c.args.line) (scope_of c.args.context.now).types (view_operand c.args.test) (view_operand c.args.first) (view_operand c.args.second)) = search rules in
    settled_ok _ (types_in c.known-known.result) (scope_of c.args.context.now) c.args.line (cond_node (view_operand c.args.test) (view_operand c.args.first) (view_operand c.args.second))
    (cond_meaning (at_line (scope_of c.args.context.now) c.args.line) (scope_of c.args.context.now).types (view_operand c.args.test) (view_operand c.args.first) (view_operand c.args.second))
    c.cond_rule.result c.known-known.ensures.types (c.cond_rule.ensures (scope_of c.args.context.now) c.args.line) c.in_default.is
    ∙ ap (λ meaning. fine meaning (scope_of c.args.context.now)) (sym made)
