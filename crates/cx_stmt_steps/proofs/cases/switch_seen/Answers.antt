use Rattle.cx_context.proofs.Settling.{refused_step, changed_no, changed_ok}
use Rattle.cx_context.specs.Checks.{refusal_of}
use Rattle.cx_context.specs.Views.{scope_of}
use Rattle.cx_core.specs.Views.{view_expr}
use Rattle.cx_kinds.specs.Known.{types_in}
use Rattle.cx_operands.specs.Views.{view_operand}
use Rattle.cx_rules.specs.Nodes.{switch_node}
use Rattle.cx_rules.specs.Operands.{promoted_value}
use Rattle.cx_rules.specs.Readings.{fine, check_chain, check_here}
use Rattle.cx_stmt_steps.specs.Changes.{with_cases}
use Rattle.std.proofs.Common.{rules, ◌≡◌, sym, ap, ◌∙◌}
use Rattle.cx_stmt_steps.proofs.cases.switch_seen.Goals as goal

pub returns-in-Some : goal.returns-in-Some
unfolding check_chain check_here
returns-in-Some c = refused_step view_expr _ (scope_of c.args.context.now) _ (refusal_of (scope_of c.args.context.now).unit c.args.line c.in-Some.rule) c.refused.ensures
    (changed_no _ (types_in c.known-known.result) (scope_of c.args.context.now) c.args.line (switch_node (view_operand c.args.value))
    (with_cases c.args.around.values c.args.around.has_default (scope_of c.args.context.now))
    (promoted_value (scope_of c.args.context.now).types (view_operand c.args.value))
    c.switch_rule.result c.in-Some.rule c.known-known.ensures.types (c.switch_rule.ensures (scope_of c.args.context.now) c.args.line) c.in-Some.is)

pub returns : goal.returns
unfolding check_chain check_here
returns c =
    let made : view_expr c.in_ok-made.made ≡ (promoted_value (scope_of c.args.context.now).types (view_operand c.args.value)) = search rules in
    let after : scope_of c.labels_again.new.context ≡ (with_cases c.args.around.values c.args.around.has_default (scope_of c.args.context.now)) = search rules in
    changed_ok _ (types_in c.known-known.result) (scope_of c.args.context.now) c.args.line (switch_node (view_operand c.args.value))
    (with_cases c.args.around.values c.args.around.has_default (scope_of c.args.context.now))
    (promoted_value (scope_of c.args.context.now).types (view_operand c.args.value))
    c.switch_rule.result c.known-known.ensures.types (c.switch_rule.ensures (scope_of c.args.context.now) c.args.line) c.in_default.is
    ∙ (ap (λ meaning. fine meaning (with_cases c.args.around.values c.args.around.has_default (scope_of c.args.context.now))) (sym made) ∙ ap (λ scope. fine (view_expr c.in_ok-made.made) scope) (sym after))
