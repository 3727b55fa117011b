use Rattle.std.proofs.Common.{rules, ◌≡◌, sym, ap, ◌∙◌}
use Rattle.cx_context.specs.Checks.{refusal_of}
use Rattle.cx_context.specs.Views.{scope_of}
use Rattle.cx_core.specs.Views.{view_expr}
use Rattle.cx_kinds.specs.Known.{types_in}
use Rattle.cx_operands.specs.Views.{view_operand}
use Rattle.cx_rules.specs.Meanings.{size_meaning}
use Rattle.cx_rules.specs.Nodes.{sizeof_expr_node}
use Rattle.cx_core.specs.Trees.{type_of}
use Rattle.cx_scope.specs.Changes.{cut_back}
use Rattle.cx_rules.specs.Pieces.{at_line}
use Rattle.cx_rules.specs.Readings.{fine, check_chain, check_here}
use Rattle.cx_context.proofs.Settling.{refused_step, changed_no, changed_ok}
use Rattle.cx_expr_steps.proofs.uses.sizeof_seen.Goals as goal

pub returns-in-Some : goal.returns-in-Some
unfolding check_chain check_here
returns-in-Some c = refused_step view_operand _ (scope_of c.args.context.now) _ (refusal_of (scope_of c.args.context.now).unit c.args.line c.in-Some.rule) c.refused.ensures
    (changed_no _ (types_in c.known-known.result) (scope_of c.args.context.now) c.args.line (sizeof_expr_node (view_operand c.args.of))
    (cut_back c.args.literals c.args.mentions (scope_of c.args.context.now))
    (size_meaning (at_line (scope_of c.args.context.now) c.args.line) (scope_of c.args.context.now).types (type_of (view_expr c.args.of.core)))
    c.sizeof_expr_rule.result c.in-Some.rule c.known-known.ensures.types (c.sizeof_expr_rule.ensures (scope_of c.args.context.now) c.args.line) c.in-Some.is)

pub returns : goal.returns
unfolding check_chain check_here
returns c =
    let made : view_operand c.in_ok-made.made ≡ (size_meaning (at_line (scope_of c.args.context.now) c.args.line) (scope_of c.args.context.now).types (type_of (view_expr c.args.of.core))) = search rules in
    let after : scope_of c.cut_back.new.self ≡ (cut_back c.args.literals c.args.mentions (scope_of c.args.context.now)) = search rules in
    changed_ok _ (types_in c.known-known.result) (scope_of c.args.context.now) c.args.line (sizeof_expr_node (view_operand c.args.of))
    (cut_back c.args.literals c.args.mentions (scope_of c.args.context.now))
    (size_meaning (at_line (scope_of c.args.context.now) c.args.line) (scope_of c.args.context.now).types (type_of (view_expr c.args.of.core)))
    c.sizeof_expr_rule.result c.known-known.ensures.types (c.sizeof_expr_rule.ensures (scope_of c.args.context.now) c.args.line) c.in_default.is
    ∙ (ap (λ meaning. fine meaning (cut_back c.args.literals c.args.mentions (scope_of c.args.context.now))) (sym made) ∙ ap (λ scope. fine (view_operand c.in_ok-made.made) scope) (sym after))
