use Rattle.std.proofs.Common.{rules, ◌≡◌, refl, sym, subst, ap, ◌∙◌}
use Rattle.cx_breaks.specs.Placed.{placed}
use Rattle.cx_rules.specs.Rules.{rule_at}
use Rattle.cx_context.specs.Checks.{refusal_of}
use Rattle.cx_context.specs.Views.{scope_of}
use Rattle.cx_operands.specs.Views.{view_operand}
use Rattle.cx_rules.specs.Meanings.{name_meaning}
use Rattle.cx_rules.specs.Nodes.{name_node}
use Rattle.cx_rules.specs.Scope.{ordinary}
use Rattle.cx_rules.specs.Pieces.{used}
use Rattle.cx_rules.specs.Pieces.{at_line}
use Rattle.cx_rules.specs.Readings.{fine, check_chain, check_here}
use Rattle.cx_context.proofs.Settling.{refused_step, changed_no, changed_ok}
use Rattle.cx_expr_steps.proofs.uses.name_seen.Goals as goal

pub returns-in-Some : goal.returns-in-Some
unfolding check_chain check_here
returns-in-Some c = refused_step view_operand _ (scope_of c.args.context.now) _ (refusal_of (scope_of c.args.context.now).unit c.args.line c.in-Some.rule) c.refused.ensures
    (changed_no _ (scope_of c.args.context.now).types (scope_of c.args.context.now) c.args.line (name_node (ordinary c.args.name.now (scope_of c.args.context.now).declared))
    (used c.args.line c.args.name.now (ordinary c.args.name.now (scope_of c.args.context.now).declared) (scope_of c.args.context.now))
    (name_meaning (at_line (scope_of c.args.context.now) c.args.line) (ordinary c.args.name.now (scope_of c.args.context.now).declared))
    c.name_rule.result c.in-Some.rule refl (subst (λ meant. c.name_rule.result ≡ rule_at (placed (scope_of c.args.context.now).types (scope_of c.args.context.now) c.args.line (name_node meant))) c.ordinary-meant.ensures (c.name_rule.ensures (scope_of c.args.context.now).types (scope_of c.args.context.now) c.args.line)) c.in-Some.is)

pub returns : goal.returns
unfolding check_chain check_here
returns c =
    let made : view_operand c.in_ok-made.made ≡ (name_meaning (at_line (scope_of c.args.context.now) c.args.line) (ordinary c.args.name.now (scope_of c.args.context.now).declared)) = search rules in
    let after : scope_of c.add_use.new.self ≡ (used c.args.line c.args.name.now (ordinary c.args.name.now (scope_of c.args.context.now).declared) (scope_of c.args.context.now)) = search rules in
    changed_ok _ (scope_of c.args.context.now).types (scope_of c.args.context.now) c.args.line (name_node (ordinary c.args.name.now (scope_of c.args.context.now).declared))
    (used c.args.line c.args.name.now (ordinary c.args.name.now (scope_of c.args.context.now).declared) (scope_of c.args.context.now))
    (name_meaning (at_line (scope_of c.args.context.now) c.args.line) (ordinary c.args.name.now (scope_of c.args.context.now).declared))
    c.name_rule.result refl (subst (λ meant. c.name_rule.result ≡ rule_at (placed (scope_of c.args.context.now).types (scope_of c.args.context.now) c.args.line (name_node meant))) c.ordinary-meant.ensures (c.name_rule.ensures (scope_of c.args.context.now).types (scope_of c.args.context.now) c.args.line)) c.in_default.is
    ∙ (ap (λ meaning. fine meaning (used c.args.line c.args.name.now (ordinary c.args.name.now (scope_of c.args.context.now).declared) (scope_of c.args.context.now))) (sym made) ∙ ap (λ scope. fine (view_operand c.in_ok-made.made) scope) (sym after))
