use Rattle.std.proofs.Common.{rules, ◌≡◌, sym, subst, ap, ◌∙◌}
use Rattle.cx_breaks.specs.Placed.{placed}
use Rattle.cx_rules.specs.Rules.{rule_at}
use Rattle.cx_context.specs.Checks.{refusal_of}
use Rattle.cx_context.specs.Views.{scope_of}
use Rattle.cx_kinds.specs.Known.{types_in}
use Rattle.cx_operands.specs.Views.{view_operand}
use Rattle.cx_rules.specs.Initial.{text_type}
use Rattle.cx_rules.specs.Nodes.{literal_node}
use Rattle.cx_rules.specs.Pieces.{text_meaning, with_text}
use Rattle.cx_rules.specs.Readings.{fine, check_chain, check_here}
use Rattle.cx_context.proofs.Settling.{refused_step, changed_no, changed_ok}
use Rattle.cx_expr_steps.proofs.uses.bytes_seen.Goals as goal

pub returns-in-Some : goal.returns-in-Some
unfolding check_chain check_here
returns-in-Some c = refused_step view_operand _ (scope_of c.args.context.now) _ (refusal_of (scope_of c.args.context.now).unit c.args.line c.in-Some.rule) c.refused.ensures
    (changed_no _ (types_in c.known-known.result) (scope_of c.args.context.now) c.args.line (literal_node (text_type c.args.bytes.now))
    (with_text c.args.line c.args.bytes.now (scope_of c.args.context.now))
    (text_meaning (scope_of c.args.context.now) c.args.line c.args.bytes.now)
    c.literal_rule.result c.in-Some.rule c.known-known.ensures.types (subst (λ type. c.literal_rule.result ≡ rule_at (placed (types_in c.known-known.result) (scope_of c.args.context.now) c.args.line (literal_node type))) (search rules) (c.literal_rule.ensures (scope_of c.args.context.now) c.args.line)) c.in-Some.is)

pub returns : goal.returns
unfolding check_chain check_here
returns c =
    let made : view_operand c.in_ok-made.made ≡ (text_meaning (scope_of c.args.context.now) c.args.line c.args.bytes.now) = search rules in
    let after : scope_of c.add_text.new.self ≡ (with_text c.args.line c.args.bytes.now (scope_of c.args.context.now)) = search rules in
    changed_ok _ (types_in c.known-known.result) (scope_of c.args.context.now) c.args.line (literal_node (text_type c.args.bytes.now))
    (with_text c.args.line c.args.bytes.now (scope_of c.args.context.now))
    (text_meaning (scope_of c.args.context.now) c.args.line c.args.bytes.now)
    c.literal_rule.result c.known-known.ensures.types (subst (λ type. c.literal_rule.result ≡ rule_at (placed (types_in c.known-known.result) (scope_of c.args.context.now) c.args.line (literal_node type))) (search rules) (c.literal_rule.ensures (scope_of c.args.context.now) c.args.line)) c.in_default.is
    ∙ (ap (λ meaning. fine meaning (with_text c.args.line c.args.bytes.now (scope_of c.args.context.now))) (sym made) ∙ ap (λ scope. fine (view_operand c.in_ok-made.made) scope) (sym after))
