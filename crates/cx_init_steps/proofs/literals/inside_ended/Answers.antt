use Rattle.std.proofs.Common.{rules, ◌≡◌, refl, sym, ap, subst, ◌∙◌, None, option_map, is_some, map, true, false}
use Rattle.cx_breaks.specs.Placed.{placed}
use Rattle.cx_kinds.specs.Known.{types_in}
use Rattle.cx_rules.specs.Rules.{rule_at}
use Rattle.cx_context.specs.Checks.{refusal_of}
use Rattle.cx_context.specs.Views.{scope_of}
use Rattle.cx_context.proofs.Settling.{refused_step, settled_no, settled_ok, changed_no, changed_ok}
use Rattle.cx_core.specs.Views.{view_type, view_puts}
use Rattle.cx_init.specs.Views.{view_filling, view_target, view_stored, view_filled}
use Rattle.cx_operands.specs.Views.{view_operand}
use Rattle.cx_parts.specs.Views.{view_at}
use Rattle.cx_rules.specs.Initial.{element_at, member_at}
use Rattle.cx_rules.specs.Nodes.{given_node, element_node, designated_node, literal_node}
use Rattle.cx_rules.specs.Operands.{constant_of, value_of}
use Rattle.cx_rules.specs.Pieces.{at_line, filled, value_facts, value_stored, text_facts, text_stored_at, whole_at, literal_made, literal_meaning}
use Rattle.cx_rules.specs.Readings.{fine, check_chain, check_here}
use Rattle.cx_rules.specs.Scope.{with_object_number, with_made_at}
use Rattle.cx_init_steps.proofs.literals.inside_ended.Goals as goal

pub returns-in-Some : goal.returns-in-Some
unfolding check_chain check_here
returns-in-Some c = refused_step view_operand _ (scope_of c.args.context.now) _ (refusal_of (scope_of c.args.context.now).unit c.args.line c.in-Some.rule) c.refused.ensures
    (changed_no _ (types_in c.known-known.result) (scope_of c.args.context.now) c.args.line (literal_node (view_type c.args.filled.ty))
    (with_made_at c.args.begun.literals (literal_made (scope_of c.args.context.now).in_function c.args.begun.object (view_type c.args.filled.ty) (view_puts c.args.filled.puts)) (scope_of c.args.context.now))
    (literal_meaning (scope_of c.args.context.now).in_function (at_line (scope_of c.args.context.now) c.args.line) c.args.begun.object (view_type c.args.filled.ty) (view_puts c.args.filled.puts))
    c.literal_rule.result c.in-Some.rule c.known-known.ensures.types (subst (λ type. c.literal_rule.result ≡ rule_at (placed (types_in c.known-known.result) (scope_of c.args.context.now) c.args.line (literal_node type))) (search rules) (c.literal_rule.ensures (scope_of c.args.context.now) c.args.line)) c.in-Some.is)

pub returns : goal.returns
unfolding check_chain check_here
returns c =
    let made : view_operand c.in_ok-made.made ≡ (literal_meaning (scope_of c.args.context.now).in_function (at_line (scope_of c.args.context.now) c.args.line) c.args.begun.object (view_type c.args.filled.ty) (view_puts c.args.filled.puts)) = search rules in
    let after : scope_of c.end_literal.new.self ≡ (with_made_at c.args.begun.literals (literal_made (scope_of c.args.context.now).in_function c.args.begun.object (view_type c.args.filled.ty) (view_puts c.args.filled.puts)) (scope_of c.args.context.now)) = search rules in
    changed_ok _ (types_in c.known-known.result) (scope_of c.args.context.now) c.args.line (literal_node (view_type c.args.filled.ty))
    (with_made_at c.args.begun.literals (literal_made (scope_of c.args.context.now).in_function c.args.begun.object (view_type c.args.filled.ty) (view_puts c.args.filled.puts)) (scope_of c.args.context.now))
    (literal_meaning (scope_of c.args.context.now).in_function (at_line (scope_of c.args.context.now) c.args.line) c.args.begun.object (view_type c.args.filled.ty) (view_puts c.args.filled.puts))
    c.literal_rule.result c.known-known.ensures.types (subst (λ type. c.literal_rule.result ≡ rule_at (placed (types_in c.known-known.result) (scope_of c.args.context.now) c.args.line (literal_node type))) (search rules) (c.literal_rule.ensures (scope_of c.args.context.now) c.args.line)) c.in_default.is
    ∙ (ap (λ meaning. fine meaning (with_made_at c.args.begun.literals (literal_made (scope_of c.args.context.now).in_function c.args.begun.object (view_type c.args.filled.ty) (view_puts c.args.filled.puts)) (scope_of c.args.context.now))) (sym made) ∙ ap (λ scope. fine (view_operand c.in_ok-made.made) scope) (sym after))
