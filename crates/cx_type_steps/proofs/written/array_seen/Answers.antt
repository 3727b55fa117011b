use Rattle.std.proofs.Common.{rules, ◌≡◌, sym, subst, ap, ◌∙◌, option_map}
use Rattle.cx_breaks.specs.Placed.{placed}
use Rattle.cx_context.specs.Checks.{refusal_of}
use Rattle.cx_context.specs.Views.{scope_of}
use Rattle.cx_kinds.specs.Known.{types_in}
use Rattle.cx_operands.specs.Views.{view_operand}
use Rattle.cx_rules.specs.Readings.{fine, check_chain, check_here}
use Rattle.cx_rules.specs.Rules.{rule_at}
use Rattle.cx_shapes.specs.Views.{view_step}
use Rattle.cx_context.proofs.Settling.{refused_step, settled_no, settled_ok}
use Rattle.cx_rules.specs.Nodes.{array_node}
use Rattle.cx_rules.specs.Pieces.{length_written}
use Rattle.cx_rules.specs.Shapes.{to_array}
use Rattle.cx_type_steps.proofs.written.array_seen.Goals as goal

pub returns-in-Some : goal.returns-in-Some
unfolding check_chain check_here
returns-in-Some c = refused_step view_step _ (scope_of c.args.context.now) _ (refusal_of (scope_of c.args.context.now).unit c.args.line c.in-Some.rule) c.refused.ensures
    (settled_no _ (types_in c.known-known.result) (scope_of c.args.context.now) c.args.line (array_node c.args.is_plain (option_map view_operand c.args.written)) (to_array (length_written (scope_of c.args.context.now).types (option_map view_operand c.args.written)))
    c.array_rule.result c.in-Some.rule c.known-known.ensures.types (subst (λ one. c.array_rule.result ≡ rule_at (placed (types_in c.known-known.result) (scope_of c.args.context.now) c.args.line (array_node c.args.is_plain one))) c.operand_in-given.ensures (c.array_rule.ensures (scope_of c.args.context.now) c.args.line)) c.in-Some.is)

pub returns : goal.returns
unfolding check_chain check_here
returns c =
    let made : to_array c.in_ok-length.length ≡ to_array (length_written (scope_of c.args.context.now).types (option_map view_operand c.args.written)) = search rules in
    settled_ok _ (types_in c.known-known.result) (scope_of c.args.context.now) c.args.line (array_node c.args.is_plain (option_map view_operand c.args.written)) (to_array (length_written (scope_of c.args.context.now).types (option_map view_operand c.args.written)))
    c.array_rule.result c.known-known.ensures.types (subst (λ one. c.array_rule.result ≡ rule_at (placed (types_in c.known-known.result) (scope_of c.args.context.now) c.args.line (array_node c.args.is_plain one))) c.operand_in-given.ensures (c.array_rule.ensures (scope_of c.args.context.now) c.args.line)) c.in_default.is
    ∙ ap (λ meaning. fine meaning (scope_of c.args.context.now)) (sym made)
