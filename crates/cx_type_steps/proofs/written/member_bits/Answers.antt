use Rattle.std.proofs.Common.{rules, ◌≡◌, sym, subst, ap, ◌∙◌, map, option_map}
use Rattle.cx_breaks.specs.Placed.{placed}
use Rattle.cx_context.proofs.Settling.{refused_step, settled_no, settled_ok}
use Rattle.cx_context.specs.Checks.{refusal_of}
use Rattle.cx_context.specs.Views.{scope_of}
use Rattle.cx_core.specs.Views.{view_member, view_type}
use Rattle.cx_kinds.specs.Known.{types_in}
use Rattle.cx_operands.specs.Views.{view_operand}
use Rattle.cx_rules.specs.Nodes.{member_node}
use Rattle.cx_rules.specs.Pieces.{member_of, width_written}
use Rattle.cx_rules.specs.Readings.{fine, check_chain, check_here}
use Rattle.cx_rules.specs.Rules.{rule_at}
use Rattle.cx_type_steps.specs.Written.{member_with}
use Rattle.cx_type_steps.proofs.written.member_bits.Goals as goal

pub returns-in-Some : goal.returns-in-Some
unfolding check_chain check_here
returns-in-Some c = refused_step (member_with c.args.name.now (view_type c.args.ty.now)) _ (scope_of c.args.context.now) _ (refusal_of (scope_of c.args.context.now).unit c.args.line c.in-Some.rule) c.refused.ensures
    (settled_no _ (types_in c.known-known.result) (scope_of c.args.context.now) c.args.line (member_node c.args.is_last c.args.name.now (view_type c.args.ty.now) (option_map view_operand c.args.width.now) (map view_member c.args.before.now)) (member_of (scope_of c.args.context.now).types c.args.name.now (view_type c.args.ty.now) (option_map view_operand c.args.width.now))
    c.member_rule.result c.in-Some.rule c.known-known.ensures.types (subst (λ one. c.member_rule.result ≡ rule_at (placed (types_in c.known-known.result) (scope_of c.args.context.now) c.args.line (member_node c.args.is_last c.args.name.now (view_type c.args.ty.now) one (map view_member c.args.before.now)))) c.operand_in-given.ensures
    (c.member_rule.ensures (scope_of c.args.context.now) c.args.line)) c.in-Some.is)

pub returns : goal.returns
unfolding check_chain check_here
returns c =
    let width : c.in_ok-bits.bits ≡ width_written (scope_of c.args.context.now).types (option_map view_operand c.args.width.now) = search rules in
    settled_ok _ (types_in c.known-known.result) (scope_of c.args.context.now) c.args.line (member_node c.args.is_last c.args.name.now (view_type c.args.ty.now) (option_map view_operand c.args.width.now) (map view_member c.args.before.now)) (member_of (scope_of c.args.context.now).types c.args.name.now (view_type c.args.ty.now) (option_map view_operand c.args.width.now))
    c.member_rule.result c.known-known.ensures.types (subst (λ one. c.member_rule.result ≡ rule_at (placed (types_in c.known-known.result) (scope_of c.args.context.now) c.args.line (member_node c.args.is_last c.args.name.now (view_type c.args.ty.now) one (map view_member c.args.before.now)))) c.operand_in-given.ensures
    (c.member_rule.ensures (scope_of c.args.context.now) c.args.line)) c.in_default.is
    ∙ ap (λ bits. fine (member_with c.args.name.now (view_type c.args.ty.now) bits) (scope_of c.args.context.now)) (sym width)
