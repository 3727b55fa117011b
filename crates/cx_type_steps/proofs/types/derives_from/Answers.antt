use Rattle.std.proofs.Common.{rules, ◌≡◌, sym, subst, ap, ◌∙◌, map, reverse}
use Rattle.cx_breaks.specs.Placed.{placed}
use Rattle.cx_context.specs.Checks.{refusal_of}
use Rattle.cx_context.specs.Views.{scope_of}
use Rattle.cx_core.specs.Views.{view_type}
use Rattle.cx_kinds.specs.Known.{types_in}
use Rattle.cx_rules.specs.Nodes.{derives_node}
use Rattle.cx_rules.specs.Shapes.{derived}
use Rattle.cx_rules.specs.Readings.{fine, check_chain, check_here}
use Rattle.cx_rules.specs.Rules.{rule_at}
use Rattle.cx_shapes.specs.Views.{view_shape, view_step}
use Rattle.cx_context.proofs.Settling.{refused_step, settled_no, settled_ok}
use Rattle.cx_type_steps.proofs.types.derives_from.Goals as goal

pub returns-in-Some : goal.returns-in-Some
unfolding check_chain check_here
returns-in-Some c = refused_step view_type _ (scope_of c.args.context.now) _ (refusal_of (scope_of c.args.context.now).unit c.args.line c.in-Some.rule) c.refused.ensures
    (settled_no _ (types_in c.known-known.result) (scope_of c.args.context.now) c.args.line (derives_node (view_type c.args.from.now) (view_shape c.args.shape.now).steps)
    (derived (view_type c.args.from.now) (view_shape c.args.shape.now).steps)
    c.derives_rule.result c.in-Some.rule c.known-known.ensures.types (subst (λ steps. c.derives_rule.result ≡ rule_at (placed (types_in c.known-known.result) (scope_of c.args.context.now) c.args.line (derives_node (view_type c.args.from.now) (reverse (map view_step steps))))) c.as_slice-steps.ensures (c.derives_rule.ensures (scope_of c.args.context.now) c.args.line (search rules))) c.in-Some.is)

pub returns : goal.returns
unfolding check_chain check_here
returns c =
    let made : view_type c.in_ok-whole.whole ≡ (derived (view_type c.args.from.now) (view_shape c.args.shape.now).steps) = search rules in
    settled_ok _ (types_in c.known-known.result) (scope_of c.args.context.now) c.args.line (derives_node (view_type c.args.from.now) (view_shape c.args.shape.now).steps)
    (derived (view_type c.args.from.now) (view_shape c.args.shape.now).steps)
    c.derives_rule.result c.known-known.ensures.types (subst (λ steps. c.derives_rule.result ≡ rule_at (placed (types_in c.known-known.result) (scope_of c.args.context.now) c.args.line (derives_node (view_type c.args.from.now) (reverse (map view_step steps))))) c.as_slice-steps.ensures (c.derives_rule.ensures (scope_of c.args.context.now) c.args.line (search rules))) c.in_default.is
    ∙ ap (λ meaning. fine meaning (scope_of c.args.context.now)) (sym made)
