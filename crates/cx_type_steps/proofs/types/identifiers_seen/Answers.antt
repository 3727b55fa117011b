use Rattle.std.proofs.Common.{rules, ◌≡◌, refl, sym, ap, ◌∙◌, false, None}
use Rattle.cx_context.specs.Checks.{refusal_of}
use Rattle.cx_context.specs.Views.{scope_of}
use Rattle.cx_rules.specs.Nodes.{identifiers_node}
use Rattle.cx_rules.specs.Shapes.{to_function, step_before}
use Rattle.std.proofs.Common.{[]}
use Rattle.cx_rules.specs.Readings.{fine, check_chain, check_here}
use Rattle.cx_shapes.specs.Views.{view_shape}
use Rattle.cx_context.proofs.Settling.{refused_step, settled_no, settled_ok}
use Rattle.cx_type_steps.proofs.types.identifiers_seen.Goals as goal

pub returns-in-Some : goal.returns-in-Some
unfolding check_chain check_here
returns-in-Some c = refused_step view_shape _ (scope_of c.args.context.now) _ (refusal_of (scope_of c.args.context.now).unit c.args.line c.in-Some.rule) c.refused.ensures
    (settled_no _ (scope_of c.args.context.now).types (scope_of c.args.context.now) c.args.line (identifiers_node c.args.names.now)
    (step_before (to_function None false []) (view_shape c.args.shape))
    c.identifiers_rule.result c.in-Some.rule refl (c.identifiers_rule.ensures (scope_of c.args.context.now).types (scope_of c.args.context.now) c.args.line) c.in-Some.is)

pub returns : goal.returns
unfolding check_chain check_here
returns c =
    let made : view_shape c.in_ok-made.made ≡ (step_before (to_function None false []) (view_shape c.args.shape)) = search rules in
    settled_ok _ (scope_of c.args.context.now).types (scope_of c.args.context.now) c.args.line (identifiers_node c.args.names.now)
    (step_before (to_function None false []) (view_shape c.args.shape))
    c.identifiers_rule.result refl (c.identifiers_rule.ensures (scope_of c.args.context.now).types (scope_of c.args.context.now) c.args.line) c.in_default.is
    ∙ ap (λ meaning. fine meaning (scope_of c.args.context.now)) (sym made)
