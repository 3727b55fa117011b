use Rattle.std.proofs.Common.{rules, ◌≡◌, refl, sym, ap, ◌∙◌}
use Rattle.cx_context.proofs.Settling.{refused_step, settled_no, settled_ok}
use Rattle.cx_context.specs.Checks.{refusal_of}
use Rattle.cx_context.specs.Views.{scope_of}
use Rattle.cx_decl_steps.specs.Views.{view_meant}
use Rattle.cx_rules.specs.Nodes.{empty_node}
use Rattle.cx_rules.specs.Readings.{fine, check_chain, check_here}
use Rattle.cx_rules.specs.UnitWalk.{nothing_meant}
use Rattle.cx_shapes.specs.Views.{view_specs}
use Rattle.cx_decl_steps.proofs.nodes.empty_seen.Goals as goal

pub returns-in-Some : goal.returns-in-Some
unfolding check_chain check_here
returns-in-Some c =
    refused_step view_meant _ (scope_of c.args.context.now) _ (refusal_of (scope_of c.args.context.now).unit c.args.line c.in-Some.rule) c.refused.ensures
    (settled_no _ (scope_of c.args.context.now).types (scope_of c.args.context.now) c.args.line (empty_node (view_specs c.args.specs.now)) nothing_meant
    c.empty_rule.result c.in-Some.rule refl (c.empty_rule.ensures (scope_of c.args.context.now).types (scope_of c.args.context.now) c.args.line) c.in-Some.is)

pub returns : goal.returns
unfolding check_chain check_here
returns c =
    let made : view_meant c.new.result ≡ nothing_meant = search rules in
    settled_ok _ (scope_of c.args.context.now).types (scope_of c.args.context.now) c.args.line (empty_node (view_specs c.args.specs.now)) nothing_meant
    c.empty_rule.result refl (c.empty_rule.ensures (scope_of c.args.context.now).types (scope_of c.args.context.now) c.args.line) c.in_default.is
    ∙ ap (λ meaning. fine meaning (scope_of c.args.context.now)) (sym made)
