use Rattle.std.proofs.Common.{◌≡◌, refl, sym, ap, ◌∙◌}
use Rattle.cx_context.specs.Checks.{refusal_of}
use Rattle.cx_context.specs.Views.{scope_of}
use Rattle.cx_rules.specs.Nodes.{specs_node}
use Rattle.cx_rules.specs.Readings.{fine, check_chain, check_here}
use Rattle.cx_shapes.specs.Views.{view_specs}
use Rattle.cx_context.proofs.Settling.{refused_step, settled_no, settled_ok}
use Rattle.cx_type_steps.proofs.types.specs_seen.Goals as goal

pub returns-in-Some : goal.returns-in-Some
unfolding check_chain check_here
returns-in-Some c = refused_step (λ (_ : Unit {0}). view_specs c.args.specs.now) _ (scope_of c.args.context.now) _ (refusal_of (scope_of c.args.context.now).unit c.args.line c.in-Some.rule) c.refused.ensures
    (settled_no _ (scope_of c.args.context.now).types (scope_of c.args.context.now) c.args.line (specs_node c.args.place (view_specs c.args.specs.now))
    (view_specs c.args.specs.now)
    c.in_ok-found.found c.in-Some.rule refl (c.in_ok-found.ensures (scope_of c.args.context.now).types (scope_of c.args.context.now) c.args.line) c.in-Some.is)

pub returns : goal.returns
unfolding check_chain check_here
returns c =
    let made : view_specs c.args.specs.now ≡ (view_specs c.args.specs.now) = refl in
    settled_ok _ (scope_of c.args.context.now).types (scope_of c.args.context.now) c.args.line (specs_node c.args.place (view_specs c.args.specs.now))
    (view_specs c.args.specs.now)
    c.in_ok-found.found refl (c.in_ok-found.ensures (scope_of c.args.context.now).types (scope_of c.args.context.now) c.args.line) c.in_default.is
    ∙ ap (λ meaning. fine meaning (scope_of c.args.context.now)) (sym made)
