use Rattle.std.proofs.Common.{rules, ◌≡◌, refl, sym, subst, ap, ◌∙◌, option_map}
use Rattle.cx_breaks.specs.Placed.{placed}
use Rattle.cx_context.specs.Checks.{refusal_of}
use Rattle.cx_context.specs.Views.{scope_of}
use Rattle.cx_core.specs.Views.{view_type}
use Rattle.cx_rules.specs.Nodes.{param_node}
use Rattle.cx_rules.specs.Pieces.{param_of, with_param}
use Rattle.cx_rules.specs.Readings.{fine, check_chain, check_here}
use Rattle.cx_rules.specs.Rules.{rule_at}
use Rattle.cx_scope.specs.Views.{view_param}
use Rattle.cx_shapes.specs.Views.{view_specs}
use Rattle.cx_context.proofs.Settling.{refused_step, changed_no, changed_ok}
use Rattle.cx_type_steps.proofs.params.param_seen.Goals as goal

pub returns-in-Some : goal.returns-in-Some
unfolding check_chain check_here
returns-in-Some c = refused_step (option_map view_param) _ (scope_of c.args.context.now) _ (refusal_of (scope_of c.args.context.now).unit c.args.line c.in-Some.rule) c.refused.ensures
    (changed_no _ (scope_of c.args.context.now).types (scope_of c.args.context.now) c.args.line (param_node c.args.is_only (view_specs c.args.specs.now) c.args.name (view_type c.args.ty))
    (with_param (param_of (scope_of c.args.context.now) (view_specs c.args.specs.now) c.args.name (view_type c.args.ty)) (scope_of c.args.context.now))
    (param_of (scope_of c.args.context.now) (view_specs c.args.specs.now) c.args.name (view_type c.args.ty))
    c.param_rule.result c.in-Some.rule refl
    (subst (λ one. c.param_rule.result ≡ rule_at (placed (scope_of c.args.context.now).types (scope_of c.args.context.now) c.args.line (param_node c.args.is_only (view_specs c.args.specs.now) c.args.name (view_type one))))
    c.get-t.ensures (c.param_rule.ensures (scope_of c.args.context.now).types (scope_of c.args.context.now) c.args.line (sym c.is_taken_by-taken.ensures))) c.in-Some.is)

pub returns : goal.returns
unfolding check_chain check_here
returns c =
    let made : option_map view_param c.in_ok-made.made ≡ param_of (scope_of c.args.context.now) (view_specs c.args.specs.now) c.args.name (view_type c.args.ty) = search rules in
    let after : scope_of c.param_added.new.context ≡ with_param (param_of (scope_of c.args.context.now) (view_specs c.args.specs.now) c.args.name (view_type c.args.ty)) (scope_of c.args.context.now) = search rules in
    changed_ok _ (scope_of c.args.context.now).types (scope_of c.args.context.now) c.args.line (param_node c.args.is_only (view_specs c.args.specs.now) c.args.name (view_type c.args.ty))
    (with_param (param_of (scope_of c.args.context.now) (view_specs c.args.specs.now) c.args.name (view_type c.args.ty)) (scope_of c.args.context.now))
    (param_of (scope_of c.args.context.now) (view_specs c.args.specs.now) c.args.name (view_type c.args.ty))
    c.param_rule.result refl
    (subst (λ one. c.param_rule.result ≡ rule_at (placed (scope_of c.args.context.now).types (scope_of c.args.context.now) c.args.line (param_node c.args.is_only (view_specs c.args.specs.now) c.args.name (view_type one))))
    c.get-t.ensures (c.param_rule.ensures (scope_of c.args.context.now).types (scope_of c.args.context.now) c.args.line (sym c.is_taken_by-taken.ensures))) c.in_default.is
    ∙ (ap (λ meaning. fine meaning (with_param (param_of (scope_of c.args.context.now) (view_specs c.args.specs.now) c.args.name (view_type c.args.ty)) (scope_of c.args.context.now))) (sym made)
    ∙ ap (λ scope. fine (option_map view_param c.in_ok-made.made) scope) (sym after))
