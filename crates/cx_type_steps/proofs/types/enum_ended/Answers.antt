use Rattle.std.proofs.Common.{rules, ◌≡◌, refl, sym, ap, ◌∙◌, false, option_map}
use Rattle.cx_context.specs.Checks.{refusal_of}
use Rattle.cx_context.specs.Views.{scope_of}
use Rattle.cx_core.specs.Trees.{ty, enum_type}
use Rattle.cx_rules.specs.Nodes.{enum_node}
use Rattle.cx_rules.specs.Pieces.{with_closed_enum}
use Rattle.cx_rules.specs.Shapes.{with_type}
use Rattle.cx_rules.specs.Readings.{fine, check_chain, check_here}
use Rattle.cx_scope.specs.Views.{view_tag}
use Rattle.cx_shapes.specs.Views.{view_specs}
use Rattle.cx_context.proofs.Settling.{refused_step, changed_no, changed_ok}
use Rattle.cx_type_steps.proofs.types.enum_ended.Goals as goal

pub returns-in-Some : goal.returns-in-Some
unfolding check_chain check_here
returns-in-Some c = refused_step (λ (_ : Unit {0}). view_specs c.args.specs.now) _ (scope_of c.args.context.now) _ (refusal_of (scope_of c.args.context.now).unit c.args.line c.in-Some.rule) c.refused.ensures
    (changed_no _ (scope_of c.args.context.now).types (scope_of c.args.context.now) c.args.line (enum_node (option_map view_tag c.args.begun.found))
    (with_closed_enum c.args.name.now c.args.begun.number c.args.negative (scope_of c.args.context.now))
    (with_type (ty (enum_type c.args.begun.number) false) (view_specs c.args.specs.now))
    c.enum_rule.result c.in-Some.rule refl (c.enum_rule.ensures (scope_of c.args.context.now).types (scope_of c.args.context.now) c.args.line) c.in-Some.is)

pub returns : goal.returns
unfolding check_chain check_here
returns c =
    let made : view_specs c.add_enum.new.specs ≡ (with_type (ty (enum_type c.args.begun.number) false) (view_specs c.args.specs.now)) = search rules in
    let after : scope_of c.end_enum.new.self ≡ (with_closed_enum c.args.name.now c.args.begun.number c.args.negative (scope_of c.args.context.now)) = search rules in
    changed_ok _ (scope_of c.args.context.now).types (scope_of c.args.context.now) c.args.line (enum_node (option_map view_tag c.args.begun.found))
    (with_closed_enum c.args.name.now c.args.begun.number c.args.negative (scope_of c.args.context.now))
    (with_type (ty (enum_type c.args.begun.number) false) (view_specs c.args.specs.now))
    c.enum_rule.result refl (c.enum_rule.ensures (scope_of c.args.context.now).types (scope_of c.args.context.now) c.args.line) c.in_default.is
    ∙ (ap (λ meaning. fine meaning (with_closed_enum c.args.name.now c.args.begun.number c.args.negative (scope_of c.args.context.now))) (sym made) ∙ ap (λ scope. fine (view_specs c.add_enum.new.specs) scope) (sym after))
