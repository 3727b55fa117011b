use Rattle.std.proofs.Common.{rules, ◌≡◌, refl, sym, ap, ◌∙◌, false, map, option_map}
use Rattle.cx_context.proofs.Settling.{refused_step, changed_no, changed_ok}
use Rattle.cx_context.specs.Checks.{refusal_of}
use Rattle.cx_context.specs.Views.{scope_of}
use Rattle.cx_core.specs.Trees.{ty, record_type}
use Rattle.cx_core.specs.Views.{view_member, view_record}
use Rattle.cx_rules.specs.Nodes.{record_node}
use Rattle.cx_rules.specs.Readings.{fine, check_chain, check_here}
use Rattle.cx_rules.specs.Scope.{with_completed}
use Rattle.cx_rules.specs.Shapes.{with_type}
use Rattle.cx_scope.specs.Views.{view_tag}
use Rattle.cx_shapes.specs.Views.{view_specs}
use Rattle.cx_type_steps.proofs.records.record_completed.Goals as goal

pub returns-in-Some : goal.returns-in-Some
unfolding check_chain check_here
returns-in-Some c =
    refused_step (λ (_ : Unit {0}). view_specs c.args.specs.now) _ (scope_of c.args.context.now) _ (refusal_of (scope_of c.args.context.now).unit c.args.line c.in-Some.rule) c.refused.ensures
    (changed_no _ (scope_of c.args.context.now).types (scope_of c.args.context.now) c.args.line (record_node c.args.one.is_union (option_map view_tag c.args.begun.found) c.args.one.number (map view_member c.args.one.members))
    (with_completed c.args.one.number (view_record c.args.one) (scope_of c.args.context.now))
    (with_type (ty (record_type c.args.one.number) false) (view_specs c.args.specs.now))
    c.in_ok-found.found c.in-Some.rule refl (c.in_ok-found.ensures c.args.line) c.in-Some.is)

pub returns : goal.returns
unfolding check_chain check_here
returns c =
    changed_ok _ (scope_of c.args.context.now).types (scope_of c.args.context.now) c.args.line (record_node c.args.one.is_union (option_map view_tag c.args.begun.found) c.args.one.number (map view_member c.args.one.members))
    (with_completed c.args.one.number (view_record c.args.one) (scope_of c.args.context.now))
    (with_type (ty (record_type c.args.one.number) false) (view_specs c.args.specs.now))
    c.in_ok-found.found refl (c.in_ok-found.ensures c.args.line) c.in_default.is
    ∙ (ap (λ meaning. fine meaning (with_completed c.args.one.number (view_record c.args.one) (scope_of c.args.context.now))) (sym c.in_ok-record_added.ensures.specs)
    ∙ ap (λ scope. fine (view_specs c.record_added.new.specs) scope) (sym c.in_ok-record_added.ensures.scope))
