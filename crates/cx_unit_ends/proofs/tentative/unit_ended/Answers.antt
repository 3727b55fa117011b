use Rattle.std.proofs.Common.{ap, sym, ◌∙◌, map}
use Rattle.cx_context.specs.Views.{scope_of}
use Rattle.cx_decl_steps.specs.Steps as steps
use Rattle.cx_rules.specs.Readings.{fine}
use Rattle.cx_rules.specs.UnitWalk.{tentative_things}
use Rattle.cx_scope.specs.Views.{view_scope, view_thing}
use Rattle.cx_unit_ends.proofs.TentativeLaws.{unit_stops, unit_fine}
use Rattle.cx_unit_ends.proofs.tentative.unit_ended.Goals as goal

pub returns-in-Err : goal.returns-in-Err
unfolding view_scope
returns-in-Err c = λ refusal f.
    unit_stops (scope_of c.args.context) refusal
    (ap (λ things. steps.tentatives_seen (tentative_things (map view_thing things)) (scope_of c.args.context)) (sym c.as_slice.ensures) ∙ c.in-Err.ensures refusal f)

pub returns-in_ok-unit_of-in-Ok : goal.returns-in_ok-unit_of-in-Ok
unfolding view_scope
returns-in_ok-unit_of-in-Ok c =
    unit_fine (scope_of c.args.context)
    (ap (λ things. steps.tentatives_seen (tentative_things (map view_thing things)) (scope_of c.args.context)) (sym c.as_slice.ensures) ∙ c.in-Ok.ensures)
    ∙ ap (λ made. fine made (scope_of c.args.context)) (sym c.in_ok-unit_of-in-Ok.ensures)
