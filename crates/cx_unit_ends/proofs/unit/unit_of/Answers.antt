use Rattle.std.proofs.Common.{◌≡◌, IfOk, ap, ◌∙◌, subst, map}
use Rattle.cx_core.specs.Views.{view_key, view_unit}
use Rattle.cx_scope.specs.Views.{view_scope, view_thing}
use Rattle.cx_unit_ends.proofs.UnitLaws.{unit_is}
use Rattle.cx_unit_ends.specs.Ends as ends
use Rattle.cx_unit_ends.proofs.unit.unit_of.Goals as goal

pub returns : goal.returns
unfolding view_scope
returns c =
    subst (λ unit. IfOk c.unit_behind.result (λ made. view_unit made ≡ unit))
    (ap (λ externals. ends.unit_behind (view_scope c.args.scope) externals (map view_key c.in_ok-keys.keys)) (c.in_ok-externals.ensures ∙ ap (λ things. ends.outers_of (map view_thing things)) c.as_slice.ensures)
    ∙ ap (ends.unit_behind (view_scope c.args.scope) (ends.outers_of (view_scope c.args.scope).things)) (c.in_ok-keys.ensures ∙ ap (λ things. map ends.key_of (map view_thing things)) c.as_slice-2.ensures)
    ∙ unit_is (view_scope c.args.scope))
    c.unit_behind.ensures
