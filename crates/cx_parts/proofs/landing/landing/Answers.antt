use Rattle.std.proofs.Common.{◌≡◌, IfOk, map, option_map, subst, ap, ◌∙◌}
use Rattle.cx_core.specs.Layouts.{completed_count}
use Rattle.cx_core.specs.Views.{view_record, view_type, view_types}
use Rattle.cx_parts.proofs.Landings.{landing_by}
use Rattle.cx_parts.specs.Views.{view_kind}
use Rattle.cx_parts.proofs.landing.landing.Goals as goal

pub returns : goal.returns
returns c = subst (λ lands. IfOk c.lands_in.result (λ made. made ≡ lands))
    (landing_by (view_types c.args.types.now) (view_kind c.args.kind) c.completed_count.result (view_type c.args.t.now)
    (c.completed_count.ensures ∙ ap (λ r. completed_count (map (option_map view_record) r)) c.as_slice.ensures))
    c.lands_in.ensures
