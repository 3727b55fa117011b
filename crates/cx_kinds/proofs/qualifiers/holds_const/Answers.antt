use Rattle.std.proofs.Common.{◌∙◌, ap, map, option_map}
use Rattle.cx_core.specs.Layouts.{completed_count}
use Rattle.cx_core.specs.Views.{view_type, view_types, view_record}
use Rattle.cx_kinds.proofs.Qualifying.{holds_by}
use Rattle.cx_kinds.proofs.qualifiers.holds_const.Goals as goal

pub returns : goal.returns
returns c = c.const_in.ensures ∙ holds_by (view_types c.args.types.now) c.completed_count.result (view_type c.args.t.now)
    (c.completed_count.ensures ∙ ap (λ r. completed_count (map (option_map view_record) r)) c.as_slice.ensures)
