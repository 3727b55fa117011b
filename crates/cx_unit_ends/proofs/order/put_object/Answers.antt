use Rattle.std.proofs.Common.{ap, ◌∙◌, map, reverse}
use Rattle.cx_core.specs.Views.{view_object}
use Rattle.cx_unit_ends.proofs.Ordering.{put_held}
use Rattle.cx_unit_ends.specs.Ends.{place_of}
use Rattle.cx_unit_ends.proofs.order.put_object.Goals as goal

pub returns : goal.returns
returns c =
    put_held view_object c.args.held.now.items c.insert.new.self.items c.args.one c.place_of-place.result
    (c.place_of-place.ensures.place ∙ ap (λ held. place_of (reverse (map view_object held)) c.args.one.object) c.as_slice.ensures.value)
    c.in_ok-insert.ensures.items
