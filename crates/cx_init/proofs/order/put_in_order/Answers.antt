use Rattle.std.proofs.Common.{ap, ◌∙◌, map, reverse}
use Rattle.cx_init.proofs.Ordering.{inserted}
use Rattle.cx_init.specs.Orders.{place_among}
use Rattle.cx_init.specs.Views.{view_stored}
use Rattle.cx_init.proofs.order.put_in_order.Goals as goal

pub returns : goal.returns
returns c =
    inserted view_stored c.args.sorted.now.items c.insert.new.self.items c.args.one c.place_among-place.result
    (c.place_among-place.ensures.place ∙ ap (λ held. place_among (reverse (map view_stored held)) c.as_slice-2.result.now) c.as_slice.ensures.value
    ∙ ap (place_among (reverse (map view_stored c.args.sorted.now.items))) c.as_slice-2.ensures)
    c.in_ok-insert.ensures.items
