use Rattle.std.proofs.Common.{rules, ◌≡◌, option_map, Some, slice_get, length, refl, ap, ◌∙◌}
use Rattle.std.proofs.lemmas.Option.{slice_get-map, slice_get_read}
use Rattle.cx_core.specs.Views.{view_unit}
use Rattle.cx_linked.proofs.parts.Linking.orders.Goals as goal

pub order_of-requires-clause-at : goal.order_of-requires-clause-at
order_of-requires-clause-at c =
    let there : slice_get c.args.self.now.named.units.now c.loop-unit.unit ≡ Some c.index-units-unit.result =
    slice_get_read c.args.self.now.named.units.now (length c.args.self.now.named.units.now) c.loop-unit.unit c.index-units-unit.result refl (search rules) c.index-units-unit.is in
    slice_get-map view_unit c.args.self.now.named.units.now c.loop-unit.unit ∙ ap (option_map view_unit) there
