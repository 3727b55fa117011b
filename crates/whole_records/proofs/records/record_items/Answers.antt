use Rattle.std.proofs.Common.{◌≡◌, List, Some, ap, map, option_map, slice_get, sym, ◌∙◌}
use Rattle.std.proofs.lemmas.Option.{slice_get-map}
use Rattle.std.specs.Option.{option_copied}
use Rattle.cx_core.specs.Views.{view_order}
use Rattle.cx_core.specs.declared.program.Parts.{Parts}
use Rattle.rs_tree.specs.Views.{item_view}
use Rattle.rs_tree.specs.declared.item.Item.{Item}
use Rattle.whole_given.specs.Whole.{named}
use Rattle.whole_records.proofs.Kept.{items_are}
use Rattle.whole_records.proofs.records.record_items.Goals as goal

pub returns-clause-items : goal.returns-clause-items
returns-clause-items c =
    let whole = named c.args.whole.now in
    let order = c.in-Some.order.now in
    let there : slice_get c.parts.result.now.orders c.args.unit ≡ Some order = sym c.get.ensures.value ∙ ap option_copied c.in-Some.is in
    let here : slice_get c.args.whole.now.0.orders c.args.unit ≡ Some order = sym (ap (λ (parts : Parts). slice_get parts.orders c.args.unit) c.parts.ensures) ∙ there in
    items_are whole c.args.unit (view_order order) c.as_slice.result.now (map item_view c.new-items.result) (map item_view c.write_numbers.new.items)
    (slice_get-map view_order c.args.whole.now.0.orders c.args.unit ∙ ap (option_map view_order) here) c.as_slice.ensures (ap (λ (list : List Item). map item_view list) c.new-items.ensures)
    c.in_ok-write_numbers.ensures.items
