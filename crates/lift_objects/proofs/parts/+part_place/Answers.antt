use Rattle.std.proofs.Common.{rules, ◌≡◌, ◌==◌, ◌/◌, ◌%◌, false}
use Rattle.cx_core.specs.Views.{view_type}
use Rattle.lift_exprs.specs.Names.{type_in}
use Rattle.lift_exprs.specs.Objects.{element_place, part_of_element, part_place}
use Rattle.lift_stores.specs.Names.{lift_names}
use Rattle.rs_items.specs.Known.{view_names}
use Rattle.rs_tree.specs.Views.{ty_view, place_view}
use Rattle.lift_objects.proofs.Elements.{element_part}
use Rattle.lift_objects.proofs.parts.+part_place.Goals as goal

pub part_of_element-returns-in_ok-there : goal.part_of_element-returns-in_ok-there
part_of_element-returns-in_ok-there t c =
    let size : c.in_ok-size.size ≡ (lift_names (view_names c.args.names.now)).size_of (view_type c.args.element.now) = search rules in
    let some : (c.in_ok-size.size == 0) ≡ false = search rules in
    let one : ty_view c.get.result.now ≡ type_in (lift_names (view_names c.args.names.now)) (view_type c.args.element.now) = search rules in
    let there : place_view c.in_ok-there.there ≡ element_place (c.args.byte / c.in_ok-size.size) (place_view c.args.place) (ty_view c.get.result.now) = search rules in
    let same : part_place (lift_names (view_names c.args.names.now)) (view_type c.args.element.now) (place_view c.in_ok-there.there) (c.args.byte % c.in_ok-size.size) (ty_view c.args.part.now)
    ≡ part_of_element (lift_names (view_names c.args.names.now)) (view_type c.args.element.now) (place_view c.args.place) c.args.byte (ty_view c.args.part.now) =
    element_part (lift_names (view_names c.args.names.now)) (view_type c.args.element.now) (place_view c.args.place) c.args.byte (ty_view c.args.part.now) _ _ _ size some one there in
    search rules
