use Rattle.std.proofs.Common.{rules, ◌≡◌, ap}
use Rattle.cx_core.specs.Views.{view_type}
use Rattle.lift_exprs.specs.Names.{type_in}
use Rattle.lift_exprs.specs.Objects.{part_place}
use Rattle.lift_stores.specs.Names.{lift_names}
use Rattle.rs_items.specs.Known.{view_names}
use Rattle.rs_tree.specs.Views.{ty_view, place_view}
use Rattle.lift_objects.proofs.parts.whole_part.Goals as goal

pub returns-clause-made : goal.returns-clause-made
returns-clause-made c =
    let part : ty_view c.get.result.now ≡ type_in (lift_names (view_names c.args.names.now)) (view_type c.args.ty.now) = search rules in
    let there : part_place (lift_names (view_names c.args.names.now)) (view_type c.args.object.now) (place_view c.args.place) c.args.byte (ty_view c.get.result.now)
    ≡ part_place (lift_names (view_names c.args.names.now)) (view_type c.args.object.now) (place_view c.args.place) c.args.byte (type_in (lift_names (view_names c.args.names.now)) (view_type c.args.ty.now)) =
    ap (λ one. part_place (lift_names (view_names c.args.names.now)) (view_type c.args.object.now) (place_view c.args.place) c.args.byte one) part in
    search rules
