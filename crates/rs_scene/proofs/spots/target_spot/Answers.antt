use Rattle.std.proofs.Common.{map}
use Rattle.rs_tree.specs.Views.{module_view, ty_view}
use Rattle.rs_value.specs.Views.{value_ty_view}
use Rattle.rs_scene.proofs.Spotted.{not_pointer, points_to}
use Rattle.rs_scene.proofs.spots.target_spot.Goals as goal

pub returns-in_default : goal.returns-in_default
returns-in_default g c = not_pointer (map module_view c.args.modules.now) (value_ty_view c.args.pointer.ty) c.args.pointer.value _ c.in_default.ensures

pub returns : goal.returns
returns g c =
    points_to (map module_view c.args.modules.now) (value_ty_view c.args.pointer.ty) (ty_view c.in-Some.ty.now) c.args.pointer.value _ _
    c.in-Some.ensures c.is_base.ensures
