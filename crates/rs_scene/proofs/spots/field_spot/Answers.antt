use Rattle.std.proofs.Common.{map}
use Rattle.rs_tree.specs.Views.{module_view, ty_view}
use Rattle.rs_scene.proofs.Spotted.{not_record}
use Rattle.rs_scene.proofs.spots.field_spot.Goals as goal

pub returns-in_default : goal.returns-in_default
returns-in_default g c = not_record (map module_view c.args.modules.now) c.args.name.now c.args.whole.is_based (ty_view c.args.whole.ty.now) c.args.whole.at _ c.in_default.ensures
