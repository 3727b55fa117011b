use Rattle.rs_scene.proofs.Spotted.{no_field, some_field, wrong_field}
use Rattle.rs_scene.proofs.spots.placed_spot.Goals as goal

pub returns-in_default : goal.returns-in_default
returns-in_default g c = no_field c.args.is_based c.args.at c.args.place _ c.in_default.is

pub returns-in-Ok : goal.returns-in-Ok
returns-in-Ok g c = some_field c.args.is_based c.args.at c.in-Ok.at c.args.place c.in-Some.place _ c.in-Some.is c.in-Ok.ensures

pub returns-in-Err : goal.returns-in-Err
returns-in-Err g c = wrong_field c.args.is_based c.args.at c.in-Err.why c.args.place c.in-Some.place _ c.in-Some.is c.in-Err.ensures
