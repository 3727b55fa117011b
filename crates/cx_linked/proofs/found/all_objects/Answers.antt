use Rattle.std.proofs.Common.{rules, ◌≡◌, Some, slice_get, length, refl}
use Rattle.std.proofs.lemmas.Option.{slice_get_read}
use Rattle.cx_core.specs.Trees.{CUnit}
use Rattle.cx_core.specs.Views.{view_unit}
use Rattle.cx_linked.specs.Found.{found_in}
use Rattle.cx_linked.proofs.Gathered.{each_goes}
use Rattle.cx_linked.proofs.found.all_objects.Goals as goal

pub loop-unit-preserved : goal.loop-unit-preserved
loop-unit-preserved c =
    let there : slice_get c.args.units.now c.loop-unit.unit ≡ Some c.index-units-unit.result =
    slice_get_read c.args.units.now (length c.args.units.now) c.loop-unit.unit c.index-units-unit.result refl (search rules) c.index-units-unit.is in
    each_goes view_unit (found_in (λ (home : CUnit). home.objects)) _ _ _ c.loop-unit.unit _ c.args.units.now c.index-units-unit.result there (search rules) (search rules) c.loop-unit.invariant
