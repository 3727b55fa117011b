use Rattle.std.proofs.Common.{◌≡◌, ◌++◌, map, drop}
use Rattle.cx_core.specs.Trees.{CUnit}
use Rattle.cx_core.specs.Views.{view_object, view_unit}
use Rattle.cx_links.specs.Program.{from_each}
use Rattle.cx_linked.specs.Found.{all_found, found_in, view_found}
use Rattle.cx_linked.proofs.found.all_objects.Given as goal

abbrev pub invariant-loop-unit : goal.invariant-loop-unit
invariant-loop-unit l = map (view_found view_object) l.all ++ from_each (found_in (λ (home : CUnit). home.objects)) l.unit (map view_unit (drop l.unit l.units))
    ≡ all_found (λ (home : CUnit). home.objects) (map view_unit l.units)
