use Rattle.std.proofs.Common.{◌≡◌, map, drop}
use Rattle.cx_core.specs.Views.{view_unit}
use Rattle.cx_link.specs.Mains.{has_main}
use Rattle.cx_link.proofs.broken.has_main.Given as goal

abbrev pub invariant-loop-one : goal.invariant-loop-one
invariant-loop-one l = has_main (map view_unit (drop l.one-index l.units)) ≡ has_main (map view_unit l.units)
