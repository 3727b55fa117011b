use Rattle.std.proofs.Common.{◌≡◌, map, length, take, All}
use Rattle.cx_core.specs.Views.{view_unit}
use Rattle.cx_units.specs.Sources.{IsGot}
use Rattle.cx_units.proofs.Steps.{AreTypedTo}
use Rattle.cx_units.proofs.checked.all_typed.Given as goal

abbrev pub invariant-loop-place : goal.invariant-loop-place
invariant-loop-place l = (length l.cores ≡ l.place) × AreTypedTo l.sources (map view_unit l.cores) l.place × All IsGot (take l.place l.sources)
