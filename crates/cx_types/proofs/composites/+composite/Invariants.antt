use Rattle.std.proofs.Common.{◌≡◌, ◌++◌, map, drop}
use Rattle.cx_core.specs.Views.{view_type}
use Rattle.cx_types.specs.Joined.{joined}
use Rattle.cx_types.proofs.composites.+composite.Given as goal

abbrev pub invariant-composite_types-loop-index : goal.invariant-composite_types-loop-index
invariant-composite_types-loop-index l =
    map view_type l.made ++ joined (map view_type (drop l.index l.first)) (map view_type (drop l.index l.second))
    ≡ joined (map view_type l.first) (map view_type l.second)
