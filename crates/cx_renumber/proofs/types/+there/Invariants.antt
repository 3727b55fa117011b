use Rattle.std.proofs.Common.{◌≡◌, ◌++◌, map, drop}
use Rattle.cx_core.specs.Views.{view_type}
use Rattle.cx_renumber.specs.Numbers.{type_there}
use Rattle.cx_renumber.specs.Views.{view_counts}
use Rattle.cx_renumber.proofs.types.+there.Given as goal

abbrev pub invariant-types_there-loop-one : goal.invariant-types_there-loop-one
invariant-types_there-loop-one l = map view_type l.made ++ map (type_there (view_counts l.before)) (map view_type (drop l.one-index l.types)) ≡ map (type_there (view_counts l.before)) (map view_type l.types)
