use Rattle.std.proofs.Common.{◌≡◌, ◌++◌, map, drop}
use Rattle.cx_core.specs.Views.{view_type}
use Rattle.cx_core.proofs.+copy.Given as goal

abbrev pub invariant-copies::copy_types-loop-one : goal.invariant-copies::copy_types-loop-one
invariant-copies::copy_types-loop-one l = map view_type l.made ++ map view_type (drop l.one-index l.types) ≡ map view_type l.types
