use Rattle.std.proofs.Common.{◌≡◌, ◌++◌, map, drop}
use Rattle.straight_core.specs.Trees.{listed}
use Rattle.straight_core.specs.Views.{types_of, view_type}
use Rattle.straight_lift.specs.Agrees.{param_types}
use Rattle.straight_rust_tree.specs.View.{ty_view}
use Rattle.straight_whole.proofs.outers.listed_types.Given as goal

abbrev pub invariant-loop-ty : goal.invariant-loop-ty
invariant-loop-ty l =
    map ty_view l.made ++ param_types (listed (types_of (map view_type (drop l._ty-index l.list))))
    ≡ param_types (listed (types_of (map view_type l.list)))
