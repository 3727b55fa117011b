use Rattle.std.proofs.Common.{◌≡◌, [], map, drop}
use Rattle.cx_core.specs.Views as core
use Rattle.cx_core.specs.Views.{view_type}
use Rattle.rs_tree.specs.Views.{ty_view}
use Rattle.whole_given.specs.Whole.{named}
use Rattle.whole_names.specs.Kept.{types_of}
use Rattle.whole_statics.specs.Outers.{types_behind}
use Rattle.whole_statics.proofs.outers.param_types.Given as goal

abbrev pub invariant-loop-one : goal.invariant-loop-one
invariant-loop-one l =
    types_behind (types_of (named l.whole)) (core.types_of (map view_type (drop l.one-index l.types))) (map ty_view l.made)
    ≡ types_behind (types_of (named l.whole)) (core.types_of (map view_type l.types)) []
