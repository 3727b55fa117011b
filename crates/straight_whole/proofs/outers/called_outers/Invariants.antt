use Rattle.std.proofs.Common.{◌≡◌, ◌++◌, map, drop}
use Rattle.std.specs.List.{filter}
use Rattle.straight_core.specs.Views.{view_outer, view_stmt}
use Rattle.straight_rust_tree.specs.View.{outer_view}
use Rattle.straight_whole.specs.Calls.{calls_in_stmt}
use Rattle.straight_whole.specs.CrateOf.{outer_of}
use Rattle.straight_whole.proofs.outers.called_outers.Given as goal

abbrev pub invariant-loop-one : goal.invariant-loop-one
invariant-loop-one l =
    map outer_view l.made ++ map outer_of (filter (λ one. calls_in_stmt one.function (view_stmt l.body)) (map view_outer (drop l.one-index l.externals)))
    ≡ map outer_of (filter (λ one. calls_in_stmt one.function (view_stmt l.body)) (map view_outer l.externals))
