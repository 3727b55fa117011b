use Rattle.std.proofs.Common.{◌≡◌, map, drop}
use Rattle.cx_context.specs.Views.{scope_of}
use Rattle.cx_unit_walk.specs.Walks as walks
use Rattle.cx_tree.specs.Views.{external_view}
use Rattle.cx_unit_walk.proofs.functions.externals.Given as goal

-- the declarations that are left give the rest
abbrev pub invariant-loop-one : goal.invariant-loop-one
invariant-loop-one l =
    walks.externals_walk (map external_view (drop l.one-index l.list)) (scope_of l.context)
    ≡ walks.externals_walk (map external_view l.fn.list) (scope_of l.fn.context)
