use Rattle.std.proofs.Common.{◌≡◌, map, drop}
use Rattle.cx_core.specs.Views.{view_outer}
use Rattle.whole_keys.specs.Kept.{calls_malloc_in}
use Rattle.whole_keys.proofs.keys.calls_malloc.Given as goal

-- what is left answers for all
abbrev pub invariant-loop-one : goal.invariant-loop-one
invariant-loop-one l =
    calls_malloc_in l.called (map view_outer l.externals) ≡ calls_malloc_in l.called (map view_outer (drop l.one-index l.externals))
