use Rattle.std.proofs.Common.{◌≡◌, map, drop}
use Rattle.whole_keys.specs.Views.{view_key}
use Rattle.whole_known.specs.Modules.{some_bare}
use Rattle.whole_known.proofs.externals.some_bare.Given as goal

-- what is left answers for all
abbrev pub invariant-loop-one : goal.invariant-loop-one
invariant-loop-one l = some_bare (map view_key l.keys) ≡ some_bare (map view_key (drop l.one-index l.keys))
