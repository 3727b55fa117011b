use Rattle.std.proofs.Common.{◌≡◌, ◌++◌, map, drop}
use Rattle.straight_whole.specs.Coded.{known_outer}
use Rattle.straight_whole.proofs.tables.known_outers.Given as goal

abbrev pub invariant-loop-one : goal.invariant-loop-one
invariant-loop-one l = l.made ++ map known_outer (drop l.one-index l.externals) ≡ map known_outer l.externals
