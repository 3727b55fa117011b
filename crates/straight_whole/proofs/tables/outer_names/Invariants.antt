use Rattle.std.proofs.Common.{◌≡◌, ◌++◌, map, drop}
use Rattle.straight_whole.proofs.tables.outer_names.Given as goal

abbrev pub invariant-loop-one : goal.invariant-loop-one
invariant-loop-one l = l.made ++ map (λ one. one.name) (drop l.one-index l.externals) ≡ map (λ one. one.name) l.externals
