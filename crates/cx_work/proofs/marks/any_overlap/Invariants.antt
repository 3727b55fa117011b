use Rattle.std.proofs.Common.{◌≡◌, drop}
use Rattle.cx_mean.specs.Marks.{any_overlap}
use Rattle.cx_work.proofs.marks.any_overlap.Given as goal

abbrev pub invariant-loop-one : goal.invariant-loop-one
invariant-loop-one l = any_overlap (drop l.one-index l.ones) l.others ≡ any_overlap l.ones l.others
