use Rattle.std.proofs.Common.{◌≡◌, drop}
use Rattle.std.specs.List.{list_any}
use Rattle.cx_mean.specs.Marks.{overlap}
use Rattle.cx_work.proofs.marks.meets_one.Given as goal

abbrev pub invariant-loop-other : goal.invariant-loop-other
invariant-loop-other l = list_any (overlap l.range) (drop l.other-index l.others) ≡ list_any (overlap l.range) l.others
