use Rattle.std.proofs.Common.{◌≡◌, ◌++◌, drop, map}
use Rattle.cx_work.specs.Views.{begun_of, view_work}
use Rattle.cx_work.proofs.begin.+begin.Given as goal

abbrev pub invariant-begin_all-loop-one : goal.invariant-begin_all-loop-one
invariant-begin_all-loop-one l = map view_work l.made ++ map begun_of (drop l.one-index l.exprs) ≡ map begun_of l.exprs
