use Rattle.std.proofs.Common.{◌≡◌, drop}
use Rattle.cx_mean.specs.Work.{are_waiting}
use Rattle.cx_work.specs.Views.{view_works}
use Rattle.cx_work.proofs.counts.+waiting.Given as goal

abbrev pub invariant-are_waiting-loop-one : goal.invariant-are_waiting-loop-one
invariant-are_waiting-loop-one l = are_waiting (view_works (drop l.one-index l.operands)) ≡ are_waiting (view_works l.operands)
