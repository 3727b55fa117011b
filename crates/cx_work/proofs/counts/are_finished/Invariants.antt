use Rattle.std.proofs.Common.{◌≡◌, drop}
use Rattle.cx_mean.specs.Work.{are_finished}
use Rattle.cx_work.specs.Views.{view_works}
use Rattle.cx_work.proofs.counts.are_finished.Given as goal

abbrev pub invariant-loop-work : goal.invariant-loop-work
invariant-loop-work l = are_finished (view_works (drop l.work-index l.works)) ≡ are_finished (view_works l.works)
