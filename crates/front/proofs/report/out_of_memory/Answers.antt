use Rattle.std.proofs.Common.{inl, inr}
use Rattle.front.specs.Report.{memory_report}
use Rattle.front.proofs.report.out_of_memory.Goals as goal

pub returns-clause-told : goal.returns-clause-told
unfolding memory_report
returns-clause-told g c = elim c.write_report-own.ensures.told [ inl whole ↦ inl (let done = whole.1 in done.appended) | inr failed ↦ inr failed.1 ]
