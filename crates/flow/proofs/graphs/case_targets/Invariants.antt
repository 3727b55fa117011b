use Rattle.std.proofs.Common.{◌≡◌, ◌++◌, map, drop}
use Rattle.flow.specs.Flows.{case_targets}
use Rattle.flow.specs.Views.{case_view}
use Rattle.flow.proofs.graphs.case_targets.Given as goal

abbrev pub invariant-loop-case : goal.invariant-loop-case
invariant-loop-case l = l.to ++ case_targets (map case_view (drop l.case-index l.cases)) ≡ case_targets (map case_view l.cases)
