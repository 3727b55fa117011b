use Rattle.std.proofs.Common.{◌≡◌, ◌++◌, drop, map}
use Rattle.build_flow_instrs.specs.Views as placed
use Rattle.build_flow_reached.specs.Behind.{case_with}
use Rattle.build_flow_reached.specs.Views.{number_of}
use Rattle.flow.specs.Views.{case_view}
use Rattle.build_flow_reached.proofs.branches.cases_of.Given as goal

abbrev pub invariant-loop-one : goal.invariant-loop-one
invariant-loop-one l =
    map case_view l.made ++ map (case_with (number_of l.places)) (map placed.case_view (drop l.one-index l.cases))
    ≡ map (case_with (number_of l.places)) (map placed.case_view l.cases)
