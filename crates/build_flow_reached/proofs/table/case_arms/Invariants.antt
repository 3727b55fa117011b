use Rattle.std.proofs.Common.{◌≡◌, ◌++◌, drop, map}
use Rattle.build_flow_instrs.specs.Views.{case_view}
use Rattle.build_flow_nodes.specs.Points.{PlacedCase}
use Rattle.build_flow_reached.specs.Index.{number_in}
use Rattle.build_flow_reached.proofs.table.case_arms.Given as goal

abbrev pub invariant-loop-one : goal.invariant-loop-one
invariant-loop-one l =
    l.arms ++ map (number_in l.index) (map (λ (one : PlacedCase). one.to) (map case_view (drop l.one-index l.cases)))
    ≡ map (number_in l.index) (map (λ (one : PlacedCase). one.to) (map case_view l.cases))
