use Rattle.std.proofs.Common.{◌≡◌, ◌++◌, flat_map, map, drop}
use Rattle.build_flow_code.specs.Bodies.{body_of}
use Rattle.build_flow_code.specs.Labels.{label_view}
use Rattle.build_flow_instrs.specs.Views.{case_view}
use Rattle.build_flow_nodes.specs.Builder.{case_in}
use Rattle.build_flow_nodes.specs.Labels.{Label}
use Rattle.build_flow_code.proofs.choices.cases_of.Given as goal

abbrev pub invariant-loop-one : goal.invariant-loop-one
invariant-loop-one l =
    map case_view l.made ++ flat_map (λ (it : Label). case_in (body_of l.of) l.choice it.target it) (map label_view (drop l.one-index l.labels))
    ≡ flat_map (λ (it : Label). case_in (body_of l.of) l.choice it.target it) (map label_view l.labels)
