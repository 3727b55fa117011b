use Rattle.std.proofs.Common.{◌≡◌, ◌++◌, map, drop}
use Rattle.build_flow_code.specs.Bodies.{body_of}
use Rattle.build_flow_code.specs.Labels.{label_view}
use Rattle.build_flow_instrs.specs.Views.{instr_view}
use Rattle.build_flow_linear.specs.Linear.{edges_code}
use Rattle.build_flow_code.proofs.choices.edges_code.Given as goal

abbrev pub invariant-loop-one : goal.invariant-loop-one
invariant-loop-one l =
    map instr_view l.code ++ edges_code (body_of l.of) l.choice (map label_view (drop l.one-index l.labels))
    ≡ map instr_view l.fn.code ++ edges_code (body_of l.of) l.choice (map label_view l.labels)
