use Rattle.std.proofs.Common.{◌≡◌, length, map}
use Rattle.build_flow_instrs.specs.Views.{instr_view}
use Rattle.build_flow_reached.specs.Behind.{all_in_front}
use Rattle.build_flow_reached.specs.Views.{behind_view, is_reached_in, number_of, start}
use Rattle.build_flow_reached.proofs.behind.nodes_of.Given as goal

-- what is left stands in front of what stands behind
abbrev pub invariant-loop-instr : goal.invariant-loop-instr
invariant-loop-instr l =
    all_in_front (number_of l.places) (is_reached_in l.places) (map instr_view l.code) (behind_view l.behind)
    ≡ all_in_front (number_of l.places) (is_reached_in l.places) (map instr_view l.fn.code) start

abbrev pub decreases-loop-instr : goal.decreases-loop-instr
decreases-loop-instr l = length l.code
