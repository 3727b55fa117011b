use Rattle.std.proofs.Common.{◌≡◌, drop, map}
use Rattle.build_flow_instrs.specs.Views.{instr_view}
use Rattle.build_flow_nodes.specs.Points.{FlowPlace}
use Rattle.build_flow_reached.specs.Index.{count_from, held_in, number_from, or_else}
use Rattle.build_flow_reached.proofs.index.PlaceIndex.of.Given as goal

abbrev pub invariant-loop-instr : goal.invariant-loop-instr
invariant-loop-instr l = record {
  held : (place : FlowPlace) → or_else (held_in l.index.numbers place) (number_from l.index.count place (map instr_view (drop l.instr-index l.code)))
      ≡ number_from 0 place (map instr_view l.code);
  count : count_from l.index.count (map instr_view (drop l.instr-index l.code)) ≡ count_from 0 (map instr_view l.code);
}
