use Rattle.std.proofs.Common.{◌≡◌, ◌++◌, drop, length, map}
use Rattle.build_flow_instrs.specs.Views.{instr_view}
use Rattle.build_flow_reached.specs.Index.{number_in}
use Rattle.build_flow_reached.specs.Tables.{arms_in, branches_from}
use Rattle.build_flow_reached.proofs.table.Table.of.Given as goal

abbrev pub invariant-loop-instr : goal.invariant-loop-instr
invariant-loop-instr l = record {
  branches : l.branches ++ branches_from (length l.arms) (map instr_view (drop l.instr-index l.code)) ≡ branches_from 0 (map instr_view l.code);
  arms : l.arms ++ arms_in (number_in l.index) (map instr_view (drop l.instr-index l.code)) ≡ arms_in (number_in l.index) (map instr_view l.code);
}
