use Rattle.std.proofs.Common.{◌≡◌, take, drop}
use Rattle.mem_region.specs.Layout.{slid}
use Rattle.mem_region.proofs.table.slide.Given as goal

abbrev pub invariant-loop-live : goal.invariant-loop-live
invariant-loop-live l = record {
  done : take l.live-index l.table ≡ slid l.bytes (take l.live-index l.initial.table);
  rest : drop l.live-index l.table ≡ drop l.live-index l.initial.table;
}
