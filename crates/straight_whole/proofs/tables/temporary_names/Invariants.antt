use Rattle.std.proofs.Common.{◌≡◌, length}
use Rattle.straight_whole.proofs.tables.temporary_names.Given as goal

abbrev pub invariant-loop-number : goal.invariant-loop-number
invariant-loop-number l = record {
  many : length l.temporaries.names ≡ l._number;
  taken : l.temporaries.taken ≡ l.fn.taken;
}
