use Rattle.std.proofs.Common.{◌≤◌, length}
use Rattle.cx_layout.specs.Calls.{HaveSameRows}
use Rattle.cx_layout.specs.Rows.{AreFine}
use Rattle.cx_layout.proofs.put.reach.Given as goal

abbrev pub invariant-loop-number : goal.invariant-loop-number
invariant-loop-number l = record {
  same : HaveSameRows l.fn.rows.items l.rows.items;
  fine : AreFine l.fn.rows.items → AreFine l.rows.items;
  long : l._number ≤ length l.rows.items;
}
