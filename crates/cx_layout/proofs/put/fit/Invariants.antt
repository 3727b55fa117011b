use Rattle.std.proofs.Common.{◌≡◌, ◌≤◌, ◌<◌, ℕ, length}
use Rattle.cx_core.specs.Layouts.{row_at}
use Rattle.cx_layout.specs.Rows.{AreFine}
use Rattle.cx_layout.proofs.put.fit.Given as goal

abbrev pub invariant-loop-number : goal.invariant-loop-number
invariant-loop-number l = record {
  same : (number : ℕ) → number < l.count → row_at l.rows.items number ≡ row_at l.fn.rows.items number;
  fine : AreFine l.fn.rows.items → AreFine l.rows.items;
  long : l._number ≡ length l.rows.items;
  within : length l.rows.items ≤ l.count;
}
