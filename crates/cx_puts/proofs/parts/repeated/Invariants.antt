use Rattle.std.proofs.Common.{◌≡◌, replicate}
use Rattle.cx_puts.proofs.parts.repeated.Given as goal

abbrev pub invariant-loop-index : goal.invariant-loop-index
invariant-loop-index l = l.cells.items ≡ replicate l._index l.cell
