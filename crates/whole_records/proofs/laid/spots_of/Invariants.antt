use Rattle.std.proofs.Common.{◌≡◌, Some}
use Rattle.cx_core.specs.Layouts.{CRow, row_at}
use Rattle.whole_records.proofs.Spots.{AreFirst}
use Rattle.whole_records.proofs.laid.spots_of.Given as goal

-- the first spots so far
abbrev pub invariant-loop-index : goal.invariant-loop-index
invariant-loop-index l = (row : CRow) → row_at l.layouts l.number ≡ Some row → AreFirst row l.index l.spots
