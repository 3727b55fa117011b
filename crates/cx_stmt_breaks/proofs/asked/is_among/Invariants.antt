use Rattle.std.proofs.Common.{◌≡◌, drop}
use Rattle.std.specs.List.{list_any}
use Rattle.std.specs.Ordering.{int_eq}
use Rattle.cx_stmt_breaks.proofs.asked.is_among.Given as goal

abbrev pub invariant-loop-other : goal.invariant-loop-other
invariant-loop-other l = list_any (int_eq l.value) (drop l.other-index l.before) ≡ list_any (int_eq l.value) l.before
