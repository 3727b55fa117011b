use Rattle.std.proofs.Common.{◌≡◌, ◌∷◌, ◌++◌, drop}
use Rattle.emit_stmts.proofs.labels.in_front.Given as goal

abbrev pub invariant-loop-outer : goal.invariant-loop-outer
invariant-loop-outer l = l.labels ++ drop l.outer-index l.around ≡ l.label ∷ l.around
