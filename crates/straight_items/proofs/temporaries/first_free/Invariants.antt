use Rattle.std.specs.Prelude.{◌≤◌}
use Rattle.straight_items.specs.Search.{AreTaken}
use Rattle.straight_items.proofs.temporaries.first_free.Given as goal

-- the candidates so far are taken
abbrev pub invariant-loop-number : goal.invariant-loop-number
invariant-loop-number l = (l.from ≤ l.number) × AreTaken l.taken l.from l.number
