use Rattle.std.proofs.Common.{◌≡◌, drop}
use Rattle.cx_place.specs.Placing.{first_from}
use Rattle.cx_place.proofs.placed.first_broken.Given as goal

-- none so far breaks one
abbrev pub invariant-loop-part : goal.invariant-loop-part
invariant-loop-part l = first_from l.part (drop l.part l.rules) ≡ first_from 0 l.rules
