use Rattle.std.proofs.Common.{◌≡◌, drop}
use Rattle.straight_lift.specs.Coded.{known_name}
use Rattle.straight_lift.proofs.names.known_name.Given as goal

abbrev pub invariant-loop-one : goal.invariant-loop-one
invariant-loop-one l = known_name (drop l.one-index l.list) l.number ≡ known_name l.list l.number
