use Rattle.std.proofs.Common.{◌≡◌, ◌++◌, map, drop}
use Rattle.straight_whole.specs.Coded.{known_object}
use Rattle.straight_whole.proofs.tables.known_objects.Given as goal

abbrev pub invariant-loop-one : goal.invariant-loop-one
invariant-loop-one l = l.made ++ map known_object (drop l.one-index l.objects) ≡ map known_object l.objects
