use Rattle.std.proofs.Common.{◌≡◌, drop}
use Rattle.emit_rules.specs.Places.{any_outside}
use Rattle.emit_places.proofs.loops.any_outside.Given as goal

abbrev pub invariant-loop-other : goal.invariant-loop-other
invariant-loop-other l = any_outside l.nodes (drop l.other-index l.others) ≡ any_outside l.nodes l.others
