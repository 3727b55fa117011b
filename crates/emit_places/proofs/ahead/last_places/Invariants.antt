use Rattle.std.proofs.Common.{◌≡◌}
use Rattle.emit_places.specs.Ahead.{place_in}
use Rattle.emit_places.proofs.Later.{AreLast}
use Rattle.emit_places.proofs.ahead.last_places.Given as goal

abbrev pub invariant-loop-nest : goal.invariant-loop-nest
invariant-loop-nest l = record {
  counted : l.number ≡ l.nest-index;
  last : AreLast l.nests l.nest-index (place_in l.places);
}
