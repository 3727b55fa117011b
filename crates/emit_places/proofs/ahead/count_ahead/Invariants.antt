use Rattle.std.proofs.Common.{◌≡◌, ◌+◌, ◌≤◌, nat_lt, map, drop}
use Rattle.emit_places.specs.Ahead.{count_if, place_in}
use Rattle.emit_places.specs.Places.{leaving_view}
use Rattle.emit_places.proofs.ahead.count_ahead.Given as goal

abbrev pub invariant-loop-way : goal.invariant-loop-way
invariant-loop-way l = record {
  few : l.count ≤ l.way-index;
  counted : l.count + count_if (λ node. nat_lt l.number (place_in l.places node)) (map leaving_view (drop l.way-index l.ways)) ≡ count_if (λ node. nat_lt l.number (place_in l.places node)) (map leaving_view l.ways);
}
