use Rattle.std.proofs.Common.{◌≡◌, ◌++◌, map, drop}
use Rattle.emit_rules.specs.Sorting.{out_of_arm}
use Rattle.emit_places.specs.Places.{leaving_view, seen_view}
use Rattle.emit_places.proofs.placing.out_of_arm.Given as goal

abbrev pub invariant-loop-way : goal.invariant-loop-way
invariant-loop-way l = map leaving_view l.made ++ out_of_arm (seen_view l.seen) (map leaving_view (drop l.way-index l.ways)) ≡ out_of_arm (seen_view l.seen) (map leaving_view l.ways)
