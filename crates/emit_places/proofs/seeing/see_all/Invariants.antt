use Rattle.std.proofs.Common.{◌≡◌, map, drop}
use Rattle.emit_rules.specs.Places as places
use Rattle.emit_places.specs.Places.{leaving_view, table_of}
use Rattle.emit_places.proofs.seeing.see_all.Given as goal

abbrev pub invariant-loop-way : goal.invariant-loop-way
invariant-loop-way l = places.see_all l.sibling l.is_direct (map leaving_view (drop l.way-index l.ways)) (table_of l.table) ≡ places.see_all l.sibling l.is_direct (map leaving_view l.ways) (table_of l.initial.table)
