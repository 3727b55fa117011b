use Rattle.std.proofs.Common.{◌≡◌, ◌++◌, map}
use Rattle.emit_rules.specs.Sorting.{unfilled}
use Rattle.emit_places.specs.Sorted.{sibling_view}
use Rattle.emit_sorting.specs.Chained.{ranked_view}
use Rattle.emit_sorting.proofs.levels.unfilled.Given as goal

abbrev pub invariant-loop-sibling : goal.invariant-loop-sibling
invariant-loop-sibling l = map ranked_view l.made ++ map unfilled (map sibling_view l.sibling-iterator.rest.items) ≡ map unfilled (map sibling_view l.fn.siblings)
