use Rattle.std.proofs.Common.{◌≡◌, ◌+◌, map, length}
use Rattle.std.specs.Prelude.{reverse}
use Rattle.emit_rules.specs.Chains.{chained, chained_from}
use Rattle.emit_sorting.specs.Chained.{piece_view, ranked_view}
use Rattle.emit_sorting.proofs.chaining.chained.Given as goal

abbrev pub invariant-loop-ranked : goal.invariant-loop-ranked
invariant-loop-ranked l = record {
  counted : l.number + length l.ranked-iterator.rest.items ≡ length l.fn.list;
  chained : chained_from l.number (map ranked_view l.ranked-iterator.rest.items) (map piece_view (reverse l.pieces)) ≡ chained (map ranked_view l.fn.list);
}
