use Rattle.std.proofs.Common.{◌≡◌, ◌+◌, ◌*◌, length, map, reverse, drop}
use Rattle.cr_base.specs.Layout.{no_front}
use Rattle.rs_tree.specs.Views.{field_view, item_view}
use Rattle.rs_layout.specs.Layouts.{by_front, fronts, IsFineFront}
use Rattle.rs_layout.proofs.layout.+layouts.Given as goal

abbrev pub decreases-laid_among : goal.decreases-laid_among
decreases-laid_among l = 4 * length l.items.now

abbrev pub decreases-laid_in_front : goal.decreases-laid_in_front
decreases-laid_in_front l = 4 * length l.earlier.now + 1

abbrev pub decreases-fronts : goal.decreases-fronts
decreases-fronts l = 4 * length l.earlier.now + 2

abbrev pub decreases-record_in_front : goal.decreases-record_in_front
decreases-record_in_front l = 4 * length l.earlier.now + 3

-- what the fields that are left take behind those in front is what all take
abbrev pub invariant-fronts-loop-field : goal.invariant-fronts-loop-field
invariant-fronts-loop-field l = record {
  left : fronts (by_front l.home (reverse (map item_view l.earlier))) l.front (map field_view (drop l.field-index l.fields))
      ≡ fronts (by_front l.home (reverse (map item_view l.earlier))) (no_front l.is_union) (map field_view l.fields);
  fine : IsFineFront l.front;
}
