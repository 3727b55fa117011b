use Rattle.std.proofs.Common.{◌≡◌, map, drop, Some}
use Rattle.cr_base.specs.Layout.{no_front}
use Rattle.rs_mean.specs.Layout.{laid_of, field_behind}
use Rattle.rs_tree.specs.Views.{field_view, module_view}
use Rattle.rs_layout.specs.Layouts.{IsFineFront}
use Rattle.rs_layout.proofs.places.place_among.Given as goal

-- the place among the fields that are left is the one among all
abbrev pub invariant-loop-field : goal.invariant-loop-field
invariant-loop-field l = record {
  left : field_behind (laid_of (map module_view l.modules)) l.name (Some l.front) (map field_view (drop l.field-index l.fields))
      ≡ field_behind (laid_of (map module_view l.modules)) l.name (Some (no_front l.is_union)) (map field_view l.fields);
  fine : IsFineFront l.front;
}
