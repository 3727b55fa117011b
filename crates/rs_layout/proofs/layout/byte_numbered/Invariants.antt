use Rattle.std.proofs.Common.{◌≡◌, map, drop}
use Rattle.cr_base.specs.Layout.{no_front}
use Rattle.rs_mean.specs.Layout.{laid_of}
use Rattle.rs_tree.specs.Views.{field_view, module_view}
use Rattle.rs_layout.specs.Layouts.{byte_numbered, IsFineFront}
use Rattle.rs_layout.proofs.layout.byte_numbered.Given as goal

-- the place among the fields that are left is the one among all
abbrev pub invariant-loop-field : goal.invariant-loop-field
invariant-loop-field l = record {
  left : byte_numbered (laid_of (map module_view l.modules)) l.front (map field_view (drop l.field-index l.fields)) l.left
      ≡ byte_numbered (laid_of (map module_view l.modules)) (no_front l.is_union) (map field_view l.fields) l.number;
  fine : IsFineFront l.front;
}
