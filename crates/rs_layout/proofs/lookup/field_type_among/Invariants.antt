use Rattle.std.proofs.Common.{◌≡◌, map, drop}
use Rattle.rs_mean.specs.Typing.{field_type_among}
use Rattle.rs_tree.specs.Views.{field_view}
use Rattle.rs_layout.proofs.lookup.field_type_among.Given as goal

-- the type among the fields that are left is the one among all
abbrev pub invariant-loop-field : goal.invariant-loop-field
invariant-loop-field l =
    field_type_among l.name (map field_view (drop l.field-index l.fields)) ≡ field_type_among l.name (map field_view l.fields)
