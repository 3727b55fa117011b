use Rattle.std.proofs.Common.{◌≡◌, map, drop}
use Rattle.std.specs.List.{list_all}
use Rattle.rs_text.specs.Valid.{valid_field}
use Rattle.rs_tree.specs.Views.{field_view}
use Rattle.rs_valid.proofs.items.are_valid_fields.Given as goal

-- what is left is valid where all is
abbrev pub invariant-loop-field : goal.invariant-loop-field
invariant-loop-field l = list_all valid_field (map field_view (drop l.field-index l.field-items)) ≡ list_all valid_field (map field_view l.field-items)
