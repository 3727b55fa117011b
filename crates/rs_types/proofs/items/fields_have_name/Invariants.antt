use Rattle.std.proofs.Common.{◌≡◌, bytes_eq, map, drop}
use Rattle.std.specs.List.{list_any}
use Rattle.rs_tree.specs.Views.{field_view}
use Rattle.rs_types.proofs.items.fields_have_name.Given as goal

-- what is left answers for all
abbrev pub invariant-loop-field : goal.invariant-loop-field
invariant-loop-field l = list_any (λ other. bytes_eq other l.name) (map (λ field. field.name) (map field_view (drop l.field-index l.fields))) ≡ list_any (λ other. bytes_eq other l.name) (map (λ field. field.name) (map field_view l.fields))
