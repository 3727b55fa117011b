-- What the walk over the members of a record holds.
use Rattle.std.specs.Prelude.{ℕ, List, map}
use Rattle.rs_items.specs.Known.{view_field}
use Rattle.rs_items.specs.Records.{FieldsWalk}
use Rattle.rs_items.specs.declared.map.NameMap.{NameMap}
use Rattle.rs_items.specs.declared.walk.Walk.{Walk}
use Rattle.rs_tree.specs.Views.{field_view}

-- names with these among those of fields
abbrev pub with_field_names : NameMap → List (List ℕ) → NameMap
with_field_names names taken = record names { scopes = record names.scopes { field_names = taken } }

-- names with what others have of fields: the names that are taken among those, and the fields of records
abbrev pub with_fields_of : (names others : NameMap) → NameMap
with_fields_of names others = record names { scopes = record names.scopes { field_names = others.scopes.field_names }; fields = others.fields }

abbrev pub view_walk : List (List ℕ) → Walk → FieldsWalk
view_walk taken walk = record {
  taken = walk.taken;
  due = walk.due;
  names = taken;
  fields = map field_view walk.fields;
  members = map view_field walk.members;
}
