use Rattle.std.proofs.Common.{◌≡◌, map, drop}
use Rattle.cx_core.specs.Views.{view_member}
use Rattle.rs_items.specs.Known.{view_names}
use Rattle.rs_items.specs.Records.{no_fields, placed_members, struct_walk}
use Rattle.rs_items.specs.Walks.{view_walk, with_field_names}
use Rattle.rs_items.proofs.records.walk_members.Given as goal

-- with what is left the walk comes to the end
abbrev pub invariant-loop-one : goal.invariant-loop-one
invariant-loop-one l =
    (l.names ≡ with_field_names l.initial.names l.names.scopes.field_names)
    × (struct_walk (view_walk l.names.scopes.field_names l.walk) (placed_members (view_names l.initial.names).known (map view_member (drop l.one-index l.members)) l.left)
    ≡ struct_walk no_fields (placed_members (view_names l.initial.names).known (map view_member l.members) l.spots))
