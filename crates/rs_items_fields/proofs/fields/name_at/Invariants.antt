use Rattle.std.proofs.Common.{◌≡◌, drop, map}
use Rattle.rs_items.specs.Known.{view_field}
use Rattle.rs_items_fields.specs.Fields.{name_at}
use Rattle.rs_tree.specs.Views.{ty_view}
use Rattle.rs_items_fields.proofs.fields.name_at.Given as goal

-- what is left answers for all
abbrev pub invariant-loop-one : goal.invariant-loop-one
invariant-loop-one l = name_at l.byte (ty_view l.ty) (map view_field l.fields) ≡ name_at l.byte (ty_view l.ty) (map view_field (drop l.one-index l.fields))
