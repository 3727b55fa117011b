use Rattle.std.proofs.Common.{◌≡◌, map, drop}
use Rattle.std.specs.List.{list_any}
use Rattle.std.specs.Prelude.{is_some}
use Rattle.cx_core.specs.Views.{view_member}
use Rattle.cx_type_breaks.proofs.tags.has_named.Given as goal

abbrev pub invariant-loop-one : goal.invariant-loop-one
invariant-loop-one l = list_any (λ one. is_some one.name) (map view_member (drop l.one-index l.members)) ≡ list_any (λ one. is_some one.name) (map view_member l.members)
