use Rattle.std.proofs.Common.{◌≡◌, map, drop}
use Rattle.std.specs.List.{list_any}
use Rattle.std.specs.Prelude.{not}
use Rattle.cx_core.specs.Views.{view_type, view_types}
use Rattle.cx_externals.specs.Functions.{is_opaque_trailing}
use Rattle.cx_link.proofs.rules.some_not_opaque.Given as goal

abbrev pub invariant-loop-ty : goal.invariant-loop-ty
invariant-loop-ty l =
    list_any (λ type. not (is_opaque_trailing (view_types l.types) type)) (map view_type (drop l.ty-index l.trailing))
    ≡ list_any (λ type. not (is_opaque_trailing (view_types l.types) type)) (map view_type l.trailing)
