use Rattle.std.proofs.Common.{◌≡◌, map, drop}
use Rattle.std.specs.List.{list_all}
use Rattle.cx_core.specs.Trees.{unqualified}
use Rattle.cx_core.specs.Views.{view_type, view_types}
use Rattle.cx_externals.specs.Opaque.{is_opaque_param}
use Rattle.cx_externals.proofs.opaque.are_opaque_params.Given as goal

-- what is left answers for all
abbrev pub invariant-loop-param : goal.invariant-loop-param
invariant-loop-param l =
    list_all (is_opaque_param (view_types l.types)) (map unqualified (map view_type (drop l.param-index l.params)))
    ≡ list_all (is_opaque_param (view_types l.types)) (map unqualified (map view_type l.params))
