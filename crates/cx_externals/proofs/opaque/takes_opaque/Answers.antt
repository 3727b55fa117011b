use Rattle.std.proofs.Common.{◌∙◌, ap, sym, map}
use Rattle.std.specs.List.{list_all}
use Rattle.cx_core.specs.Externals.{params_in}
use Rattle.cx_core.specs.Trees.{unqualified}
use Rattle.cx_core.specs.Views.{view_params, view_type, view_types}
use Rattle.cx_externals.proofs.Opened.{params_view}
use Rattle.cx_externals.proofs.Lists.{params_listed}
use Rattle.cx_externals.specs.Opaque.{is_opaque_param}
use Rattle.cx_externals.proofs.opaque.takes_opaque.Goals as goal

pub returns-in-Listed : goal.returns-in-Listed
returns-in-Listed c =
    c.are_opaque_params.ensures
    ∙ (ap (λ list. list_all (is_opaque_param (view_types c.args.types.now)) (map unqualified (map view_type list))) c.as_slice.ensures
    ∙ (ap (list_all (is_opaque_param (view_types c.args.types.now))) (sym (params_listed (map view_type c.in-Listed.listed)))
    ∙ ap (λ p. list_all (is_opaque_param (view_types c.args.types.now)) (params_in p)) (sym (params_view c.in-Listed.listed) ∙ ap view_params (sym c.in-Listed.is))))
