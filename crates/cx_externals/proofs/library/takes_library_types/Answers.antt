use Rattle.std.proofs.Common.{◌∙◌, ap, sym, map}
use Rattle.cx_core.specs.Externals.{params_in}
use Rattle.cx_core.specs.Trees.{unqualified}
use Rattle.cx_core.specs.Views.{view_params, view_type}
use Rattle.cx_externals.proofs.Opened.{params_view}
use Rattle.cx_externals.proofs.Lists.{params_listed}
use Rattle.cx_externals.specs.LibraryTypes.{types_of_library}
use Rattle.cx_externals.specs.Functions.{same_lists}
use Rattle.cx_externals.proofs.library.takes_library_types.Goals as goal

pub returns-in-Listed : goal.returns-in-Listed
returns-in-Listed c =
    c.are_library_types.ensures
    ∙ (ap (λ list. same_lists (map unqualified (map view_type list)) (types_of_library c.args.known.now)) c.as_slice.ensures
    ∙ (ap (λ list. same_lists list (types_of_library c.args.known.now)) (sym (params_listed (map view_type c.in-Listed.listed)))
    ∙ ap (λ p. same_lists (params_in p) (types_of_library c.args.known.now)) (sym (params_view c.in-Listed.listed) ∙ ap view_params (sym c.in-Listed.is))))
