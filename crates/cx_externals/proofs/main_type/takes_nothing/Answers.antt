use Rattle.std.proofs.Common.{◌∙◌, ap, sym, length, nat_eq}
use Rattle.cx_core.specs.Views.{view_params}
use Rattle.cx_externals.proofs.Opened.{params_view}
use Rattle.cx_externals.proofs.Lists.{nothing_listed}
use Rattle.cx_externals.specs.Functions.{takes_nothing}
use Rattle.cx_externals.proofs.main_type.takes_nothing.Goals as goal

pub returns-in-Listed : goal.returns-in-Listed
returns-in-Listed c =
    c.is_empty.ensures
    ∙ (ap (λ list. nat_eq (length list) 0) c.as_slice.ensures
    ∙ (nothing_listed c.in-Listed.types ∙ ap takes_nothing (sym (params_view c.in-Listed.types) ∙ ap view_params (sym c.in-Listed.is))))
