use Rattle.std.proofs.Common.{rules, ◌≡◌, sym, ap, map, ◌∙◌}
use Rattle.cx_core.specs.declared.ty.Params.TheFolds.{fold_out-Params}
use Rattle.cx_core.specs.declared.ty.Params.TheViews.{the_lemmas}
use Rattle.cx_core.specs.Trees.{listed}
use Rattle.cx_core.specs.Views.{view_type, types_of}
use Rattle.cx_renumber.specs.Numbers.{params_there, type_there}
use Rattle.cx_renumber.specs.Views.{view_counts}
use Rattle.cx_renumber.proofs.Lists.{types_are}
use Rattle.cx_renumber.proofs.types.+there.Goals as goal

pub params_there-returns-in_ok-types_there-in-Listed : goal.params_there-returns-in_ok-types_there-in-Listed
params_there-returns-in_ok-types_there-in-Listed t c =
    let made : map view_type c.in_ok-types_there-in-Listed.field-0 ≡ map (type_there (view_counts c.args.before)) (map view_type c.in-Listed.types) = search rules in
    let same : listed (types_of (map view_type c.in_ok-types_there-in-Listed.field-0)) ≡ params_there (view_counts c.args.before) (listed (types_of (map view_type c.in-Listed.types))) =
    ap (λ types. listed (types_of types)) made ∙ ap listed (sym (types_are (view_counts c.args.before) (map view_type c.in-Listed.types))) in
    search (rules, the_lemmas, fold_out-Params)
