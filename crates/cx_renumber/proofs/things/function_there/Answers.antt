use Rattle.std.proofs.Common.{ap, ◌∙◌, map}
use Rattle.cx_core.specs.Views.{view_stmt, view_type}
use Rattle.cx_renumber.specs.Views.{view_numbers}
use Rattle.cx_renumber.proofs.Fields.{same_function}
use Rattle.cx_renumber.proofs.things.function_there.Goals as goal

pub returns : goal.returns
returns c =
    same_function (view_numbers c.args.numbers.now) c.args.one.now c.in_ok-function.function c.in_ok-name.name c.into_inner.result c.in_ok-params.params c.into_inner-2.result
    c.in_ok-function.ensures c.in_ok-name.ensures (ap view_type c.into_inner.ensures ∙ c.in_ok-there.ensures)
    (c.in_ok-params.ensures ∙ ap (map (view_numbers c.args.numbers.now).object_for) c.as_slice.ensures)
    (ap view_stmt c.into_inner-2.ensures ∙ c.in_ok-body.ensures)
