use Rattle.std.proofs.Common.{ap, ◌∙◌}
use Rattle.cx_core.specs.Views.{view_type}
use Rattle.cx_renumber.specs.Views.{view_numbers}
use Rattle.cx_renumber.proofs.Fields.{same_outer}
use Rattle.cx_renumber.proofs.things.outer_there.Goals as goal

pub returns : goal.returns
returns c =
    same_outer (view_numbers c.args.numbers.now) c.args.one.now c.in_ok-function.function c.in_ok-name.name c.into_inner.result
    c.in_ok-function.ensures c.in_ok-name.ensures (ap view_type c.into_inner.ensures ∙ c.in_ok-there.ensures)
