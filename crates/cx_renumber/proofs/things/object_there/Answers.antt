use Rattle.std.proofs.Common.{ap, ◌∙◌}
use Rattle.cx_core.specs.Views.{view_type}
use Rattle.cx_renumber.specs.Views.{view_numbers}
use Rattle.cx_renumber.proofs.Fields.{same_object}
use Rattle.cx_renumber.proofs.things.object_there.Goals as goal

pub returns : goal.returns
returns c =
    same_object (view_numbers c.args.numbers.now) c.args.one.now c.in_ok-object.object c.in_ok-name.name c.into_inner.result c.in_ok-puts.puts
    c.in_ok-object.ensures c.in_ok-name.ensures (ap view_type c.into_inner.ensures ∙ c.in_ok-there.ensures) c.in_ok-puts.ensures
