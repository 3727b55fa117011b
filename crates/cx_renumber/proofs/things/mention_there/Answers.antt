use Rattle.std.proofs.Common.{ap, ◌∙◌}
use Rattle.cx_core.specs.Views.{view_type}
use Rattle.cx_renumber.specs.Views.{view_counts}
use Rattle.cx_renumber.proofs.Fields.{same_mention}
use Rattle.cx_renumber.proofs.things.mention_there.Goals as goal

pub returns : goal.returns
returns c =
    same_mention (view_counts c.args.before) c.args.unit c.args.one.now c.in_ok-name.name c.into_inner.result c.in_ok-does.does
    c.in_ok-name.ensures (ap view_type c.into_inner.ensures ∙ c.in_ok-there.ensures) c.in_ok-does.ensures
