use Rattle.std.proofs.Common.{◌≡◌, IfOk, subst, map}
use Rattle.cx_core.specs.Views.{view_key, view_mention, view_outer, view_unit}
use Rattle.cx_scope.specs.Views.{view_scope}
use Rattle.cx_unit_ends.proofs.UnitLaws.{mentions_taken}
use Rattle.cx_unit_ends.proofs.unit.unit_behind.Goals as goal

pub returns : goal.returns
returns c =
    subst (λ unit. IfOk c.unit_by.result (λ made. view_unit made ≡ unit))
    (mentions_taken (view_scope c.args.scope) (view_scope c.take_mentions.new.scope) (map view_outer c.args.externals) (map view_mention c.in_ok-mentions.mentions) (map view_key c.args.keys)
    c.in_ok-mentions.ensures.scope c.in_ok-mentions.ensures.mentions)
    c.unit_by.ensures
