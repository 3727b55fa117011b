use Rattle.std.proofs.Common.{◌≡◌, ◌++◌, map, drop}
use Rattle.cx_core.specs.Views.{view_mention}
use Rattle.cx_renumber.specs.Numbers.{mention_there}
use Rattle.cx_renumber.specs.Views.{view_counts}
use Rattle.cx_link.proofs.joined.add_mentions.Given as goal

abbrev pub invariant-loop-one : goal.invariant-loop-one
invariant-loop-one l = map view_mention l.all ++ map (mention_there (view_counts l.before) l.unit) (map view_mention (drop l.one-index l.mentions))
    ≡ map view_mention l.initial.all ++ map (mention_there (view_counts l.before) l.unit) (map view_mention l.mentions)
