use Rattle.std.proofs.Common.{◌≡◌, ◌++◌, map, drop}
use Rattle.cx_core.specs.Views.{view_mention, view_unit}
use Rattle.cx_links.specs.Program.{all_mentions, counts_before, mentions_from}
use Rattle.cx_renumber.specs.Views.{view_counts}
use Rattle.cx_link.proofs.joined.all_mentions.Given as goal

abbrev pub invariant-loop-number : goal.invariant-loop-number
invariant-loop-number l = (view_counts l.before ≡ counts_before l.number (map view_unit l.units))
    × (map view_mention l.all ++ mentions_from l.number (map view_unit l.units) (map view_unit (drop l.number l.units)) ≡ all_mentions (map view_unit l.units))
