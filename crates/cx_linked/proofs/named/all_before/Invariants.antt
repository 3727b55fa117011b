use Rattle.std.proofs.Common.{◌≡◌, ◌++◌, map, drop}
use Rattle.cx_core.specs.Views.{view_unit}
use Rattle.cx_links.specs.Program.{counts_before, from_each}
use Rattle.cx_linked.specs.Named.{all_before, before_alone}
use Rattle.cx_renumber.specs.Views.{view_counts}
use Rattle.cx_linked.proofs.named.all_before.Given as goal

abbrev pub invariant-loop-one : goal.invariant-loop-one
invariant-loop-one l = (view_counts l.before ≡ counts_before l.one-index (map view_unit l.units))
    × (map view_counts l.all ++ from_each (before_alone (map view_unit l.units)) l.one-index (map view_unit (drop l.one-index l.units)) ≡ all_before (map view_unit l.units))
