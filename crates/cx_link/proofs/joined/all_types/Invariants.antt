use Rattle.std.proofs.Common.{◌≡◌, map, drop}
use Rattle.cx_core.specs.Views.{view_types, view_unit}
use Rattle.cx_links.specs.Program.{counts_before, types_from, types_of_all, types_with}
use Rattle.cx_renumber.specs.Views.{view_counts}
use Rattle.cx_link.proofs.joined.all_types.Given as goal

abbrev pub invariant-loop-one : goal.invariant-loop-one
invariant-loop-one l = (view_counts l.before ≡ counts_before l.one-index (map view_unit l.units))
    × (types_with (view_types l.all) (types_from (map view_unit l.units) l.one-index (map view_unit (drop l.one-index l.units))) ≡ types_of_all (map view_unit l.units))
