use Rattle.std.proofs.Common.{◌≡◌, ◌++◌, map, drop}
use Rattle.cx_core.specs.Views.{view_unit}
use Rattle.cx_links.specs.Program.{from_each}
use Rattle.cx_linked.specs.Named.{all_numbers, numbers_alone, units_of}
use Rattle.cx_renumber.specs.Views.{view_numbers}
use Rattle.cx_linked.proofs.numbers.all_numbers.Given as goal

abbrev pub invariant-loop-unit : goal.invariant-loop-unit
invariant-loop-unit l = map view_numbers l.all ++ from_each (numbers_alone (units_of l.named)) l.unit (map view_unit (drop l.unit l.named.units.now))
    ≡ all_numbers (units_of l.named)
