-- Units with what is known of their names, and with their numbers in the program.
use Rattle.std.specs.Prelude.{◌≡◌, List, map}
use Rattle.cx_core.specs.Trees.{CUnit}
use Rattle.cx_renumber.specs.Views.{view_numbers}
use Rattle.cx_linked.specs.declared.parts.Linking.{Linking}
use Rattle.cx_linked.specs.Named.{IsNamed, all_numbers, units_of}

abbrev pub units_in : Linking → List CUnit
units_in one = units_of one.named

-- what is kept is what these units say
pub record IsLinking (one : Linking) : Type 0 where
  pub named : IsNamed one.named
  pub numbers : map view_numbers one.numbers ≡ all_numbers (units_in one)
