-- A program with the names of its modules, and the names that were given in them.
use Rattle.std.specs.Prelude.{◌≡◌, ℕ, List, map, Option, Some, slice_get}
use Rattle.cx_core.specs.Trees.{CProgram}
use Rattle.cx_core.specs.Views.{view_program}
use Rattle.cx_core.specs.declared.program.Parts.{Parts}
use Rattle.whole_given.specs.Told.{told}
use Rattle.whole_given.specs.declared.given.ModuleNames.{ModuleNames}
use Rattle.whole_keys.specs.Views.{view_key}
use Rattle.whole_keys.specs.declared.key.NameKey.{NameKey}
use Rattle.whole_names.specs.Keys.{module_keys}
use Rattle.whole_names.specs.Kept.{NamedProgram}
use Rattle.whole_names.specs.ModuleNames.{module_names, name_among}

-- the program of these parts, whose modules bear these names
abbrev pub named : Parts × List (List ℕ) → NamedProgram
named it = record { program = view_program it.0; module_names = it.1 }

-- the keys of the module of a unit in the order of their names, and the name of each
pub record IsGiven (program : CProgram) (unit : ℕ) (made : ModuleNames) : Type 0 where
  pub keys_are : map view_key made.keys ≡ module_keys program unit
  pub names_are : (key : NameKey) → told made.names key ≡ name_among (view_key key) (module_names program unit)

-- each unit's names are those of its module
abbrev pub AreGiven : CProgram → List ModuleNames → Type 0
AreGiven program given = (unit : ℕ) (made : ModuleNames) → slice_get given unit ≡ Some made → IsGiven program unit made
