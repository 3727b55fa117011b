-- What is known in a module, and which names are taken in it.
use Rattle.std.specs.Prelude.{◌≡◌, ◌≤◌, ℕ, length, Bool, true, false, if◌then◌else◌, List, [], ◌∷◌}
use Rattle.std.specs.List.{list_any}
use Rattle.cx_core.specs.BitFields.{has_bit_fields}
use Rattle.cx_core.specs.Trees.{COuter, CProgram}
use Rattle.rs_items.specs.Known.{KnownThing, Names}
use Rattle.rs_items.specs.declared.known.Named.{Named}
use Rattle.rs_items.specs.declared.known.Named.TheVariants.{Object, Function, BareFunction, Record, Enum, Temporary, Result}
use Rattle.whole_given.specs.Told.{taken_more}
use Rattle.whole_known.specs.Stages.{HasTypes, KeepsRest}
use Rattle.whole_names.specs.Keys.{NameKey, a_function, an_object, a_record, a_calloc, a_bare_function, module_keys}
use Rattle.whole_names.specs.Kept.{LocalNames, NamedProgram, calloc_item, is_replaced, known_thing, no_locals, outer_item}
use Rattle.whole_names.specs.ModuleNames.{given_from, names_only, own_names}

-- an external function, as a module declares it
abbrev pub outer_made : NamedProgram → (unit : ℕ) → COuter → KnownThing
outer_made whole unit one = if is_replaced whole one then calloc_item whole unit one else outer_item whole unit one

-- ---- names that are taken

-- these are taken in the module, and nothing else changed
pub record TakesNames (before after : Names) (taken : List (List ℕ)) : Type 0 where
  pub taken_are : after.taken ≡ record before.taken { module_names = taken }
  pub same_known : after.known ≡ before.known
  pub same_fields : after.fields ≡ before.fields
  pub same_bits : after.has_bits ≡ before.has_bits

-- those that keys get, behind others
abbrev pub names_taken : CProgram → (taken : List (List ℕ)) → List NameKey → List (List ℕ)
names_taken program taken [] = taken
names_taken program taken (key ∷ keys) = names_taken program (taken_more program taken key) keys

-- the names of the items of the module of a unit, beside the crate's own
abbrev pub item_names : CProgram → ℕ → List (List ℕ)
item_names program unit = names_only (given_from program own_names (module_keys program unit))

-- ---- what is known

-- the place to which a function writes the structure or union that it gives
abbrev pub is_result : Named → Bool
is_result (Object number) = false
is_result (Function number) = false
is_result (BareFunction number) = false
is_result (Record number) = false
is_result (Enum number) = false
is_result (Temporary number) = false
is_result Result = true

-- what things are in the module of a unit, in a function with these names
abbrev pub KnowsAll : NamedProgram → (unit : ℕ) → LocalNames → Names → Type 0
KnowsAll whole unit own names = (one : Named) → is_result one ≡ false → names.known one ≡ known_thing whole unit own one

-- what a module declares is known, beside what doesn't differ from module to module
pub record KnowsModule (whole : NamedProgram) (unit : ℕ) (before after : Names) : Type 0 where
  pub known_are : KnowsAll whole unit no_locals after
  pub rest : KeepsRest before after

-- in the module of a unit, outside of functions
pub record IsModule (whole : NamedProgram) (unit : ℕ) (names : Names) : Type 0 where
  pub known_are : KnowsAll whole unit no_locals names
  pub taken_are : names.taken.module_names ≡ item_names whole.program unit
  pub none_own : names.taken.own_names ≡ []
  pub units_there : length whole.program.types.enums ≤ length whole.program.types.enum_units
  pub has_bits_is : names.has_bits ≡ has_bit_fields whole.program.types

-- ---- from module to module

abbrev pub is_bare_key : NameKey → Bool
is_bare_key (a_function number) = false
is_bare_key (an_object number) = false
is_bare_key (a_record number) = false
is_bare_key a_calloc = false
is_bare_key (a_bare_function number) = true

-- an external function is declared once more without parameters
abbrev pub some_bare : List NameKey → Bool
some_bare keys = list_any is_bare_key keys
