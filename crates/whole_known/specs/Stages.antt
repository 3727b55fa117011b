-- What is known of things once some of them are kept.
use Rattle.std.specs.Prelude.{◌≡◌, ◌≤◌, ℕ, zero, suc, length, Bool, true, false, if◌then◌else◌, List, [], ◌∷◌, Option, Some, None, is_some, option_map, slice_get}
use Rattle.cx_core.specs.BitFields.{has_bit_fields}
use Rattle.cx_core.specs.Trees.{CObject, CFun, COuter}
use Rattle.cx_core.specs.Typing.{function_with, object_with, outer_with}
use Rattle.rs_items.specs.Known.{KnownThing, Knows, Names, same_named}
use Rattle.rs_items.specs.declared.known.Named.{Named}
use Rattle.rs_items.specs.declared.known.Named.TheVariants.{Object, Function, BareFunction, Record, Enum, Temporary}
use Rattle.whole_given.specs.Told.{first_of}
use Rattle.whole_known.specs.Entries.{enum_entry}
use Rattle.whole_names.specs.Keys.{NameKey, a_function, an_object, a_record, a_calloc, a_bare_function}
use Rattle.whole_names.specs.Kept.{NamedProgram, record_path, record_thing, unit_or, no_locals, object_thing, object_item, function_item, outer_thing, bare_item}

-- an entry is the newest of its thing; where there is none, what is known stays
abbrev pub put : Named → Option KnownThing → Knows → Knows
put named entry known one = if same_named one named then first_of entry (known one) else known one

-- nothing else changed: names that are taken, fields, and whether there are bit-fields
pub record KeepsRest (before after : Names) : Type 0 where
  pub same_taken : after.taken ≡ before.taken
  pub same_fields : after.fields ≡ before.fields
  pub same_bits : after.has_bits ≡ before.has_bits

-- this is known, and nothing else changed
pub record KnowsMore (before after : Names) (known : Knows) : Type 0 where
  pub known_is : (one : Named) → after.known one ≡ known one
  pub rest : KeepsRest before after

-- ---- types

abbrev pub enum_with : (number : ℕ) → Option ℕ → Option Bool → Option KnownThing
enum_with number unit None = None
enum_with number unit (Some is_int) = Some (enum_entry number (unit_or 0 unit) is_int)

-- an enumerated type, and a structure or union, by its number
abbrev pub enum_at : NamedProgram → ℕ → Option KnownThing
enum_at whole number = enum_with number (slice_get whole.program.types.enum_units number) (slice_get whole.program.types.enums number)

abbrev pub record_at : NamedProgram → ℕ → Option KnownThing
record_at whole number = record_thing whole number (record_path whole number)

-- what is known once the entries of the first so many numbers of a kind are kept
abbrev pub numbers_put : (kind : ℕ → Named) → (entry : ℕ → Option KnownThing) → (count : ℕ) → Knows → Knows
numbers_put kind entry zero known = known
numbers_put kind entry (suc count) known = put (kind count) (entry count) (numbers_put kind entry count known)

abbrev pub enum_kind : ℕ → Named
enum_kind number = Enum number

abbrev pub record_kind : ℕ → Named
record_kind number = Record number

abbrev pub enums_put : NamedProgram → (count : ℕ) → Knows → Knows
enums_put whole count known = numbers_put enum_kind (enum_at whole) count known

abbrev pub records_put : NamedProgram → (count : ℕ) → Knows → Knows
records_put whole count known = numbers_put record_kind (record_at whole) count known

-- the program's records and enumerated types are known
pub record HasTypes (whole : NamedProgram) (known : Knows) : Type 0 where
  pub has_records : (number : ℕ) → known (Record number) ≡ record_at whole number
  pub has_enums : (number : ℕ) → known (Enum number) ≡ enum_at whole number

-- ---- objects and functions that units define

-- the first of a number is the newest
abbrev pub objects_put : NamedProgram → List CObject → Knows → Knows
objects_put whole [] known = known
objects_put whole (one ∷ others) known = put (Object one.object) (Some (object_item whole one)) (objects_put whole others known)

abbrev pub functions_put : NamedProgram → List CFun → Knows → Knows
functions_put whole [] known = known
functions_put whole (one ∷ others) known = put (Function one.function) (Some (function_item whole one)) (functions_put whole others known)

-- ---- external functions

abbrev pub outer_where : NamedProgram → (unit : ℕ) → COuter → Option KnownThing
outer_where whole unit one = if is_some (function_with one.function whole.program.functions) then None else outer_thing whole unit (Some one)

abbrev pub outers_put : NamedProgram → (unit : ℕ) → List COuter → Knows → Knows
outers_put whole unit [] known = known
outers_put whole unit (one ∷ others) known = put (Function one.function) (outer_where whole unit one) (outers_put whole unit others known)

abbrev pub bare_at : NamedProgram → (unit number : ℕ) → Option KnownThing
bare_at whole unit number = option_map (bare_item whole unit) (outer_with number whole.program.externals)

abbrev pub bare_put : NamedProgram → (unit : ℕ) → NameKey → Knows → Knows
bare_put whole unit (a_function number) known = known
bare_put whole unit (an_object number) known = known
bare_put whole unit (a_record number) known = known
bare_put whole unit a_calloc known = known
bare_put whole unit (a_bare_function number) known = put (BareFunction number) (bare_at whole unit number) known

abbrev pub bares_put : NamedProgram → (unit : ℕ) → List NameKey → Knows → Knows
bares_put whole unit [] known = known
bares_put whole unit (key ∷ keys) known = bares_put whole unit keys (bare_put whole unit key known)

-- ---- what is known outside of modules

-- what doesn't differ from module to module is known, and no function without parameters, which are declared in some modules alone
pub record IsBase (whole : NamedProgram) (names : Names) : Type 0 where
  pub types : HasTypes whole names.known
  pub objects : (number : ℕ) → names.known (Object number) ≡ object_thing whole no_locals (object_with number whole.program.objects)
  pub functions : (number : ℕ) (one : CFun) → function_with number whole.program.functions ≡ Some one → names.known (Function number) ≡ Some (function_item whole one)
  pub nothing_else : (number : ℕ) → function_with number whole.program.functions ≡ None → outer_with number whole.program.externals ≡ None → names.known (Function number) ≡ None
  pub no_bares : (number : ℕ) → names.known (BareFunction number) ≡ None
  pub no_temporaries : (number : ℕ) → names.known (Temporary number) ≡ None
  pub units_there : length whole.program.types.enums ≤ length whole.program.types.enum_units
  pub has_bits_is : names.has_bits ≡ has_bit_fields whole.program.types

abbrev pub KnowsNothing : Names → Type 0
KnowsNothing names = (one : Named) → names.known one ≡ None

-- the types of a program are known, and nothing else
pub record KnowsTypes (whole : NamedProgram) (before after : Names) : Type 0 where
  pub types : HasTypes whole after.known
  pub no_objects : (number : ℕ) → after.known (Object number) ≡ None
  pub no_functions : (number : ℕ) → after.known (Function number) ≡ None
  pub no_bares : (number : ℕ) → after.known (BareFunction number) ≡ None
  pub no_temporaries : (number : ℕ) → after.known (Temporary number) ≡ None
  pub units_there : length whole.program.types.enums ≤ length whole.program.types.enum_units
  pub rest : KeepsRest before after
