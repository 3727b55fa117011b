-- What a function's parameters, locals and temporaries have become.
use Rattle.std.specs.Prelude.{◌≡◌, ◌≤◌, ℕ, length, List, [], ◌∷◌, Option, Some, None, option_map, slice_get}
use Rattle.cx_core.specs.BitFields.{has_bit_fields}
use Rattle.cx_core.specs.Trees.{CObject, CFun}
use Rattle.cx_core.specs.Typing.{object_with}
use Rattle.rs_items.specs.Known.{KnownThing, Knows, Names}
use Rattle.rs_items.specs.Types.{rust_type}
use Rattle.rs_items.specs.declared.known.Named.TheVariants.{Object, Temporary}
use Rattle.rs_text.specs.Tree.{Ty}
use Rattle.whole_known.specs.Modules.{KnowsAll, item_names}
use Rattle.whole_known.specs.Stages.{put}
use Rattle.whole_names.specs.FunctionNames.{LocalKey, a_result, a_passed, a_local, a_temporary, LocalName, local_names}
use Rattle.whole_names.specs.Kept.{LocalNames, NamedProgram, object_item, own_thing, size_of, temporary_thing, types_of}

abbrev pub own_item : NamedProgram → List ℕ → CObject → KnownThing
own_item whole name one = own_thing (Object one.object) one.unit name (rust_type (types_of whole) one.type) (size_of whole one.type)

-- an object by its number, as a local or parameter with a name
abbrev pub own_object : NamedProgram → (number : ℕ) → List ℕ → Option KnownThing
own_object whole number name = option_map (own_item whole name) (object_with number whole.program.objects)

abbrev pub temporary_at : (unit : ℕ) → List Ty → (number : ℕ) → List ℕ → Option KnownThing
temporary_at unit temporaries number name = temporary_thing unit number (Some name) (slice_get temporaries number)

abbrev pub key_put : NamedProgram → (unit : ℕ) → List Ty → List ℕ → LocalKey → Knows → Knows
key_put whole unit temporaries name a_result known = known
key_put whole unit temporaries name (a_passed number) known = known
key_put whole unit temporaries name (a_local number) known = put (Object number) (own_object whole number name) known
key_put whole unit temporaries name (a_temporary number) known = put (Temporary number) (temporary_at unit temporaries number name) known

abbrev pub local_put : NamedProgram → (unit : ℕ) → List Ty → LocalName → Knows → Knows
local_put whole unit temporaries one known = key_put whole unit temporaries one.name one.key known

abbrev pub locals_put : NamedProgram → (unit : ℕ) → List Ty → List LocalName → Knows → Knows
locals_put whole unit temporaries [] known = known
locals_put whole unit temporaries (one ∷ others) known = local_put whole unit temporaries one (locals_put whole unit temporaries others known)

-- the names in a function with temporaries of these types
abbrev pub own_names_of : NamedProgram → CFun → List Ty → LocalNames
own_names_of whole fun temporaries = record { names = local_names whole.program fun (length temporaries); temporaries = temporaries; result = None }

-- in a function with temporaries of these types
pub record IsFunction (whole : NamedProgram) (fun : CFun) (temporaries : List Ty) (names : Names) : Type 0 where
  pub known_are : KnowsAll whole fun.unit (own_names_of whole fun temporaries) names
  pub taken_are : names.taken.module_names ≡ item_names whole.program fun.unit
  pub units_there : length whole.program.types.enums ≤ length whole.program.types.enum_units
  pub has_bits_is : names.has_bits ≡ has_bit_fields whole.program.types

-- ---- outside of the function

-- an object by its number, as an item
abbrev pub item_at : NamedProgram → (number : ℕ) → Option KnownThing
item_at whole number = option_map (object_item whole) (object_with number whole.program.objects)

abbrev pub key_item_put : NamedProgram → LocalKey → Knows → Knows
key_item_put whole a_result known = known
key_item_put whole (a_passed number) known = known
key_item_put whole (a_local number) known = put (Object number) (item_at whole number) known
key_item_put whole (a_temporary number) known = known

abbrev pub item_put : NamedProgram → LocalName → Knows → Knows
item_put whole one known = key_item_put whole one.key known

abbrev pub items_put : NamedProgram → List LocalName → Knows → Knows
items_put whole [] known = known
items_put whole (one ∷ others) known = items_put whole others (item_put whole one known)
