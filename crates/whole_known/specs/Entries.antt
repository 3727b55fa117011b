-- What enumerated types and records have become.
use Rattle.std.specs.Prelude.{ℕ, Bool, false, Some, []}
use Rattle.cx_core.specs.Trees.{ty, record_type}
use Rattle.rs_items.specs.Known.{KnownThing}
use Rattle.rs_items.specs.Types.{record_or_void}
use Rattle.rs_items.specs.declared.known.Named.TheVariants.{Enum, Record}
use Rattle.rs_text.specs.Tree.{Integer}
use Rattle.whole_names.specs.Keys.{a_record}
use Rattle.whole_names.specs.Kept.{NamedProgram, enum_type, item, module_of, name_in, own_thing, size_of}

abbrev pub enum_entry : (number unit : ℕ) → Bool → KnownThing
enum_entry number unit is_int = own_thing (Enum number) unit [] (Integer (enum_type (Some is_int))) 4

abbrev pub record_entry : NamedProgram → (number unit : ℕ) → KnownThing
record_entry whole number unit =
    item (Record number) unit (module_of whole unit) (name_in whole unit (a_record number))
    (record_or_void (Some (record { home = module_of whole unit; name = name_in whole unit (a_record number) }))) (size_of whole (ty (record_type number) false))
