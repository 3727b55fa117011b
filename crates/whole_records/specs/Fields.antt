-- The fields of the members of structures and unions, as they are kept, and the records that they become.
use Rattle.std.specs.Prelude.{◌≡◌, ℕ, zero, suc, ◌==◌, if◌then◌else◌, List, [], ◌∷◌, ◌++◌, Option, Some, None, slice_get}
use Rattle.std.specs.Option.{option_flatten}
use Rattle.cx_core.specs.Layouts.{CRow, row_at, layouts_of}
use Rattle.cx_core.specs.Trees.{CRecord}
use Rattle.rs_items.specs.Known.{MemberField, Names}
use Rattle.rs_items.specs.Records.{fields_walk, record_tree}
use Rattle.rs_text.specs.Tree.{ItemTree, RecordItem}
use Rattle.whole_given.specs.Told.{first_of}
use Rattle.whole_items.specs.Items.{record_items_of}
use Rattle.whole_names.specs.Kept.{NamedProgram, known_thing, no_locals, record_unit}

-- a completed structure or union
abbrev pub record_in : NamedProgram → ℕ → Option CRecord
record_in whole number = option_flatten (slice_get whole.program.types.records number)

abbrev pub record_made : NamedProgram → (unit : ℕ) → CRecord → CRow → ItemTree
record_made whole unit one row = RecordItem (record_tree (known_thing whole unit no_locals) one row.spots row.laid.align)

-- ---- fields

abbrev pub fields_with_row : NamedProgram → (number : ℕ) → CRecord → Option CRow → Option (List MemberField)
fields_with_row whole number one None = None
fields_with_row whole number one (Some row) = Some (fields_walk (known_thing whole (record_unit whole number) no_locals) one row.spots).members

abbrev pub fields_of_record : NamedProgram → (number : ℕ) → Option CRecord → Option (List MemberField)
fields_of_record whole number None = None
fields_of_record whole number (Some one) = fields_with_row whole number one (row_at (layouts_of whole.program.types) number)

-- the fields of a structure or union, in its own module
abbrev pub fields_at : NamedProgram → ℕ → Option (List MemberField)
fields_at whole number = fields_of_record whole number (record_in whole number)

abbrev pub HasFields : NamedProgram → Names → Type 0
HasFields whole names = (number : ℕ) → names.fields number ≡ fields_at whole number

-- ---- what changes

-- nothing else changed: what is known, the names that are taken in the module and in a function, and whether there are bit-fields
pub record KeepsNames (before after : Names) : Type 0 where
  pub same_known : after.known ≡ before.known
  pub same_items : after.taken.module_names ≡ before.taken.module_names
  pub same_own : after.taken.own_names ≡ before.taken.own_names
  pub same_bits : after.has_bits ≡ before.has_bits

abbrev pub Fields : Type 0
Fields = ℕ → Option (List MemberField)

abbrev pub put_fields : NamedProgram → ℕ → Fields → Fields
put_fields whole number fields other = if other == number then first_of (fields_at whole number) (fields other) else fields other

-- the fields of a structure or union are kept, if it has any
pub record Writes (whole : NamedProgram) (number : ℕ) (before after : Names) : Type 0 where
  pub fields_are : (other : ℕ) → after.fields other ≡ put_fields whole number before.fields other
  pub rest : KeepsNames before after

abbrev pub fields_put : NamedProgram → (count : ℕ) → Fields → Fields
fields_put whole zero fields = fields
fields_put whole (suc count) fields = put_fields whole count (fields_put whole count fields)

pub record WritesAll (whole : NamedProgram) (count : ℕ) (before after : Names) : Type 0 where
  pub fields_are : (other : ℕ) → after.fields other ≡ fields_put whole count before.fields other
  pub rest : KeepsNames before after

-- records behind other items
abbrev pub records_behind : NamedProgram → (unit : ℕ) → List ℕ → List ItemTree → List ItemTree
records_behind whole unit [] before = before
records_behind whole unit (number ∷ numbers) before = records_behind whole unit numbers (before ++ record_items_of whole unit number (record_in whole number))
