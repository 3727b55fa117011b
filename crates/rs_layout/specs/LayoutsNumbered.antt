-- Where the fields of a crate's records begin, by their numbers, and which types a crate has.
use Rattle.std.specs.Prelude.{ℕ, Bool, ◌||◌, List, take, slice_get, Option, Some, None, option_and_then, option_map}
use Rattle.cr_base.specs.Layout.{no_front, spot}
use Rattle.cr_base.specs.declared.layout.Front.{Front}
use Rattle.cr_base.specs.declared.layout.Laid.{Laid}
use Rattle.rs_text.specs.Tree.{Ty, FieldTree, RecordTree, ItemTree, RecordItem, StaticItem, ExternItem, FunctionItem, ModuleTree}
use Rattle.rs_text.specs.Valid.{is_void}
use Rattle.rs_mean.specs.Layout.{laid_of, field_at, front_after, piece_of}
use Rattle.rs_mean.specs.Typing.{type_stands}

-- `c_void`, or a type that meets the cases for a type in a crate
abbrev pub is_type_in : List ModuleTree → Ty → Bool
is_type_in modules ty = is_void ty || type_stands modules ty

-- ---- fields by their numbers

abbrev pub record_item : Option ItemTree → Option RecordTree
record_item None = None
record_item (Some (RecordItem one)) = Some one
record_item (Some (StaticItem object)) = None
record_item (Some (ExternItem outers)) = None
record_item (Some (FunctionItem fun)) = None

-- the record that is the item with a number of the module with a number, from 0
abbrev pub record_numbered : List ModuleTree → ℕ → ℕ → Option RecordTree
record_numbered modules m i = option_and_then (λ unit. record_item (slice_get unit.items i)) (slice_get modules m)

-- the field with a number in it
abbrev pub field_numbered : List ModuleTree → ℕ → ℕ → ℕ → Option FieldTree
field_numbered modules m i f = option_and_then (λ one. slice_get one.fields f) (record_numbered modules m i)

abbrev pub byte_behind : Option Front → Option Laid → Option ℕ
byte_behind front None = None
byte_behind front (Some one) = option_map (λ taken. (spot taken (piece_of one)).byte) front

-- where the field with a number of a record begins, behind what the fields in front have taken
abbrev pub byte_in : (Ty → Option Laid) → ℕ → RecordTree → Option ℕ
byte_in layout f one =
    option_and_then (λ field. byte_behind (front_after layout (Some (no_front one.is_union)) (take f one.fields)) (layout field.ty)) (slice_get one.fields f)

-- where the field with a number of the record that is an item of a crate begins, in bytes
abbrev pub field_byte : List ModuleTree → ℕ → ℕ → ℕ → Option ℕ
field_byte modules m i f = option_and_then (byte_in (laid_of modules) f) (record_numbered modules m i)

abbrev pub named_in : List ModuleTree → List ℕ → ℕ → RecordTree → Option ℕ
named_in modules home f one =
    option_and_then (λ field. option_map (λ place. place.byte) (field_at modules home one.name field.name)) (slice_get one.fields f)

-- where a run finds that field by its name and those of the record and the module
abbrev pub named_byte : List ModuleTree → ℕ → ℕ → ℕ → Option ℕ
named_byte modules m i f = option_and_then (λ unit. option_and_then (named_in modules unit.name f) (record_item (slice_get unit.items i))) (slice_get modules m)
