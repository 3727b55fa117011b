-- Sizes, alignments and places of fields (the Rust Reference, "Type layout" and "The C representation").
use Rattle.std.specs.Prelude.{ℕ, ◌*◌, ◌/◌, nat_le, List, [], ◌∷◌, reverse, Option, Some, None, bytes_eq, if◌then◌else◌, option_and_then, option_map}
use Rattle.cr_base.specs.Layout.{most_bytes, after, no_front, raised, laid, spot}
use Rattle.cr_base.specs.declared.layout.Front.{Front}
use Rattle.cr_base.specs.declared.layout.Laid.{Laid}
use Rattle.cr_base.specs.declared.layout.Piece.{Piece}
use Rattle.cr_base.specs.declared.layout.Piece.TheVariants.{Plain}
use Rattle.rs_text.specs.Tree.{Ty, Integer, Boolean, Void, Pointer, Array, Code, Record, FieldTree, RecordTree, ItemTree, RecordItem, StaticItem, ExternItem, FunctionItem, ModuleTree}
use Rattle.rs_mean.specs.Lookups.{items_in, record_at}
use Rattle.rs_mean.specs.Scalars.{width_of}

-- a size that is its alignment, too
abbrev pub even : ℕ → Laid
even bytes = record { size = bytes; align = bytes }

-- what isn't larger than an object of the profile
abbrev pub within_most : Laid → Option Laid
within_most one = if nat_le one.size most_bytes then Some one else None

-- so many values side by side, at least one
abbrev pub repeated : ℕ → Laid → Option Laid
repeated count one =
    if nat_le 1 count then within_most (record { size = count * one.size; align = one.align }) else None

-- how a type is laid out, where its records are as is said: none where it has no layout or is too large
abbrev pub laid_with : (records : List ℕ → List ℕ → Option Laid) → Ty → Option Laid
laid_with records (Integer ty) = Some (even (width_of ty / 8))
laid_with records Boolean = Some (even 1)
laid_with records Void = None
laid_with records (Pointer target) = Some (even 8)
laid_with records (Array element size) = option_and_then (repeated size) (laid_with records element)
laid_with records (Code params result) = Some (even 8)
laid_with records (Record m x) = records m x

-- ---- records

abbrev pub piece_of : Laid → Piece
piece_of one = Plain one.size one.align

abbrev pub behind : Option Laid → Option Front → Option Front
behind None front = None
behind (Some one) front = option_map (λ taken. after taken (piece_of one)) front

-- what the fields in front have taken, and then these
abbrev pub front_after : (Ty → Option Laid) → Option Front → List FieldTree → Option Front
front_after layout front [] = front
front_after layout front (field ∷ fields) = front_after layout (behind (layout field.ty) front) fields

abbrev pub raised_by : Option ℕ → Front → Front
raised_by None front = front
raised_by (Some align) front = raised align front

-- how a record is laid out, where its fields' types are as is said
abbrev pub record_laid : (Ty → Option Laid) → RecordTree → Option Laid
record_laid layout one =
    option_and_then (λ front. within_most (laid (raised_by one.align front)))
    (front_after layout (Some (no_front one.is_union)) one.fields)

-- how the record of a name is laid out among the items of a module, the last one first: the records that it holds stand before it
-- in the same module
abbrev pub laid_among : (home : List ℕ) → List ItemTree → List ℕ → Option Laid
laid_among home [] x = None
laid_among home (RecordItem one ∷ earlier) x =
    if bytes_eq one.name x
    then record_laid (laid_with (λ m y. if bytes_eq m home then laid_among home earlier y else None)) one
    else laid_among home earlier x
laid_among home (StaticItem object ∷ earlier) x = laid_among home earlier x
laid_among home (ExternItem outers ∷ earlier) x = laid_among home earlier x
laid_among home (FunctionItem fun ∷ earlier) x = laid_among home earlier x

-- the layout of the record that a path names
abbrev pub laid_at : List ModuleTree → List ℕ → List ℕ → Option Laid
laid_at modules m x = laid_among m (reverse (items_in modules m)) x

-- the layout of a type in a crate
abbrev pub laid_of : List ModuleTree → Ty → Option Laid
laid_of modules ty = laid_with (laid_at modules) ty

-- ---- fields

-- the type of a field, and where it begins in its record
pub record FieldPlace : Type 0 where
  pub ty : Ty
  pub byte : ℕ

abbrev pub placed : Option Laid → Front → FieldTree → Option FieldPlace
placed None front field = None
placed (Some one) front field = Some (record { ty = field.ty; byte = (spot front (piece_of one)).byte })

-- the place of the field of a name, behind what the fields in front have taken
abbrev pub field_behind : (Ty → Option Laid) → List ℕ → Option Front → List FieldTree → Option FieldPlace
field_behind layout f front [] = None
field_behind layout f front (field ∷ fields) =
    if bytes_eq field.name f
    then option_and_then (λ taken. placed (layout field.ty) taken field) front
    else field_behind layout f (behind (layout field.ty) front) fields

abbrev pub field_of : List ModuleTree → List ℕ → Option RecordTree → Option FieldPlace
field_of modules f None = None
field_of modules f (Some one) = field_behind (laid_of modules) f (Some (no_front one.is_union)) one.fields

-- the place of a field in a record that a path names
abbrev pub field_at : List ModuleTree → List ℕ → List ℕ → List ℕ → Option FieldPlace
field_at modules m x f = field_of modules f (record_at modules m x)
