-- Laws of types and records: those of the written crate are laid out as those of C (ISO C99, 6.2.6.1 and 6.7.2.1; the Rust Reference, "Type layout").
use Rattle.std.specs.Prelude.{◌≡◌, ℕ, ◌+◌, ◌*◌, ◌<◌, ◌≤◌, ◌^◌, nat_lt, if◌then◌else◌, Bool, true, List, [], ◌∷◌, map, length, Option, None, Some, All}
use Rattle.cr_base.specs.Layout.{no_front}
use Rattle.cr_base.specs.declared.layout.Spot.{Spot}
use Rattle.cr_base.specs.declared.layout.Laid.{Laid}
use Rattle.cx_core.specs.Layouts.{CLayouts, CRow, extent, row_of}
use Rattle.cx_core.specs.Trees.{CRecord, CTy}
use Rattle.rs_items.specs.Known.{Knows, MemberField}
use Rattle.rs_items.specs.Records.{PlacedMember, fields_walk, placed_members, reached, record_tree}
use Rattle.rs_items_rules.specs.Agree.{Agrees, AreKept, Records}
use Rattle.rs_mean.specs.Layout.{FieldPlace, field_behind, laid_with, record_laid}
use Rattle.rs_text.specs.Tree.{Array, FieldTree, Integer, Ty}
use Rattle.rs_text.specs.declared.integer.IntegerTy.TheVariants.{U8}
use Rattle.rs_text.specs.Valid.{all_differ}

-- the Rust type of a complete type has its size and alignment
abbrev pub TypesAgree : Type 0
TypesAgree = (known : Knows) (records : Records) (layouts : CLayouts) (type : CTy) (laid : Laid) → AreKept known records layouts → extent layouts type ≡ Some laid
    → Agrees known (laid_with records) type laid

-- the record of a structure or union has its size and alignment
abbrev pub RecordsAgree : Type 0
RecordsAgree = (known : Knows) (records : Records) (layouts : CLayouts) (one : CRecord) (row : CRow) → AreKept known records layouts → row_of layouts one ≡ Some row
    → record_laid (laid_with records) (record_tree known one row.spots row.laid.align) ≡ Some row.laid

-- a field that is kept stands where it is kept to stand, with the type that is kept
abbrev pub StandsIn : (Ty → Option Laid) → (is_union : Bool) → List FieldTree → MemberField → Type 0
StandsIn layout is_union fields one = field_behind layout one.name (Some (no_front is_union)) fields ≡ Some (record { ty = one.ty; byte = one.byte })

-- the members that are no bit-fields: their Rust types, and where they stand in C
abbrev pub plain_places : List PlacedMember → List FieldPlace
plain_places [] = []
plain_places (one ∷ others) = elim one.bits as (λ _. List FieldPlace) [
  | None ↦ record { ty = one.ty; byte = one.spot.byte } ∷ plain_places others
  | Some width ↦ plain_places others
]

abbrev pub place_of : MemberField → FieldPlace
place_of one = record { ty = one.ty; byte = one.byte }

-- each member that is no bit-field has a field, which stands where the member stands
pub record FieldsStand : Type 0 where
  pub all : (known : Knows) (one : CRecord) (spots : List Spot) → map place_of (fields_walk known one spots).members ≡ plain_places (placed_members known one.members spots)
  pub stand : (known : Knows) (records : Records) (layouts : CLayouts) (one : CRecord) (row : CRow) → AreKept known records layouts → row_of layouts one ≡ Some row
      → 2 * length one.members + 4 < 2 ^ 64
      → All (StandsIn (laid_with records) one.is_union (record_tree known one row.spots row.laid.align).fields) (fields_walk known one row.spots).members
  -- the names of fields differ
  pub differ : (known : Knows) (one : CRecord) (spots : List Spot) (align : ℕ) → 2 * length one.members + 4 < 2 ^ 64
      → all_differ (map (λ (field : FieldTree). field.name) (record_tree known one spots align).fields) ≡ true

-- the bit-fields that have bits
abbrev pub bits_spots : List PlacedMember → List Spot
bits_spots [] = []
bits_spots (one ∷ others) = elim one.bits as (λ _. List Spot) [
  | None ↦ bits_spots others
  | Some width ↦ if nat_lt 0 width then one.spot ∷ bits_spots others else bits_spots others
]

-- the bytes in which a bit-field stands are in a field of bytes
pub record IsCovered (layout : Ty → Option Laid) (is_union : Bool) (fields : List FieldTree) (place : Spot) : Type 0 where
  pub name : List ℕ
  pub byte : ℕ
  pub count : ℕ
  pub found : field_behind layout name (Some (no_front is_union)) fields ≡ Some (record { ty = Array (Integer U8) count; byte = byte })
  pub low : byte ≤ place.byte
  pub high : reached place ≤ byte + count

-- each bit-field stands in a field of bytes
abbrev pub BitsAreCovered : Type 0
BitsAreCovered = (known : Knows) (records : Records) (layouts : CLayouts) (one : CRecord) (row : CRow) → AreKept known records layouts → row_of layouts one ≡ Some row
    → 2 * length one.members + 4 < 2 ^ 64
    → All (IsCovered (laid_with records) one.is_union (record_tree known one row.spots row.laid.align).fields) (bits_spots (placed_members known one.members row.spots))
