-- Laws of the fields that members are written as.
use Rattle.std.specs.Prelude.{◌≡◌, ℕ, ◌+◌, ◌*◌, ◌<◌, ◌^◌, true, false, List, ◌∷◌, ◌++◌, length, Some, is_some, All}
use Rattle.std.specs.List.{list_any}
use Rattle.cr_base.specs.Layout.{no_front}
use Rattle.cr_base.specs.declared.layout.Spot.{Spot}
use Rattle.cx_core.specs.Layouts.{CLayouts, CRow, row_of}
use Rattle.cx_core.specs.Trees.{CRecord}
use Rattle.rs_items.specs.Known.{Knows, MemberField}
use Rattle.rs_items.specs.Records.{fields_walk, placed_members, record_tree}
use Rattle.rs_items_fields.specs.Fields.{name_at, stands_at}
use Rattle.rs_items_rules.specs.Agree.{AreKept, Records}
use Rattle.rs_items_rules.specs.LawsRecords.{plain_places}
use Rattle.rs_mean.specs.Layout.{FieldPlace, field_behind, laid_with}
use Rattle.rs_text.specs.Tree.{Ty}

-- a member at a place has a field
abbrev pub HasName : List MemberField → FieldPlace → Type 0
HasName fields place = is_some (name_at place.byte place.ty fields) ≡ true

pub record FieldsFound : Type 0 where
  -- what is found is a field of the record that is written, which stands at that byte with that type
  pub stands : (known : Knows) (records : Records) (layouts : CLayouts) (one : CRecord) (row : CRow) → AreKept known records layouts → row_of layouts one ≡ Some row
      → 2 * length one.members + 4 < 2 ^ 64 → (byte : ℕ) (type : Ty) (name : List ℕ) → name_at byte type (fields_walk known one row.spots).members ≡ Some name
      → field_behind (laid_with records) name (Some (no_front one.is_union)) (record_tree known one row.spots row.laid.align).fields ≡ Some (record { ty = type; byte = byte })
  -- each member that is no bit-field is found where it stands in C, with its Rust type
  pub each : (known : Knows) (one : CRecord) (spots : List Spot) → All (HasName (fields_walk known one spots).members) (plain_places (placed_members known one.members spots))
  -- of several fields at one byte with one type, as members of a union may be, the first is found
  pub first : (byte : ℕ) (type : Ty) (front others : List MemberField) (one : MemberField) → list_any (stands_at byte type) front ≡ false → stands_at byte type one ≡ true
      → name_at byte type (front ++ one ∷ others) ≡ Some one.name
