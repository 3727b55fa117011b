-- Fields and records by what is kept of structures, unions and enumerated types alone.
use Rattle.std.proofs.Common.{◌≡◌, ℕ, Bool, true, false, List, [], ◌∷◌, Option, Some, None, slice_get, refl, sym, ap, ◌∙◌}
use Rattle.std.proofs.Math.Path.{fun_ext}
use Rattle.cr_base.specs.declared.layout.Spot.{Spot}
use Rattle.cx_core.specs.Layouts.{CRow}
use Rattle.cx_core.specs.Trees.{CTy, ty, void, basic, enum_type, pointer, array, record_type, function, CMember, CRecord}
use Rattle.rs_items.specs.Known.{Knows}
use Rattle.rs_items.specs.Records.{FieldsWalk, PlacedMember, elements_size, fields_walk, kept_size, placed_member, placed_members, raised_to, record_name, record_tree, record_walk, size_of}
use Rattle.rs_items.specs.Types.{TypeNames, enum_integer, record_path as path_of, rust_type, type_names}
use Rattle.rs_items.specs.declared.known.Named.TheVariants.{Record, Enum}
use Rattle.rs_text.specs.Tree.{FieldTree, RecordTree, RecordItem}
use Rattle.rs_text.specs.declared.integer.IntegerTy.{IntegerTy}
use Rattle.rs_tree.specs.declared.ty.RPath.{RPath}
use Rattle.whole_known.proofs.Alike.{types_alike}
use Rattle.whole_known.specs.Stages.{HasTypes}
use Rattle.whole_names.specs.Kept as kept
use Rattle.whole_names.specs.Kept.{LocalNames, NamedProgram, enum_thing, known_thing, no_locals, record_path, record_thing, types_of}
use Rattle.whole_records.specs.Fields.{record_made}

-- ---- what is known by definition

path_is : (whole : NamedProgram) (number : ℕ) (path : Option RPath) → path_of (record_thing whole number path) ≡ path
path_is whole number None = refl
path_is whole number (Some path) = refl

enum_is : (whole : NamedProgram) (unit number : ℕ) (is_int : Option Bool) → enum_integer (enum_thing whole unit number is_int) ≡ kept.enum_type is_int
enum_is whole unit number None = refl
enum_is whole unit number (Some true) = refl
enum_is whole unit number (Some false) = refl

abbrev types_by : (ℕ → Option RPath) → (ℕ → IntegerTy) → TypeNames
types_by records enums = record { records = records; enums = enums }

thing_types : (whole : NamedProgram) (unit : ℕ) → type_names (known_thing whole unit no_locals) ≡ types_of whole
thing_types whole unit =
    ap (λ (records : ℕ → Option RPath). types_by records (λ number. enum_integer (known_thing whole unit no_locals (Enum number)))) (fun_ext (λ number. path_is whole number (record_path whole number)))
    ∙ ap (λ (enums : ℕ → IntegerTy). types_by (record_path whole) enums) (fun_ext (λ number. enum_is whole unit number (slice_get whole.program.types.enums number)))

-- ---- walks

module _ (one other : Knows) (types : type_names one ≡ type_names other) (records : (number : ℕ) → one (Record number) ≡ other (Record number)) where
  sizes_in : (type : CTy) → size_of one type ≡ size_of other type
  sizes_in (ty void is_const) = refl
  sizes_in (ty (basic which) is_const) = refl
  sizes_in (ty (enum_type number) is_const) = refl
  sizes_in (ty (pointer to) is_const) = refl
  sizes_in (ty (array element count) is_const) = ap (λ (size : ℕ). elements_size count size) (sizes_in element)
  sizes_in (ty (record_type number) is_const) = ap kept_size (records number)
  sizes_in (ty (function result params variadic) is_const) = refl

  abbrev placed : CMember → Spot → TypeNames → ℕ → PlacedMember
  placed member spot names size = record { name = member.name; bits = member.bits; ty = rust_type names member.type; size = size; spot = spot }

  member_alike : (member : CMember) (spot : Spot) → placed_member one member spot ≡ placed_member other member spot
  member_alike member spot =
      ap (λ (names : TypeNames). placed member spot names (size_of one member.type)) types ∙ ap (λ (size : ℕ). placed member spot (type_names other) size) (sizes_in member.type)

  members_alike : (members : List CMember) (spots : List Spot) → placed_members one members spots ≡ placed_members other members spots
  members_alike [] spots = refl
  members_alike (member ∷ members) [] = refl
  members_alike (member ∷ members) (spot ∷ spots) =
      ap (λ (first : PlacedMember). first ∷ placed_members one members spots) (member_alike member spot)
      ∙ ap (λ (others : List PlacedMember). placed_member other member spot ∷ others) (members_alike members spots)

  pub walk_alike : (it : CRecord) (spots : List Spot) → fields_walk one it spots ≡ fields_walk other it spots
  walk_alike it spots = ap (λ (members : List PlacedMember). record_walk it.is_union members) (members_alike it.members spots)

  abbrev tree_by : CRecord → ℕ → List ℕ → List FieldTree → RecordTree
  tree_by it align name fields = record { align = raised_to align it.members; is_union = it.is_union; name = name; fields = fields }

  pub tree_alike : (it : CRecord) (spots : List Spot) (align : ℕ) → record_tree one it spots align ≡ record_tree other it spots align
  tree_alike it spots align =
      ap (λ (name : List ℕ). tree_by it align name (fields_walk one it spots).fields) (ap record_name (records it.number))
      ∙ ap (λ (walk : FieldsWalk). tree_by it align (record_name (other (Record it.number))) walk.fields) (walk_alike it spots)

module _ (whole : NamedProgram) (unit : ℕ) (known : Knows) (has : HasTypes whole known) where
  pub walk_is : (it : CRecord) (spots : List Spot) → fields_walk known it spots ≡ fields_walk (known_thing whole unit no_locals) it spots
  walk_is it spots = walk_alike known (known_thing whole unit no_locals) (types_alike whole known has ∙ sym (thing_types whole unit)) has.has_records it spots

  pub made_is : (it : CRecord) (row : CRow) → RecordItem (record_tree known it row.spots row.laid.align) ≡ record_made whole unit it row
  made_is it row =
      ap (λ (tree : RecordTree). RecordItem tree)
      (tree_alike known (known_thing whole unit no_locals) (types_alike whole known has ∙ sym (thing_types whole unit)) has.has_records it row.spots row.laid.align)
