-- The record of the written crate for a structure or union of C (ISO C99, 6.7.2.1; the Rust Reference, "The C representation"): a field for
-- each member that is no bit-field, and fields of bytes where bit-fields stand, so that each member stands where it stands in C.
use Rattle.std.specs.Prelude.{ℕ, ◌+◌, ◌-◌, ◌*◌, ◌/◌, max, nat_lt, Bool, true, false, ◌&&◌, ◌||◌, if◌then◌else◌, List, [], ◌∷◌, ◌++◌, Option, None, Some, is_some, codes}
use Rattle.cr_base.specs.declared.layout.Spot.{Spot}
use Rattle.cx_core.specs.Conversions.{width_of_basic}
use Rattle.cx_core.specs.Trees.{CTy, ty, CTyForm, void, basic, enum_type, pointer, array, record_type, function, CMember, CRecord}
use Rattle.rs_text.specs.Tree.{Ty, Integer, Array, FieldTree, RecordTree}
use Rattle.rs_text.specs.declared.integer.IntegerTy.TheVariants.{U8}
use Rattle.rs_items.specs.Known.{KnownThing, Knows, MemberField}
use Rattle.rs_items_sets.specs.Names.{rust_name}
use Rattle.rs_items.specs.Types.{path_in, rust_type, type_names}
use Rattle.rs_items.specs.declared.known.Named.TheVariants.{Record as RecordNamed}
use Rattle.rs_items_sets.specs.declared.scope.NameScope.TheVariants.{Fields}
use Rattle.rs_tree.specs.declared.ty.RPath.{RPath}

-- ---- sizes and alignments

-- the size of a structure or union: none that is kept has none
abbrev pub kept_size : Option KnownThing → ℕ
kept_size None = 0
kept_size (Some one) = one.size

abbrev pub elements_size : Option ℕ → ℕ → ℕ
elements_size None element = 0
elements_size (Some count) element = count * element

abbrev mutual
  -- the size of a type of C in bytes, where structures and unions have those that are kept: 0 for what has none
  pub size_of : Knows → CTy → ℕ
  size_of known (ty form is_const) = form_size known form

  pub form_size : Knows → CTyForm → ℕ
  form_size known void = 0
  form_size known (basic which) = width_of_basic which / 8
  form_size known (enum_type number) = 4
  form_size known (pointer to) = 8
  form_size known (array element length) = elements_size length (size_of known element)
  form_size known (record_type number) = kept_size (known (RecordNamed number))
  form_size known (function result params variadic) = 0

abbrev mutual
  -- the alignment that a type is known to have: that of a structure or union isn't kept
  pub least_align : CTy → ℕ
  least_align (ty form is_const) = form_align form

  pub form_align : CTyForm → ℕ
  form_align void = 1
  form_align (basic which) = width_of_basic which / 8
  form_align (enum_type number) = 4
  form_align (pointer to) = 8
  form_align (array element length) = least_align element
  form_align (record_type number) = 1
  form_align (function result params variadic) = 1

-- a bit-field that has a name, which raises the alignment of its structure or union
abbrev pub is_named_bits : CMember → Bool
is_named_bits one = is_some one.bits && is_some one.name

abbrev pub has_named_bits : List CMember → Bool
has_named_bits [] = false
has_named_bits (one ∷ others) = is_named_bits one || has_named_bits others

-- the alignment that the fields of members are known to have
abbrev pub member_align : CMember → ℕ
member_align one = if is_some one.bits then 1 else least_align one.type

abbrev pub fields_align : List CMember → ℕ
fields_align [] = 1
fields_align (one ∷ others) = max (member_align one) (fields_align others)

-- `align(N)` stands where a bit-field raises the alignment, and no field is known to have it: fields of bytes have none
abbrev pub raised_to : (align : ℕ) → List CMember → Option ℕ
raised_to align members = if has_named_bits members && nat_lt (fields_align members) align then Some align else None

-- ---- fields, one behind the other

-- what the members in front have become: so many bytes are in fields, and bit-fields reach over so many
pub record FieldsWalk : Type 0 where
  pub taken : ℕ
  pub due : ℕ
  -- the names of all fields
  pub names : List (List ℕ)
  pub fields : List FieldTree
  -- the fields of members that are no bit-fields
  pub members : List MemberField

abbrev pub no_fields : FieldsWalk
no_fields = record { taken = 0; due = 0; names = []; fields = []; members = [] }

abbrev pub field_name : FieldsWalk → List ℕ → List ℕ
field_name walk wanted = rust_name walk.names Fields wanted

-- with one more field, which gets the first name that is free
abbrev pub put_field : FieldsWalk → (wanted : List ℕ) → Ty → FieldsWalk
put_field walk wanted given = record walk {
  names = walk.names ++ field_name walk wanted ∷ [];
  fields = walk.fields ++ record { name = field_name walk wanted; ty = given } ∷ [];
}

-- so many bytes, in which bit-fields stand: none where there are none
abbrev pub put_bytes : FieldsWalk → ℕ → FieldsWalk
put_bytes walk count = if nat_lt 0 count then put_field walk (codes "bits") (Array (Integer U8) count) else walk

-- the name of a member that is no bit-field, which has one
abbrev pub member_name : Option (List ℕ) → List ℕ
member_name None = []
member_name (Some name) = name

-- a member, where it stands, and how its type is written
pub record PlacedMember : Type 0 where
  pub name : Option (List ℕ)
  pub bits : Option ℕ
  pub ty : Ty
  pub size : ℕ
  pub spot : Spot

-- the field of a member that is no bit-field
abbrev pub put_member : FieldsWalk → PlacedMember → FieldsWalk
put_member walk one = record (put_field walk (member_name one.name) one.ty) {
  members = walk.members ++ record { byte = one.spot.byte; ty = one.ty; name = field_name walk (member_name one.name) } ∷ [];
}

-- so many bits in whole bytes
abbrev pub whole_bytes : ℕ → ℕ
whole_bytes bits = (bits + 7) / 8

-- the bytes from the beginning of a structure to the end of a bit-field in it
abbrev pub reached : Spot → ℕ
reached spot = spot.byte + whole_bytes (spot.bit + spot.width)

-- so many bytes are in fields
abbrev pub filled : FieldsWalk → ℕ → FieldsWalk
filled walk end = record walk { taken = end; due = end }

-- Bytes that are due and not taken hold bit-fields. Padding in front of a field isn't due, since `repr(C)` has it too.
unfoldable pub struct_end : FieldsWalk → FieldsWalk
struct_end walk = put_bytes walk (walk.due - walk.taken)

-- one more member of a structure
unfoldable pub struct_step : FieldsWalk → PlacedMember → FieldsWalk
struct_step walk one = elim one.bits as (λ _. FieldsWalk) [
  | None ↦ filled (put_member (struct_end walk) one) (one.spot.byte + one.size)
  | Some width ↦ record walk { due = reached one.spot }
]

-- one more member of a union: a bit-field takes the bytes of its width
abbrev pub union_step : FieldsWalk → PlacedMember → FieldsWalk
union_step walk one = elim one.bits as (λ _. FieldsWalk) [
  | None ↦ put_member walk one
  | Some width ↦ put_bytes walk (whole_bytes width)
]

abbrev pub struct_walk : FieldsWalk → List PlacedMember → FieldsWalk
struct_walk walk [] = walk
struct_walk walk (one ∷ others) = struct_walk (struct_step walk one) others

abbrev pub union_walk : FieldsWalk → List PlacedMember → FieldsWalk
union_walk walk [] = walk
union_walk walk (one ∷ others) = union_walk (union_step walk one) others

abbrev pub record_walk : Bool → List PlacedMember → FieldsWalk
record_walk true members = union_walk no_fields members
record_walk false members = struct_end (struct_walk no_fields members)

-- ---- the record

-- a member at its spot
abbrev pub placed_member : Knows → CMember → Spot → PlacedMember
placed_member known one spot = record {
  name = one.name;
  bits = one.bits;
  ty = rust_type (type_names known) one.type;
  size = size_of known one.type;
  spot = spot;
}

-- members at their spots, as many as there are of both
abbrev pub placed_members : Knows → List CMember → List Spot → List PlacedMember
placed_members known [] spots = []
placed_members known (one ∷ members) [] = []
placed_members known (one ∷ members) (spot ∷ spots) = placed_member known one spot ∷ placed_members known members spots

-- the name of a record: that of the record that is kept
abbrev pub path_name : Option RPath → List ℕ
path_name None = []
path_name (Some path) = path.name

abbrev pub record_name : Option KnownThing → List ℕ
record_name None = []
record_name (Some one) = path_name (path_in one.ty)

-- what the members of a structure or union become where they stand at these spots
abbrev pub fields_walk : Knows → CRecord → List Spot → FieldsWalk
fields_walk known one spots = record_walk one.is_union (placed_members known one.members spots)

-- the record of a structure or union, of which the members stand at these spots and which has this alignment
abbrev pub record_tree : Knows → CRecord → List Spot → (align : ℕ) → RecordTree
record_tree known one spots align = record {
  align = raised_to align one.members;
  is_union = one.is_union;
  name = record_name (known (RecordNamed one.number));
  fields = (fields_walk known one spots).fields;
}
