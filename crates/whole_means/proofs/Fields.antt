-- The members of structures and unions are fields of their records, where they stand in C and with their Rust types (ISO C99, 6.5.2.3; the Rust Reference, "The C representation").
use Rattle.std.proofs.Common.{arith, ◌≡◌, ℕ, zero, suc, ◌==◌, Bool, true, false, if◌then◌else◌, List, [], ◌∷◌, map, Option, Some, None, slice_get, is_some, IsSome, refl, sym, ap, subst, ◌∙◌, inl, inr}
use Rattle.std.proofs.Math.Path.{fun_ext}
use Rattle.std.proofs.lemmas.Bool.Decides.{nat_tests}
use Rattle.std.specs.List.{AllByRecursion}
use Rattle.cr_base.specs.Layout.{after, no_front, spot as spot_at, spots_behind}
use Rattle.cr_base.specs.declared.layout.Front.{Front}
use Rattle.cr_base.specs.declared.layout.Laid.{Laid}
use Rattle.cr_base.specs.declared.layout.Piece.{Piece}
use Rattle.cr_base.specs.declared.layout.Piece.TheVariants.{Plain, Bits}
use Rattle.cr_base.specs.declared.layout.Spot.{Spot}
use Rattle.cx_core.specs.Layouts.{CLayouts, piece, piece_of, pieces_of, put_front, whole_extent}
use Rattle.cx_core.specs.Trees.{CMember, CTy, ty, void, basic, enum_type, pointer, array, record_type, function}
use Rattle.cx_core.specs.ValidTypes.{with_const}
use Rattle.cx_typed_work.proofs.Rows.{map_found}
use Rattle.lift_forms.proofs.SameTypes.{both, both_are_true, same_itself, type_is}
use Rattle.rs_items.specs.Known.{Knows, MemberField}
use Rattle.rs_items.specs.Records.{placed_members}
use Rattle.rs_items.specs.Types.{TypeNames, array_or_void, enum_integer, record_path as path_known, rust_type, type_names}
use Rattle.rs_items.specs.declared.known.Named.TheVariants.{Enum}
use Rattle.rs_items_fields.specs.Fields.{name_at, stands_at}
use Rattle.rs_items_rules.specs.LawsRecords.{StandsIn, place_of, plain_places}
use Rattle.rs_mean.specs.Layout.{FieldPlace, field_behind}
use Rattle.rs_mean.specs.Scalars.{same_type}
use Rattle.rs_text.specs.Tree.{FieldTree, Ty}
use Rattle.rs_text.specs.declared.integer.IntegerTy.{IntegerTy}
use Rattle.rs_tree.specs.declared.ty.RPath.{RPath}
use Rattle.whole_means.proofs.Lists.{Among}
use Rattle.whole_names.specs.Kept.{LocalNames, NamedProgram, enum_thing, enum_type as kept_enum, known_thing, record_path, record_thing, types_of}

-- ---- types by what is known

path_same : (whole : NamedProgram) (number : ℕ) (path : Option RPath) → path_known (record_thing whole number path) ≡ path
path_same whole number None = refl
path_same whole number (Some path) = refl

enum_same : (whole : NamedProgram) (unit number : ℕ) (is_int : Option Bool) → enum_integer (enum_thing whole unit number is_int) ≡ kept_enum is_int
enum_same whole unit number None = refl
enum_same whole unit number (Some true) = refl
enum_same whole unit number (Some false) = refl

abbrev names_by : (ℕ → Option RPath) → (ℕ → IntegerTy) → TypeNames
names_by records enums = record { records = records; enums = enums }

-- the types of a module are those of the program
pub types_same : (whole : NamedProgram) (unit : ℕ) (own : LocalNames) → type_names (known_thing whole unit own) ≡ types_of whole
types_same whole unit own =
    ap (λ (records : ℕ → Option RPath). names_by records (λ number. enum_integer (known_thing whole unit own (Enum number)))) (fun_ext (λ number. path_same whole number (record_path whole number)))
    ∙ ap (λ (enums : ℕ → IntegerTy). names_by (record_path whole) enums) (fun_ext (λ number. enum_same whole unit number (slice_get whole.program.types.enums number)))

-- a qualifier doesn't show in a Rust type
pub const_same : (names : TypeNames) (is_const : Bool) (type : CTy) → rust_type names (with_const is_const type) ≡ rust_type names type
const_same names false type = refl
const_same names true (ty (array element count) is_const) = ap (array_or_void count) (const_same names true element)
const_same names true (ty void is_const) = refl
const_same names true (ty (basic which) is_const) = refl
const_same names true (ty (enum_type number) is_const) = refl
const_same names true (ty (pointer to) is_const) = refl
const_same names true (ty (record_type number) is_const) = refl
const_same names true (ty (function result params variadic) is_const) = refl

-- ---- what is found stands there

place_same : (byte : ℕ) (type : Ty) (one : MemberField) → stands_at byte type one ≡ true → place_of one ≡ record { ty = type; byte = byte }
place_same byte type one is =
    let test : (one.byte == byte) ≡ true = (both is).0 in
    let same : one.byte ≡ byte = grind (arith, nat_tests, test) in
    ap (λ (t : Ty). record { ty = t; byte = one.byte }) (type_is one.ty type (both is).1) ∙ ap (λ (b : ℕ). record { ty = type; byte = b }) same

pub named_stands : (layout : Ty → Option Laid) (is_union : Bool) (fields : List FieldTree) (byte : ℕ) (type : Ty) (name : List ℕ) (members : List MemberField) →
    AllByRecursion (StandsIn layout is_union fields) members → name_at byte type members ≡ Some name → field_behind layout name (Some (no_front is_union)) fields ≡ Some (record { ty = type; byte = byte })
named_stands layout is_union fields byte type name [] stand is = absurd cc
named_stands layout is_union fields byte type name (one ∷ others) stand is =
    by_test (stands_at byte type one) refl (named_stands layout is_union fields byte type name others stand.1)
  where
    by_test : (t : Bool) → stands_at byte type one ≡ t → (name_at byte type others ≡ Some name → field_behind layout name (Some (no_front is_union)) fields ≡ Some (record { ty = type; byte = byte })) →
        field_behind layout name (Some (no_front is_union)) fields ≡ Some (record { ty = type; byte = byte })
    by_test true e more =
        let h : Some one.name ≡ Some name = sym (ap (λ t. if t then Some one.name else name_at byte type others) e) ∙ is in
        let same : one.name ≡ name = cc (h) in
        subst (λ (n : List ℕ). field_behind layout n (Some (no_front is_union)) fields ≡ Some (record { ty = type; byte = byte })) same
        (stand.0 ∙ ap (λ (place : FieldPlace). Some place) (place_same byte type one e))
    by_test false e more = more (sym (ap (λ t. if t then Some one.name else name_at byte type others) e) ∙ is)

-- ---- each member is found

stands_self : (one : MemberField) → stands_at one.byte one.ty one ≡ true
stands_self one = both_are_true (one.byte == one.byte) (same_type one.ty one.ty) (grind (arith, nat_tests)) (same_itself one.ty)

-- a field is found by the place of one of them
pub named_some : (members : List MemberField) (place : FieldPlace) → Among (map place_of members) place → IsSome (name_at place.byte place.ty members)
named_some [] place there = absurd there
named_some (one ∷ members) place (inl same) =
    subst (λ (p : FieldPlace). IsSome (name_at p.byte p.ty (one ∷ members))) same
    (ap is_some (ap (λ t. if t then Some one.name else name_at one.byte one.ty members) (stands_self one)))
named_some (one ∷ members) place (inr there) = by_test (stands_at place.byte place.ty one) refl (named_some members place there)
  where
    by_test : (t : Bool) → stands_at place.byte place.ty one ≡ t → IsSome (name_at place.byte place.ty members) → IsSome (name_at place.byte place.ty (one ∷ members))
    by_test true e more = ap is_some (ap (λ t. if t then Some one.name else name_at place.byte place.ty members) e)
    by_test false e more = ap is_some (ap (λ t. if t then Some one.name else name_at place.byte place.ty members) e) ∙ more

pub plain_among : (known : Knows) (members : List CMember) (spots : List Spot) (index : ℕ) (one : CMember) (spot : Spot) → slice_get members index ≡ Some one → slice_get spots index ≡ Some spot →
    one.bits ≡ None → Among (plain_places (placed_members known members spots)) (record { ty = rust_type (type_names known) one.type; byte = spot.byte })
plain_among known [] spots index one spot is at plain = absurd cc
plain_among known (first ∷ members) [] zero one spot is at plain = absurd cc
plain_among known (first ∷ members) [] (suc index) one spot is at plain = absurd cc
plain_among known (first ∷ members) (its ∷ spots) zero one spot is at plain =
    let same : first ≡ one = cc (is) in
    let equal : its ≡ spot = cc (at) in
    first_place first its first.bits refl (ap (λ (m : CMember). m.bits) same ∙ plain)
    (ap (λ (m : CMember). record { ty = rust_type (type_names known) m.type; byte = its.byte }) same
    ∙ ap (λ (s : Spot). record { ty = rust_type (type_names known) one.type; byte = s.byte }) equal)
  where
    first_place : (m : CMember) (s : Spot) (bits : Option ℕ) → m.bits ≡ bits → bits ≡ None → {place : FieldPlace} → record { ty = rust_type (type_names known) m.type; byte = s.byte } ≡ place →
        Among (plain_places (placed_members known (m ∷ members) (s ∷ spots))) place
    first_place m s None e none {place} same =
        subst (λ (b : Option ℕ). Among (elim b as (λ _. List FieldPlace) [ None ↦ record { ty = rust_type (type_names known) m.type; byte = s.byte } ∷ plain_places (placed_members known members spots) | Some width ↦ plain_places (placed_members known members spots) ]) place)
        (sym e) (inl same)
    first_place m s (Some width) e none same = absurd cc
plain_among known (first ∷ members) (its ∷ spots) (suc index) one spot is at plain =
    later first.bits (plain_among known members spots index one spot is at plain)
  where
    later : (bits : Option ℕ) → Among (plain_places (placed_members known members spots)) (record { ty = rust_type (type_names known) one.type; byte = spot.byte }) →
        Among (elim bits as (λ _. List FieldPlace) [ None ↦ record { ty = rust_type (type_names known) first.type; byte = its.byte } ∷ plain_places (placed_members known members spots) | Some width ↦ plain_places (placed_members known members spots) ])
        (record { ty = rust_type (type_names known) one.type; byte = spot.byte })
    later None there = inr there
    later (Some width) there = there

-- ---- what has a width is a bit-field

front_parts : (one : Option Piece) (rest : Option (List Piece)) (pieces : List Piece) → put_front one rest ≡ Some pieces →
    (first : Piece) × (others : List Piece) × (one ≡ Some first) × (rest ≡ Some others) × (pieces ≡ first ∷ others)
front_parts None rest pieces is = absurd cc
front_parts (Some first) None pieces is = absurd cc
front_parts (Some first) (Some others) pieces is = (first, others, refl, refl, sym (cc (is)))

piece_wide : (one : CMember) (laid : Laid) (front : Front) (width : ℕ) → one.bits ≡ Some width → (spot_at front (piece one laid)).width ≡ width
piece_wide one laid front width bits =
    ap (λ (b : Option ℕ). (spot_at front (elim b as (λ _. Piece) [ None ↦ Plain laid.size laid.align | Some w ↦ Bits laid.size w (is_some one.name) ])).width) bits

pub wide_bits : (layouts : CLayouts) (members : List CMember) (pieces : List Piece) (front : Front) (index : ℕ) (one : CMember) (spot : Spot) (width : ℕ) → pieces_of layouts members ≡ Some pieces →
    slice_get members index ≡ Some one → slice_get (spots_behind front pieces) index ≡ Some spot → one.bits ≡ Some width → spot.width ≡ width
wide_bits layouts [] pieces front index one spot width are is at bits = absurd cc
wide_bits layouts (first ∷ members) pieces front zero one spot width are is at bits =
    let parts = front_parts (piece_of layouts first) (pieces_of layouts members) pieces are in
    let inner = map_found (piece first) (whole_extent layouts first.type) parts.0 parts.2 in
    let same : first ≡ one = cc (is) in
    let at_first : Some (spot_at front parts.0) ≡ Some spot = sym (ap (λ (ps : List Piece). slice_get (spots_behind front ps) 0) parts.4) ∙ at in
    let its : spot_at front parts.0 ≡ spot = cc (at_first) in
    sym (ap (λ (s : Spot). s.width) its) ∙ ap (λ (p : Piece). (spot_at front p).width) (sym inner.2)
    ∙ piece_wide first inner.0 front width (ap (λ (m : CMember). m.bits) same ∙ bits)
wide_bits layouts (first ∷ members) pieces front (suc index) one spot width are is at bits =
    let parts = front_parts (piece_of layouts first) (pieces_of layouts members) pieces are in
    wide_bits layouts members parts.1 (after front parts.0) index one spot width parts.3 is
    (sym (ap (λ (ps : List Piece). slice_get (spots_behind front ps) (suc index)) parts.4) ∙ at) bits
