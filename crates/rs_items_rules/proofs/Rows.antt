-- The record of a structure or union is laid out as the structure or union.
use Rattle.std.proofs.Common.{◌≡◌, ℕ, zero, suc, ◌+◌, ◌*◌, ◌/◌, ◌≤◌, ◌<◌, Bool, true, false, nat_le, if◌then◌else◌, List, [], ◌∷◌, length, ◌^◌, Option, None, Some, option_map, arith, refl, sym, ap, ◌∙◌, subst}
use Rattle.std.proofs.lemmas.Bool.Decides.{nat_tests}
use Rattle.std.proofs.Math.Nat.{suc-mul}
use Rattle.std.specs.Int.{next_multiple_of}
use Rattle.std.specs.List.{All}
use Rattle.std.specs.Option.{option_and_then}
use Rattle.cr_base.proofs.Layouts.{align_grows, taken_grows}
use Rattle.cr_base.specs.declared.layout.Front.{Front}
use Rattle.cr_base.specs.declared.layout.Laid.{Laid}
use Rattle.cr_base.specs.declared.layout.Piece.{Piece}
use Rattle.cr_base.specs.declared.layout.Spot.{Spot}
use Rattle.cr_base.specs.Layout.{after, after_all, laid as laid_front, laid_of, laid_record, most_bytes, no_front, spots_of}
use Rattle.cx_core.specs.Layouts.{CLayouts, CRow, bytes, elements, piece, pieces_of, put_front, row_at, row_of, row_of_pieces, whole_extent, whole_extent_of}
use Rattle.cx_core.specs.Conversions.{width_of_basic}
use Rattle.cx_core.specs.Trees.{CMember, CRecord, CTy, ty, CTyForm, void, basic, enum_type, pointer, array, record_type, function}
use Rattle.rs_items.specs.Known.{Knows}
use Rattle.rs_items.specs.Records.{FieldsWalk, fields_walk, placed_members, raised_to, record_name, record_tree, record_walk, whole_bytes}
use Rattle.rs_items.specs.declared.known.Named.TheVariants.{Record as RecordNamed}
use Rattle.rs_items_rules.proofs.Aligns.{least_below, raised_align, rust_below, same_align}
use Rattle.rs_items_rules.proofs.Parts.{Parts, front, member, plain_align}
use Rattle.rs_items_rules.proofs.Parts.Parts.{no_part, plain_part, bits_part}
use Rattle.rs_items_rules.proofs.Covered.{bits_covered}
use Rattle.rs_items_rules.proofs.Found.{AllStand, names_in}
use Rattle.rs_items_rules.proofs.Places.{placed_fewer, walk_named, walk_stands}
use Rattle.rs_items_rules.proofs.Rounds.{same_up, up, whole_high, whole_low}
use Rattle.rs_items_rules.proofs.Structs.{struct_takes}
use Rattle.rs_items_rules.proofs.Types.{basic_fits, type_fits}
use Rattle.rs_items_rules.proofs.Unions.{union_takes}
use Rattle.rs_items_rules.specs.Agree.{AreKept, Records}
use Rattle.rs_items_rules.specs.LawsRecords.{IsCovered, bits_spots}
use Rattle.rs_mean.specs.Layout.{front_after, laid_with, raised_by, record_laid, within_most}
use Rattle.rs_text.specs.Valid.{all_differ}

-- whole bytes are rounded up as the bits in them
rounded_same : (is_union : Bool) (bits align : ℕ) → 0 < align → laid_front (front is_union (8 * whole_bytes bits) align) ≡ laid_front (front is_union bits align)
rounded_same is_union bits align some =
    ap (λ n. record { size = n / 8; align = align }) (same_up bits (whole_bytes bits) align some (whole_low bits) (whole_high bits))

-- a record that isn't too large takes no more bits
taken_few : (bits align : ℕ) → 0 < align → next_multiple_of bits (8 * align) / 8 ≤ most_bytes → bits ≤ 8 * most_bytes
taken_few bits align some few =
    let round = up bits align some in
    let is = round.is in
    let low = round.low in
    omega (arith, is, low, few)

-- a record that has a layout
record HasLayout (is_union : Bool) (pieces : List Piece) (laid : Laid) : Type 0 where
  pub is : laid_of is_union pieces ≡ laid
  pub test : nat_le (laid_of is_union pieces).size most_bytes ≡ true

has_layout : (is_union : Bool) (pieces : List Piece) (one : Laid) → laid_record is_union pieces ≡ Some one → HasLayout is_union pieces one
has_layout is_union pieces one is = by_test (nat_le (laid_of is_union pieces).size most_bytes) refl
  where
    by_test : (r : Bool) → nat_le (laid_of is_union pieces).size most_bytes ≡ r → HasLayout is_union pieces one
    by_test true test =
        let same : Some (laid_of is_union pieces) ≡ Some one = sym (ap (λ t. if t then Some (laid_of is_union pieces) else None) test) ∙ is in
        record { is = cc; test = test }
    by_test false test = let none : None ≡ Some one = sym (ap (λ t. if t then Some (laid_of is_union pieces) else None) test) ∙ is in cc

abbrev row_with : Laid → List Spot → CRow
row_with laid spots = record { laid = laid; spots = spots }

module _ (known : Knows) (records : Records) where
  -- fields that take so many whole bytes are laid out
  fields_laid : (is_union : Bool) (members : List CMember) (pieces : List Piece) (name : List ℕ) (walk : FieldsWalk) → Parts known (laid_with records) members pieces
      → front_after (laid_with records) (Some (no_front is_union)) walk.fields ≡ Some (front is_union (8 * whole_bytes (after_all (no_front is_union) pieces).bits) (plain_align 1 pieces))
      → nat_le (laid_of is_union pieces).size most_bytes ≡ true
      → record_laid (laid_with records) (record { align = raised_to (laid_of is_union pieces).align members; is_union = is_union; name = name; fields = walk.fields }) ≡ Some (laid_of is_union pieces)
  fields_laid is_union members pieces name walk parts fields test =
      let align = (after_all (no_front is_union) pieces).align in
      let bits = (after_all (no_front is_union) pieces).bits in
      let some : 1 ≤ align = align_grows pieces (no_front is_union) in
      let raised : raised_by (raised_to align members) (front is_union (8 * whole_bytes bits) (plain_align 1 pieces)) ≡ front is_union (8 * whole_bytes bits) align =
      raised_align members is_union (8 * whole_bytes bits) (plain_align 1 pieces) align (rust_below pieces is_union 0 1 1 (omega arith)) (least_below parts 1 (omega arith))
      (same_align parts is_union 0 1 (omega arith)) in
      ap (option_and_then (λ taken. within_most (laid_front (raised_by (raised_to align members) taken)))) fields
      ∙ ap (λ taken. within_most (laid_front taken)) raised ∙ ap within_most (rounded_same is_union bits align some)
      ∙ ap (λ t. if t then Some (laid_of is_union pieces) else None) test

  few_bits : (is_union : Bool) (pieces : List Piece) → nat_le (laid_of is_union pieces).size most_bytes ≡ true → (after_all (no_front is_union) pieces).bits ≤ 8 * most_bytes
  few_bits is_union pieces test =
      let few : (laid_of is_union pieces).size ≤ most_bytes = grind (arith, nat_tests, test) in
      taken_few (after_all (no_front is_union) pieces).bits (after_all (no_front is_union) pieces).align (align_grows pieces (no_front is_union)) few

  walked : (is_union : Bool) (members : List CMember) (pieces : List Piece) (name : List ℕ) → Parts known (laid_with records) members pieces → nat_le (laid_of is_union pieces).size most_bytes ≡ true
      → record_laid (laid_with records) (record {
        align = raised_to (laid_of is_union pieces).align members;
        is_union = is_union;
        name = name;
        fields = (record_walk is_union (placed_members known members (spots_of is_union pieces))).fields;
      }) ≡ Some (laid_of is_union pieces)
  walked true members pieces name parts test =
      fields_laid true members pieces name (record_walk true (placed_members known members (spots_of true pieces))) parts (union_takes known records parts (few_bits true pieces test)) test
  walked false members pieces name parts test =
      fields_laid false members pieces name (record_walk false (placed_members known members (spots_of false pieces))) parts (struct_takes known records parts (few_bits false pieces test)) test

  -- ---- members

  module _ (layouts : CLayouts) (kept : AreKept known records layouts) where
    elements_some : (count : ℕ) (found : Option Laid) (laid : Laid) → ((one : Laid) → found ≡ Some one → 0 < one.size) → elements (suc count) found ≡ Some laid → 0 < laid.size
    elements_some count None laid each is = cc
    elements_some count (Some one) laid each is =
        let size : suc count * one.size ≡ laid.size = cc in
        let some = each one refl in
        let product = suc-mul count one.size in
        omega (arith, size, some, product)

    row_some : (number : ℕ) (found : Option CRow) (laid : Laid) → row_at layouts number ≡ found → option_map (λ (row : CRow). row.laid) found ≡ Some laid → 0 < laid.size
    row_some number None laid found is = cc
    row_some number (Some row) laid found is =
        let same : row.laid ≡ laid = cc in
        subst (λ (l : Laid). 0 < l.size) same (kept.kept number row found).some

    mutual
      size_some : (type : CTy) (laid : Laid) → whole_extent layouts type ≡ Some laid → 0 < laid.size
      size_some (ty form q) laid is = form_some form laid is

      form_some : (form : CTyForm) (laid : Laid) → whole_extent_of layouts form ≡ Some laid → 0 < laid.size
      form_some void laid is = cc
      form_some (basic which) laid is = let same : bytes (width_of_basic which / 8) ≡ laid = cc in subst (λ (l : Laid). 0 < l.size) same (basic_fits known records which false).some
      form_some (enum_type number) laid is = let same : bytes 4 ≡ laid = cc in subst (λ (l : Laid). 0 < l.size) same (omega arith)
      form_some (pointer to) laid is = let same : bytes 8 ≡ laid = cc in subst (λ (l : Laid). 0 < l.size) same (omega arith)
      form_some (array element None) laid is = cc
      form_some (array element (Some zero)) laid is = cc
      form_some (array element (Some (suc count))) laid is = elements_some count (whole_extent layouts element) laid (λ one found. size_some element one found) is
      form_some (record_type number) laid is = row_some number (row_at layouts number) laid refl is
      form_some (function given params variadic) laid is = cc

    -- one member in front of the others
    first_part : (name : Option (List ℕ)) (type : CTy) (width : Option ℕ) (own : Laid) (members : List CMember) (pieces : List Piece) (at : Front) → whole_extent layouts type ≡ Some own
        → (after at (piece (member name type width) own)).bits ≤ 8 * most_bytes → Parts known (laid_with records) members pieces
        → Parts known (laid_with records) (member name type width ∷ members) (piece (member name type width) own ∷ pieces)
    first_part name type None own members pieces at is few others = plain_part name type own (type_fits known records layouts kept type own is (omega (arith, few))) others
    first_part name type (Some width) own members pieces at is few others = bits_part name type width own.size (size_some type own is) others

    later : (one : Piece) (pieces : List Piece) (at : Front) → (after_all at (one ∷ pieces)).bits ≤ 8 * most_bytes → (after at one).bits ≤ 8 * most_bytes
    later one pieces at few = let more = taken_grows pieces (after at one) in omega (arith, few, more)

    first_and_others : (one : CMember) (members : List CMember) (pieces : List Piece) (at : Front) (found : Option Laid) → whole_extent layouts one.type ≡ found → (rest : Option (List Piece))
        → ((others : List Piece) (own : Laid) → rest ≡ Some others → (after_all (after at (piece one own)) others).bits ≤ 8 * most_bytes → Parts known (laid_with records) members others)
        → put_front (option_map (piece one) found) rest ≡ Some pieces → (after_all at pieces).bits ≤ 8 * most_bytes → Parts known (laid_with records) (one ∷ members) pieces
    first_and_others one members pieces at None found rest each is few = cc
    first_and_others one members pieces at (Some own) found None each is few = cc
    first_and_others one members pieces at (Some own) found (Some others) each is few =
        let same : piece one own ∷ others ≡ pieces = cc in
        let less : (after_all at (piece one own ∷ others)).bits ≤ 8 * most_bytes = subst (λ list. (after_all at list).bits ≤ 8 * most_bytes) (sym same) few in
        subst (Parts known (laid_with records) (one ∷ members)) same
        (first_part one.name one.type one.bits own members others at found (later (piece one own) others at less) (each others own refl less))

    parts_of : (members : List CMember) (pieces : List Piece) (at : Front) → pieces_of layouts members ≡ Some pieces → (after_all at pieces).bits ≤ 8 * most_bytes
        → Parts known (laid_with records) members pieces
    parts_of [] pieces at is few = let same : [] ≡ pieces = cc in subst (Parts known (laid_with records) []) same no_part
    parts_of (one ∷ members) pieces at is few =
        first_and_others one members pieces at (whole_extent layouts one.type) refl (pieces_of layouts members)
        (λ others own same less. parts_of members others (after at (piece one own)) same less) is few

    -- ---- the record

    abbrev pub IsLaidAs : CRecord → CRow → Type 0
    IsLaidAs one row = record_laid (laid_with records) (record_tree known one row.spots row.laid.align) ≡ Some row.laid

    by_laid : (one : CRecord) (row : CRow) (pieces : List Piece) → pieces_of layouts one.members ≡ Some pieces → (found : Option Laid) → laid_record one.is_union pieces ≡ found
        → option_map (λ (laid : Laid). row_with laid (spots_of one.is_union pieces)) found ≡ Some row → IsLaidAs one row
    by_laid one row pieces are None found is = cc
    by_laid one row pieces are (Some own) found is =
        let same : row_with own (spots_of one.is_union pieces) ≡ row = cc in
        let layout = has_layout one.is_union pieces own found in
        let parts = parts_of one.members pieces (no_front one.is_union) are (few_bits one.is_union pieces layout.test) in
        subst (IsLaidAs one) same
        (subst (λ (laid : Laid). IsLaidAs one (row_with laid (spots_of one.is_union pieces))) layout.is
        (walked one.is_union one.members pieces (record_name (known (RecordNamed one.number))) parts layout.test))

    by_pieces : (one : CRecord) (row : CRow) (found : Option (List Piece)) → pieces_of layouts one.members ≡ found → option_and_then (row_of_pieces one.is_union) found ≡ Some row → IsLaidAs one row
    by_pieces one row None found is = cc
    by_pieces one row (Some pieces) found is = by_laid one row pieces found (laid_record one.is_union pieces) refl is

    pub row_laid : (one : CRecord) (row : CRow) → row_of layouts one ≡ Some row → IsLaidAs one row
    row_laid one row is = by_pieces one row (pieces_of layouts one.members) refl is

    -- ---- fields

    abbrev pub HasPlaces : CRecord → CRow → Type 0
    HasPlaces one row = AllStand (laid_with records) one.is_union (fields_walk known one row.spots)

    places_by_laid : (one : CRecord) (row : CRow) (pieces : List Piece) → 2 * length one.members + 4 < 2 ^ 64 → pieces_of layouts one.members ≡ Some pieces → (found : Option Laid)
        → laid_record one.is_union pieces ≡ found → option_map (λ (laid : Laid). row_with laid (spots_of one.is_union pieces)) found ≡ Some row → HasPlaces one row
    places_by_laid one row pieces short are None found is = cc
    places_by_laid one row pieces short are (Some own) found is =
        let same : row_with own (spots_of one.is_union pieces) ≡ row = cc in
        let layout = has_layout one.is_union pieces own found in
        let few = few_bits one.is_union pieces layout.test in
        subst (HasPlaces one) same (walk_stands known records one.is_union (parts_of one.members pieces (no_front one.is_union) are few) few short)

    places_by_pieces : (one : CRecord) (row : CRow) → 2 * length one.members + 4 < 2 ^ 64 → (found : Option (List Piece)) → pieces_of layouts one.members ≡ found
        → option_and_then (row_of_pieces one.is_union) found ≡ Some row → HasPlaces one row
    places_by_pieces one row short None found is = cc
    places_by_pieces one row short (Some pieces) found is = places_by_laid one row pieces short found (laid_record one.is_union pieces) refl is

    pub fields_stand : (one : CRecord) (row : CRow) → row_of layouts one ≡ Some row → 2 * length one.members + 4 < 2 ^ 64 → HasPlaces one row
    fields_stand one row is short = places_by_pieces one row short (pieces_of layouts one.members) refl is

    -- ---- bit-fields

    abbrev pub HasBits : CRecord → CRow → Type 0
    HasBits one row = All (IsCovered (laid_with records) one.is_union (fields_walk known one row.spots).fields) (bits_spots (placed_members known one.members row.spots))

    bits_by_laid : (one : CRecord) (row : CRow) (pieces : List Piece) → 2 * length one.members + 4 < 2 ^ 64 → pieces_of layouts one.members ≡ Some pieces → (found : Option Laid)
        → laid_record one.is_union pieces ≡ found → option_map (λ (laid : Laid). row_with laid (spots_of one.is_union pieces)) found ≡ Some row → HasBits one row
    bits_by_laid one row pieces short are None found is = cc
    bits_by_laid one row pieces short are (Some own) found is =
        let same : row_with own (spots_of one.is_union pieces) ≡ row = cc in
        let layout = has_layout one.is_union pieces own found in
        let few = few_bits one.is_union pieces layout.test in
        subst (HasBits one) same (bits_covered known records one.is_union (parts_of one.members pieces (no_front one.is_union) are few) few short)

    bits_by_pieces : (one : CRecord) (row : CRow) → 2 * length one.members + 4 < 2 ^ 64 → (found : Option (List Piece)) → pieces_of layouts one.members ≡ found
        → option_and_then (row_of_pieces one.is_union) found ≡ Some row → HasBits one row
    bits_by_pieces one row short None found is = cc
    bits_by_pieces one row short (Some pieces) found is = bits_by_laid one row pieces short found (laid_record one.is_union pieces) refl is

    pub bits_are_covered : (one : CRecord) (row : CRow) → row_of layouts one ≡ Some row → 2 * length one.members + 4 < 2 ^ 64 → HasBits one row
    bits_are_covered one row is short = bits_by_pieces one row short (pieces_of layouts one.members) refl is

pub fields_differ : (known : Knows) (one : CRecord) (spots : List Spot) (align : ℕ) → 2 * length one.members + 4 < 2 ^ 64 → all_differ (names_in (record_tree known one spots align).fields) ≡ true
fields_differ known one spots align short =
    let named = walk_named one.is_union (placed_members known one.members spots) (length one.members) (placed_fewer known one.members spots) short in
    ap all_differ named.names ∙ named.differ
