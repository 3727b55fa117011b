-- Members of structures and unions (ISO C99, 6.5.2.3).
use Rattle.std.proofs.Common.{◌≡◌, ℕ, zero, suc, Bool, List, [], ◌∷◌, Option, None, Some, option_map, slice_get, is_some, refl, sym, ap, ◌∙◌, subst}
use Rattle.std.proofs.lemmas.Option.{get_or_from_slice_get, slice_get_within}
use Rattle.std.specs.Prelude.{All}
use Rattle.std.specs.Option.{option_and_then}
use Rattle.cr_base.specs.Layout.{spots_behind, spots_of, no_front, spot as spot_behind, after}
use Rattle.cr_base.specs.declared.layout.Front.{Front}
use Rattle.cr_base.specs.declared.layout.Laid.{Laid}
use Rattle.cr_base.specs.declared.layout.Piece.{Piece}
use Rattle.cr_base.specs.declared.layout.Piece.TheVariants.{Plain, Bits}
use Rattle.cr_base.specs.declared.layout.Spot.{Spot}
use Rattle.cx_core.specs.Layouts.{CLayouts, CRow, row_at, piece_of, put_front, pieces_of, row_of_pieces, row_of, passes, completed_count, whole_extent, layouts_of}
use Rattle.cx_core.specs.Trees.{record_type, CTypes, CMember, CRecord}
use Rattle.cx_core.specs.ValidTypes.{member_of, spot_of}
use Rattle.cx_layout.proofs.Builds.{layouts_are}
use Rattle.cx_layout.proofs.Passes.{row_at-pass, passes_none}
use Rattle.cx_layout.specs.Calls.{record_at}
use Rattle.cx_rules.specs.Meanings.{is_named}

-- ---- where members stand

abbrev piece_bits : Piece → ℕ
piece_bits (Plain size align) = 0
piece_bits (Bits size width is_named) = width

pub record StandsAs (pieces : List Piece) (index : ℕ) (spot : Spot) : Type 0 where
  pub one : Piece
  pub one_is : slice_get pieces index ≡ Some one
  pub width_is : spot.width ≡ piece_bits one

spot_bits : (front : Front) (one : Piece) → (spot_behind front one).width ≡ piece_bits one
spot_bits front (Plain size align) = refl
spot_bits front (Bits size width is_named) = refl

pub stands_as : (front : Front) (pieces : List Piece) (index : ℕ) (spot : Spot) → slice_get (spots_behind front pieces) index ≡ Some spot → StandsAs pieces index spot
stands_as front [] index spot is = absurd cc
stands_as front (one ∷ others) zero spot is = record { one = one; one_is = refl; width_is = width_of (Some spot) is }
  where
    width_in : Option Spot → ℕ
    width_in None = 0
    width_in (Some found) = found.width

    width_of : (found : Option Spot) → Some (spot_behind front one) ≡ found → width_in found ≡ piece_bits one
    width_of found held = sym (ap width_in held) ∙ spot_bits front one
stands_as front (one ∷ others) (suc index) spot is =
    let held = stands_as (after front one) others index spot is in
    record { one = held.one; one_is = held.one_is; width_is = held.width_is }

pub record IsPieceOf (layouts : CLayouts) (members : List CMember) (index : ℕ) (one : Piece) : Type 0 where
  pub of : CMember
  pub of_is : slice_get members index ≡ Some of
  pub piece_is : piece_of layouts of ≡ Some one

record IsFront (first : Option Piece) (others : Option (List Piece)) (pieces : List Piece) : Type 0 where
  one : Piece
  one_is : first ≡ Some one
  rest : List Piece
  rest_is : others ≡ Some rest
  pieces_are : pieces ≡ one ∷ rest

abbrev list_or : List Piece → Option (List Piece) → List Piece
list_or other None = other
list_or other (Some pieces) = pieces

front_is : (first : Option Piece) (others : Option (List Piece)) (pieces : List Piece) → put_front first others ≡ Some pieces → IsFront first others pieces
front_is None others pieces is = absurd cc
front_is (Some one) None pieces is = absurd cc
front_is (Some one) (Some rest) pieces is = record { one = one; one_is = refl; rest = rest; rest_is = refl; pieces_are = sym (ap (list_or []) is) }

pub piece_in : (layouts : CLayouts) (members : List CMember) (pieces : List Piece) (index : ℕ) (one : Piece) → pieces_of layouts members ≡ Some pieces → slice_get pieces index ≡ Some one
    → IsPieceOf layouts members index one
piece_in layouts [] pieces index one is found = absurd (none_in pieces index (ap (list_or (one ∷ [])) is) found)
  where
    none_in : (pieces : List Piece) (index : ℕ) → [] ≡ pieces → slice_get pieces index ≡ Some one → ⊥
    none_in [] index empty held = cc
    none_in (first ∷ others) index empty held = cc
piece_in layouts (first ∷ others) pieces zero one is found =
    let front = front_is (piece_of layouts first) (pieces_of layouts others) pieces is in
    record { of = first; of_is = refl; piece_is = front.one_is ∙ sym (ap (λ all. slice_get all 0) front.pieces_are) ∙ found }
piece_in layouts (first ∷ others) pieces (suc index) one is found =
    let front = front_is (piece_of layouts first) (pieces_of layouts others) pieces is in
    let held = piece_in layouts others front.rest index one front.rest_is (sym (ap (λ all. slice_get all (suc index)) front.pieces_are) ∙ found) in
    record { of = held.of; of_is = held.of_is; piece_is = held.piece_is }

-- a member that is no bit-field has no width
plain_width : (layouts : CLayouts) (one : CMember) (found : Option Laid) (bits : Option ℕ) (piece_is : Piece) → bits ≡ None
    → option_map (λ laid. elim bits as (λ _. Piece) [ None ↦ Plain laid.size laid.align | Some width ↦ Bits laid.size width (is_some one.name) ]) found ≡ Some piece_is → piece_bits piece_is ≡ 0
plain_width layouts one None bits piece_is none is = absurd cc
plain_width layouts one (Some laid) None piece_is none is = sym (ap bits_in is)
  where
    bits_in : Option Piece → ℕ
    bits_in None = 0
    bits_in (Some found) = piece_bits found
plain_width layouts one (Some laid) (Some width) piece_is none is = absurd cc

-- ---- members of sound types

pub all_at : (P : CMember → Type 0) (members : List CMember) (index : ℕ) (one : CMember) → slice_get members index ≡ Some one → All P members → P one
all_at P members index one is held = subst P (get_or_from_slice_get members index one one is) (held index one (slice_get_within members index one is))

pub record IsRowOf (types : CTypes) (count number : ℕ) (row : CRow) : Type 0 where
  pub passed : ℕ
  pub passed_is : suc passed ≡ count
  pub one : CRecord
  pub one_is : record_at types number ≡ Some one
  pub pieces : List Piece
  pub pieces_are : pieces_of (passes passed types) one.members ≡ Some pieces
  pub row_is : row_of (passes passed types) one ≡ Some row
  pub spots_are : row.spots ≡ spots_of one.is_union pieces

then_parts : {X Y : Type 0} (f : X → Option Y) (o : Option X) (y : Y) → option_and_then f o ≡ Some y → (x : X) × (o ≡ Some x) × (f x ≡ Some y)
then_parts f None y is = absurd cc
then_parts f (Some x) y is = (x, refl, is)

abbrev pub spots_or : Option CRow → List Spot
spots_or None = []
spots_or (Some row) = row.spots

map_spots : (is_union : Bool) (pieces : List Piece) (found : Option Laid) (row : CRow)
    → option_map (λ laid. record { laid = laid; spots = spots_of is_union pieces }) found ≡ Some row → row.spots ≡ spots_of is_union pieces
map_spots is_union pieces None row is = absurd cc
map_spots is_union pieces (Some laid) row is = sym (ap spots_or is)

pub row_is : (types : CTypes) (count number : ℕ) (row : CRow) → row_at (passes count types) number ≡ Some row → IsRowOf types count number row
row_is types zero number row is = absurd (let h : None ≡ Some row = sym (passes_none types number) ∙ is in cc)
row_is types (suc count) number row is =
    let found = then_parts (row_of (passes count types)) (record_at types number) row (sym (row_at-pass types (passes count types) number) ∙ is) in
    let laid = then_parts (row_of_pieces found.0.is_union) (pieces_of (passes count types) found.0.members) row found.2 in
    record {
      passed = count;
      passed_is = refl;
      one = found.0;
      one_is = found.1;
      pieces = laid.0;
      pieces_are = laid.1;
      row_is = found.2;
      spots_are = map_spots found.0.is_union laid.0 _ row laid.2;
    }

-- a member of a record, and where it stands
pub record IsFound (types : CTypes) (number index : ℕ) (one : CMember) (spot : Spot) : Type 0 where
  pub whole : CRecord
  pub whole_is : record_at types number ≡ Some whole
  pub member_is : slice_get whole.members index ≡ Some one
  -- it has a width only where it is a bit-field
  pub no_width : one.bits ≡ None → spot.width ≡ 0

abbrev members_or : Option CRecord → List CMember
members_or None = []
members_or (Some one) = one.members

pub row_found : (found : Option CRow) (index : ℕ) (spot : Spot) → slice_get (spots_or found) index ≡ Some spot → (row : CRow) × (found ≡ Some row) × (slice_get row.spots index ≡ Some spot)
row_found None index spot is = absurd cc
row_found (Some row) index spot is = (row, refl, is)

some_member : (one other : CMember) → Some one ≡ Some other → other ≡ one
some_member one other is = sym (ap (member_or one) is)
  where
    member_or : CMember → Option CMember → CMember
    member_or other None = other
    member_or other (Some found) = found

pub found_is : (types : CTypes) (number index : ℕ) (one : CMember) (spot : Spot) → member_of types (record_type number) index ≡ Some one → spot_of types (record_type number) index ≡ Some spot
    → IsFound types number index one spot
found_is types number index one spot member_is spot_is =
    let there = row_found (row_at (layouts_of types) number) index spot spot_is in
    let row = row_is types (completed_count types.records) number there.0 (sym (ap (λ all. row_at all number) (layouts_are types)) ∙ there.1) in
    let stands = stands_as (no_front row.one.is_union) row.pieces index spot (sym (ap (λ spots. slice_get spots index) row.spots_are) ∙ there.2) in
    let piece_held = piece_in (passes row.passed types) row.one.members row.pieces index stands.one row.pieces_are stands.one_is in
    let held : slice_get row.one.members index ≡ Some one = sym (ap (λ found. slice_get (members_or found) index) row.one_is) ∙ member_is in
    let same : one ≡ piece_held.of = some_member piece_held.of one (sym piece_held.of_is ∙ held) in
    record {
      whole = row.one;
      whole_is = row.one_is;
      member_is = held;
      no_width = λ none. stands.width_is
          ∙ plain_width (passes row.passed types) piece_held.of (whole_extent (passes row.passed types) piece_held.of.type) piece_held.of.bits stands.one (ap (λ m. m.bits) (sym same) ∙ none) piece_held.piece_is;
    }
