-- Where the members of records stand: a bit-field with its width, and any other member without.
use Rattle.std.proofs.Common.{◌≡◌, ◌⊎◌, inl, inr, ℕ, zero, suc, ◌+◌, ◌*◌, ◌/◌, ◌%◌, ◌<◌, ◌≤◌, nat_le, Bool, true, false, if◌then◌else◌, List, [], ◌∷◌, map, slice_get, option_map, Option, Some, None, IfSome, IsSome, is_some, refl, sym, ap, subst, ◌∙◌, arith}
use Rattle.std.proofs.Math.Nat.{mod-lt}
use Rattle.std.specs.Option.{option_and_then, option_flatten}
use Rattle.cr_base.specs.Layout.{laid_record, spots_of, spots_behind, spot, start, after}
use Rattle.cr_base.specs.declared.layout.Front.{Front}
use Rattle.cr_base.specs.declared.layout.Laid.{Laid}
use Rattle.cr_base.specs.declared.layout.Piece.{Piece}
use Rattle.cr_base.specs.declared.layout.Piece.TheVariants.{Plain, Bits}
use Rattle.cr_base.specs.declared.layout.Spot.{Spot}
use Rattle.cx_core.specs.Layouts.{CRow, CLayouts, row_at, whole_extent, piece, piece_of, put_front, pieces_of, row_of_pieces, row_of, pass, passes, completed_count, layouts_of}
use Rattle.cx_core.specs.Trees.{CTyForm, void, basic, enum_type, pointer, array, record_type, function, CMember, CRecord, CTypes}
use Rattle.cx_core.specs.ValidTypes.{member_of, spot_of}

-- a spot fits a member: a bit-field begins in its first byte and has the member's width, and another member has none
abbrev pub FitsBits : Option ℕ → Spot → Type 0
FitsBits None one = one.width ≡ 0
FitsBits (Some width) one = (one.width ≡ width) × (one.bit < 8)

-- ---- pieces and spots

abbrev FitsPiece : Piece → Spot → Type 0
FitsPiece (Plain size align) one = one.width ≡ 0
FitsPiece (Bits size width is_named) one = (one.width ≡ width) × (one.bit < 8)

piece_spot : (front : Front) (one : Piece) → FitsPiece one (spot front one)
piece_spot front (Plain size align) = refl
piece_spot front (Bits size width is_named) = (refl, mod-lt (start front (Bits size width is_named)) (omega arith))

abbrev HasPiece : List Piece → ℕ → Spot → Type 0
HasPiece pieces index one = (found : Piece) × (slice_get pieces index ≡ Some found) × FitsPiece found one

spot_at : (front : Front) (pieces : List Piece) (index : ℕ) (one : Spot) → slice_get (spots_behind front pieces) index ≡ Some one → HasPiece pieces index one
spot_at front [] index one e = cc
spot_at front (first ∷ others) zero one e =
    let same : spot front first ≡ one = cc (e) in
    (first, refl, subst (FitsPiece first) same (piece_spot front first))
spot_at front (first ∷ others) (suc index) one e = spot_at (after front first) others index one e

-- ---- members and pieces

member_piece : (layouts : CLayouts) (one : CMember) (extent : Option Laid) (found : Piece) (at : Spot) → option_map (piece one) extent ≡ Some found → FitsPiece found at → FitsBits one.bits at
member_piece layouts one None found at e fits = cc
member_piece layouts one (Some laid) found at e fits =
    let same : piece one laid ≡ found = cc (e) in
    by one.bits refl (subst (λ p. FitsPiece p at) (sym same) fits)
  where
    by : (bits : Option ℕ) → one.bits ≡ bits → FitsPiece (piece one laid) at → FitsBits bits at
    by None b fit = subst (λ bits. FitsPiece (elim bits as (λ _. Piece) [ None ↦ Plain laid.size laid.align | Some wide ↦ Bits laid.size wide (is_some one.name) ]) at) b fit
    by (Some width) b fit = subst (λ bits. FitsPiece (elim bits as (λ _. Piece) [ None ↦ Plain laid.size laid.align | Some wide ↦ Bits laid.size wide (is_some one.name) ]) at) b fit

abbrev HasMember : CLayouts → List CMember → ℕ → Piece → Type 0
HasMember layouts members index found = (one : CMember) × (slice_get members index ≡ Some one) × (piece_of layouts one ≡ Some found)

put_member : (layouts : CLayouts) (first : CMember) (others : List CMember) (front : Option Piece) (behind : Option (List Piece)) (pieces : List Piece) (index : ℕ) (found : Piece)
    → piece_of layouts first ≡ front → pieces_of layouts others ≡ behind
    → ((rest : List Piece) (place : ℕ) → behind ≡ Some rest → slice_get rest place ≡ Some found → HasMember layouts others place found)
    → put_front front behind ≡ Some pieces → slice_get pieces index ≡ Some found → HasMember layouts (first ∷ others) index found
put_member layouts first others None behind pieces index found a b rest e is = cc
put_member layouts first others (Some one) None pieces index found a b rest e is = cc
put_member layouts first others (Some one) (Some more) pieces zero found a b rest e is =
    let made : one ∷ more ≡ pieces = cc (e) in
    let same : one ≡ found = cc (made, is) in
    (first, refl, a ∙ ap Some same)
put_member layouts first others (Some one) (Some more) pieces (suc index) found a b rest e is =
    let made : one ∷ more ≡ pieces = cc (e) in
    rest more index refl (subst (λ (list : List Piece). slice_get list (suc index) ≡ Some found) (sym made) is)

pieces_member : (layouts : CLayouts) (members : List CMember) (pieces : List Piece) (index : ℕ) (found : Piece) → pieces_of layouts members ≡ Some pieces → slice_get pieces index ≡ Some found
    → HasMember layouts members index found
pieces_member layouts [] pieces index found e is =
    let made : [] ≡ pieces = cc (e) in
    let none : slice_get [] index ≡ Some found = subst (λ (list : List Piece). slice_get list index ≡ Some found) (sym made) is in
    cc
pieces_member layouts (first ∷ others) pieces index found e is =
    put_member layouts first others (piece_of layouts first) (pieces_of layouts others) pieces index found refl refl (λ rest place made at. pieces_member layouts others rest place found made at) e is

-- ---- rows

-- a record is laid out by its members
record HasRow (types : CTypes) (number : ℕ) (row : CRow) : Type 0 where
  layouts : CLayouts
  one : CRecord
  one_is : option_flatten (slice_get types.records number) ≡ Some one
  row_is : row_of layouts one ≡ Some row

abbrev no_row : Option CRecord → Option CRow
no_row one = None

none_laid : (records : List (Option CRecord)) (number : ℕ) (row : CRow) → option_flatten (slice_get (map no_row records) number) ≡ Some row → ⊥
none_laid [] number row e = cc
none_laid (first ∷ others) zero row e = cc
none_laid (first ∷ others) (suc number) row e = none_laid others number row e

pass_laid : (layouts : CLayouts) (records : List (Option CRecord)) (number : ℕ) (row : CRow) → option_flatten (slice_get (map (option_and_then (row_of layouts)) records) number) ≡ Some row
    → (one : CRecord) × (option_flatten (slice_get records number) ≡ Some one) × (row_of layouts one ≡ Some row)
pass_laid layouts [] number row e = cc
pass_laid layouts (None ∷ others) zero row e = cc
pass_laid layouts (Some one ∷ others) zero row e = (one, refl, e)
pass_laid layouts (first ∷ others) (suc number) row e = pass_laid layouts others number row e

passes_laid : (n : ℕ) (types : CTypes) (number : ℕ) (row : CRow) → row_at (passes n types) number ≡ Some row → HasRow types number row
passes_laid zero types number row e = absurd (none_laid types.records number row e)
passes_laid (suc n) types number row e =
    let found = pass_laid (passes n types) types.records number row e in
    record { layouts = passes n types; one = found.0; one_is = found.1; row_is = found.2 }

row_found : (types : CTypes) (number : ℕ) (row : CRow) → row_at (layouts_of types) number ≡ Some row → HasRow types number row
unfolding layouts_of
row_found types number row e = passes_laid (completed_count types.records) types number row e

laid_spots : (is_union : Bool) (pieces : List Piece) (laid : Option Laid) (row : CRow) → option_map (λ (one : Laid). record { laid = one; spots = spots_of is_union pieces }) laid ≡ Some row → row.spots ≡ spots_of is_union pieces
laid_spots is_union pieces None row e = cc
laid_spots is_union pieces (Some laid) row e = let made : record { laid = laid; spots = spots_of is_union pieces } ≡ row = cc (e) in sym (ap (λ (one : CRow). one.spots) made)

row_member : (layouts : CLayouts) (one : CRecord) (pieces : Option (List Piece)) (row : CRow) (index : ℕ) (at : Spot) → pieces_of layouts one.members ≡ pieces
    → option_and_then (row_of_pieces one.is_union) pieces ≡ Some row → slice_get row.spots index ≡ Some at
    → (member : CMember) × (slice_get one.members index ≡ Some member) × FitsBits member.bits at
row_member layouts one None row index at p e is = cc
row_member layouts one (Some pieces) row index at p e is =
    let spots = laid_spots one.is_union pieces (laid_record one.is_union pieces) row e in
    let found = spot_at _ pieces index at (subst (λ (list : List Spot). slice_get list index ≡ Some at) spots is) in
    let member = pieces_member layouts one.members pieces index found.0 p found.1 in
    (member.0, member.1, member_piece layouts member.0 (whole_extent layouts member.0.type) found.0 at member.2 found.2)

-- ---- members of typed holders

abbrev members_in : Option CRecord → List CMember
members_in None = []
members_in (Some one) = one.members

abbrev spots_in_row : Option CRow → List Spot
spots_in_row None = []
spots_in_row (Some row) = row.spots

record_spot : (types : CTypes) (number : ℕ) (row : Option CRow) (held : Option CRecord) (index : ℕ) (one : CMember) (at : Spot) → row_at (layouts_of types) number ≡ row → option_flatten (slice_get types.records number) ≡ held
    → slice_get (members_in held) index ≡ Some one → slice_get (spots_in_row row) index ≡ Some at → FitsBits one.bits at
record_spot types number None held index one at r h member there = cc
record_spot types number (Some row) held index one at r h member there =
    let found = row_found types number row r in
    let same : held ≡ Some found.one = sym h ∙ found.one_is in
    let other = row_member found.layouts found.one (pieces_of found.layouts found.one.members) row index at refl found.row_is there in
    let is : other.0 ≡ one = cc (subst (λ h'. slice_get (members_in h') index ≡ Some one) same member, other.1) in
    subst (λ (m : CMember). FitsBits m.bits at) is other.2

-- where a member of a record stands fits its width
pub spot_fits : (types : CTypes) (form : CTyForm) (index : ℕ) (one : CMember) (at : Spot) → member_of types form index ≡ Some one → spot_of types form index ≡ Some at → FitsBits one.bits at
spot_fits types (record_type number) index one at member there =
    record_spot types number (row_at (layouts_of types) number) (option_flatten (slice_get types.records number)) index one at refl refl member there
spot_fits types void index one at member there = cc
spot_fits types (basic which) index one at member there = cc
spot_fits types (enum_type number) index one at member there = cc
spot_fits types (pointer to) index one at member there = cc
spot_fits types (array element length) index one at member there = cc
spot_fits types (function result params variadic) index one at member there = cc
