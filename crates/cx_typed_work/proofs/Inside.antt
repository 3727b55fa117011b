-- Where the parts of an object stand: inside it, with all their bytes, or their bits (ISO C99, 6.7.2, 6.7.2.1, 6.7.8).
use Rattle.std.proofs.Common.{◌≡◌, ℕ, zero, suc, ◌+◌, ◌*◌, ◌<◌, ◌≤◌, false, List, [], ◌∷◌, Option, None, Some, slice_get, is_some, IsSome, IfSome, refl, sym, ap, ◌∙◌, subst, arith}
use Rattle.std.proofs.Math.Nat.{mod-lt}
use Rattle.cr_base.specs.Layout.{spots_behind, no_front, spot as spot_behind, start, after}
use Rattle.cr_base.specs.declared.layout.Front.{Front}
use Rattle.cr_base.specs.declared.layout.Laid.{Laid}
use Rattle.cr_base.specs.declared.layout.Piece.{Piece}
use Rattle.cr_base.specs.declared.layout.Piece.TheVariants.{Plain, Bits}
use Rattle.cr_base.specs.declared.layout.Spot.{Spot}
use Rattle.cx_core.specs.Conversions.{IsIntegerType}
use Rattle.cx_core.specs.Layouts.{CLayouts, CRow, row_at, whole_extent, extent, piece, piece_of, put_front, pieces_of, layouts_of}
use Rattle.cx_core.specs.Trees.{CTy, ty, void, basic, enum_type, pointer, array, record_type, function, form_of_type, CMember, CRecord, CTypes}
use Rattle.cx_core.specs.ValidTypes.{AreTypes, IsBitFieldOf, member_of, spot_of}
use Rattle.cx_layout.proofs.Place.{lies_inside}
use Rattle.cx_layout.specs.Places.{end_bit}
use Rattle.cx_typed_work.proofs.Fields.{IsField, IsFieldAt, field_at, member_in}
use Rattle.cx_typed_work.proofs.Rows.{map_found, some_same, HasWholeBits, row_here, row_laid_out}

-- the bits of a bit-field are among those of an object of so many bytes
pub record IsFieldInside (types : CTypes) (size : ℕ) (type : CTy) (byte bit width : ℕ) : Type 0 where
  pub field : IsField types type width
  pub low : bit < 8
  pub ends : 8 * byte + bit + width ≤ 8 * size

-- a part of an object of so many bytes: one that begins at a byte and has its bytes there, or a bit-field
pub record IsInside (types : CTypes) (size : ℕ) (type : CTy) (byte bit width : ℕ) : Type 0 where
  pub begins : width ≡ 0 → bit ≡ 0
  pub ends : width ≡ 0 → (laid : Laid) → whole_extent (layouts_of types) type ≡ Some laid → byte + laid.size ≤ size
  pub of_bits : (width ≡ 0 → ⊥) → IsFieldInside types size type byte bit width

-- ---- members of rows

-- a spot is that of a piece: a bit-field has its width and begins in its first byte, and what isn't one begins there
abbrev FitsPiece : Piece → Spot → Type 0
FitsPiece (Plain size align) one = (one.width ≡ 0) × (one.bit ≡ 0)
FitsPiece (Bits size width is_named) one = (one.width ≡ width) × (one.bit < 8)

piece_spot : (front : Front) (one : Piece) → FitsPiece one (spot_behind front one)
piece_spot front (Plain size align) = (refl, refl)
piece_spot front (Bits size width is_named) = (refl, mod-lt (start front (Bits size width is_named)) (omega arith))

-- the piece that stands at a spot
record StandsAs (pieces : List Piece) (index : ℕ) (one : Spot) : Type 0 where
  found : Piece
  found_is : slice_get pieces index ≡ Some found
  fits : FitsPiece found one

stands_as : (front : Front) (pieces : List Piece) (index : ℕ) (one : Spot) → slice_get (spots_behind front pieces) index ≡ Some one → StandsAs pieces index one
stands_as front [] index one is = absurd cc
stands_as front (first ∷ others) zero one is =
    record { found = first; found_is = refl; fits = subst (FitsPiece first) (some_same (spot_behind front first) one is) (piece_spot front first) }
stands_as front (first ∷ others) (suc index) one is =
    let held = stands_as (after front first) others index one is in
    record { found = held.found; found_is = held.found_is; fits = held.fits }

-- the member that asks for a piece
record AsksFor (layouts : CLayouts) (members : List CMember) (index : ℕ) (found : Piece) : Type 0 where
  of : CMember
  of_is : slice_get members index ≡ Some of
  piece_is : piece_of layouts of ≡ Some found

asks_front : (layouts : CLayouts) (first : CMember) (others : List CMember) (front : Option Piece) (behind : Option (List Piece)) (pieces : List Piece) (index : ℕ) (found : Piece)
    → piece_of layouts first ≡ front → pieces_of layouts others ≡ behind
    → ((rest : List Piece) (place : ℕ) → behind ≡ Some rest → slice_get rest place ≡ Some found → AsksFor layouts others place found)
    → put_front front behind ≡ Some pieces → slice_get pieces index ≡ Some found → AsksFor layouts (first ∷ others) index found
asks_front layouts first others None behind pieces index found a b rest e is = absurd cc
asks_front layouts first others (Some one) None pieces index found a b rest e is = absurd cc
asks_front layouts first others (Some one) (Some more) pieces zero found a b rest e is =
    let made : one ∷ more ≡ pieces = some_same (one ∷ more) pieces e in
    let there : Some one ≡ Some found = subst (λ (list : List Piece). slice_get list 0 ≡ Some found) (sym made) is in
    record { of = first; of_is = refl; piece_is = a ∙ there }
asks_front layouts first others (Some one) (Some more) pieces (suc index) found a b rest e is =
    let made : one ∷ more ≡ pieces = some_same (one ∷ more) pieces e in
    let held = rest more index refl (subst (λ (list : List Piece). slice_get list (suc index) ≡ Some found) (sym made) is) in
    record { of = held.of; of_is = held.of_is; piece_is = held.piece_is }

asks_for : (layouts : CLayouts) (members : List CMember) (pieces : List Piece) (index : ℕ) (found : Piece) → pieces_of layouts members ≡ Some pieces → slice_get pieces index ≡ Some found → AsksFor layouts members index found
asks_for layouts [] pieces index found e is =
    let made : [] ≡ pieces = some_same [] pieces e in
    let none : slice_get [] index ≡ Some found = subst (λ (list : List Piece). slice_get list index ≡ Some found) (sym made) is in
    absurd cc
asks_for layouts (first ∷ others) pieces index found e is =
    asks_front layouts first others (piece_of layouts first) (pieces_of layouts others) pieces index found refl refl (λ rest place made at. asks_for layouts others rest place found made at) e is

-- a member, and what it takes of its record
record IsStanding (types : CTypes) (row : CRow) (one : CMember) (place : Spot) : Type 0 where
  found : Piece
  found_is : piece_of (layouts_of types) one ≡ Some found
  fits : FitsPiece found place
  ends : end_bit place found ≤ 8 * row.laid.size

abbrev members_or : Option CRecord → List CMember
members_or None = []
members_or (Some one) = one.members

abbrev spots_or : Option CRow → List Spot
spots_or None = []
spots_or (Some row) = row.spots

whole_bits : (types : CTypes) (number index : ℕ) (one : CMember) → AreTypes types → member_of types (record_type number) index ≡ Some one → HasWholeBits types one
whole_bits types number index one are is = by one.bits (member_in types (record_type number) index one are is).1.bits
  where
    by : (bits : Option ℕ) → IfSome bits (IsBitFieldOf types one) → IfSome bits (λ width. IsIntegerType types one.type)
    by None held = tt
    by (Some width) held = held.integer

stands : (types : CTypes) (number index : ℕ) (row : CRow) (one : CMember) (place : Spot) → AreTypes types → row_at (layouts_of types) number ≡ Some row → member_of types (record_type number) index ≡ Some one
    → spot_of types (record_type number) index ≡ Some place → IsStanding types row one place
stands types number index row one place are is member_is spot_is =
    let here = row_here types number row is in
    let spot_there : slice_get row.spots index ≡ Some place = sym (ap (λ found. slice_get (spots_or found) index) is) ∙ spot_is in
    let held = stands_as (no_front here.one.is_union) here.pieces index place (sym (ap (λ (spots : List Spot). slice_get spots index) here.spots_are) ∙ spot_there) in
    let asks = asks_for (layouts_of types) here.one.members here.pieces index held.found here.pieces_are held.found_is in
    let member_there : slice_get here.one.members index ≡ Some one = sym (ap (λ found. slice_get (members_or found) index) here.one_is) ∙ member_is in
    let same : asks.of ≡ one = some_same asks.of one (sym asks.of_is ∙ member_there) in
    let whole = row_laid_out types number row here
    (λ other found found_is. whole_bits types number other found are (ap (λ one. slice_get (members_or one) other) here.one_is ∙ found_is)) in
    record {
      found = held.found;
      found_is = subst (λ (m : CMember). piece_of (layouts_of types) m ≡ Some held.found) same asks.piece_is;
      fits = held.fits;
      ends = lies_inside (layouts_of types) here.one row here.pieces index held.found place whole (record { piece_is = held.found_is; spot_is = spot_there });
    }

-- ---- members of objects

abbrev piece_with : CMember → Option ℕ → Laid → Piece
piece_with one bits laid = elim bits as (λ _. Piece) [
  | None ↦ Plain laid.size laid.align
  | Some width ↦ Bits laid.size width (is_some one.name)
]

-- a member that isn't a bit-field
plain_inside : (types : CTypes) (size : ℕ) (one : CMember) (place : Spot) (laid : Laid) (found : Piece) → whole_extent (layouts_of types) one.type ≡ Some laid → piece_with one None laid ≡ found → FitsPiece found place
    → end_bit place found ≤ 8 * size → IsInside types size one.type place.byte place.bit place.width
plain_inside types size one place laid found sized e fits ends =
    let fit : FitsPiece (Plain laid.size laid.align) place = subst (λ (p : Piece). FitsPiece p place) (sym e) fits in
    let last : 8 * place.byte + place.bit + 8 * laid.size ≤ 8 * size = subst (λ (p : Piece). end_bit place p ≤ 8 * size) (sym e) ends in
    record {
      begins = λ zero. fit.1;
      ends = λ zero other other_is.
          let same : laid ≡ other = some_same laid other (sym sized ∙ other_is) in
          subst (λ (l : Laid). place.byte + l.size ≤ size) same (omega (arith, last));
      of_bits = λ some. absurd (some fit.0);
    }

-- a bit-field
bits_inside : (types : CTypes) (size : ℕ) (one : CMember) (place : Spot) (laid : Laid) (found : Piece) (width : ℕ) → 0 < width → ((place.width ≡ 0 → ⊥) → IsFieldAt types one.type place) → piece_with one (Some width) laid ≡ found
    → FitsPiece found place → end_bit place found ≤ 8 * size → IsInside types size one.type place.byte place.bit place.width
bits_inside types size one place laid found width some field e fits ends =
    let fit : FitsPiece (Bits laid.size width (is_some one.name)) place = subst (λ (p : Piece). FitsPiece p place) (sym e) fits in
    let last : 8 * place.byte + place.bit + width ≤ 8 * size = subst (λ (p : Piece). end_bit place p ≤ 8 * size) (sym e) ends in
    let same : place.width ≡ width = fit.0 in
    record {
      begins = λ zero. absurd (omega (arith, zero, same, some));
      ends = λ zero other other_is. absurd (omega (arith, zero, same, some));
      of_bits = λ wide. record { field = (field wide).field; low = (field wide).bit; ends = omega (arith, same, last) };
    }

standing_inside : (types : CTypes) (row : CRow) (one : CMember) (place : Spot) (bits : Option ℕ) → one.bits ≡ bits → IsSome one.name → IfSome bits (IsBitFieldOf types one) → ((place.width ≡ 0 → ⊥) → IsFieldAt types one.type place)
    → IsStanding types row one place → IsInside types row.laid.size one.type place.byte place.bit place.width
standing_inside types row one place None b named is field held =
    let sized = map_found (piece one) (whole_extent (layouts_of types) one.type) held.found held.found_is in
    plain_inside types row.laid.size one place sized.0 held.found sized.1 (sym (ap (λ bits. piece_with one bits sized.0) b) ∙ sized.2) held.fits held.ends
standing_inside types row one place (Some width) b named is field held =
    let sized = map_found (piece one) (whole_extent (layouts_of types) one.type) held.found held.found_is in
    bits_inside types row.laid.size one place sized.0 held.found width (is.named named) field (sym (ap (λ bits. piece_with one bits sized.0) b) ∙ sized.2) held.fits held.ends

bits_of_member : (types : CTypes) (number index : ℕ) (one : CMember) → AreTypes types → member_of types (record_type number) index ≡ Some one → IfSome one.bits (IsBitFieldOf types one)
bits_of_member types number index one are is = (member_in types (record_type number) index one are is).1.bits

-- a named member stands inside its structure or union
pub member_inside : (types : CTypes) (holder : CTy) (index : ℕ) (one : CMember) (place : Spot) (laid : Laid) → AreTypes types → member_of types (form_of_type holder) index ≡ Some one → IsSome one.name
    → spot_of types (form_of_type holder) index ≡ Some place → whole_extent (layouts_of types) holder ≡ Some laid → IsInside types laid.size one.type place.byte place.bit place.width
member_inside types (ty (record_type number) is_const) index one place laid are member_is named spot_is sized =
    let row = map_found (λ (row : CRow). row.laid) (row_at (layouts_of types) number) laid sized in
    let field = field_at types (ty (record_type number) false) place one.type are (record { index = index; one = one; member_is = member_is; named = named; spot_is = spot_is; type_is = refl }) in
    subst (λ (l : Laid). IsInside types l.size one.type place.byte place.bit place.width) row.2
    (standing_inside types row.0 one place one.bits refl named (bits_of_member types number index one are member_is) field (stands types number index row.0 one place are row.1 member_is spot_is))
member_inside types (ty void is_const) index one place laid are member_is named spot_is sized = absurd cc
member_inside types (ty (basic which) is_const) index one place laid are member_is named spot_is sized = absurd cc
member_inside types (ty (enum_type number) is_const) index one place laid are member_is named spot_is sized = absurd cc
member_inside types (ty (pointer to) is_const) index one place laid are member_is named spot_is sized = absurd cc
member_inside types (ty (array element length) is_const) index one place laid are member_is named spot_is sized = absurd cc
member_inside types (ty (function result params variadic) is_const) index one place laid are member_is named spot_is sized = absurd cc

complete_sized : (types : CTypes) (type : CTy) (found : Option Laid) → extent (layouts_of types) type ≡ found → IsSome found → (laid : Laid) × (extent (layouts_of types) type ≡ Some laid)
complete_sized types type None e some = absurd cc
complete_sized types type (Some laid) e some = (laid, e)

-- a member has a size
pub member_sized : (types : CTypes) (number index : ℕ) (one : CMember) → AreTypes types → member_of types (record_type number) index ≡ Some one → (laid : Laid) × (extent (layouts_of types) one.type ≡ Some laid)
member_sized types number index one are is = complete_sized types one.type (extent (layouts_of types) one.type) refl (member_in types (record_type number) index one are is).1.complete
