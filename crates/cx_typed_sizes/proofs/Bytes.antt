-- A complete type has a byte: by the passes in which records are laid out, each by its members.
use Rattle.std.proofs.Common.{◌≡◌, ℕ, zero, suc, ◌*◌, ◌/◌, ◌<◌, ◌≤◌, nat_le, Bool, true, false, if◌then◌else◌, List, [], ◌∷◌, length, Option, None, Some, slice_get, All, is_some, IfSome, IsSome, refl, sym, ap, ◌∙◌, subst, arith}
use Rattle.std.proofs.Math.Nat.{mul_assoc}
use Rattle.std.proofs.lemmas.List.Elements.{All-head, All-tail}
use Rattle.std.specs.Int.{next_multiple_of}
use Rattle.std.specs.Option.{option_flatten}
use Rattle.cr_base.proofs.Layouts.{rounded, taken_grows, align_grows}
use Rattle.cr_base.specs.declared.layout.Front.{Front}
use Rattle.cr_base.specs.declared.layout.Laid.{Laid}
use Rattle.cr_base.specs.declared.layout.Piece.{Piece}
use Rattle.cr_base.specs.declared.layout.Piece.TheVariants.{Plain, Bits}
use Rattle.cr_base.specs.Layout.{most_bytes, width_of, no_front, after, after_all, laid_of, laid_record, spots_of}
use Rattle.cx_core.specs.Conversions.{width_of_basic}
use Rattle.cx_core.specs.declared.ty.Basic.{Basic}
use Rattle.cx_core.specs.declared.ty.Basic.TheVariants.{Truth, Char, SignedChar, UnsignedChar, Short, UnsignedShort, Int, Unsigned, Long, UnsignedLong, LongLong, UnsignedLongLong}
use Rattle.cx_core.specs.Layouts.{CLayouts, CRow, row_at, array_extent, whole_extent, piece, piece_of, pieces_of, put_front, row_of, row_of_pieces, passes, completed_count, layouts_of}
use Rattle.cx_core.specs.Trees.{CTy, ty, void, basic, enum_type, pointer, array, record_type, function, CMember, CRecord, CTypes}
use Rattle.cx_core.specs.ValidTypes.{IsBitFieldOf, IsMemberIn, AreTypes, names_of_members}
use Rattle.cx_layout.proofs.Builds.{layouts_are}
use Rattle.cx_layout.proofs.Passes.{passes_none, row_at-pass}
use Rattle.cx_layout.specs.Calls.{record_at}
use Rattle.cx_typed_work.proofs.Accesses.{beside}
use Rattle.cx_typed_work.proofs.Rows.{then_found, map_found, some_same, extent_whole}
use Rattle.cx_typed_sizes.specs.Laws.{CompleteHasByte}

-- ---- types over layouts whose records have a byte

-- each record that is laid out has a byte
abbrev AreFilled : CLayouts → Type 0
AreFilled layouts = (number : ℕ) (row : CRow) → row_at layouts number ≡ Some row → 0 < row.laid.size

basic_filled : (which : Basic) → 0 < width_of_basic which / 8
basic_filled Truth = omega arith
basic_filled Char = omega arith
basic_filled SignedChar = omega arith
basic_filled UnsignedChar = omega arith
basic_filled Short = omega arith
basic_filled UnsignedShort = omega arith
basic_filled Int = omega arith
basic_filled Unsigned = omega arith
basic_filled Long = omega arith
basic_filled UnsignedLong = omega arith
basic_filled LongLong = omega arith
basic_filled UnsignedLongLong = omega arith

array_filled : (count : Option ℕ) (found : Option Laid) (laid : Laid) → ((inner : Laid) → found ≡ Some inner → 0 < inner.size) → array_extent count found ≡ Some laid → 0 < laid.size
array_filled None found laid inner is = absurd cc
array_filled (Some zero) found laid inner is = absurd cc
array_filled (Some (suc n)) None laid inner is = absurd cc
array_filled (Some (suc n)) (Some one) laid inner is =
    let some = inner one refl in
    subst (λ (l : Laid). 0 < l.size) (some_same _ laid is) (omega (arith, some))

extent_filled : (layouts : CLayouts) (type : CTy) (laid : Laid) → AreFilled layouts → whole_extent layouts type ≡ Some laid → 0 < laid.size
extent_filled layouts (ty (basic which) is_const) laid are is = subst (λ (l : Laid). 0 < l.size) (some_same _ laid is) (basic_filled which)
extent_filled layouts (ty (enum_type number) is_const) laid are is = subst (λ (l : Laid). 0 < l.size) (some_same _ laid is) (omega arith)
extent_filled layouts (ty (pointer to) is_const) laid are is = subst (λ (l : Laid). 0 < l.size) (some_same _ laid is) (omega arith)
extent_filled layouts (ty (array element count) is_const) laid are is = array_filled count (whole_extent layouts element) laid (λ inner held. extent_filled layouts element inner are held) is
extent_filled layouts (ty (record_type number) is_const) laid are is =
    let found = map_found (λ (row : CRow). row.laid) (row_at layouts number) laid is in
    subst (λ (l : Laid). 0 < l.size) found.2 (are number found.0 found.1)
extent_filled layouts (ty void is_const) laid are is = absurd cc
extent_filled layouts (ty (function result params variadic) is_const) laid are is = absurd cc

-- ---- members

-- a piece of a named member takes a bit
piece_filled : (one : CMember) (laid : Laid) (bits : Option ℕ) → 0 < laid.size → IfSome bits (λ width. 0 < width)
    → 0 < width_of (elim bits as (λ _. Piece) [ None ↦ Plain laid.size laid.align | Some width ↦ Bits laid.size width (is_some one.name) ])
piece_filled one laid None some wide = omega (arith, some)
piece_filled one laid (Some width) some wide = wide

-- what a member takes is taken behind it
taken : (front : Front) (first : Piece) (others : List Piece) → 0 < width_of first → 0 < (after_all (after front first) others).bits
taken front first others some = omega (arith, taken_grows others (after front first), some)

bits_wide : (types : CTypes) (one : CMember) (name : List ℕ) (bits : Option ℕ) → one.name ≡ Some name → IfSome bits (IsBitFieldOf types one) → IfSome bits (λ width. 0 < width)
bits_wide types one name None e is = tt
bits_wide types one name (Some width) e is = is.named (subst (λ found. IsSome found) (sym e) refl)

module _ (types : CTypes) (unit : ℕ) (layouts : CLayouts) (are : AreFilled layouts) where
  -- the members of a record: some member has a name
  members_taken : (members : List CMember) (front : Front) (pieces : List Piece) → All (IsMemberIn types unit) members → 0 < length (names_of_members members) → pieces_of layouts members ≡ Some pieces
      → 0 < (after_all front pieces).bits
  members_taken [] front pieces all named is = absurd (omega (arith, named))
  members_taken (first ∷ others) front pieces all named is =
      by (piece_of layouts first) (pieces_of layouts others) first.name refl refl refl named is
      (λ rest later_named later_is. members_taken others (after front (rest.0)) rest.1 (All-tail (IsMemberIn types unit) first others all) later_named later_is)
    where
      by : (one : Option Piece) (rest : Option (List Piece)) (name : Option (List ℕ)) → piece_of layouts first ≡ one → pieces_of layouts others ≡ rest → first.name ≡ name
          → 0 < length (elim name as (λ _. List (List ℕ)) [ None ↦ names_of_members others | Some letters ↦ letters ∷ names_of_members others ])
          → put_front one rest ≡ Some pieces
          → ((both : Piece × List Piece) → 0 < length (names_of_members others) → pieces_of layouts others ≡ Some both.1 → 0 < (after_all (after front both.0) both.1).bits)
          → 0 < (after_all front pieces).bits
      by None rest name a b c some found later = absurd cc
      by (Some one) None name a b c some found later = absurd cc
      by (Some one) (Some rest) None a b c some found later =
          subst (λ (list : List Piece). 0 < (after_all front list).bits) (some_same (one ∷ rest) pieces found) (later (one, rest) some b)
      by (Some one) (Some rest) (Some letters) a b c some found later =
          let inner = map_found (piece first) (whole_extent layouts first.type) one a in
          let member = All-head (IsMemberIn types unit) first others all in
          let wide : 0 < width_of one =
          subst (λ (p : Piece). 0 < width_of p) inner.2
          (piece_filled first inner.0 first.bits (extent_filled layouts first.type inner.0 are inner.1) (bits_wide types first letters first.bits c member.bits)) in
          subst (λ (list : List Piece). 0 < (after_all front list).bits) (some_same (one ∷ rest) pieces found) (taken front one rest wide)

-- ---- rows

-- bits that are rounded up to bytes
size_filled : (bits align : ℕ) → 0 < bits → 0 < align → 0 < next_multiple_of bits (8 * align) / 8
size_filled bits align some aligned =
    let up = rounded bits (8 * align) (omega (arith, aligned)) in
    let e : 8 * align * up.0 ≡ 8 * (align * up.0) = mul_assoc 8 align up.0 in
    omega (arith, up.1, e, some)

abbrev row_with : Bool → List Piece → Laid → CRow
row_with is_union pieces found = record { laid = found; spots = spots_of is_union pieces }

laid_filled : (is_union : Bool) (pieces : List Piece) (test : Bool) (laid : Laid) → 0 < (after_all (no_front is_union) pieces).bits → (if test then Some (laid_of is_union pieces) else None) ≡ Some laid → 0 < laid.size
laid_filled is_union pieces true laid some is =
    let most : 1 ≤ (after_all (no_front is_union) pieces).align = align_grows pieces (no_front is_union) in
    subst (λ (one : Laid). 0 < one.size) (some_same _ laid is)
    (size_filled (after_all (no_front is_union) pieces).bits (after_all (no_front is_union) pieces).align some (omega (arith, most)))
laid_filled is_union pieces false laid some is = absurd cc

row_filled : (is_union : Bool) (pieces : List Piece) (row : CRow) → 0 < (after_all (no_front is_union) pieces).bits → row_of_pieces is_union pieces ≡ Some row → 0 < row.laid.size
row_filled is_union pieces row some is =
    let found = map_found (row_with is_union pieces) (laid_record is_union pieces) row is in
    subst (λ (r : CRow). 0 < r.laid.size) found.2 (laid_filled is_union pieces (nat_le (laid_of is_union pieces).size most_bytes) found.0 some found.1)

-- the record with a number stands in the list of records, and has a unit
record_there : (found : Option (Option CRecord)) (one : CRecord) → option_flatten found ≡ Some one → found ≡ Some (Some one)
record_there None one e = cc
record_there (Some None) one e = cc
record_there (Some (Some held)) one e = let same : held ≡ one = cc (e) in ap (λ (r : CRecord). Some (Some r)) same

some_unit : (found : Option ℕ) → IsSome found → (unit : ℕ) × (found ≡ Some unit)
some_unit None some = cc
some_unit (Some unit) some = (unit, refl)

passes_filled : (types : CTypes) (n : ℕ) → AreTypes types → AreFilled (passes n types)
passes_filled types zero are number row is = absurd (let h : None ≡ Some row = sym (passes_none types number) ∙ is in cc)
passes_filled types (suc n) are number row is =
    let found = then_found (row_of (passes n types)) (record_at types number) row (sym (row_at-pass types (passes n types) number) ∙ is) in
    let laid = then_found (row_of_pieces found.0.is_union) (pieces_of (passes n types) found.0.members) row found.2 in
    let there = record_there (slice_get types.records number) found.0 found.1 in
    let unit = some_unit (slice_get types.record_units number) (beside types.records types.record_units number (Some found.0) (sym are.record_units) there) in
    let one = are.records number unit.0 found.0 there unit.1 in
    row_filled found.0.is_union laid.0 row
    (members_taken types unit.0 (passes n types) (passes_filled types n are) found.0.members (no_front found.0.is_union) laid.0 one.members one.named laid.1) laid.2

pub complete_has_byte : CompleteHasByte
complete_has_byte types type laid are is =
    extent_filled (layouts_of types) type laid
    (λ number row there. passes_filled types (completed_count types.records) are number row (sym (ap (λ (all : CLayouts). row_at all number) (layouts_are types)) ∙ there))
    (extent_whole (layouts_of types) type laid is)
