-- Where the parts of an object stand: inside it, and beside each other in the order of their paths (ISO C99, 6.7.2, 6.7.8).
use Rattle.std.proofs.Common.{◌≡◌, ℕ, zero, suc, ◌+◌, ◌*◌, ◌/◌, ◌<◌, ◌≤◌, nat_lt, Bool, true, false, if◌then◌else◌, List, [], ◌∷◌, Option, None, Some, option_map, slice_get, All, refl, sym, ap, ◌∙◌, subst, arith}
use Rattle.std.proofs.lemmas.Bool.Decides.{nat_tests}
use Rattle.std.proofs.lemmas.List.Elements.{All-nil, All-cons}
use Rattle.std.specs.Prelude.{IsSome, IfSome, is_some, nat_le}
use Rattle.std.specs.Option.{option_and_then}
use Rattle.cr_base.proofs.Layouts.{align_grows}
use Rattle.cr_base.specs.declared.layout.Laid.{Laid}
use Rattle.cr_base.specs.declared.layout.Piece.{Piece}
use Rattle.cr_base.specs.declared.layout.Piece.TheVariants.{Plain, Bits}
use Rattle.cr_base.specs.declared.layout.Spot.{Spot}
use Rattle.cr_base.specs.Layout.{most_bytes, align_of, width_of, no_front, after_all, laid_of, laid_record, spots_of}
use Rattle.cx_core.specs.declared.ty.Basic.{Basic}
use Rattle.cx_core.specs.declared.ty.Basic.TheVariants.{Truth, Char, SignedChar, UnsignedChar, Short, UnsignedShort, Int, Unsigned, Long, UnsignedLong, LongLong, UnsignedLongLong}
use Rattle.cx_core.specs.Conversions.{width_of_basic, IsIntegerType}
use Rattle.cx_core.specs.Layouts.{CLayouts, CRow, row_at, elements, array_extent, whole_extent, extent, within_most, piece, piece_of, pieces_of, put_front, row_of, row_of_pieces, passes, completed_count, layouts_of}
use Rattle.cx_core.specs.Trees.{CTy, ty, CTyForm, void, basic, enum_type, pointer, array, record_type, function, CMember, CRecord, CTypes}
use Rattle.cx_core.specs.ValidTypes.{CPart, direct_part, part_at, within, member_of, spot_of}
use Rattle.cx_layout.proofs.Builds.{layouts_are}
use Rattle.cx_layout.proofs.Passes.{Extends, extent_more, passes_more, passes_none, row_at-pass}
use Rattle.cx_layout.proofs.Place.{lies_inside}
use Rattle.cx_layout.specs.Calls.{record_at}
use Rattle.cx_layout.specs.Places.{first_bit, end_bit, IsLaidOut, IsAt}
use Rattle.cx_typed.proofs.Members.{IsRowOf, row_is, piece_in, stands_as, spots_or}

-- ---- options

pub then_found : {X Y : Type 0} (f : X → Option Y) (o : Option X) (y : Y) → option_and_then f o ≡ Some y → (x : X) × (o ≡ Some x) × (f x ≡ Some y)
then_found f None y is = absurd cc
then_found f (Some x) y is = (x, refl, is)

pub map_found : {X Y : Type 0} (f : X → Y) (o : Option X) (y : Y) → option_map f o ≡ Some y → (x : X) × (o ≡ Some x) × (f x ≡ y)
map_found f None y is = absurd cc
map_found f (Some x) y is = (x, refl, cc)

pub some_same : {X : Type 0} (x y : X) → Some x ≡ Some y → x ≡ y
some_same x y is = cc

-- ---- alignments

basic_aligned : (which : Basic) → 0 < width_of_basic which / 8
basic_aligned Truth = omega arith
basic_aligned Char = omega arith
basic_aligned SignedChar = omega arith
basic_aligned UnsignedChar = omega arith
basic_aligned Short = omega arith
basic_aligned UnsignedShort = omega arith
basic_aligned Int = omega arith
basic_aligned Unsigned = omega arith
basic_aligned Long = omega arith
basic_aligned UnsignedLong = omega arith
basic_aligned LongLong = omega arith
basic_aligned UnsignedLongLong = omega arith

abbrev align_in : Option Laid → ℕ
align_in None = 1
align_in (Some laid) = laid.align

laid_aligned : (is_union : Bool) (pieces : List Piece) (test : Bool) (laid : Laid) → (if test then Some (laid_of is_union pieces) else None) ≡ Some laid → 0 < laid.align
laid_aligned is_union pieces true laid is =
    subst (λ n. 0 < n) (ap align_in is) (let h : 1 ≤ (after_all (no_front is_union) pieces).align = align_grows pieces (no_front is_union) in omega (arith, h))
laid_aligned is_union pieces false laid is = absurd cc

abbrev pub row_with : Bool → List Piece → Laid → CRow
row_with is_union pieces found = record { laid = found; spots = spots_of is_union pieces }

row_aligned : (is_union : Bool) (pieces : List Piece) (row : CRow) → row_of_pieces is_union pieces ≡ Some row → 0 < row.laid.align
row_aligned is_union pieces row is =
    let found = map_found (row_with is_union pieces) (laid_record is_union pieces) row is in
    subst (λ r. 0 < r.laid.align) found.2 (laid_aligned is_union pieces (nat_le (laid_of is_union pieces).size most_bytes) found.0 found.1)

rows_aligned : (types : CTypes) (n number : ℕ) (row : CRow) → row_at (passes n types) number ≡ Some row → 0 < row.laid.align
rows_aligned types zero number row is = absurd (let h : None ≡ Some row = sym (passes_none types number) ∙ is in cc)
rows_aligned types (suc n) number row is =
    let found = then_found (row_of (passes n types)) (record_at types number) row (sym (row_at-pass types (passes n types) number) ∙ is) in
    let laid = then_found (row_of_pieces found.0.is_union) (pieces_of (passes n types) found.0.members) row found.2 in
    row_aligned found.0.is_union laid.0 row laid.2

array_aligned : (length : Option ℕ) (found : Option Laid) (laid : Laid) → ((inner : Laid) → found ≡ Some inner → 0 < inner.align) → array_extent length found ≡ Some laid → 0 < laid.align
array_aligned None found laid inner is = absurd cc
array_aligned (Some zero) found laid inner is = absurd cc
array_aligned (Some (suc n)) None laid inner is = absurd cc
array_aligned (Some (suc n)) (Some one) laid inner is = subst (λ k. 0 < k) (ap align_in is) (inner one refl)

extent_aligned : (types : CTypes) (n : ℕ) (type : CTy) (laid : Laid) → whole_extent (passes n types) type ≡ Some laid → 0 < laid.align
extent_aligned types n (ty (basic which) is_const) laid is = subst (λ k. 0 < k) (ap align_in is) (basic_aligned which)
extent_aligned types n (ty (enum_type number) is_const) laid is = subst (λ k. 0 < k) (ap align_in is) (omega arith)
extent_aligned types n (ty (pointer to) is_const) laid is = subst (λ k. 0 < k) (ap align_in is) (omega arith)
extent_aligned types n (ty (array element length) is_const) laid is =
    array_aligned length (whole_extent (passes n types) element) laid (λ inner held. extent_aligned types n element inner held) is
extent_aligned types n (ty (record_type number) is_const) laid is =
    let found = map_found (λ row. row.laid) (row_at (passes n types) number) laid is in
    subst (λ l. 0 < l.align) found.2 (rows_aligned types n number found.0 found.1)
extent_aligned types n (ty void is_const) laid is = absurd cc
extent_aligned types n (ty (function result params variadic) is_const) laid is = absurd cc

abbrev size_in : Option Laid → ℕ
size_in None = 1
size_in (Some laid) = laid.size

basic_sized : (which : Basic) → 0 < width_of_basic which / 8
basic_sized which = basic_aligned which

-- a bit-field's type has a size
whole_sized : (types : CTypes) (n : ℕ) (type : CTy) (laid : Laid) → IsIntegerType types type → whole_extent (passes n types) type ≡ Some laid → 0 < laid.size
whole_sized types n (ty (basic which) is_const) laid whole is = subst (λ k. 0 < k) (ap size_in is) (basic_sized which)
whole_sized types n (ty (enum_type number) is_const) laid whole is = subst (λ k. 0 < k) (ap size_in is) (omega arith)
whole_sized types n (ty void is_const) laid whole is = absurd cc
whole_sized types n (ty (pointer to) is_const) laid whole is = absurd cc
whole_sized types n (ty (array element length) is_const) laid whole is = absurd cc
whole_sized types n (ty (record_type number) is_const) laid whole is = absurd cc
whole_sized types n (ty (function result params variadic) is_const) laid whole is = absurd cc

bits_aligned : (size width : ℕ) (is_named : Bool) → 0 < size → 0 < align_of (Bits size width is_named)
bits_aligned size width true some = some
bits_aligned size width false some = omega arith

piece_by : (one : CMember) (laid : Laid) (bits : Option ℕ) → 0 < laid.align → (IsSome bits → 0 < laid.size)
    → 0 < align_of (elim bits as (λ _. Piece) [ None ↦ Plain laid.size laid.align | Some width ↦ Bits laid.size width (is_some one.name) ])
piece_by one laid None aligned sized = aligned
piece_by one laid (Some width) aligned sized = bits_aligned laid.size width (is_some one.name) (sized refl)

-- ---- parts that stand directly in an object

abbrev part_as : Option CMember → Option Spot → Option CPart
part_as (Some one) (Some spot) = Some (record { spot = spot; type = one.type })
part_as (Some one) None = None
part_as None spot = None

pub record IsMemberPart (types : CTypes) (number index : ℕ) (outer : CPart) : Type 0 where
  pub one : CMember
  pub member_is : member_of types (record_type number) index ≡ Some one
  pub spot_is : spot_of types (record_type number) index ≡ Some outer.spot
  pub type_is : outer.type ≡ one.type

part_parts : (types : CTypes) (number index : ℕ) (found : Option CMember) (place : Option Spot) (outer : CPart) → member_of types (record_type number) index ≡ found → spot_of types (record_type number) index ≡ place
    → part_as found place ≡ Some outer → IsMemberPart types number index outer
part_parts types number index None place outer a b is = absurd cc
part_parts types number index (Some one) None outer a b is = absurd cc
part_parts types number index (Some one) (Some spot) outer a b is =
    let e : record { spot = spot; type = one.type } ≡ outer = some_same _ outer is in
    record { one = one; member_is = a; spot_is = b ∙ ap (λ p. Some p.spot) e; type_is = ap (λ p. p.type) (sym e) }

pub member_part : (types : CTypes) (number index : ℕ) (outer : CPart) → direct_part types index (record_type number) ≡ Some outer → IsMemberPart types number index outer
member_part types number index outer is = part_parts types number index (member_of types (record_type number) index) (spot_of types (record_type number) index) outer refl refl is

pub record IsElementPart (types : CTypes) (element : CTy) (length_is : Option ℕ) (index : ℕ) (outer : CPart) : Type 0 where
  pub count : ℕ
  pub count_is : length_is ≡ Some count
  pub less : index < count
  pub laid : Laid
  pub sized : whole_extent (layouts_of types) element ≡ Some laid
  pub spot_is : outer.spot ≡ record { byte = index * laid.size; bit = 0; width = 0 }
  pub type_is : outer.type ≡ element

abbrev element_at_is : CTy → ℕ → Laid → CPart
element_at_is element index laid = record { spot = record { byte = index * laid.size; bit = 0; width = 0 }; type = element }

within_found : (test : Bool) (laid found : Laid) → (if test then Some laid else None) ≡ Some found → laid ≡ found
within_found true laid found is = some_same laid found is
within_found false laid found is = absurd cc

pub extent_whole : (layouts : CLayouts) (type : CTy) (laid : Laid) → extent layouts type ≡ Some laid → whole_extent layouts type ≡ Some laid
extent_whole layouts type laid is =
    let found = then_found within_most (whole_extent layouts type) laid is in
    found.1 ∙ ap Some (within_found (nat_le found.0.size most_bytes) found.0 laid found.2)

element_by : (types : CTypes) (element : CTy) (count index : ℕ) (outer : CPart) (test : Bool) → nat_lt index count ≡ test
    → (if test then option_map (element_at_is element index) (extent (layouts_of types) element) else None) ≡ Some outer → IsElementPart types element (Some count) index outer
element_by types element count index outer false e is = absurd cc
element_by types element count index outer true e is =
    let found = map_found (element_at_is element index) (extent (layouts_of types) element) outer is in
    record {
      count = count;
      count_is = refl;
      less = grind (arith, nat_tests);
      laid = found.0;
      sized = extent_whole (layouts_of types) element found.0 found.1;
      spot_is = ap (λ p. p.spot) (sym found.2);
      type_is = ap (λ p. p.type) (sym found.2);
    }

pub element_part : (types : CTypes) (element : CTy) (length_is : Option ℕ) (index : ℕ) (outer : CPart) → direct_part types index (array element length_is) ≡ Some outer → IsElementPart types element length_is index outer
element_part types element None index outer is = absurd cc
element_part types element (Some count) index outer is = element_by types element count index outer (nat_lt index count) refl is

-- ---- inside of an object

abbrev pub first_of : CPart → ℕ
first_of part = first_bit part.spot

pub within_first : (outer inner part : CPart) → within outer inner ≡ part → first_of part ≡ first_of outer + first_of inner
within_first outer inner part is = ap first_of (sym is) ∙ sums outer.spot.byte inner.spot.byte outer.spot.bit inner.spot.bit
  where
    sums : (a b c d : ℕ) → 8 * (a + b) + (c + d) ≡ 8 * a + c + (8 * b + d)
    sums a b c d = omega arith

pub times_more : (index count size : ℕ) → index < count → index * size + size ≤ count * size
times_more index zero size less = absurd (omega arith)
times_more zero (suc n) size less = omega arith
times_more (suc k) (suc n) size less = (let h : k * size + size ≤ n * size = times_more k n size (omega arith) in omega (arith, h))

bits_within : (index count size inner : ℕ) → index < count → inner ≤ 8 * size → 8 * (index * size) + 0 + inner ≤ 8 * (count * size)
bits_within index count size inner less fits = (let h : index * size + size ≤ count * size = times_more index count size less in omega (arith, h, fits))

-- the bit-fields of each record have integer types
abbrev pub HaveWholeBits : CTypes → Type 0
HaveWholeBits types = (number index : ℕ) (whole : CRecord) (one : CMember) → record_at types number ≡ Some whole → slice_get whole.members index ≡ Some one → IfSome one.bits (λ width. IsIntegerType types one.type)

pub passes_below : (types : CTypes) (k : ℕ) → Extends (passes k types) (passes (completed_count types.records) types) → Extends (passes k types) (layouts_of types)
passes_below types k extends number row is = ap (λ all. row_at all number) (layouts_are types) ∙ extends number row is

pub record IsRowHere (types : CTypes) (number : ℕ) (row : CRow) : Type 0 where
  pub there : row_at (layouts_of types) number ≡ Some row
  pub of : IsRowOf types (completed_count types.records) number row
  pub below : Extends (passes of.passed types) (layouts_of types)

one_fewer : (types : CTypes) (k n : ℕ) → suc k ≡ n → Extends (passes k types) (passes n types)
one_fewer types k n e = subst (λ m. Extends (passes k types) (passes m types)) e (passes_more types k)

pub row_here : (types : CTypes) (number : ℕ) (row : CRow) → row_at (layouts_of types) number ≡ Some row → IsRowHere types number row
row_here types number row is =
    let found = row_is types (completed_count types.records) number row (sym (ap (λ all. row_at all number) (layouts_are types)) ∙ is) in
    record { there = is; of = found; below = passes_below types found.passed (one_fewer types found.passed (completed_count types.records) found.passed_is) }

-- a member, and what it takes of its record
pub record IsStanding (types : CTypes) (number index : ℕ) (row : CRow) (here : IsRowHere types number row) (one : CMember) (place : Spot) : Type 0 where
  pub piece_is : Piece
  pub at : IsAt here.of.pieces row index piece_is place
  pub member_there : slice_get here.of.one.members index ≡ Some one
  pub piece_there : piece_of (passes here.of.passed types) one ≡ Some piece_is

abbrev members_or : Option CRecord → List CMember
members_or None = []
members_or (Some one) = one.members

pub stands : (types : CTypes) (number index : ℕ) (row : CRow) (here : IsRowHere types number row) (one : CMember) (place : Spot) → member_of types (record_type number) index ≡ Some one
    → spot_of types (record_type number) index ≡ Some place → IsStanding types number index row here one place
stands types number index row here one place member_is spot_is =
    let spot_there : slice_get row.spots index ≡ Some place = sym (ap (λ found. slice_get (spots_or found) index) here.there) ∙ spot_is in
    let held = stands_as (no_front here.of.one.is_union) here.of.pieces index place (sym (ap (λ spots. slice_get spots index) here.of.spots_are) ∙ spot_there) in
    let found = piece_in (passes here.of.passed types) here.of.one.members here.of.pieces index held.one here.of.pieces_are held.one_is in
    let member_there : slice_get here.of.one.members index ≡ Some one = sym (ap (λ found. slice_get (members_or found) index) here.of.one_is) ∙ member_is in
    let same : found.of ≡ one = some_same found.of one (sym found.of_is ∙ member_there) in
    record {
      piece_is = held.one;
      at = record { piece_is = held.one_is; spot_is = spot_there };
      member_there = member_there;
      piece_there = subst (λ m. piece_of (passes here.of.passed types) m ≡ Some held.one) same found.piece_is;
    }

first_sized : (types : CTypes) (n : ℕ) (first : CMember) (laid : Laid) (bits : Option ℕ) → IfSome bits (λ width. IsIntegerType types first.type) → whole_extent (passes n types) first.type ≡ Some laid
    → IsSome bits → 0 < laid.size
first_sized types n first laid None held sized some = absurd cc
first_sized types n first laid (Some width) held sized some = whole_sized types n first.type laid held sized

front_aligned : (types : CTypes) (n : ℕ) (first : CMember) (others : List CMember) (pieces : List Piece) → IfSome first.bits (λ width. IsIntegerType types first.type)
    → ((rest : List Piece) → pieces_of (passes n types) others ≡ Some rest → All (λ piece. 0 < align_of piece) rest)
    → (one : Option Piece) (rest : Option (List Piece)) → piece_of (passes n types) first ≡ one → pieces_of (passes n types) others ≡ rest → put_front one rest ≡ Some pieces → All (λ piece. 0 < align_of piece) pieces
front_aligned types n first others pieces whole later None rest a b found = absurd cc
front_aligned types n first others pieces whole later (Some one) None a b found = absurd cc
front_aligned types n first others pieces whole later (Some one) (Some rest) a b found =
    let inner = map_found (piece first) (whole_extent (passes n types) first.type) one a in
    subst (All (λ piece. 0 < align_of piece)) (some_same (one ∷ rest) pieces found)
    (All-cons (λ piece. 0 < align_of piece) one rest
    (subst (λ p. 0 < align_of p) inner.2
    (piece_by first inner.0 first.bits (extent_aligned types n first.type inner.0 inner.1) (first_sized types n first inner.0 first.bits whole inner.1)))
    (later rest b))

pieces_aligned : (types : CTypes) (n : ℕ) (members : List CMember) (pieces : List Piece) → ((index : ℕ) (one : CMember) → slice_get members index ≡ Some one → IfSome one.bits (λ width. IsIntegerType types one.type))
    → pieces_of (passes n types) members ≡ Some pieces → All (λ piece. 0 < align_of piece) pieces
pieces_aligned types n [] pieces whole is = subst (All (λ piece. 0 < align_of piece)) (some_same [] pieces is) (All-nil (λ piece. 0 < align_of piece))
pieces_aligned types n (first ∷ others) pieces whole is =
    front_aligned types n first others pieces (whole 0 first refl) (λ rest held. pieces_aligned types n others rest (λ index. whole (suc index)) held)
    (piece_of (passes n types) first) (pieces_of (passes n types) others) refl refl is

module _ (types : CTypes) (whole_bits : HaveWholeBits types) where
  pub laid_out : (number : ℕ) (row : CRow) (here : IsRowHere types number row) → IsLaidOut (passes here.of.passed types) here.of.one row here.of.pieces
  laid_out number row here = record {
    row_is = here.of.row_is;
    pieces_are = here.of.pieces_are;
    aligned = pieces_aligned types here.of.passed here.of.one.members here.of.pieces (λ index one is. whole_bits number index here.of.one one here.of.one_is is) here.of.pieces_are;
  }

  no_parts : (type : CTy) (index : ℕ) (path : List ℕ) (part : CPart) → IsIntegerType types type → part_at types (index ∷ path) type ≡ Some part → ⊥
  no_parts (ty (basic which) is_const) index path part whole is = cc
  no_parts (ty (enum_type number) is_const) index path part whole is = cc
  no_parts (ty void is_const) index path part whole is = absurd cc
  no_parts (ty (pointer to) is_const) index path part whole is = absurd cc
  no_parts (ty (array element length) is_const) index path part whole is = absurd cc
  no_parts (ty (record_type number) is_const) index path part whole is = absurd cc
  no_parts (ty (function result params variadic) is_const) index path part whole is = absurd cc

  whole_first : (type : CTy) (path : List ℕ) (part : CPart) → IsIntegerType types type → part_at types path type ≡ Some part → first_of part ≡ 0
  whole_first type [] part whole is = ap first_of (sym (some_same _ part is))
  whole_first type (index ∷ path) part whole is = absurd (no_parts type index path part whole is)

  -- what stands in a member ends before the member does
  member_inside : (layouts : CLayouts) (one : CMember) (bits : Option ℕ) (piece_is : Piece) (path : List ℕ) (inner : CPart) → Extends layouts (layouts_of types) → IfSome bits (λ width. IsIntegerType types one.type)
      → ((laid : Laid) → whole_extent (layouts_of types) one.type ≡ Some laid → first_of inner ≤ 8 * laid.size) → part_at types path one.type ≡ Some inner
      → option_map (λ laid. elim bits as (λ _. Piece) [ None ↦ Plain laid.size laid.align | Some width ↦ Bits laid.size width (is_some one.name) ]) (whole_extent layouts one.type) ≡ Some piece_is
      → first_of inner ≤ width_of piece_is
  member_inside layouts one None piece_is path inner extends whole fits part is =
      let found = map_found _ (whole_extent layouts one.type) piece_is is in
      subst (λ p. first_of inner ≤ width_of p) found.2 (fits found.0 (extent_more layouts (layouts_of types) extends one.type found.0 found.1))
  member_inside layouts one (Some width) piece_is path inner extends whole fits part is =
      (let e : first_of inner ≡ 0 = whole_first one.type path inner whole part in omega (arith, e))

  abbrev pub IsInside : List ℕ → Type 0
  IsInside path = (type : CTy) (laid : Laid) (part : CPart) → whole_extent (layouts_of types) type ≡ Some laid → part_at types path type ≡ Some part → first_of part ≤ 8 * laid.size

  element_size : (count : ℕ) (inner laid : Laid) (found : Option Laid) → found ≡ Some inner → elements count found ≡ Some laid → laid.size ≡ count * inner.size
  element_size zero inner laid found e is = absurd cc
  element_size (suc n) inner laid None e is = absurd cc
  element_size (suc n) inner laid (Some one) e is = sym (ap size_in is) ∙ ap (λ l. suc n * l.size) (some_same one inner e)

  array_inside : (path : List ℕ) → IsInside path → (element : CTy) (length_is : Option ℕ) (index : ℕ) (laid : Laid) (outer inner part : CPart) → IsElementPart types element length_is index outer
      → array_extent length_is (whole_extent (layouts_of types) element) ≡ Some laid → part_at types path outer.type ≡ Some inner → within outer inner ≡ part → first_of part ≤ 8 * laid.size
  array_inside path inside element length_is index laid outer inner part held sized there is =
      let fits : first_of inner ≤ 8 * held.laid.size = inside element held.laid inner held.sized (subst (λ t. part_at types path t ≡ Some inner) held.type_is there) in
      let size : laid.size ≡ held.count * held.laid.size = element_size held.count held.laid laid (whole_extent (layouts_of types) element) held.sized
      (subst (λ l. array_extent l (whole_extent (layouts_of types) element) ≡ Some laid) held.count_is sized) in
      let at : first_of part ≡ first_of outer + first_of inner = within_first outer inner part is in
      let front : first_of outer ≡ 8 * (index * held.laid.size) + 0 = ap first_bit held.spot_is in
      let most : 8 * (index * held.laid.size) + 0 + first_of inner ≤ 8 * (held.count * held.laid.size) = bits_within index held.count held.laid.size (first_of inner) held.less fits in
      omega (arith, size, at, front, most)

  -- a part of a member of a record
  pub member_ends : (path : List ℕ) → IsInside path → (number index : ℕ) (row : CRow) (here : IsRowHere types number row) (one : CMember) (outer inner part : CPart) (held : IsStanding types number index row here one outer.spot)
      → outer.type ≡ one.type → part_at types path outer.type ≡ Some inner → within outer inner ≡ part → first_of part ≤ end_bit outer.spot held.piece_is
  member_ends path inside number index row here one outer inner part held type_is there is =
      let part_there : part_at types path one.type ≡ Some inner = subst (λ t. part_at types path t ≡ Some inner) type_is there in
      let fits : first_of inner ≤ width_of held.piece_is =
      member_inside (passes here.of.passed types) one one.bits held.piece_is path inner here.below (whole_bits number index here.of.one one here.of.one_is held.member_there)
      (λ laid sized. inside one.type laid inner sized part_there) part_there held.piece_there in
      let at : first_of part ≡ first_of outer + first_of inner = within_first outer inner part is in
      omega (arith, fits, at)

  record_inside : (path : List ℕ) → IsInside path → (number index : ℕ) (laid : Laid) (outer inner part : CPart) → IsMemberPart types number index outer
      → option_map (λ row. row.laid) (row_at (layouts_of types) number) ≡ Some laid → part_at types path outer.type ≡ Some inner → within outer inner ≡ part → first_of part ≤ 8 * laid.size
  record_inside path inside number index laid outer inner part held sized there is =
      let row = map_found (λ row. row.laid) (row_at (layouts_of types) number) laid sized in
      let here = row_here types number row.0 row.1 in
      let one = stands types number index row.0 here held.one outer.spot held.member_is held.spot_is in
      let ends : first_of part ≤ end_bit outer.spot one.piece_is = member_ends path inside number index row.0 here held.one outer inner part one held.type_is there is in
      let last : end_bit outer.spot one.piece_is ≤ 8 * row.0.laid.size =
      lies_inside (passes here.of.passed types) here.of.one row.0 here.of.pieces index one.piece_is outer.spot (laid_out number row.0 here) one.at in
      let size : row.0.laid.size ≡ laid.size = ap (λ l. l.size) row.2 in
      omega (arith, ends, last, size)

  form_inside : (path : List ℕ) → IsInside path → (form : CTyForm) (is_const : Bool) (index : ℕ) (laid : Laid) (outer inner part : CPart) → direct_part types index form ≡ Some outer
      → whole_extent (layouts_of types) (ty form is_const) ≡ Some laid → part_at types path outer.type ≡ Some inner → within outer inner ≡ part → first_of part ≤ 8 * laid.size
  form_inside path inside (array element length_is) is_const index laid outer inner part direct sized there is =
      array_inside path inside element length_is index laid outer inner part (element_part types element length_is index outer direct) sized there is
  form_inside path inside (record_type number) is_const index laid outer inner part direct sized there is =
      record_inside path inside number index laid outer inner part (member_part types number index outer direct) sized there is
  form_inside path inside void is_const index laid outer inner part direct sized there is = absurd cc
  form_inside path inside (basic which) is_const index laid outer inner part direct sized there is = absurd cc
  form_inside path inside (enum_type number) is_const index laid outer inner part direct sized there is = absurd cc
  form_inside path inside (pointer to) is_const index laid outer inner part direct sized there is = absurd cc
  form_inside path inside (function result params variadic) is_const index laid outer inner part direct sized there is = absurd cc

  pub inside : (path : List ℕ) → IsInside path
  inside [] type laid part sized is = (let e : first_of part ≡ 0 = ap first_of (sym (some_same _ part is)) in omega (arith, e))
  inside (index ∷ path) (ty form is_const) laid part sized is =
      let outer = then_found (λ outer. option_map (within outer) (part_at types path outer.type)) (direct_part types index form) part is in
      let inner = map_found (within outer.0) (part_at types path outer.0.type) part outer.2 in
      form_inside path (inside path) form is_const index laid outer.0 inner.0 part outer.1 sized inner.1 inner.2
