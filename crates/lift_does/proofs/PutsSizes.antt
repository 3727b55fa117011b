-- The size of a type is a multiple of its alignment, so each element of an array that is aligned is aligned (ISO C99, 6.2.5p20 and 6.7.2.1p15).
use Rattle.std.proofs.Common.{◌≡◌, ℕ, zero, suc, ◌+◌, ◌*◌, ◌/◌, ◌%◌, ◌<◌, ◌≤◌, nat_le, Bool, true, false, if◌then◌else◌, List, Option, None, Some, refl, sym, ap, subst, ◌∙◌, arith}
use Rattle.std.proofs.Math.Nat.{mul-mod_right, mul_assoc, mul_left_comm, div-add-mod, add-mul-mod_self_left, div-lt_iff_lt-mul}
use Rattle.std.proofs.lemmas.Bool.Decides.{nat_tests}
use Rattle.std.specs.Int.{next_multiple_of}
use Rattle.cr_base.proofs.Layouts.{rounded, align_grows}
use Rattle.cr_base.specs.Layout.{most_bytes, after_all, no_front, laid as laid_behind, laid_of, laid_record, spots_of}
use Rattle.cr_base.specs.declared.layout.Front.{Front}
use Rattle.cr_base.specs.declared.layout.Laid.{Laid}
use Rattle.cr_base.specs.declared.layout.Piece.{Piece}
use Rattle.cx_core.specs.Conversions.{width_of_basic}
use Rattle.cx_core.specs.declared.ty.Basic.{Basic}
use Rattle.cx_core.specs.declared.ty.Basic.TheVariants as basics
use Rattle.cx_core.specs.Layouts.{CRow, row_at, array_extent, whole_extent, extent, within_most, row_of_pieces, pieces_of, layouts_of}
use Rattle.cx_core.specs.Trees.{CTy, ty, void, basic, enum_type, pointer, array, record_type, function, CTypes}
use Rattle.cx_typed_work.proofs.Rows.{then_found, map_found, some_same, extent_whole, row_here}

-- ---- numbers

multiple : (size align : ℕ) → size % align ≡ 0 → size ≡ align * (size / align)
multiple size align none = let whole = div-add-mod size align in omega (arith, whole, none)

times_multiple : (n size align : ℕ) → size % align ≡ 0 → n * size ≡ align * (n * (size / align))
times_multiple n size align none = ap (λ (k : ℕ). n * k) (multiple size align none) ∙ mul_left_comm n align (size / align)

-- so many elements behind what is aligned
pub aligned_behind : (offset n size align : ℕ) → offset % align ≡ 0 → size % align ≡ 0 → (offset + n * size) % align ≡ 0
aligned_behind offset n size align first none =
    ap (λ (k : ℕ). (offset + k) % align) (times_multiple n size align none) ∙ add-mul-mod_self_left offset align (n * (size / align)) ∙ first

-- a byte is one of an element
pub byte_of_element : (byte size : ℕ) → byte / size * size + byte % size ≡ byte
byte_of_element byte size =
    let whole = div-add-mod byte size in
    let turned : byte / size * size ≡ size * (byte / size) = mul_turned (byte / size) size in
    omega (arith, whole, turned)
  where
    mul_turned : (a b : ℕ) → a * b ≡ b * a
    mul_turned a b = omega arith

pub index_below : (byte count size : ℕ) → 0 < size → byte < count * size → byte / size < count
index_below byte count size some less = (div-lt_iff_lt-mul some).1 less

pub elements_fit : (index count size : ℕ) → index < count → index * size + size ≤ count * size
elements_fit index zero size less = absurd (omega (arith, less))
elements_fit zero (suc n) size less = omega arith
elements_fit (suc k) (suc n) size less = let fits : k * size + size ≤ n * size = elements_fit k n size (omega (arith, less)) in omega (arith, fits)

-- ---- types

basic_whole : (which : Basic) → (width_of_basic which / 8) % (width_of_basic which / 8) ≡ 0
basic_whole basics.Truth = refl
basic_whole basics.Char = refl
basic_whole basics.SignedChar = refl
basic_whole basics.UnsignedChar = refl
basic_whole basics.Short = refl
basic_whole basics.UnsignedShort = refl
basic_whole basics.Int = refl
basic_whole basics.Unsigned = refl
basic_whole basics.Long = refl
basic_whole basics.UnsignedLong = refl
basic_whole basics.LongLong = refl
basic_whole basics.UnsignedLongLong = refl

-- an array is as many elements side by side
pub record IsArrayLaid (length : Option ℕ) (inner : Option Laid) (laid : Laid) : Type 0 where
  pub count : ℕ
  pub element : Laid
  pub element_is : inner ≡ Some element
  pub size : laid.size ≡ count * element.size
  pub align : laid.align ≡ element.align

pub array_laid : (length : Option ℕ) (inner : Option Laid) (laid : Laid) → array_extent length inner ≡ Some laid → IsArrayLaid length inner laid
array_laid None inner laid is = absurd cc
array_laid (Some zero) inner laid is = absurd cc
array_laid (Some (suc n)) None laid is = absurd cc
array_laid (Some (suc n)) (Some one) laid is =
    let same : record { size = suc n * one.size; align = one.align } ≡ laid = some_same _ laid is in
    record { count = suc n; element = one; element_is = refl; size = ap (λ (l : Laid). l.size) (sym same); align = ap (λ (l : Laid). l.align) (sym same) }

abbrev row_with : Bool → List Piece → Laid → CRow
row_with is_union pieces found = record { laid = found; spots = spots_of is_union pieces }

row_laid : (is_union : Bool) (pieces : List Piece) (row : CRow) → row_of_pieces is_union pieces ≡ Some row → row.laid ≡ laid_of is_union pieces
row_laid is_union pieces row is =
    let found = map_found (row_with is_union pieces) (laid_record is_union pieces) row is in
    sym (ap (λ (r : CRow). r.laid) found.2) ∙ by (nat_le (laid_of is_union pieces).size most_bytes) found.0 found.1
  where
    by : (test : Bool) (laid : Laid) → (if test then Some (laid_of is_union pieces) else None) ≡ Some laid → laid ≡ laid_of is_union pieces
    by true laid e = sym (some_same _ laid e)
    by false laid e = absurd cc

front_whole : (front : Front) → 0 < front.align → (laid_behind front).size % (laid_behind front).align ≡ 0
front_whole front some =
    let round = rounded front.bits (8 * front.align) (omega (arith, some)) in
    let is : next_multiple_of front.bits (8 * front.align) ≡ 8 * (front.align * round.0) = round.1 ∙ mul_assoc 8 front.align round.0 in
    let eighth : next_multiple_of front.bits (8 * front.align) / 8 ≡ front.align * round.0 = omega (arith, is) in
    ap (λ (n : ℕ). n % front.align) eighth ∙ mul-mod_right front.align round.0

record_whole : (is_union : Bool) (pieces : List Piece) → (laid_of is_union pieces).size % (laid_of is_union pieces).align ≡ 0
record_whole is_union pieces =
    let most : 1 ≤ (after_all (no_front is_union) pieces).align = align_grows pieces (no_front is_union) in
    front_whole (after_all (no_front is_union) pieces) (omega (arith, most))

pub size_whole : (types : CTypes) (type : CTy) (laid : Laid) → whole_extent (layouts_of types) type ≡ Some laid → laid.size % laid.align ≡ 0
size_whole types (ty (basic which) is_const) laid is = subst (λ (l : Laid). l.size % l.align ≡ 0) (some_same _ laid is) (basic_whole which)
size_whole types (ty (enum_type number) is_const) laid is = subst (λ (l : Laid). l.size % l.align ≡ 0) (some_same _ laid is) refl
size_whole types (ty (pointer to) is_const) laid is = subst (λ (l : Laid). l.size % l.align ≡ 0) (some_same _ laid is) refl
size_whole types (ty (array element length) is_const) laid is =
    let held = array_laid length (whole_extent (layouts_of types) element) laid is in
    let none : held.element.size % held.element.align ≡ 0 = size_whole types element held.element held.element_is in
    ap (λ (n : ℕ). n % laid.align) held.size ∙ ap (λ (n : ℕ). held.count * held.element.size % n) held.align
    ∙ ap (λ (n : ℕ). n % held.element.align) (times_multiple held.count held.element.size held.element.align none) ∙ mul-mod_right held.element.align (held.count * (held.element.size / held.element.align))
size_whole types (ty (record_type number) is_const) laid is =
    let row = map_found (λ (row : CRow). row.laid) (row_at (layouts_of types) number) laid is in
    let here = row_here types number row.0 row.1 in
    let by_row = then_found (row_of_pieces here.one.is_union) (pieces_of (layouts_of types) here.one.members) row.0 here.row_is in
    let laid_is : laid ≡ laid_of here.one.is_union by_row.0 = sym row.2 ∙ row_laid here.one.is_union by_row.0 row.0 by_row.2 in
    subst (λ (l : Laid). l.size % l.align ≡ 0) (sym laid_is) (record_whole here.one.is_union by_row.0)
size_whole types (ty void is_const) laid is = absurd cc
size_whole types (ty (function result params variadic) is_const) laid is = absurd cc

-- ---- elements

-- the element of a complete array is complete
within_too : (one whole : Laid) → one.size ≤ whole.size → within_most whole ≡ Some whole → within_most one ≡ Some one
within_too one whole less is = by (nat_le whole.size most_bytes) refl is
  where
    by : (test : Bool) → nat_le whole.size most_bytes ≡ test → (if test then Some whole else None) ≡ Some whole → within_most one ≡ Some one
    by true fits e =
        let inside : nat_le one.size most_bytes ≡ true = grind (arith, nat_tests, fits, less) in
        ap (λ (test : Bool). if test then Some one else None) inside
    by false fits e = absurd cc

pub record IsElement (types : CTypes) (element : CTy) (laid : Laid) : Type 0 where
  pub count : ℕ
  pub inner : Laid
  pub inner_is : extent (layouts_of types) element ≡ Some inner
  pub size : laid.size ≡ count * inner.size
  pub align : laid.align ≡ inner.align
  pub whole : inner.size % inner.align ≡ 0

pub element_laid : (types : CTypes) (element : CTy) (length : Option ℕ) (is_const : Bool) (laid : Laid) (byte : ℕ) → byte < laid.size → extent (layouts_of types) (ty (array element length) is_const) ≡ Some laid → IsElement types element laid
element_laid types element length is_const laid byte less is =
    let whole = extent_whole (layouts_of types) (ty (array element length) is_const) laid is in
    let held = array_laid length (whole_extent (layouts_of types) element) laid whole in
    let found = then_found within_most (whole_extent (layouts_of types) (ty (array element length) is_const)) laid is in
    let same : found.0 ≡ laid = some_same found.0 laid (sym found.1 ∙ whole) in
    let most : within_most laid ≡ Some laid = subst (λ (l : Laid). within_most l ≡ Some laid) same found.2 in
    let some : 0 < held.count = some_count held.count held.element.size (let size = held.size in omega (arith, less, size)) in
    let one_fits : held.element.size ≤ laid.size = let fits = elements_fit 0 held.count held.element.size some in let size = held.size in omega (arith, fits, size) in
    record {
      count = held.count;
      inner = held.element;
      inner_is = ap (λ (found : Option Laid). elim found as (λ _. Option Laid) [ None ↦ None | Some one ↦ within_most one ]) held.element_is ∙ within_too held.element laid one_fits most;
      size = held.size;
      align = held.align;
      whole = size_whole types element held.element held.element_is;
    }
  where
    some_count : (count size : ℕ) → byte < count * size → 0 < count
    some_count zero size less = absurd (omega (arith, less))
    some_count (suc n) size less = omega arith
