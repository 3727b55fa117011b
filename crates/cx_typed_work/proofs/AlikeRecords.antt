-- Compatible structures and unions have one size and one alignment (ISO C99, 6.2.7p1, 6.7.2.1).
use Rattle.std.proofs.Common.{◌≡◌, ◌⊎◌, inl, inr, ℕ, zero, suc, ◌+◌, ◌==◌, ◌&&◌, nat_le, Bool, true, false, if◌then◌else◌, List, [], ◌∷◌, Option, None, Some, option_map, slice_get, IsSome, IfSome, refl, sym, ap, ◌∙◌, subst, arith}
use Rattle.std.proofs.lemmas.Bool.{and_from, and_parts, or_cases, eqb-true}
use Rattle.std.proofs.lemmas.Bool.Decides.{nat_tests}
use Rattle.std.specs.Bool.{beq}
use Rattle.std.specs.List.{list_all, list_any}
use Rattle.std.specs.Option.{option_flatten, is_none}
use Rattle.cr_base.specs.declared.layout.Laid.{Laid}
use Rattle.cr_base.specs.declared.layout.Piece.{Piece}
use Rattle.cr_base.specs.Layout.{most_bytes, laid_of, laid_record, spots_of}
use Rattle.cx_core.specs.declared.ty.Basic.{Basic}
use Rattle.cx_core.specs.declared.ty.Basic.TheVariants.{Truth}
use Rattle.cx_core.specs.Compatible.{agree, are_of_two, of_two_units, same_basics, names_agree, widths_agree, are_alike, members_agree, contents_agree, tags_agree, records_agree, pair_agrees, in_pairs, AreCompatible}
use Rattle.cx_core.specs.Conversions.{same_basic, basic_of}
use Rattle.cx_core.specs.Layouts.{CLayouts, CRow, row_at, whole_extent, extent, pieces_of, row_of, row_of_pieces, passes, completed_count, layouts_of}
use Rattle.cx_core.specs.Trees.{CTy, record_type, form_of_type, is_const_type, CMember, CRecord, CRecordTag, CTypes}
use Rattle.cx_core.specs.ValidTypes.{AreTypes, IsBitFieldOf, IsMemberIn}
use Rattle.cx_layout.proofs.Builds.{layouts_are}
use Rattle.cx_layout.proofs.Passes.{Extends, row_at-pass, passes_none, passes_after}
use Rattle.cx_layout.specs.Calls.{record_at}
use Rattle.cx_typed_work.proofs.AlikePieces.{pieces_in_order}
use Rattle.cx_typed_work.proofs.AlikeSizes.{AreOne, RowsAlike, extent_alike}
use Rattle.cx_typed_work.proofs.AlikeUnions.{AreLikeThemselves, unions_alike}
use Rattle.cx_typed_work.proofs.Fields.{member_in}
use Rattle.cx_typed_work.proofs.Rows.{then_found, map_found, some_same, extent_whole, row_here}

-- ---- one record and another

row_laid : (is_union : Bool) (pieces : List Piece) (row : CRow) → row_of_pieces is_union pieces ≡ Some row → laid_of is_union pieces ≡ row.laid
row_laid is_union pieces row is =
    let found = map_found (λ laid. record { laid = laid; spots = spots_of is_union pieces }) (laid_record is_union pieces) row is in
    by (nat_le (laid_of is_union pieces).size most_bytes) found.0 found.1 ∙ ap (λ (r : CRow). r.laid) found.2
  where
    by : (fits : Bool) (laid : Laid) → (if fits then Some (laid_of is_union pieces) else None) ≡ Some laid → laid_of is_union pieces ≡ laid
    by true laid is = some_same (laid_of is_union pieces) laid is
    by false laid is = absurd cc

module _ (types : CTypes) (counts : ℕ → ℕ → Bool) (few many : CLayouts) (extends : Extends few many) (rows : RowsAlike counts few many) where
  pieces_alike : (is_union : Bool) (firsts seconds : List CMember) (pieces others : List Piece) → AreLikeThemselves types firsts → AreLikeThemselves types seconds → members_agree types counts is_union firsts seconds ≡ true
      → pieces_of few firsts ≡ Some pieces → pieces_of many seconds ≡ Some others → laid_of is_union pieces ≡ laid_of is_union others
  pieces_alike true firsts seconds pieces others like other_like meets first_is second_is =
      unions_alike types counts few many extends rows firsts seconds pieces others like other_like meets first_is second_is
  pieces_alike false firsts seconds pieces others like other_like meets first_is second_is =
      ap (laid_of false) (pieces_in_order types counts few many extends rows firsts seconds meets pieces others first_is second_is)

  row_alike : (one other : CRecord) (row other_row : CRow) → one.is_union ≡ other.is_union → AreLikeThemselves types one.members → AreLikeThemselves types other.members
      → members_agree types counts one.is_union one.members other.members ≡ true → row_of few one ≡ Some row → row_of many other ≡ Some other_row → row.laid ≡ other_row.laid
  row_alike one other row other_row kind like other_like meets is other_is =
      let first = then_found (row_of_pieces one.is_union) (pieces_of few one.members) row is in
      let second = then_found (row_of_pieces other.is_union) (pieces_of many other.members) other_row other_is in
      sym (row_laid one.is_union first.0 row first.2)
      ∙ pieces_alike one.is_union one.members other.members first.0 second.0 like other_like meets first.1 second.1
      ∙ ap (λ is_union. laid_of is_union second.0) kind
      ∙ row_laid other.is_union second.0 other_row second.2

-- ---- the completed records of a typed program

same_number : (n : ℕ) → (n == n) ≡ true
same_number n = grind (arith, nat_tests)

basic_same : (which : Basic) → same_basic which which ≡ true
unfolding same_basic
basic_same Truth = refl
basic_same _ = refl

basics_same : (which : Option Basic) → IsSome which → same_basics which which ≡ true
basics_same None some = absurd cc
basics_same (Some which) some = basic_same which

width_same : (bits : Option ℕ) → widths_agree bits bits ≡ true
width_same None = refl
width_same (Some width) = same_number width

flag_same : (b : Bool) → beq b b ≡ true
flag_same true = refl
flag_same false = refl

integer_bits : (types : CTypes) (one : CMember) (name : Option (List ℕ)) (bits : Option ℕ) → IfSome bits (IsBitFieldOf types one) → IsSome name ⊎ IsSome bits → is_none name ≡ true → IsSome (basic_of types (form_of_type one.type))
integer_bits types one (Some name) bits is named unnamed = absurd cc
integer_bits types one None (Some width) is named unnamed = is.integer
integer_bits types one None None is (inl named) unnamed = absurd cc
integer_bits types one None None is (inr named) unnamed = absurd cc

like_itself : (types : CTypes) (unit : ℕ) (one : CMember) → IsMemberIn types unit one → is_none one.name ≡ true → are_alike types one one ≡ true
like_itself types unit one is unnamed =
    and_from _ _ (and_from _ _ (and_from _ _ (and_from _ _ unnamed unnamed) (width_same one.bits)) (flag_same (is_const_type one.type)))
    (basics_same (basic_of types (form_of_type one.type)) (integer_bits types one one.name one.bits is.bits is.named unnamed))

abbrev members_or : Option CRecord → List CMember
members_or None = []
members_or (Some one) = one.members

members_like : (types : CTypes) (number : ℕ) (one : CRecord) → AreTypes types → record_at types number ≡ Some one → AreLikeThemselves types one.members
members_like types number one are is index member there unnamed =
    let inside = member_in types (record_type number) index member are (ap (λ found. slice_get (members_or found) index) is ∙ there) in
    like_itself types inside.0 member inside.1 unnamed

completed_at : (records : Option (Option CRecord)) (one : CRecord) → option_flatten records ≡ Some one → records ≡ Some (Some one)
completed_at None one is = absurd cc
completed_at (Some None) one is = absurd cc
completed_at (Some (Some found)) one is = ap (λ (o : Option CRecord). Some o) is

-- the tag of a completed record says whether it is a union
tag_kind : (types : CTypes) (number unit : ℕ) (one : CRecord) (tag : CRecordTag) → AreTypes types → record_at types number ≡ Some one → slice_get types.record_units number ≡ Some unit → slice_get types.record_tags number ≡ Some tag
    → tag.is_union ≡ one.is_union
tag_kind types number unit one tag are is unit_is tag_is =
    let inside = are.records number unit one (completed_at (slice_get types.records number) one is) unit_is in
    ap (λ (t : CRecordTag). t.is_union) (some_same tag (record { tag = one.tag; is_union = one.is_union }) (sym tag_is ∙ inside.tag_is))

-- ---- pairs of records that agree

abbrev meets : CTypes → (ℕ → ℕ → Bool) → ℕ → ℕ → Bool
meets types counts i j = pair_agrees types counts (record { first = i; second = j })

abbrev counted : {P : Type 0} → List P → (P → ℕ) → (P → ℕ) → ℕ → ℕ → Bool
counted pairs first second i j = list_any (λ pair. (first pair == i) && (second pair == j)) pairs

-- what holds of each pair of a list holds of the numbers that it counts
all_counted : {P : Type 0} (pairs : List P) (first second : P → ℕ) (test : ℕ → ℕ → Bool) → list_all (λ pair. test (first pair) (second pair)) pairs ≡ true
    → (i j : ℕ) → counted pairs first second i j ≡ true → test i j ≡ true
all_counted [] first second test all i j found = cc
all_counted (pair ∷ pairs) first second test all i j found =
    by (or_cases _ _ found) (all_counted pairs first second test (and_parts _ _ all).1 i j) where
      here : (first pair == i) && (second pair == j) ≡ true → test i j ≡ true
      here same =
          let parts = and_parts (first pair == i) (second pair == j) same in
          subst (λ n. test i n ≡ true) (eqb-true _ _ parts.1) (subst (λ m. test m (second pair) ≡ true) (eqb-true _ _ parts.0) (and_parts _ _ all).0)

      by : ((first pair == i) && (second pair == j) ≡ true) ⊎ (counted pairs first second i j ≡ true) → (counted pairs first second i j ≡ true → test i j ≡ true) → test i j ≡ true
      by (inl same) behind = here same
      by (inr later) behind = behind later

same_kind : (a b : Bool) → beq a b ≡ true → a ≡ b
same_kind true true same = refl
same_kind true false same = sym same
same_kind false true same = same
same_kind false false same = refl

-- two completed records that agree are both structures or both unions, and their members correspond
record AreRecordsAlike (types : CTypes) (counts : ℕ → ℕ → Bool) (one other : CRecord) : Type 0 where
  kind : one.is_union ≡ other.is_union
  members : members_agree types counts one.is_union one.members other.members ≡ true

tags_alike : (types : CTypes) (counts : ℕ → ℕ → Bool) (a b unit other_unit : ℕ) (one other : CRecord) (tag other_tag : Option CRecordTag) → AreTypes types
    → record_at types a ≡ Some one → record_at types b ≡ Some other → slice_get types.record_units a ≡ Some unit → slice_get types.record_units b ≡ Some other_unit
    → slice_get types.record_tags a ≡ tag → slice_get types.record_tags b ≡ other_tag → records_agree types counts a b tag other_tag ≡ true → AreRecordsAlike types counts one other
tags_alike types counts a b unit other_unit one other None other_tag are one_is other_is unit_is other_unit_is tag_is other_tag_is agrees = absurd cc
tags_alike types counts a b unit other_unit one other (Some tag) None are one_is other_is unit_is other_unit_is tag_is other_tag_is agrees = absurd cc
tags_alike types counts a b unit other_unit one other (Some tag) (Some other_tag) are one_is other_is unit_is other_unit_is tag_is other_tag_is agrees =
    let parts = and_parts (tags_agree tag other_tag) (contents_agree types counts tag.is_union (record_at types a) (record_at types b)) agrees in
    let tags = and_parts (beq tag.is_union other_tag.is_union) (names_agree tag.tag other_tag.tag) parts.0 in
    let first = tag_kind types a unit one tag are one_is unit_is tag_is in
    let second = tag_kind types b other_unit other other_tag are other_is other_unit_is other_tag_is in
    record {
      kind = sym first ∙ same_kind tag.is_union other_tag.is_union tags.0 ∙ second;
      members = ap (λ is_union. contents_agree types counts is_union (Some one) (Some other)) (sym first)
          ∙ ap (λ found. contents_agree types counts tag.is_union found (Some other)) (sym one_is)
          ∙ ap (λ found. contents_agree types counts tag.is_union (record_at types a) found) (sym other_is)
          ∙ parts.1;
    }

pair_alike : (types : CTypes) (counts : ℕ → ℕ → Bool) (a b : ℕ) (one other : CRecord) → AreTypes types → record_at types a ≡ Some one → record_at types b ≡ Some other → meets types counts a b ≡ true → AreRecordsAlike types counts one other
pair_alike types counts a b one other are one_is other_is agrees =
    let parts = and_parts (of_two_units types.record_units a b) (records_agree types counts a b (slice_get types.record_tags a) (slice_get types.record_tags b)) agrees in
    by (slice_get types.record_units a) (slice_get types.record_units b) refl refl parts.0 parts.1
  where
    by : (unit other_unit : Option ℕ) → slice_get types.record_units a ≡ unit → slice_get types.record_units b ≡ other_unit → are_of_two unit other_unit ≡ true
        → records_agree types counts a b (slice_get types.record_tags a) (slice_get types.record_tags b) ≡ true → AreRecordsAlike types counts one other
    by None other_unit unit_is other_unit_is two agree = absurd cc
    by (Some unit) None unit_is other_unit_is two agree = absurd cc
    by (Some unit) (Some other_unit) unit_is other_unit_is two agree =
        tags_alike types counts a b unit other_unit one other (slice_get types.record_tags a) (slice_get types.record_tags b) are one_is other_is unit_is other_unit_is refl refl agree

-- ---- all records, in the order in which they are laid out

extends_to : (types : CTypes) (n k : ℕ) → n + k ≡ completed_count types.records → Extends (passes n types) (layouts_of types)
extends_to types n k count number row is =
    ap (λ (all : CLayouts). row_at all number) (layouts_are types)
    ∙ subst (λ m. row_at (passes m types) number ≡ Some row) count (passes_after types n k number row is)

one_more : (n k count : ℕ) → suc n + k ≡ count → n + suc k ≡ count
one_more n k count is = omega (arith, is)

abbrev laid_in : CLayouts → ℕ → Option Laid
laid_in layouts number = option_map (λ (row : CRow). row.laid) (row_at layouts number)

module _ (types : CTypes) (are : AreTypes types) (counts : ℕ → ℕ → Bool) (good : (i j : ℕ) → counts i j ≡ true → meets types counts i j ≡ true) where
  next_alike : (n : ℕ) → Extends (passes n types) (layouts_of types) → RowsAlike counts (passes n types) (layouts_of types) → RowsAlike counts (passes (suc n) types) (layouts_of types)
  next_alike n extends rows a b agrees laid other_laid is other_is =
      let row = map_found (λ (row : CRow). row.laid) (row_at (passes (suc n) types) a) laid is in
      let other_row = map_found (λ (row : CRow). row.laid) (row_at (layouts_of types) b) other_laid other_is in
      let held = then_found (row_of (passes n types)) (record_at types a) row.0 (sym (row_at-pass types (passes n types) a) ∙ row.1) in
      let other_held = row_here types b other_row.0 other_row.1 in
      let alike = pair_alike types counts a b held.0 other_held.one are held.1 other_held.one_is (good a b agrees) in
      sym row.2
      ∙ row_alike types counts (passes n types) (layouts_of types) extends rows held.0 other_held.one row.0 other_row.0 alike.kind
      (members_like types a held.0 are held.1) (members_like types b other_held.one are other_held.one_is) alike.members held.2 other_held.row_is
      ∙ other_row.2

  none_alike : RowsAlike counts (passes zero types) (layouts_of types)
  none_alike a b agrees laid other_laid is other_is =
      let none : laid_in (passes zero types) a ≡ None = ap (λ found. option_map (λ (row : CRow). row.laid) found) (passes_none types a) in
      absurd (let h : None ≡ Some laid = sym none ∙ is in cc)

  rows_alike : (n k : ℕ) → n + k ≡ completed_count types.records → RowsAlike counts (passes n types) (layouts_of types)
  rows_alike zero k count = none_alike
  rows_alike (suc n) k count =
      next_alike n (extends_to types n (suc k) (one_more n k (completed_count types.records) count)) (rows_alike n (suc k) (one_more n k (completed_count types.records) count))

  all_rows_alike : RowsAlike counts (layouts_of types) (layouts_of types)
  all_rows_alike =
      subst (λ (all : CLayouts). RowsAlike counts all (layouts_of types)) (sym (layouts_are types))
      (rows_alike (completed_count types.records) 0 (omega arith))

-- compatible types have one size and one alignment, where both are complete
pub alike_whole : (types : CTypes) (first second : CTy) → AreTypes types → AreCompatible types first second → AreOne (whole_extent (layouts_of types) first) (whole_extent (layouts_of types) second)
alike_whole types first second are by =
    let good : (i j : ℕ) → in_pairs by.pairs i j ≡ true → meets types (in_pairs by.pairs) i j ≡ true =
    all_counted by.pairs (λ pair. pair.first) (λ pair. pair.second) (meets types (in_pairs by.pairs)) by.good in
    extent_alike types (in_pairs by.pairs) (layouts_of types) (layouts_of types) (λ number row is. is)
    (all_rows_alike types are (in_pairs by.pairs) good) first second by.meet

pub alike_laid : (types : CTypes) (first second : CTy) (laid other : Laid) → AreTypes types → AreCompatible types first second → extent (layouts_of types) first ≡ Some laid → extent (layouts_of types) second ≡ Some other → laid ≡ other
alike_laid types first second laid other are by is other_is =
    alike_whole types first second are by laid other (extent_whole (layouts_of types) first laid is) (extent_whole (layouts_of types) second other other_is)
