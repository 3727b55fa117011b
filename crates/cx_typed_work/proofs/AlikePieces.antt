-- Members that correspond take the same of their records (ISO C99, 6.2.7p1, 6.7.2.1).
use Rattle.std.proofs.Common.{◌≡◌, ℕ, ◌&&◌, Bool, true, List, [], ◌∷◌, Option, None, Some, option_map, is_some, refl, sym, ap, ◌∙◌, subst}
use Rattle.std.proofs.lemmas.Bool.{and_parts, eqb-true}
use Rattle.std.specs.Bool.{beq}
use Rattle.std.specs.Option.{is_none}
use Rattle.cr_base.specs.declared.layout.Laid.{Laid}
use Rattle.cr_base.specs.declared.layout.Piece.{Piece}
use Rattle.cr_base.specs.declared.layout.Piece.TheVariants.{Plain, Bits}
use Rattle.cx_core.specs.Compatible.{agree, correspond, in_order, names_agree, widths_agree, are_alike, meet_in_basic}
use Rattle.cx_core.specs.Layouts.{CLayouts, whole_extent, piece, piece_of, put_front, pieces_of}
use Rattle.cx_core.specs.Trees.{CTy, ty, form_of_type, is_const_type, CMember, CTypes}
use Rattle.cx_layout.proofs.Passes.{Extends}
use Rattle.cx_typed_work.proofs.AlikeSizes.{AreOne, map_one, integers_alike, RowsAlike, extent_alike}
use Rattle.cx_typed_work.proofs.Rows.{some_same}

-- ---- names and widths

pub both_named : (first second : Option (List ℕ)) → names_agree first second ≡ true → is_some first ≡ is_some second
both_named None None same = refl
both_named None (Some other) same = absurd cc
both_named (Some one) None same = absurd cc
both_named (Some one) (Some other) same = refl

both_unnamed : (first second : Option (List ℕ)) → is_none first ≡ true → is_none second ≡ true → is_some first ≡ is_some second
both_unnamed None None one other = refl
both_unnamed None (Some b) one other = absurd cc
both_unnamed (Some a) second one other = absurd cc

pub same_width : (first second : Option ℕ) → widths_agree first second ≡ true → first ≡ second
same_width None None same = refl
same_width None (Some m) same = absurd cc
same_width (Some n) None same = absurd cc
same_width (Some n) (Some m) same = ap (λ (k : ℕ). Some k) (eqb-true n m same)

-- ---- one member

abbrev piece_by : Option ℕ → Bool → Laid → Piece
piece_by bits is_named laid = elim bits as (λ _. Piece) [
  | None ↦ Plain laid.size laid.align
  | Some width ↦ Bits laid.size width is_named
]

-- members with the same width, both named or both not, of types that have one size and one alignment
piece_one : (few many : CLayouts) (one other : CMember) → one.bits ≡ other.bits → is_some one.name ≡ is_some other.name → AreOne (whole_extent few one.type) (whole_extent many other.type)
    → AreOne (piece_of few one) (piece_of many other)
piece_one few many one other bits named types =
    subst (λ (f : Laid → Piece). AreOne (piece_of few one) (option_map f (whole_extent many other.type)))
    (ap (λ b. piece_by b (is_some one.name)) bits ∙ ap (piece_by other.bits) named)
    (map_one (piece one) (whole_extent few one.type) (whole_extent many other.type) types)

integer_types_alike : (types : CTypes) (few many : CLayouts) (one other : CTy) → meet_in_basic types (form_of_type one) (form_of_type other) ≡ true → AreOne (whole_extent few one) (whole_extent many other)
integer_types_alike types few many (ty one one_const) (ty other other_const) meets = integers_alike types few many one other meets

-- unnamed bit-fields that are alike
pub alike_piece : (types : CTypes) (few many : CLayouts) (one other : CMember) → are_alike types one other ≡ true → AreOne (piece_of few one) (piece_of many other)
alike_piece types few many one other alike =
    let first = and_parts (is_none one.name && is_none other.name && widths_agree one.bits other.bits && beq (is_const_type one.type) (is_const_type other.type)) (meet_in_basic types (form_of_type one.type) (form_of_type other.type)) alike in
    let second = and_parts (is_none one.name && is_none other.name && widths_agree one.bits other.bits) (beq (is_const_type one.type) (is_const_type other.type)) first.0 in
    let third = and_parts (is_none one.name && is_none other.name) (widths_agree one.bits other.bits) second.0 in
    let names = and_parts (is_none one.name) (is_none other.name) third.0 in
    piece_one few many one other (same_width one.bits other.bits third.1) (both_unnamed one.name other.name names.0 names.1)
    (integer_types_alike types few many one.type other.type first.1)

front_one : (first second : Option Piece) (others other_others : Option (List Piece)) → AreOne first second → AreOne others other_others → AreOne (put_front first others) (put_front second other_others)
front_one None second others other_others one rest x y is other_is = absurd cc
front_one (Some a) None others other_others one rest x y is other_is = absurd cc
front_one (Some a) (Some b) others other_others one rest x y is other_is =
    map_one (λ pieces. b ∷ pieces) others other_others rest x y (ap (λ p. option_map (λ pieces. p ∷ pieces) others) (sym (one a b refl refl)) ∙ is) other_is

module _ (types : CTypes) (counts : ℕ → ℕ → Bool) (few many : CLayouts) (extends : Extends few many) (rows : RowsAlike counts few many) where
  pub corresponding_piece : (one other : CMember) → correspond types counts one other ≡ true → AreOne (piece_of few one) (piece_of many other)
  corresponding_piece one other meets =
      let first = and_parts (names_agree one.name other.name && widths_agree one.bits other.bits) (agree types counts one.type other.type) meets in
      let second = and_parts (names_agree one.name other.name) (widths_agree one.bits other.bits) first.0 in
      piece_one few many one other (same_width one.bits other.bits second.1) (both_named one.name other.name second.0)
      (extent_alike types counts few many extends rows one.type other.type first.1)

  -- the members of structures in their order
  pub pieces_in_order : (firsts seconds : List CMember) → in_order types counts firsts seconds ≡ true → AreOne (pieces_of few firsts) (pieces_of many seconds)
  pieces_in_order [] [] order = λ x y is other_is. some_same x y (sym is ∙ other_is)
  pieces_in_order [] (second ∷ seconds) order = absurd cc
  pieces_in_order (first ∷ firsts) [] order = absurd cc
  pieces_in_order (first ∷ firsts) (second ∷ seconds) order =
      let parts = and_parts (correspond types counts first second) (in_order types counts firsts seconds) order in
      front_one (piece_of few first) (piece_of many second) (pieces_of few firsts) (pieces_of many seconds)
      (corresponding_piece first second parts.0) (pieces_in_order firsts seconds parts.1)
