-- Unions whose members correspond have one size and one alignment, in whatever order their members stand (ISO C99, 6.2.7p1, 6.7.2.1p14).
use Rattle.std.proofs.Common.{◌≡◌, ◌⊎◌, inl, inr, ℕ, zero, suc, ◌+◌, ◌≤◌, ◌<◌, ◌==◌, Bool, true, false, if◌then◌else◌, cond, List, [], ◌∷◌, Option, None, Some, slice_get, fold, refl, sym, ap, ◌∙◌, subst, arith}
use Rattle.std.proofs.lemmas.Bool.{and_parts, eqb-true}
use Rattle.std.specs.List.{list_all, count_by}
use Rattle.std.specs.Option.{is_none}
use Rattle.cr_base.proofs.Layouts.{taken_grows, align_grows}
use Rattle.cr_base.specs.declared.layout.Front.{Front}
use Rattle.cr_base.specs.declared.layout.Piece.{Piece}
use Rattle.cr_base.specs.Layout.{width_of, align_of, start, after, no_front, after_all, laid, laid_of}
use Rattle.cx_core.specs.Compatible.{correspond, corresponds_to, has_partner, named_as, names_agree, are_alike, in_some_order}
use Rattle.cx_core.specs.Layouts.{CLayouts, piece_of, put_front, pieces_of}
use Rattle.cx_core.specs.Trees.{CMember, CTypes}
use Rattle.cx_layout.proofs.Passes.{Extends}
use Rattle.cx_typed_work.proofs.AlikePieces.{alike_piece, corresponding_piece}
use Rattle.cx_typed_work.proofs.AlikeSizes.{AreOne, RowsAlike}
use Rattle.cx_typed_work.proofs.Rows.{some_same}

-- ---- members and what they take

abbrev HasPiece : CLayouts → CMember → Piece → Type 0
HasPiece layouts one found = piece_of layouts one ≡ Some found

-- each member takes the piece of its place
abbrev HavePieces : CLayouts → List CMember → List Piece → Type 0
HavePieces layouts [] [] = Unit {0}
HavePieces layouts [] (found ∷ rest) = ⊥
HavePieces layouts (one ∷ others) [] = ⊥
HavePieces layouts (one ∷ others) (found ∷ rest) = HasPiece layouts one found × HavePieces layouts others rest

have_front : (layouts : CLayouts) (one : CMember) (others : List CMember) (front : Option Piece) (behind : Option (List Piece)) (pieces : List Piece)
    → piece_of layouts one ≡ front → ((rest : List Piece) → behind ≡ Some rest → HavePieces layouts others rest) → put_front front behind ≡ Some pieces → HavePieces layouts (one ∷ others) pieces
have_front layouts one others None behind pieces front_is later is = absurd cc
have_front layouts one others (Some found) None pieces front_is later is = absurd cc
have_front layouts one others (Some found) (Some rest) pieces front_is later is =
    subst (HavePieces layouts (one ∷ others)) (some_same (found ∷ rest) pieces is) (front_is, later rest refl)

have_pieces : (layouts : CLayouts) (members : List CMember) (pieces : List Piece) → pieces_of layouts members ≡ Some pieces → HavePieces layouts members pieces
have_pieces layouts [] pieces is = subst (HavePieces layouts []) (some_same [] pieces is) tt
have_pieces layouts (one ∷ others) pieces is =
    have_front layouts one others (piece_of layouts one) (pieces_of layouts others) pieces refl (λ rest found. have_pieces layouts others rest found) is

-- the member of a piece
record IsOf (layouts : CLayouts) (members : List CMember) (index : ℕ) (found : Piece) : Type 0 where
  one : CMember
  there : slice_get members index ≡ Some one
  piece_is : HasPiece layouts one found

member_at : (layouts : CLayouts) (members : List CMember) (pieces : List Piece) (index : ℕ) (found : Piece) → HavePieces layouts members pieces → slice_get pieces index ≡ Some found → IsOf layouts members index found
member_at layouts [] [] index found have is = absurd cc
member_at layouts [] (first ∷ rest) index found have is = absurd have
member_at layouts (one ∷ others) [] index found have is = absurd have
member_at layouts (one ∷ others) (first ∷ rest) zero found have is = record { one = one; there = refl; piece_is = have.0 ∙ is }
member_at layouts (one ∷ others) (first ∷ rest) (suc index) found have is =
    let later = member_at layouts others rest index found have.1 is in
    record { one = later.one; there = later.there; piece_is = later.piece_is }

-- the piece of a member
record Takes (layouts : CLayouts) (pieces : List Piece) (index : ℕ) (one : CMember) : Type 0 where
  found : Piece
  there : slice_get pieces index ≡ Some found
  piece_is : HasPiece layouts one found

piece_at : (layouts : CLayouts) (members : List CMember) (pieces : List Piece) (index : ℕ) (one : CMember) → HavePieces layouts members pieces → slice_get members index ≡ Some one → Takes layouts pieces index one
piece_at layouts [] pieces index one have is = absurd cc
piece_at layouts (first ∷ others) [] index one have is = absurd have
piece_at layouts (first ∷ others) (found ∷ rest) zero one have is =
    record { found = found; there = refl; piece_is = subst (λ m. HasPiece layouts m found) (some_same first one is) have.0 }
piece_at layouts (first ∷ others) (found ∷ rest) (suc index) one have is =
    let later = piece_at layouts others rest index one have.1 is in
    record { found = later.found; there = later.there; piece_is = later.piece_is }

-- ---- what the members of a union take

-- a piece is no larger than a union
abbrev IsUnder : Piece → Front → Type 0
IsUnder found front = (width_of found ≤ front.bits) × (align_of found ≤ front.align)

under_after : (front : Front) (found : Piece) → front.is_union ≡ true → IsUnder found (after front found)
under_after front found is_union = (omega arith, omega arith)

under_more : (pieces : List Piece) (front : Front) (found : Piece) → IsUnder found front → IsUnder found (after_all front pieces)
under_more pieces front found under = (omega (arith, taken_grows pieces front, under.0), omega (arith, align_grows pieces front, under.1))

-- each piece is under the whole
is_under : (pieces : List Piece) (front : Front) (index : ℕ) (found : Piece) → front.is_union ≡ true → slice_get pieces index ≡ Some found → IsUnder found (after_all front pieces)
is_under [] front index found is_union is = absurd cc
is_under (first ∷ others) front zero found is_union is =
    under_more others (after front first) found (subst (λ p. IsUnder p (after front first)) (some_same first found is) (under_after front first is_union))
is_under (first ∷ others) front (suc index) found is_union is = is_under others (after front first) index found is_union is

-- what took no more than another
abbrev IsWithin : Front → Front → Type 0
IsWithin front bound = (front.bits ≤ bound.bits) × (front.align ≤ bound.align)

within_after : (front bound : Front) (found : Piece) → front.is_union ≡ true → IsWithin front bound → IsUnder found bound → IsWithin (after front found) bound
within_after front bound found is_union within under =
    let begins : start front found ≡ 0 = ap (λ b. if b then 0 else start (record front { is_union = false }) found) is_union in
    (omega (arith, within.0, under.0, begins), omega (arith, within.1, under.1))

within_all : (pieces : List Piece) (front bound : Front) → front.is_union ≡ true → IsWithin front bound → ((index : ℕ) (found : Piece) → slice_get pieces index ≡ Some found → IsUnder found bound) → IsWithin (after_all front pieces) bound
within_all [] front bound is_union within each = within
within_all (first ∷ others) front bound is_union within each =
    within_all others (after front first) bound is_union (within_after front bound first is_union within (each 0 first refl)) (λ index found is. each (suc index) found is)

-- ---- members of unions that correspond

abbrev one_if : Bool → ℕ
one_if b = cond b 1 0

abbrev passes_one : {X : Type 0} → (X → Bool) → ℕ → X → ℕ
passes_one test count x = count + one_if (test x)

count_grows : {X : Type 0} (test : X → Bool) (xs : List X) (count : ℕ) → count ≤ fold (passes_one test) count xs
count_grows test [] count = omega arith
count_grows test (x ∷ xs) count = omega (arith, count_grows test xs (passes_one test count x))

count_rises : {X : Type 0} (test : X → Bool) (xs : List X) (count index : ℕ) (x : X) → slice_get xs index ≡ Some x → test x ≡ true → count < fold (passes_one test) count xs
count_rises test [] count index x is passes = absurd cc
count_rises test (first ∷ xs) count zero x is passes =
    let here : one_if (test first) ≡ 1 = ap (λ one. one_if (test one)) (some_same first x is) ∙ ap one_if passes in
    omega (arith, here, count_grows test xs (passes_one test count first))
count_rises test (first ∷ xs) count (suc index) x is passes = omega (arith, count_rises test xs (passes_one test count first) index x is passes)

-- an element that passes a test
record Passes {X : Type 0} (test : X → Bool) (xs : List X) : Type 0 where
  index : ℕ
  one : X
  there : slice_get xs index ≡ Some one
  passes : test one ≡ true

passes_later : {X : Type 0} (test : X → Bool) (first : X) (xs : List X) → Passes test xs → Passes test (first ∷ xs)
passes_later test first xs found = record { index = suc found.index; one = found.one; there = found.there; passes = found.passes }

some_counted : {X : Type 0} (test : X → Bool) (xs : List X) (count : ℕ) → count < fold (passes_one test) count xs → Passes test xs
some_counted test [] count more = absurd (omega (arith, more))
some_counted test (x ∷ xs) count more = by (test x) refl (λ later. passes_later test x xs (some_counted test xs (passes_one test count x) later)) more
  where
    by : (found : Bool) → test x ≡ found → (passes_one test count x < fold (passes_one test) (passes_one test count x) xs → Passes test (x ∷ xs)) → count < fold (passes_one test) (passes_one test count x) xs → Passes test (x ∷ xs)
    by true is later more = record { index = 0; one = x; there = refl; passes = is }
    by false is later more =
        let same : one_if (test x) ≡ 0 = ap one_if is in
        later (subst (λ n. n < fold (passes_one test) (passes_one test count x) xs) (omega (arith, same)) more)

-- an element that passes a test has one that does in any list with as many
passes_too : {X : Type 0} (test : X → Bool) (own others : List X) (index : ℕ) (x : X) → slice_get own index ≡ Some x → test x ≡ true → (count_by test own == count_by test others) ≡ true → Passes test others
passes_too test own others index x is passes same =
    some_counted test others 0 (subst (λ n. 0 < n) (eqb-true (count_by test own) (count_by test others) same) (count_rises test own 0 index x is passes))

record IsNamedAs (name : Option (List ℕ)) (members : List CMember) (one : CMember) : Type 0 where
  index : ℕ
  there : slice_get members index ≡ Some one

named_later : (name : Option (List ℕ)) (first : CMember) (members : List CMember) (one : CMember) → IsNamedAs name members one → IsNamedAs name (first ∷ members) one
named_later name first members one found = record { index = suc found.index; there = found.there }

-- a member that is found by its name is in the list
named_there : (name : Option (List ℕ)) (members : List CMember) (one : CMember) → named_as name members ≡ Some one → IsNamedAs name members one
named_there name [] one is = absurd cc
named_there name (first ∷ others) one is = by (names_agree name first.name) (λ found. named_later name first others one (named_there name others one found)) is
  where
    by : (same : Bool) → (named_as name others ≡ Some one → IsNamedAs name (first ∷ others) one) → (if same then Some first else named_as name others) ≡ Some one → IsNamedAs name (first ∷ others) one
    by true later is = record { index = 0; there = is }
    by false later is = later is

-- a member and its own in the other union: the first stands in the first union, or `back` in the second
abbrev Meets : CTypes → (ℕ → ℕ → Bool) → Bool → CMember → CMember → Type 0
Meets types counts false one other = (correspond types counts one other ≡ true) ⊎ (are_alike types one other ≡ true)
Meets types counts true one other = (correspond types counts other one ≡ true) ⊎ (are_alike types one other ≡ true)

record HasPartner (types : CTypes) (counts : ℕ → ℕ → Bool) (back : Bool) (others : List CMember) (one : CMember) : Type 0 where
  index : ℕ
  other : CMember
  there : slice_get others index ≡ Some other
  meets : Meets types counts back one other

meets_by : (types : CTypes) (counts : ℕ → ℕ → Bool) (back : Bool) (one other : CMember) → corresponds_to types counts back one (Some other) ≡ true → Meets types counts back one other
meets_by types counts false one other is = inl is
meets_by types counts true one other is = inl is

meets_alike : (types : CTypes) (counts : ℕ → ℕ → Bool) (back : Bool) (one other : CMember) → are_alike types one other ≡ true → Meets types counts back one other
meets_alike types counts false one other is = inr is
meets_alike types counts true one other is = inr is

named_partner : (types : CTypes) (counts : ℕ → ℕ → Bool) (back : Bool) (others : List CMember) (one : CMember) (found : Option CMember) → named_as one.name others ≡ found → corresponds_to types counts back one found ≡ true
    → HasPartner types counts back others one
named_partner types counts back others one None is meets = absurd cc
named_partner types counts back others one (Some other) is meets =
    let there = named_there one.name others other is in
    record { index = there.index; other = other; there = there.there; meets = meets_by types counts back one other meets }

unnamed_partner : (types : CTypes) (counts : ℕ → ℕ → Bool) (back : Bool) (others : List CMember) (one : CMember) → Passes (are_alike types one) others → HasPartner types counts back others one
unnamed_partner types counts back others one found =
    record { index = found.index; other = found.one; there = found.there; meets = meets_alike types counts back one found.one found.passes }

-- an unnamed bit-field is like itself, where its type is an integer type
partner : (types : CTypes) (counts : ℕ → ℕ → Bool) (back : Bool) (own others : List CMember) (index : ℕ) (one : CMember) → slice_get own index ≡ Some one → (is_none one.name ≡ true → are_alike types one one ≡ true)
    → has_partner types counts back own others one ≡ true → HasPartner types counts back others one
partner types counts back own others index one there itself has = by (is_none one.name) refl has
  where
    by : (unnamed : Bool) → is_none one.name ≡ unnamed
        → (if unnamed then count_by (are_alike types one) own == count_by (are_alike types one) others else corresponds_to types counts back one (named_as one.name others)) ≡ true
        → HasPartner types counts back others one
    by true is same = unnamed_partner types counts back others one (passes_too (are_alike types one) own others index one there (itself is) same)
    by false is same = named_partner types counts back others one (named_as one.name others) refl same

-- ---- one size and one alignment

-- an unnamed member is a bit-field of an integer type, so it is like itself (6.7.2.1p4)
abbrev pub AreLikeThemselves : CTypes → List CMember → Type 0
AreLikeThemselves types members = (index : ℕ) (one : CMember) → slice_get members index ≡ Some one → is_none one.name ≡ true → are_alike types one one ≡ true

all_at : {X : Type 0} (test : X → Bool) (xs : List X) (index : ℕ) (x : X) → list_all test xs ≡ true → slice_get xs index ≡ Some x → test x ≡ true
all_at test [] index x all is = absurd cc
all_at test (first ∷ xs) zero x all is = ap test (sym (some_same first x is)) ∙ (and_parts (test first) (list_all test xs) all).0
all_at test (first ∷ xs) (suc index) x all is = all_at test xs index x (and_parts (test first) (list_all test xs) all).1 is

-- the pieces of a union are under another whose pieces are each that of a member's own
module _ (types : CTypes) (counts : ℕ → ℕ → Bool) (back : Bool) (here there : CLayouts)
    (one_piece : (one other : CMember) → Meets types counts back one other → AreOne (piece_of here one) (piece_of there other)) where
  own_under : (pieces : List Piece) (front : Front) (others : List CMember) (one : CMember) (found : Piece) → front.is_union ≡ true → HavePieces there others pieces → HasPartner types counts back others one → HasPiece here one found
      → IsUnder found (after_all front pieces)
  own_under pieces front others one found is_union have own piece_is =
      let taken = piece_at there others pieces own.index own.other have own.there in
      subst (λ p. IsUnder p (after_all front pieces)) (sym (one_piece one own.other own.meets found taken.found piece_is taken.piece_is))
      (is_under pieces front own.index taken.found is_union taken.there)

  under_other : (members others : List CMember) (pieces other_pieces : List Piece) → AreLikeThemselves types members → list_all (has_partner types counts back members others) members ≡ true
      → HavePieces here members pieces → HavePieces there others other_pieces → IsWithin (after_all (no_front true) pieces) (after_all (no_front true) other_pieces)
  under_other members others pieces other_pieces like all have other_have =
      within_all pieces (no_front true) (after_all (no_front true) other_pieces) refl
      (taken_grows other_pieces (no_front true), align_grows other_pieces (no_front true))
      (λ index found is.
      let of = member_at here members pieces index found have is in
      own_under other_pieces (no_front true) others of.one found refl other_have
      (partner types counts back members others index of.one of.there (like index of.one of.there)
      (all_at (has_partner types counts back members others) members index of.one all of.there))
      of.piece_is)

same_number : (m n : ℕ) → m ≤ n → n ≤ m → m ≡ n
same_number m n first second = omega (arith, first, second)

same_laid : (one other : Front) → IsWithin one other → IsWithin other one → laid one ≡ laid other
same_laid one other first second =
    ap (λ bits. laid (record one { bits = bits })) (same_number one.bits other.bits first.0 second.0)
    ∙ ap (λ align. laid (record { is_union = one.is_union; bits = other.bits; align = align })) (same_number one.align other.align first.1 second.1)

module _ (types : CTypes) (counts : ℕ → ℕ → Bool) (few many : CLayouts) (extends : Extends few many) (rows : RowsAlike counts few many) where
  piece_forth : (one other : CMember) → Meets types counts false one other → AreOne (piece_of few one) (piece_of many other)
  piece_forth one other (inl meets) = corresponding_piece types counts few many extends rows one other meets
  piece_forth one other (inr alike) = alike_piece types few many one other alike

  piece_back : (one other : CMember) → Meets types counts true one other → AreOne (piece_of many one) (piece_of few other)
  piece_back one other (inl meets) = λ x y is other_is. sym (corresponding_piece types counts few many extends rows other one meets y x other_is is)
  piece_back one other (inr alike) = alike_piece types many few one other alike

  pub unions_alike : (firsts seconds : List CMember) (pieces others : List Piece) → AreLikeThemselves types firsts → AreLikeThemselves types seconds → in_some_order types counts firsts seconds ≡ true
      → pieces_of few firsts ≡ Some pieces → pieces_of many seconds ≡ Some others → laid_of true pieces ≡ laid_of true others
  unions_alike firsts seconds pieces others like other_like order first_is second_is =
      let parts = and_parts (list_all (has_partner types counts false firsts seconds) firsts) (list_all (has_partner types counts true seconds firsts) seconds) order in
      let first = have_pieces few firsts pieces first_is in
      let second = have_pieces many seconds others second_is in
      same_laid (after_all (no_front true) pieces) (after_all (no_front true) others)
      (under_other types counts false few many piece_forth firsts seconds pieces others like parts.0 first second)
      (under_other types counts true many few piece_back seconds firsts others pieces other_like parts.1 second first)
