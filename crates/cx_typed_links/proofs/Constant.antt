-- A complete type of a unit has a `const` part where the renumbered type has one, so that both may be stored in alike (ISO C99, 6.3.2.1p1).
use Rattle.std.proofs.Common.{◌≡◌, ℕ, zero, suc, ◌+◌, ◌≤◌, Bool, ◌||◌, List, [], ◌∷◌, map, Option, None, Some, refl, sym, ap, ◌∙◌, arith}
use Rattle.std.specs.Prelude.{IsSome}
use Rattle.std.specs.List.{list_any}
use Rattle.std.specs.Option.{option_and_then}
use Rattle.cr_base.specs.declared.layout.Laid.{Laid}
use Rattle.cr_base.specs.declared.layout.Piece.{Piece}
use Rattle.cx_core.specs.Layouts.{CLayouts, CRow, row_at, array_extent, whole_extent, extent, within_most, layouts_of, put_front, piece_of, pieces_of, row_of_pieces, row_of, passes, completed_count}
use Rattle.cx_core.specs.Trees.{CTy, ty, void, basic, enum_type, pointer, array, record_type, function, CMember, CTypes}
use Rattle.cx_core.specs.ValidTypes.{const_in, any_const, has_const, holds_const, IsModifiable}
use Rattle.cx_layout.proofs.Builds.{layouts_are}
use Rattle.cx_layout.proofs.Passes.{row_at-pass, passes_none}
use Rattle.cx_layout.specs.Calls.{record_at}
use Rattle.cx_renumber.specs.Numbers.{CCounts, type_there, member_there}
use Rattle.cx_typed_links.proofs.Parts.{then_inner, map_inner}
use Rattle.cx_typed_links.proofs.Sizes.{record_given, complete_there, fewer_completed}
use Rattle.cx_typed_links.proofs.Types.{of_result_there}
use Rattle.cx_typed_links.specs.Embedding.{IsInside}

array_inner : (length : Option ℕ) (o : Option Laid) (laid : Laid) → array_extent length o ≡ Some laid → (inner : Laid) × (o ≡ Some inner)
array_inner None o laid is = absurd cc
array_inner (Some zero) o laid is = absurd cc
array_inner (Some (suc n)) None laid is = absurd cc
array_inner (Some (suc n)) (Some inner) laid is = (inner, refl)

record IsFront (first : Option Piece) (others : Option (List Piece)) : Type 0 where
  one : Piece
  one_is : first ≡ Some one
  rest : List Piece
  rest_is : others ≡ Some rest

front_inner : (first : Option Piece) (others : Option (List Piece)) (pieces : List Piece) → put_front first others ≡ Some pieces → IsFront first others
front_inner None others pieces is = absurd cc
front_inner (Some one) None pieces is = absurd cc
front_inner (Some one) (Some rest) pieces is = record { one = one; one_is = refl; rest = rest; rest_is = refl }

module _ (before : CCounts) where
  -- what is said of the records that are laid out is said of the types that hold only these
  module _ (layouts : CLayouts) (early late : ℕ → Bool) (same : (number : ℕ) (row : CRow) → row_at layouts number ≡ Some row → late (before.records + number) ≡ early number) where
    const_same : (type : CTy) (laid : Laid) → whole_extent layouts type ≡ Some laid → const_in late (type_there before type) ≡ const_in early type
    const_same (ty void is_const) laid is = refl
    const_same (ty (basic which) is_const) laid is = refl
    const_same (ty (enum_type number) is_const) laid is = refl
    const_same (ty (pointer to) is_const) laid is = refl
    const_same (ty (array element length) is_const) laid is =
        let inner = array_inner length (whole_extent layouts element) laid is in
        ap (λ held. is_const || held) (const_same element inner.0 inner.1)
    const_same (ty (record_type number) is_const) laid is =
        let inner = map_inner (λ row. row.laid) (row_at layouts number) laid is in
        ap (λ held. is_const || held) (same number inner.0 inner.1)
    const_same (ty (function result params variadic) is_const) laid is = refl

    members_same : (members : List CMember) (pieces : List Piece) → pieces_of layouts members ≡ Some pieces
        → list_any (λ one. const_in late one.type) (map (member_there before) members) ≡ list_any (λ one. const_in early one.type) members
    members_same [] pieces is = refl
    members_same (first ∷ others) pieces is =
        let front = front_inner (piece_of layouts first) (pieces_of layouts others) pieces is in
        let inner = map_inner _ (whole_extent layouts first.type) front.one front.one_is in
        ap (λ held. held || list_any (λ one. const_in late one.type) (map (member_there before) others)) (const_same first.type inner.0 inner.1)
        ∙ ap (λ held. const_in early first.type || held) (members_same others front.rest front.rest_is)

  module _ (one whole : CTypes) (inside : IsInside before one whole) where
    const_row : (n number : ℕ) (row : CRow) → row_at (passes n one) number ≡ Some row → (early late : ℕ) → n ≤ early → n ≤ late
        → has_const whole late (before.records + number) ≡ has_const one early number
    const_row zero number row is early late few more = absurd (let h : None ≡ Some row = sym (passes_none one number) ∙ is in cc)
    const_row (suc n) number row is zero late few more = absurd (let h : suc n ≤ 0 = few in omega arith)
    const_row (suc n) number row is (suc early) zero few more = absurd (let h : suc n ≤ 0 = more in omega arith)
    const_row (suc n) number row is (suc early) (suc late) few more =
        let found = then_inner (row_of (passes n one)) (record_at one number) row (sym (row_at-pass one (passes n one) number) ∙ is) in
        let laid = then_inner (row_of_pieces found.0.is_union) (pieces_of (passes n one) found.0.members) row found.2 in
        let few_then : n ≤ early = omega arith in
        let more_then : n ≤ late = omega arith in
        ap (any_const (has_const whole late)) (record_given before one whole inside number found.0 found.1)
        ∙ members_same (passes n one) (has_const one early) (has_const whole late)
        (λ other other_row there. const_row n other other_row there early late few_then more_then) found.0.members laid.0 laid.1
        ∙ sym (ap (any_const (has_const one early)) found.1)

    same_count : (n : ℕ) → n ≤ n
    same_count n = omega arith

    pub const_there : (type : CTy) → IsSome (extent (layouts_of one) type) → holds_const whole (type_there before type) ≡ holds_const one type
    unfolding holds_const
    const_there type complete = const_known (whole_extent (layouts_of one) type) refl complete
      where
        const_known : (found : Option Laid) → found ≡ whole_extent (layouts_of one) type → IsSome (option_and_then within_most found)
            → const_in (has_const whole (completed_count whole.records)) (type_there before type) ≡ const_in (has_const one (completed_count one.records)) type
        const_known None is there = absurd cc
        const_known (Some laid) is there =
            const_same (passes (completed_count one.records) one) (has_const one (completed_count one.records)) (has_const whole (completed_count whole.records))
            (λ number row held. const_row (completed_count one.records) number row held (completed_count one.records) (completed_count whole.records)
            (same_count (completed_count one.records)) (fewer_completed before one whole inside))
            type laid (sym (is ∙ ap (λ all. whole_extent all type) (layouts_are one)))

    pub modifiable_there : (type : CTy) → IsModifiable one type → IsModifiable whole (type_there before type)
    modifiable_there type held = record {
      no_array = of_result_there before type held.no_array;
      complete = complete_there before one whole inside type held.complete;
      plain = const_there type held.complete ∙ held.plain;
    }
