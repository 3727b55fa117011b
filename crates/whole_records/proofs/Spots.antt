-- The spots of a row, one behind the other.
use Rattle.std.proofs.Common.{◌≡◌, ℕ, suc, ◌+◌, ◌≤◌, List, [], ◌∷◌, ◌++◌, get_or, length, slice_get, take, Option, Some, sym, ap, ◌∙◌, arith}
use Rattle.std.specs.Option.{option_and_then}
use Rattle.std.proofs.Math.Seq.{take-suc}
use Rattle.std.proofs.lemmas.Option.{get_or_from_slice_get, slice_get_within}
use Rattle.cr_base.specs.declared.layout.Spot.{Spot}
use Rattle.cx_core.specs.Layouts.{CRow}

-- the first spots of a row
pub record AreFirst (row : CRow) (index : ℕ) (spots : List Spot) : Type 0 where
  pub within : index ≤ length row.spots
  pub are : spots ≡ take index row.spots

-- a spot that is told of a row is that of the row
of_row : (row : CRow) (found : Option CRow) (index : ℕ) (told : Option Spot) → found ≡ Some row → told ≡ option_and_then (λ (one : CRow). slice_get one.spots index) found → slice_get row.spots index ≡ told
of_row row found index told is tells = ap (λ (one : Option CRow). option_and_then (λ (r : CRow). slice_get r.spots index) one) (sym is) ∙ sym tells

-- one more
pub one_more : (row : CRow) (found : Option CRow) (index : ℕ) (spot : Spot) (told : Option Spot) (spots new : List Spot) → found ≡ Some row → told ≡ option_and_then (λ (one : CRow). slice_get one.spots index) found
    → told ≡ Some spot → AreFirst row index spots → new ≡ spots ++ spot ∷ [] → AreFirst row (index + 1) new
one_more row found index spot told spots new is tells told_is are new_is =
    let here : slice_get row.spots index ≡ Some spot = of_row row found index told is tells ∙ told_is in
    let low = slice_get_within row.spots index spot here in
    let next : take (suc index) row.spots ≡ take index row.spots ++ get_or row.spots index spot ∷ [] = take-suc row.spots index spot low in
    let one : get_or row.spots index spot ≡ spot = get_or_from_slice_get row.spots index spot spot here in
    let count : suc index ≡ index + 1 = omega arith in
    record {
      within = omega (arith, low);
      are = new_is ∙ ap (λ (front : List Spot). front ++ spot ∷ []) are.are ∙ ap (λ (last : Spot). take index row.spots ++ last ∷ []) (sym one) ∙ sym next ∙ ap (λ (n : ℕ). take n row.spots) count;
    }
