-- Ranges have no bit in common with none.
use Rattle.std.proofs.Common.{◌≡◌, refl, sym, length, List, [], ◌∷◌, false}
use Rattle.cx_mean.specs.Marks.{Range, any_overlap}

apart_from_none : (ones : List Range) → any_overlap ones [] ≡ false
apart_from_none [] = refl
apart_from_none (first ∷ others) = apart_from_none others

pub apart_where_none : (ones others : List Range) → length others ≡ 0 → false ≡ any_overlap ones others
apart_where_none ones [] is = sym (apart_from_none ones)
apart_where_none ones (first ∷ rest) is = absurd cc
