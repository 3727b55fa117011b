-- Loops that join two lists of types.
use Rattle.std.proofs.Common.{◌≡◌, ℕ, suc, ◌+◌, ◌<◌, ◌≤◌, List, [], ◌∷◌, ◌++◌, map, drop, length, get_or, refl, sym, ap, ◌∙◌, arith, add-one, drop-cons, append_assoc}
use Rattle.std.proofs.lemmas.List.{append-nil, map-append}
use Rattle.std.proofs.Math.ListN.{drop_of_length-le}
use Rattle.cx_core.specs.Trees.{CTy, more_types}
use Rattle.cx_core.specs.Views.{types_of}
use Rattle.cx_rules.specs.Types.{composite, composite_types}
use Rattle.cx_types.specs.Joined.{joined}

pub joined_types : (firsts seconds : List CTy) → types_of (joined firsts seconds) ≡ composite_types (types_of firsts) (types_of seconds)
joined_types [] [] = refl
joined_types [] (second ∷ seconds) = refl
joined_types (first ∷ firsts) [] = refl
joined_types (first ∷ firsts) (second ∷ seconds) = ap (λ others. more_types (composite first second) others) (joined_types firsts seconds)

joined_alone : (firsts : List CTy) → joined firsts [] ≡ firsts
joined_alone [] = refl
joined_alone (first ∷ firsts) = refl

drop_at : {X : Type 0} (xs : List X) (i : ℕ) (x : X) → i < length xs → x ≡ get_or xs i x → drop i xs ≡ x ∷ drop (i + 1) xs
drop_at xs i x within is = rw (add-one, drop-cons xs i x within) (ap (λ y. y ∷ drop (suc i) xs) (sym is))

module _ {X : Type 0} (view : X → CTy) (firsts seconds : List X) where
  -- the composite types of what is left from an index on
  abbrev pub left_from : ℕ → List CTy
  left_from k = joined (map view (drop k firsts)) (map view (drop k seconds))

  at_both : (i : ℕ) (x y : X) → i < length firsts → x ≡ get_or firsts i x → i < length seconds → y ≡ get_or seconds i y → left_from i ≡ composite (view x) (view y) ∷ left_from (i + 1)
  at_both i x y first x_is second y_is = rw (drop_at firsts i x first x_is, drop_at seconds i y second y_is) refl

  at_first : (i : ℕ) (x : X) → i < length firsts → x ≡ get_or firsts i x → length seconds ≤ i → left_from i ≡ view x ∷ left_from (i + 1)
  at_first i x first x_is second =
      let e : drop (i + 1) seconds ≡ [] = drop_of_length-le seconds (omega arith) in
      rw (drop_at firsts i x first x_is, drop_of_length-le seconds second, e) (sym (ap (λ q. view x ∷ q) (joined_alone (map view (drop (i + 1) firsts)))))

  goes_on : (i : ℕ) (made : List X) (one : X) (type : CTy) (total : List CTy) → left_from i ≡ type ∷ left_from (i + 1) → view one ≡ type
      → map view made ++ left_from i ≡ total → map view (made ++ one ∷ []) ++ left_from (i + 1) ≡ total
  goes_on i made one type total next is left =
      let e : map view (made ++ one ∷ []) ++ left_from (i + 1) ≡ map view made ++ (view one ∷ left_from (i + 1)) = simp (map-append, append_assoc) in
      e ∙ (ap (λ q. map view made ++ q) (ap (λ q. q ∷ left_from (i + 1)) is ∙ sym next) ∙ left)

  pub both_next : (i : ℕ) (made : List X) (one x y : X) (total : List CTy) → i < length firsts → x ≡ get_or firsts i x → i < length seconds → y ≡ get_or seconds i y
      → view one ≡ composite (view x) (view y) → map view made ++ left_from i ≡ total → map view (made ++ one ∷ []) ++ left_from (i + 1) ≡ total
  both_next i made one x y total first x_is second y_is is left = goes_on i made one _ total (at_both i x y first x_is second y_is) is left

  pub first_next : (i : ℕ) (made : List X) (one x : X) (total : List CTy) → i < length firsts → x ≡ get_or firsts i x → length seconds ≤ i
      → view one ≡ view x → map view made ++ left_from i ≡ total → map view (made ++ one ∷ []) ++ left_from (i + 1) ≡ total
  first_next i made one x total first x_is second is left = goes_on i made one _ total (at_first i x first x_is second) is left

  pub none_left : (i : ℕ) (made : List X) (total : List CTy) → length firsts ≤ i → map view made ++ left_from i ≡ total → map view made ≡ total
  none_left i made total ends left = (let e : map view made ≡ map view made ++ left_from i = rw (drop_of_length-le firsts ends) (sym (append-nil (map view made))) in e) ∙ left
