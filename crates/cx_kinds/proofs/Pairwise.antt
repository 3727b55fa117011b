-- Loops over two lists that go together one by one.
use Rattle.std.proofs.Common.{◌≡◌, nat_eq, ◌-◌, ◌&&◌, ℕ, suc, ◌+◌, ◌<◌, ◌≤◌, Bool, true, false, List, [], ◌∷◌, map, drop, length, get_or, refl, sym, ap, ◌∙◌, arith, add-one, drop-cons}
use Rattle.std.proofs.lemmas.Bool.Decides.{nat_tests}
use Rattle.std.proofs.lemmas.List.{length-drop}
use Rattle.std.proofs.Math.ListN.{drop_of_length-le}
use Rattle.cx_core.specs.Compatible.{lists_agree, forms_agree}
use Rattle.cx_core.specs.Trees.{CTy, ty, form_of_type, CTypes}
use Rattle.cx_core.specs.Views.{types_of}
use Rattle.cx_kinds.specs.Pairs.{pairwise}
use Rattle.cx_rules.specs.Types.{same_type, same_types}

drop_at : {X : Type 0} (xs : List X) (i : ℕ) (x : X) → i < length xs → x ≡ get_or xs i x → drop i xs ≡ x ∷ drop (i + 1) xs
drop_at xs i x within is = rw (add-one, drop-cons xs i x within) (ap (λ y. y ∷ drop (suc i) xs) (sym is))

module _ {X C : Type 0} (view : X → C) (f : C → C → Bool) (xs ys : List X) (i : ℕ) (total : Bool) where
  -- what is left from the element i on
  abbrev pub left_of : ℕ → Bool
  left_of k = pairwise f (map view (drop k xs)) (map view (drop k ys))

  at_pair : (x y : X) → i < length xs → x ≡ get_or xs i x → i < length ys → y ≡ get_or ys i y → left_of i ≡ f (view x) (view y) && left_of (i + 1)
  at_pair x y first x_is second y_is = rw (drop_at xs i x first x_is, drop_at ys i y second y_is) refl

  pub pairwise_next : (x y : X) → i < length xs → x ≡ get_or xs i x → i < length ys → y ≡ get_or ys i y → f (view x) (view y) ≡ true → left_of i ≡ total → left_of (i + 1) ≡ total
  pairwise_next x y first x_is second y_is same left =
      sym (ap (λ b. b && left_of (i + 1)) same) ∙ sym (at_pair x y first x_is second y_is) ∙ left

  pub pairwise_fails : (x y : X) → i < length xs → x ≡ get_or xs i x → i < length ys → y ≡ get_or ys i y → f (view x) (view y) ≡ false → left_of i ≡ total → false ≡ total
  pairwise_fails x y first x_is second y_is same left =
      sym (ap (λ b. b && left_of (i + 1)) same) ∙ sym (at_pair x y first x_is second y_is) ∙ left

  short_at : (x : X) → i < length xs → x ≡ get_or xs i x → drop i ys ≡ [] → left_of i ≡ false
  short_at x first x_is nothing = rw (drop_at xs i x first x_is, nothing) refl

  pub pairwise_short : (x : X) → i < length xs → x ≡ get_or xs i x → length ys ≤ i → left_of i ≡ total → false ≡ total
  pairwise_short x first x_is second left = sym (short_at x first x_is (drop_of_length-le ys second)) ∙ left

  ends_with : (rest : List X) → drop i ys ≡ rest → length xs ≤ i → i ≤ length xs → i ≤ length ys → left_of i ≡ nat_eq (length xs) (length ys)
  ends_with [] same first_end within second_within =
      let e : length ys - i ≡ 0 = sym (length-drop i ys) ∙ ap length same in
      let b : nat_eq (length xs) (length ys) ≡ true = grind (arith, nat_tests) in
      rw (drop_of_length-le xs first_end, same, b) refl
  ends_with (y ∷ rest) same first_end within second_within =
      let e : length ys - i ≡ suc (length rest) = sym (length-drop i ys) ∙ ap length same in
      let b : nat_eq (length xs) (length ys) ≡ false = grind (arith, nat_tests) in
      rw (drop_of_length-le xs first_end, same, b) refl

  pub pairwise_ends : length xs ≤ i → i ≤ length xs → i ≤ length ys → left_of i ≡ total → nat_eq (length xs) (length ys) ≡ total
  pairwise_ends first_end within second_within left = sym (ends_with (drop i ys) refl first_end within second_within) ∙ left

pub same_pairwise : (firsts seconds : List CTy) → same_types (types_of firsts) (types_of seconds) ≡ pairwise same_type firsts seconds
same_pairwise [] [] = refl
same_pairwise [] (second ∷ seconds) = refl
same_pairwise (first ∷ firsts) [] = refl
same_pairwise (first ∷ firsts) (second ∷ seconds) = ap (λ b. same_type first second && b) (same_pairwise firsts seconds)

-- the unqualified versions of two types are compatible
abbrev pub unqualified_agree : CTypes → (ℕ → ℕ → Bool) → CTy → CTy → Bool
unqualified_agree types counts first second = forms_agree types counts (form_of_type first) (form_of_type second)

pub agree_pairwise : (types : CTypes) (counts : ℕ → ℕ → Bool) (firsts seconds : List CTy) →
    lists_agree types counts (types_of firsts) (types_of seconds) ≡ pairwise (unqualified_agree types counts) firsts seconds
agree_pairwise types counts [] [] = refl
agree_pairwise types counts [] (ty second second_const ∷ seconds) = refl
agree_pairwise types counts (ty first first_const ∷ firsts) [] = refl
agree_pairwise types counts (ty first first_const ∷ firsts) (ty second second_const ∷ seconds) =
    ap (λ b. forms_agree types counts first second && b) (agree_pairwise types counts firsts seconds)
