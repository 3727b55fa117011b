-- What is among the elements of a list, and what a search finds where no other is like it.
use Rattle.std.proofs.Common.{arith, ◌≡◌, ℕ, zero, suc, Bool, true, false, if◌then◌else◌, List, [], ◌∷◌, ◌++◌, map, filter, Some, slice_get, find, refl, sym, ap, subst, ◌∙◌, ◌⊎◌, inl, inr}
use Rattle.std.proofs.lemmas.Slice.Eq.{bytes_eq-Decides}
use Rattle.std.specs.List.{Contains, flat_map}
use Rattle.std.specs.Str.{bytes_eq}

abbrev pub Among : {A : Type 0} → List A → A → Type 0
Among [] x = ⊥
Among (y ∷ ys) x = (y ≡ x) ⊎ Among ys x

pub among_left : {A : Type 0} (xs ys : List A) (x : A) → Among xs x → Among (xs ++ ys) x
among_left [] ys x there = absurd there
among_left (y ∷ xs) ys x (inl same) = inl same
among_left (y ∷ xs) ys x (inr there) = inr (among_left xs ys x there)

pub among_right : {A : Type 0} (xs ys : List A) (x : A) → Among ys x → Among (xs ++ ys) x
among_right [] ys x there = there
among_right (y ∷ xs) ys x there = inr (among_right xs ys x there)

pub among_cases : {A : Type 0} (xs ys : List A) (x : A) → Among (xs ++ ys) x → Among xs x ⊎ Among ys x
among_cases [] ys x there = inr there
among_cases (y ∷ xs) ys x (inl same) = inl (inl same)
among_cases (y ∷ xs) ys x (inr there) = first_more (among_cases xs ys x there)
  where
    first_more : Among xs x ⊎ Among ys x → Among (y ∷ xs) x ⊎ Among ys x
    first_more (inl one) = inl (inr one)
    first_more (inr other) = inr other

-- what a list of lists has
pub record IsFrom {A B : Type 0} (f : A → List B) (xs : List A) (y : B) : Type 0 where
  pub from : A
  pub there : Among xs from
  pub made : Among (f from) y

pub among_flat : {A B : Type 0} (f : A → List B) (xs : List A) (y : B) → Among (flat_map f xs) y → IsFrom f xs y
among_flat f [] y there = absurd there
among_flat {A} {B} f (x ∷ xs) y there = by_cases (among_flat f xs y) (among_cases (f x) (flat_map f xs) y there)
  where
    later : IsFrom f xs y → IsFrom f (x ∷ xs) y
    later one = record { from = one.from; there = inr one.there; made = one.made }

    by_cases : (Among (flat_map f xs) y → IsFrom f xs y) → Among (f x) y ⊎ Among (flat_map f xs) y → IsFrom f (x ∷ xs) y
    by_cases more (inl made) = record { from = x; there = inl refl; made = made }
    by_cases more (inr rest) = later (more rest)

pub among_flat_in : {A B : Type 0} (f : A → List B) (xs : List A) (x : A) (y : B) → Among xs x → Among (f x) y → Among (flat_map f xs) y
among_flat_in f [] x y there made = absurd there
among_flat_in {A} {B} f (z ∷ xs) x y (inl same) made = among_left (f z) (flat_map f xs) y (subst (λ (w : A). Among (f w) y) (sym same) made)
among_flat_in f (z ∷ xs) x y (inr there) made = among_right (f z) (flat_map f xs) y (among_flat_in f xs x y there made)

pub among_map : {A B : Type 0} (f : A → B) (xs : List A) (y : B) → Among (map f xs) y → (x : A) × Among xs x × (f x ≡ y)
among_map f [] y there = absurd there
among_map f (x ∷ xs) y (inl same) = (x, inl refl, same)
among_map f (x ∷ xs) y (inr there) = let one = among_map f xs y there in (one.0, inr one.1, one.2)

pub among_map_in : {A B : Type 0} (f : A → B) (xs : List A) (x : A) → Among xs x → Among (map f xs) (f x)
among_map_in f [] x there = absurd there
among_map_in f (y ∷ xs) x (inl same) = inl (ap f same)
among_map_in f (y ∷ xs) x (inr there) = inr (among_map_in f xs x there)

pub among_filter_in : {A : Type 0} (p : A → Bool) (xs : List A) (x : A) → Among xs x → p x ≡ true → Among (filter p xs) x
among_filter_in p [] x there is = absurd there
among_filter_in {A} p (y ∷ xs) x (inl same) is =
    subst (λ (ys : List A). Among ys x) (sym (ap (λ t. if t then y ∷ filter p xs else filter p xs) (ap p same ∙ is))) (inl same)
among_filter_in {A} p (y ∷ xs) x (inr there) is = by_test (p y) refl (among_filter_in p xs x there is)
  where
    by_test : (t : Bool) → p y ≡ t → Among (filter p xs) x → Among (filter p (y ∷ xs)) x
    by_test true e rest = subst (λ (ys : List A). Among ys x) (sym (ap (λ t. if t then y ∷ filter p xs else filter p xs) e)) (inr rest)
    by_test false e rest = subst (λ (ys : List A). Among ys x) (sym (ap (λ t. if t then y ∷ filter p xs else filter p xs) e)) rest

pub among_filter : {A : Type 0} (p : A → Bool) (xs : List A) (x : A) → Among (filter p xs) x → Among xs x × (p x ≡ true)
among_filter p [] x there = absurd there
among_filter {A} p (y ∷ xs) x there = by_test (among_filter p xs x) (p y) refl
  where
    at_first : (Among (filter p xs) x → Among xs x × (p x ≡ true)) → p y ≡ true → Among (y ∷ filter p xs) x → Among (y ∷ xs) x × (p x ≡ true)
    at_first more e (inl same) = (inl same, ap p (sym same) ∙ e)
    at_first more e (inr rest) = let one = more rest in (inr one.0, one.1)

    by_test : (Among (filter p xs) x → Among xs x × (p x ≡ true)) → (t : Bool) → p y ≡ t → Among (y ∷ xs) x × (p x ≡ true)
    by_test more true e = at_first more e (subst (λ (ys : List A). Among ys x) (ap (λ t. if t then y ∷ filter p xs else filter p xs) e) there)
    by_test more false e =
        let one = more (subst (λ (ys : List A). Among ys x) (ap (λ t. if t then y ∷ filter p xs else filter p xs) e) there) in (inr one.0, one.1)

pub among_at : {A : Type 0} (xs : List A) (i : ℕ) (x : A) → slice_get xs i ≡ Some x → Among xs x
among_at [] i x at = absurd cc
among_at (y ∷ xs) zero x at = inl (cc at)
among_at (y ∷ xs) (suc i) x at = inr (among_at xs i x at)

-- ---- searches

pub find_only : {A : Type 0} (p : A → Bool) (xs : List A) (x : A) → Among xs x → p x ≡ true → ((y : A) → Among xs y → p y ≡ true → y ≡ x) → find p xs ≡ Some x
find_only p [] x there is only = absurd there
find_only {A} p (y ∷ xs) x there is only = by_test (λ other. find_only p xs x other is (λ z there_too h. only z (inr there_too) h)) (p y) refl
  where
    rest : p y ≡ false → Among (y ∷ xs) x → Among xs x
    rest e (inl same) = absurd (let h : false ≡ true = sym e ∙ ap p same ∙ is in cc)
    rest e (inr other) = other

    by_test : (Among xs x → find p xs ≡ Some x) → (t : Bool) → p y ≡ t → find p (y ∷ xs) ≡ Some x
    by_test more true e = ap (λ t. if t then Some y else find p xs) e ∙ ap Some (only y (inl refl) e)
    by_test more false e = ap (λ t. if t then Some y else find p xs) e ∙ more (rest e there)

pub find_there : {A : Type 0} (p : A → Bool) (xs : List A) (x : A) → find p xs ≡ Some x → Among xs x × (p x ≡ true)
find_there p [] x found = absurd cc
find_there {A} p (y ∷ xs) x found = by_test (find_there p xs x) (p y) refl
  where
    by_test : (find p xs ≡ Some x → Among xs x × (p x ≡ true)) → (t : Bool) → p y ≡ t → Among (y ∷ xs) x × (p x ≡ true)
    by_test more true e = let same : Some y ≡ Some x = sym (ap (λ t. if t then Some y else find p xs) e) ∙ found in let one : y ≡ x = cc (same) in (inl one, ap p (sym one) ∙ e)
    by_test more false e = let one = more (sym (ap (λ t. if t then Some y else find p xs) e) ∙ found) in (inr one.0, one.1)

-- ---- texts

pub texts_same : (xs : List ℕ) → bytes_eq xs xs ≡ true
texts_same xs = (bytes_eq-Decides xs xs).1 refl

pub texts_equal : (xs ys : List ℕ) → bytes_eq xs ys ≡ true → xs ≡ ys
texts_equal xs ys is = (bytes_eq-Decides xs ys).0 is

-- ---- between both forms

pub contains_among : {A : Type 0} (xs : List A) (x : A) → Contains xs x → Among xs x
contains_among [] x (k, within, is) = absurd (omega (arith, within))
contains_among (y ∷ xs) x (zero, within, is) = inl is
contains_among (y ∷ xs) x (suc k, within, is) = inr (contains_among xs x (k, omega (arith, within), is))

pub among_contains : {A : Type 0} (xs : List A) (x : A) → Among xs x → Contains xs x
among_contains [] x there = absurd there
among_contains (y ∷ xs) x (inl same) = (0, omega arith, same)
among_contains (y ∷ xs) x (inr there) = let rest = among_contains xs x there in let within = rest.1 in (suc rest.0, omega (arith, within), rest.2)
