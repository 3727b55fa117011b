-- Lists that are kept with the oldest first, and seen with the newest first.
use Rattle.std.proofs.Common.{arith, ◌≡◌, refl, sym, ap, ◌∙◌, ℕ, ◌-◌, List, [], ◌∷◌, ◌++◌, length, take, drop, map, reverse}
use Rattle.std.proofs.lemmas.List.{take-append-drop, map-append, reverse-append, length-reverse, length-drop, length-map, drop_at, take_at, take-map, drop-map}

reversed_cut : {A : Type 0} (n : ℕ) (xs : List A) → reverse xs ≡ reverse (drop n xs) ++ reverse (take n xs)
reversed_cut n xs = ap reverse (sym (take-append-drop n xs)) ∙ reverse-append (take n xs) (drop n xs)

newest_count : {A : Type 0} (m n : ℕ) (xs : List A) → m ≡ length xs - n → length (reverse (drop n xs)) ≡ m
newest_count m n xs e = length-reverse (drop n xs) ∙ length-drop n xs ∙ sym e

-- without the newest
drop_newest : {A : Type 0} (m n : ℕ) (xs : List A) → m ≡ length xs - n → drop m (reverse xs) ≡ reverse (take n xs)
drop_newest m n xs e = ap (drop m) (reversed_cut n xs) ∙ drop_at (reverse (drop n xs)) (reverse (take n xs)) m (newest_count m n xs e)

-- the newest alone
take_newest : {A : Type 0} (m n : ℕ) (xs : List A) → m ≡ length xs - n → take m (reverse xs) ≡ reverse (drop n xs)
take_newest m n xs e = ap (take m) (reversed_cut n xs) ∙ take_at (reverse (drop n xs)) (reverse (take n xs)) m (newest_count m n xs e)

pub down_to_oldest : {A B : Type 0} (f : A → B) (n : ℕ) (xs : List A)
    → drop (length (reverse (map f xs)) - n) (reverse (map f xs)) ≡ reverse (map f (take n xs))
down_to_oldest f n xs = drop_newest _ n (map f xs) (ap (λ m. m - n) (length-reverse (map f xs))) ∙ ap reverse (take-map f n xs)

pub behind_oldest : {A B : Type 0} (f : A → B) (n : ℕ) (xs : List A)
    → take (length (reverse (map f xs)) - n) (reverse (map f xs)) ≡ reverse (map f (drop n xs))
behind_oldest f n xs = take_newest _ n (map f xs) (ap (λ m. m - n) (length-reverse (map f xs))) ∙ ap reverse (drop-map f n xs)

but_one : {A : Type 0} (xs : List A) → drop 1 (reverse xs) ≡ reverse (take (length xs - 1) xs)
but_one [] = refl
but_one (x ∷ xs) = drop_newest 1 (length (x ∷ xs) - 1) (x ∷ xs) (omega arith)

-- the newest one is gone
pub drop_one : {A B : Type 0} (f : A → B) (xs : List A) → drop 1 (reverse (map f xs)) ≡ reverse (map f (take (length xs - 1) xs))
drop_one f xs =
    but_one (map f xs) ∙ ap (λ n. reverse (take (n - 1) (map f xs))) (length-map xs f) ∙ ap reverse (take-map f (length xs - 1) xs)

-- what stands for a list backwards
pub reversed_map : {A B : Type 0} (f : A → B) (xs : List A) → map f (reverse xs) ≡ reverse (map f xs)
reversed_map f [] = refl
reversed_map f (x ∷ xs) =
    ap (map f) (reverse-append (x ∷ []) xs)
    ∙ map-append f (reverse xs) (x ∷ [])
    ∙ ap (λ ys. ys ++ f x ∷ []) (reversed_map f xs)
    ∙ sym (reverse-append (f x ∷ []) (map f xs))
