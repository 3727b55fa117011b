-- The walk over what is reached, one step of it, and that no more is looked at than is left.
use Rattle.std.proofs.Common.{◌≡◌, ◌∙◌, ℕ, zero, suc, ◌+◌, ◌<◌, ◌≤◌, Bool, true, false, if◌then◌else◌, List, [], ◌∷◌, ◌++◌, length, slice_get, slice_set, Result, Ok, Err, OnOk, refl, sym, ap, arith}
use Rattle.std.proofs.lemmas.List.{length-append}
use Rattle.build_flow_reached.specs.Walks.{is_new, seen_from, unseen_from, left_of, all_seen}

module _ (arms : ℕ → List ℕ) where
  -- a place that is seen now leaves its arms no more to be seen
  less_unseen : (number place : ℕ) (seen : List Bool) → is_new (slice_get seen place) ≡ true →
      unseen_from arms number (slice_set seen place true) + length (arms (number + place)) ≡ unseen_from arms number seen
  less_unseen number place [] new = absurd cc
  less_unseen number zero (false ∷ seen) new = omega (arith, ap (λ (n : ℕ). length (arms n)) (plus_zero number))
    where
      plus_zero : (n : ℕ) → n + 0 ≡ n
      plus_zero n = omega arith
  less_unseen number zero (true ∷ seen) new = absurd cc
  less_unseen number (suc place) (one ∷ seen) new =
      let more = less_unseen (suc number) place seen new in
      let moved : length (arms (number + suc place)) ≡ length (arms (suc number + place)) = ap (λ (n : ℕ). length (arms n)) (turned number place) in
      omega (arith, more, moved)
    where
      turned : (n p : ℕ) → n + suc p ≡ suc n + p
      turned n p = omega arith

  pub left_new : (place : ℕ) (ahead : List ℕ) (seen : List Bool) → is_new (slice_get seen place) ≡ true →
      left_of arms (place ∷ ahead) seen ≡ suc (left_of arms (arms place ++ ahead) (slice_set seen place true))
  left_new place ahead seen new =
      let less = less_unseen 0 place seen new in
      let here : length (arms (0 + place)) ≡ length (arms place) = ap (λ (n : ℕ). length (arms n)) (none_more place) in
      omega (arith, less, here, length-append (arms place) ahead)
    where
      none_more : (n : ℕ) → 0 + n ≡ n
      none_more n = omega arith

  pub left_old : (place : ℕ) (ahead : List ℕ) (seen : List Bool) → left_of arms (place ∷ ahead) seen ≡ suc (left_of arms ahead seen)
  left_old place ahead seen = omega arith

  pub seen_new : (place : ℕ) (ahead : List ℕ) (seen : List Bool) → is_new (slice_get seen place) ≡ true →
      all_seen arms (arms place ++ ahead) (slice_set seen place true) ≡ all_seen arms (place ∷ ahead) seen
  seen_new place ahead seen new =
      sym (ap (λ (left : ℕ). seen_from arms left (place ∷ ahead) seen) (left_new place ahead seen new)
      ∙ ap (λ (is : Bool). if is then seen_from arms (left_of arms (arms place ++ ahead) (slice_set seen place true)) (arms place ++ ahead) (slice_set seen place true)
      else seen_from arms (left_of arms (arms place ++ ahead) (slice_set seen place true)) ahead seen) new)

  pub seen_old : (place : ℕ) (ahead : List ℕ) (seen : List Bool) → is_new (slice_get seen place) ≡ false → all_seen arms ahead seen ≡ all_seen arms (place ∷ ahead) seen
  seen_old place ahead seen old =
      sym (ap (λ (left : ℕ). seen_from arms left (place ∷ ahead) seen) (left_old place ahead seen)
      ∙ ap (λ (is : Bool). if is then seen_from arms (left_of arms ahead seen) (arms place ++ ahead) (slice_set seen place true) else seen_from arms (left_of arms ahead seen) ahead seen) old)

  none_ahead : (n : ℕ) (seen : List Bool) → seen ≡ seen_from arms n [] seen
  none_ahead zero seen = refl
  none_ahead (suc n) seen = refl

  enough_at : (left place : ℕ) (ahead : List ℕ) (seen : List Bool) → left_of arms (place ∷ ahead) seen ≤ suc left → (is : Bool) → is_new (slice_get seen place) ≡ is →
      (left_of arms (arms place ++ ahead) (slice_set seen place true) ≤ left →
      seen_from arms left (arms place ++ ahead) (slice_set seen place true) ≡ all_seen arms (arms place ++ ahead) (slice_set seen place true)) →
      (left_of arms ahead seen ≤ left → seen_from arms left ahead seen ≡ all_seen arms ahead seen) →
      seen_from arms (suc left) (place ∷ ahead) seen ≡ all_seen arms (place ∷ ahead) seen
  enough_at left place ahead seen fits true new after before =
      ap (λ (is : Bool). if is then seen_from arms left (arms place ++ ahead) (slice_set seen place true) else seen_from arms left ahead seen) new
      ∙ after (let less = left_new place ahead seen new in omega (arith, less, fits))
      ∙ seen_new place ahead seen new
  enough_at left place ahead seen fits false old after before =
      ap (λ (is : Bool). if is then seen_from arms left (arms place ++ ahead) (slice_set seen place true) else seen_from arms left ahead seen) old
      ∙ before (omega (arith, fits))
      ∙ seen_old place ahead seen old

  -- what is left is enough, and more of it does no more
  pub enough : (left : ℕ) (ahead : List ℕ) (seen : List Bool) → left_of arms ahead seen ≤ left → seen_from arms left ahead seen ≡ all_seen arms ahead seen
  enough zero [] seen fits = none_ahead (left_of arms [] seen) seen
  enough (suc left) [] seen fits = none_ahead (left_of arms [] seen) seen
  enough zero (place ∷ ahead) seen fits = absurd (omega (arith, fits))
  enough (suc left) (place ∷ ahead) seen fits =
      enough_at left place ahead seen fits (is_new (slice_get seen place)) refl (λ less. enough left (arms place ++ ahead) (slice_set seen place true) less) (λ less. enough left ahead seen less)

module _ (arms : ℕ → List ℕ) (place : ℕ) (ahead more row : List ℕ) (seen now : List Bool) {E : Type 0} (result : Result (Unit {0}) E) where
  -- a new place was put among those that were seen, and its arms ahead
  pub seen_put : is_new (slice_get seen place) ≡ true → now ≡ slice_set seen place true → row ≡ arms place → OnOk result (more ≡ row ++ ahead) →
      OnOk result (all_seen arms more now ≡ all_seen arms (place ∷ ahead) seen)
  seen_put new set is put = by result put
    where
      by : (result : Result (Unit {0}) E) → OnOk result (more ≡ row ++ ahead) → OnOk result (all_seen arms more now ≡ all_seen arms (place ∷ ahead) seen)
      by (Ok done) longer = ap (λ (list : List ℕ). all_seen arms list now) (longer ∙ ap (λ (list : List ℕ). list ++ ahead) is) ∙ ap (all_seen arms (arms place ++ ahead)) set ∙ seen_new arms place ahead seen new
      by (Err why) longer = tt

  pub left_put : is_new (slice_get seen place) ≡ true → now ≡ slice_set seen place true → row ≡ arms place → OnOk result (more ≡ row ++ ahead) →
      OnOk result (left_of arms (place ∷ ahead) seen ≡ suc (left_of arms more now))
  left_put new set is put = by result put
    where
      by : (result : Result (Unit {0}) E) → OnOk result (more ≡ row ++ ahead) → OnOk result (left_of arms (place ∷ ahead) seen ≡ suc (left_of arms more now))
      by (Ok done) longer =
          left_new arms place ahead seen new
          ∙ sym (ap (λ (list : List ℕ). suc (left_of arms list now)) (longer ∙ ap (λ (list : List ℕ). list ++ ahead) is) ∙ ap (λ (list : List Bool). suc (left_of arms (arms place ++ ahead) list)) set)
      by (Err why) longer = tt

-- a new place is one of those that there are
pub new_within : (seen : List Bool) (place : ℕ) → is_new (slice_get seen place) ≡ true → place < length seen
new_within [] place new = absurd cc
new_within (one ∷ seen) zero new = omega arith
new_within (one ∷ seen) (suc place) new = let less = new_within seen place new in omega (arith, less)
