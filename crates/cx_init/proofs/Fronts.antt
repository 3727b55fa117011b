-- Values that rise leave one another, so whether one is kept depends on those alone that come behind the first one that doesn't rise.
use Rattle.std.proofs.Common.{arith, ◌≡◌, refl, ap, sym, ◌∙◌, ℕ, suc, ◌+◌, ◌<◌, Bool, true, false, not, ◌&&◌, if◌then◌else◌, List, [], ◌∷◌, ◌++◌, map, length, take, drop, Some}
use Rattle.std.proofs.lemmas.List.{append_assoc, drop-drop, drop-map, take-map}
use Rattle.cx_core.specs.Trees.{CTy, CTypes}
use Rattle.cx_init.specs.Orders.{kept_flags, rises_to, rising_front}
use Rattle.cx_init.proofs.Rising.{neither, rises_past}
use Rattle.cx_rules.specs.Initial.{CStored, comes_before, kept_by, takes_away}

module _ (types : CTypes) (type : CTy) where
  -- what a value rises to leaves it, up to the end of the front
  left_to : (one : CStored) (others : List CStored) → rises_to types type one others ≡ true
      → kept_by types type others one ≡ kept_by types type (drop (rising_front types type others) others) one
  left_to one [] is = refl
  left_to one (next ∷ others) is =
      skipped (takes_away types (Some type) next.path one.path) (kept_by types type others one)
      (neither types type (comes_before next.path one.path) (takes_away types (Some type) next.path one.path) is).1
      ∙ by (rises_to types type next others) refl (λ on. left_to one others (rises_past types type one next others is on))
    where
      skipped : (taken rest : Bool) → taken ≡ false → (not taken && rest) ≡ rest
      skipped taken rest left = rw left refl

      by : (goes_on : Bool) → rises_to types type next others ≡ goes_on
          → (rises_to types type next others ≡ true → kept_by types type others one ≡ kept_by types type (drop (rising_front types type others) others) one)
          → kept_by types type others one ≡ kept_by types type (drop (if goes_on then suc (rising_front types type others) else 1) (next ∷ others)) one
      by true on further = further on
      by false on further = refl

  -- the flags of a front, and those of the values behind it
  pub front_flags : (stored : List CStored) → kept_flags types type stored
      ≡ map (kept_by types type (drop (rising_front types type stored) stored)) (take (rising_front types type stored) stored)
      ++ kept_flags types type (drop (rising_front types type stored) stored)
  front_flags [] = refl
  front_flags (one ∷ others) = by (rises_to types type one others) refl (front_flags others) where
    by : (goes_on : Bool) → rises_to types type one others ≡ goes_on
        → kept_flags types type others ≡ map (kept_by types type (drop (rising_front types type others) others)) (take (rising_front types type others) others)
        ++ kept_flags types type (drop (rising_front types type others) others)
        → kept_flags types type (one ∷ others)
        ≡ map (kept_by types type (drop (if goes_on then suc (rising_front types type others) else 1) (one ∷ others))) (take (if goes_on then suc (rising_front types type others) else 1) (one ∷ others))
        ++ kept_flags types type (drop (if goes_on then suc (rising_front types type others) else 1) (one ∷ others))
    by true on further =
        ap (λ flag. flag ∷ kept_flags types type others) (left_to one others on)
        ∙ ap (λ flags. kept_by types type (drop (rising_front types type others) others) one ∷ flags) further
    by false on further = refl

  -- a front isn't empty where there is a value
  pub front_some : (stored : List CStored) → 0 < length stored → 0 < rising_front types type stored
  front_some [] some = absurd (omega (arith, some))
  front_some (one ∷ others) some = by (rises_to types type one others) where
    by : (goes_on : Bool) → 0 < (if goes_on then suc (rising_front types type others) else 1)
    by true = omega arith
    by false = omega arith

  -- one front more
  pub front_more : {A : Type 0} (view : A → CStored) (stored front later : List A) (start count : ℕ) (flags now all : List Bool)
      → count ≡ rising_front types type (map view (drop start stored)) → front ≡ take count (drop start stored) → later ≡ drop (start + count) stored
      → now ≡ flags ++ map (kept_by types type (map view later)) (map view front)
      → flags ++ kept_flags types type (map view (drop start stored)) ≡ all → now ++ kept_flags types type (map view (drop (start + count) stored)) ≡ all
  front_more view stored front later start count flags now all is first others added before =
      let left = map view (drop start stored) in
      let behind : map view (drop (start + count) stored) ≡ drop count left = ap (map view) (sym (drop-drop count start stored)) ∙ sym (drop-map view count (drop start stored)) in
      let ahead : map view front ≡ take count left = ap (map view) first ∙ sym (take-map view count (drop start stored)) in
      ap (λ made. made ++ kept_flags types type (map view (drop (start + count) stored))) added
      ∙ append_assoc flags (map (kept_by types type (map view later)) (map view front)) (kept_flags types type (map view (drop (start + count) stored)))
      ∙ ap (λ some. flags ++ (map (kept_by types type (map view some)) (map view front) ++ kept_flags types type (map view (drop (start + count) stored)))) others
      ∙ ap (λ rest. flags ++ (map (kept_by types type rest) (map view front) ++ kept_flags types type rest)) behind
      ∙ ap (λ some. flags ++ (map (kept_by types type (drop count left)) some ++ kept_flags types type (drop count left))) ahead
      ∙ ap (λ n. flags ++ (map (kept_by types type (drop n left)) (take n left) ++ kept_flags types type (drop n left))) is
      ∙ ap (λ made. flags ++ made) (sym (front_flags left)) ∙ before
