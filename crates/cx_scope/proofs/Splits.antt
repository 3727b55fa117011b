-- The newest that passes a test, with those before and behind.
use Rattle.std.proofs.Common.{arith, ◌≡◌, refl, sym, ap, ◌∙◌, subst, ℕ, zero, suc, ◌+◌, ◌-◌, ◌<◌, ◌≤◌, ◌||◌, Bool, true, false, if◌then◌else◌, List, [], ◌∷◌, ◌++◌, length, take, reverse, Option, None, Some, find, slice_get, slice_set}
use Rattle.std.proofs.lemmas.List.{append_assoc, length-reverse, reverse-append, reverse-reverse}
use Rattle.std.specs.List.{list_any}
use Rattle.cx_scope.specs.Names.{newest}

-- ---- the newest that passes a test, with those before and behind

pub record Splits {A : Type 0} (test : A → Bool) (n : ℕ) (xs : List A) : Type 0 where
  pub front : List A
  pub one : A
  pub back : List A
  pub is : xs ≡ front ++ one ∷ back
  pub older : length back ≡ n
  pub none : list_any test front ≡ false
  pub passes : test one ≡ true

split_head : {A : Type 0} (test : A → Bool) (n : ℕ) (x : A) (xs : List A) (b : Bool) → test x ≡ b → (if b then Some (length xs) else newest test xs) ≡ Some n
    → (newest test xs ≡ Some n → Splits test n xs) → Splits test n (x ∷ xs)
split_head test n x xs true t e rest = record { front = []; one = x; back = xs; is = refl; older = cc; none = refl; passes = t }
split_head test n x xs false t e rest =
    let s = rest e in
    record { front = x ∷ s.front; one = s.one; back = s.back; is = ap (λ others. x ∷ others) s.is; older = s.older; none = rw t s.none; passes = s.passes }

pub splits : {A : Type 0} (test : A → Bool) (n : ℕ) (xs : List A) → newest test xs ≡ Some n → Splits test n xs
splits test n [] e = absurd cc
splits test n (x ∷ xs) e = split_head test n x xs (test x) refl e (λ f. splits test n xs f)

set_middle : {A : Type 0} (front back : List A) (x y : A) → slice_set (front ++ x ∷ back) (length front) y ≡ front ++ y ∷ back
set_middle [] back x y = refl
set_middle (z ∷ front) back x y = ap (λ others. z ∷ others) (set_middle front back x y)

get_middle : {A : Type 0} (front back : List A) (x : A) → slice_get (front ++ x ∷ back) (length front) ≡ Some x
get_middle [] back x = refl
get_middle (z ∷ front) back x = get_middle front back x

pub turned : {A : Type 0} (front back : List A) (x : A) → reverse (front ++ x ∷ back) ≡ reverse back ++ x ∷ reverse front
turned front back x =
    reverse-append front (x ∷ back) ∙ ap (λ later. later ++ reverse front) (reverse-append (x ∷ []) back)
    ∙ append_assoc (reverse back) (x ∷ []) (reverse front)

-- a list that is held the other way round
module _ {A : Type 0} (test : A → Bool) (n : ℕ) (held : List A) (s : Splits test n (reverse held)) where
  pub held_is : held ≡ reverse s.back ++ s.one ∷ reverse s.front
  held_is = sym (reverse-reverse held) ∙ ap reverse s.is ∙ turned s.front s.back s.one

  place_is : n ≡ length (reverse s.back)
  place_is = sym (length-reverse s.back ∙ s.older)

  pub there : slice_get held n ≡ Some s.one
  there = ap (λ xs. slice_get xs n) held_is ∙ ap (λ k. slice_get (reverse s.back ++ s.one ∷ reverse s.front) k) place_is
      ∙ get_middle (reverse s.back) (reverse s.front) s.one

  pub set_there : (y : A) → reverse (slice_set held n y) ≡ s.front ++ y ∷ s.back
  set_there y =
      ap (λ xs. reverse (slice_set xs n y)) held_is
      ∙ ap (λ k. reverse (slice_set (reverse s.back ++ s.one ∷ reverse s.front) k y)) place_is
      ∙ ap reverse (set_middle (reverse s.back) (reverse s.front) s.one y)
      ∙ turned (reverse s.back) (reverse s.front) y
      ∙ ap (λ front. front ++ y ∷ reverse (reverse s.back)) (reverse-reverse s.front)
      ∙ ap (λ back. s.front ++ y ∷ back) (reverse-reverse s.back)

-- ---- the first that is found, of the newest alone

found_head : {A : Type 0} (b : Bool) (x : A) (other found : Option A) → b ≡ false → other ≡ found → (if b then Some x else other) ≡ found
found_head true x other found fails e = absurd cc
found_head false x other found fails e = e

left_false : (a b : Bool) → (a || b) ≡ false → a ≡ false
left_false true b e = absurd cc
left_false false b e = refl

right_false : (a b : Bool) → (a || b) ≡ false → b ≡ false
right_false true b e = absurd cc
right_false false b e = e

one_is_found : {A : Type 0} (b : Bool) (x : A) (other : Option A) → b ≡ true → (if b then Some x else other) ≡ Some x
one_is_found true x other e = refl
one_is_found false x other e = absurd cc

module _ {A : Type 0} (test : A → Bool) where
  behind_front : (front back : List A) (one : A) → list_any test front ≡ false → test one ≡ true → find test (front ++ one ∷ back) ≡ Some one
  behind_front [] back one none passes = one_is_found (test one) one (find test back) passes
  behind_front (x ∷ front) back one none passes =
      found_head (test x) x (find test (front ++ one ∷ back)) (Some one) (left_false (test x) (list_any test front) none)
      (behind_front front back one (right_false (test x) (list_any test front) none) passes)

  none_in_front : (front rest : List A) (n : ℕ) → n ≤ length front → list_any test front ≡ false → find test (take n (front ++ rest)) ≡ None
  none_in_front front rest zero within none = refl
  none_in_front [] rest (suc n) within none = absurd (omega (arith, within))
  none_in_front (x ∷ front) rest (suc n) within none =
      found_head (test x) x (find test (take n (front ++ rest))) None (left_false (test x) (list_any test front) none)
      (none_in_front front rest n (omega (arith, within)) (right_false (test x) (list_any test front) none))

  none_head : (b : Bool) (x : A) (count : ℕ) (place : Option ℕ) (other : Option A) → (if b then Some count else place) ≡ None → (place ≡ None → other ≡ None)
      → (if b then Some x else other) ≡ None
  none_head true x count place other e rest = absurd cc
  none_head false x count place other e rest = rest e

  pub found_nowhere : (ys : List A) (n : ℕ) → newest test ys ≡ None → find test (take n ys) ≡ None
  found_nowhere ys zero e = refl
  found_nowhere [] (suc n) e = refl
  found_nowhere (y ∷ older) (suc n) e = none_head (test y) y (length older) (newest test older) (find test (take n older)) e (λ f. found_nowhere older n f)

take_behind : {A : Type 0} (front back : List A) (one : A) (k : ℕ) → k ≤ length back
    → take (length (front ++ one ∷ back) - k) (front ++ one ∷ back) ≡ front ++ one ∷ take (length back - k) back
take_behind [] back one k within =
    let e : suc (length back) - k ≡ suc (length back - k) = omega (arith, within) in
    ap (λ n. take n (one ∷ back)) e
take_behind (x ∷ front) back one k within =
    let longer = behind_count front back one in
    let e : suc (length (front ++ one ∷ back)) - k ≡ suc (length (front ++ one ∷ back) - k) = omega (arith, within, longer) in
    ap (λ n. take n (x ∷ front ++ one ∷ back)) e ∙ ap (λ xs. x ∷ xs) (take_behind front back one k within) where
      behind_count : {A : Type 0} (front back : List A) (one : A) → length back ≤ length (front ++ one ∷ back)
      behind_count [] back one = omega arith
      behind_count (x ∷ front) back one = let h = behind_count front back one in omega (arith, h)

whole : {A : Type 0} (front back : List A) (one : A) → length (front ++ one ∷ back) ≡ length front + suc (length back)
whole [] back one = omega arith
whole (x ∷ front) back one = let h = whole front back one in omega (arith, h)

front_count : {A : Type 0} (front back : List A) (one : A) (k : ℕ) → length back < k → length (front ++ one ∷ back) - k ≤ length front
front_count front back one k above = let h = whole front back one in omega (arith, above, h)

same_found : {A : Type 0} (x y : A) (o : Option A) → o ≡ Some x → o ≡ Some y → x ≡ y
same_found x y o e f = cc

-- it stands behind so many of the oldest
pub found_inside : {A : Type 0} (test : A → Bool) (held ys : List A) (k n : ℕ) (one : A) → ys ≡ reverse held → newest test ys ≡ Some n → k ≤ n → slice_get held n ≡ Some one
    → find test (take (length ys - k) ys) ≡ Some one
found_inside test held ys k n one is e within get =
    let s = splits test n (reverse held) (ap (newest test) (sym is) ∙ e) in
    ap (λ xs. find test (take (length xs - k) xs)) (is ∙ s.is)
    ∙ ap (find test) (take_behind s.front s.back s.one k (subst (λ m. k ≤ m) (sym s.older) within))
    ∙ behind_front test s.front (take (length s.back - k) s.back) s.one s.none s.passes
    ∙ ap Some (same_found s.one one (slice_get held n) (there test n held s) get)

pub found_outside : {A : Type 0} (test : A → Bool) (ys : List A) (k n : ℕ) → newest test ys ≡ Some n → n < k → find test (take (length ys - k) ys) ≡ None
found_outside test ys k n e above =
    let s = splits test n ys e in
    ap (λ xs. find test (take (length xs - k) xs)) s.is
    ∙ none_in_front test s.front (s.one ∷ s.back) (length (s.front ++ s.one ∷ s.back) - k)
    (front_count s.front s.back s.one k (subst (λ m. m < k) (sym s.older) above)) s.none
