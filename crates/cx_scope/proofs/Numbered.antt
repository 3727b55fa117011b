-- Objects in the order of their numbers.
use Rattle.std.proofs.Common.{rules, arith, ◌≡◌, ◌≢◌, refl, sym, ap, ◌∙◌, subst, ℕ, zero, suc, ◌<◌, ◌≤◌, ◌==◌, Bool, true, false, if◌then◌else◌, List, [], ◌∷◌, ◌++◌, length, get_or, map, Option, None, Some, slice_get, slice_set}
use Rattle.std.specs.Prelude.{nat_lt}
use Rattle.std.specs.List.Sorted.{IsPartitionedBy, IsPartitionPoint}
use Rattle.std.proofs.lemmas.Bool.{ne_eqb}
use Rattle.std.proofs.lemmas.Bool.Decides.{nat_tests}
use Rattle.cx_core.specs.Trees.{CObject}
use Rattle.cx_core.specs.Views.{view_object}
use Rattle.cx_core.specs.declared.program.CoreObject.{CoreObject}
use Rattle.cx_scope.specs.Objects.{AreAbove, NoneHas, HasAt}
use Rattle.cx_scope.specs.Places.{changed_at}

-- ---- an object more

pub one_more : (xs : List CoreObject) (least : ℕ) (last one : CoreObject) → AreAbove least (xs ++ last ∷ []) → last.object < one.object
    → AreAbove least ((xs ++ last ∷ []) ++ one ∷ [])
one_more [] least last one above less = (above.0, (less, tt))
one_more (x ∷ xs) least last one above less = (above.0, one_more xs (suc x.object) last one above.1 less)

-- ---- rising numbers

above_get : (xs : List CoreObject) (least i : ℕ) (was : CoreObject) → AreAbove least xs → slice_get xs i ≡ Some was → least ≤ was.object
above_get [] least i was above is = cc
above_get (x ∷ xs) least zero was above is = let same : x ≡ was = cc in subst (λ (o : CoreObject). least ≤ o.object) same above.0
above_get (x ∷ xs) least (suc i) was above is =
    let h = above_get xs (suc x.object) i was above.1 is in
    let l = above.0 in
    omega (arith, h, l)

least_of : (xs : List CoreObject) (least i : ℕ) (d : CoreObject) → AreAbove least xs → i < length xs → least ≤ (get_or xs i d).object
least_of [] least i d above within = absurd (omega (arith, within))
least_of (x ∷ xs) least zero d above within = above.0
least_of (x ∷ xs) least (suc i) d above within =
    let h = least_of xs (suc x.object) i d above.1 (omega (arith, within)) in
    let l = above.0 in
    omega (arith, h, l)

rising : (xs : List CoreObject) (least i j : ℕ) (d : CoreObject) → AreAbove least xs → i < j → j < length xs → (get_or xs i d).object < (get_or xs j d).object
rising [] least i j d above less within = absurd (omega (arith, within))
rising (x ∷ xs) least i zero d above less within = absurd (omega (arith, less))
rising (x ∷ xs) least zero (suc j) d above less within = least_of xs (suc x.object) j d above.1 (omega (arith, within))
rising (x ∷ xs) least (suc i) (suc j) d above less within = rising xs (suc x.object) i j d above.1 (omega (arith, less)) (omega (arith, within))

-- ---- the one with a number

abbrev pub is_below : ℕ → CoreObject → Bool
is_below number one = nat_lt one.object number

pub partitioned : (xs : List CoreObject) (number : ℕ) → AreAbove 0 xs → IsPartitionedBy (is_below number) xs
partitioned xs number above i j d p q below =
    let rise : i < j → (get_or xs i d).object < (get_or xs j d).object = λ less. rising xs 0 i j d above less q in
    let same : i ≡ j → (get_or xs i d).object ≡ (get_or xs j d).object = λ e. ap (λ k. (get_or xs k d).object) e in
    grind (arith, nat_tests)

got : (xs : List CoreObject) (i : ℕ) (d one : CoreObject) → slice_get xs i ≡ Some one → (i < length xs) × (get_or xs i d ≡ one)
got [] i d one is = cc
got (x ∷ xs) zero d one is = (omega arith, let same : x ≡ one = cc in same)
got (x ∷ xs) (suc i) d one is = let h = got xs i d one is in (let l = h.0 in omega (arith, l), h.1)

pub none_below : (xs : List CoreObject) (number index : ℕ) → IsPartitionPoint (λ y. is_below number y ≡ true) (λ y. is_below number y ≡ false) xs index → length xs ≤ index → NoneHas number xs
none_below xs number index point past k one is same =
    let at = got xs k one one is in
    let within = at.0 in
    let below : is_below number (get_or xs k one) ≡ true = point.0 k one (omega (arith, within, past)) (omega (arith, within, past)) in
    let there : (get_or xs k one).object ≡ number = ap (λ (o : CoreObject). o.object) at.1 ∙ same in
    grind (arith, nat_tests)

pub none_at : (xs : List CoreObject) (number index : ℕ) (e : CoreObject) → AreAbove 0 xs → IsPartitionPoint (λ y. is_below number y ≡ true) (λ y. is_below number y ≡ false) xs index → index < length xs
    → (get_or xs index e).object ≢ number → NoneHas number xs
none_at xs number index e above point within other k one is same =
    let at = got xs k e one is in
    let inside = at.0 in
    let there : (get_or xs k e).object ≡ number = ap (λ (o : CoreObject). o.object) at.1 ∙ same in
    let below : k < index → is_below number (get_or xs k e) ≡ true = λ h. point.0 k e (omega arith) h in
    let first : is_below number (get_or xs index e) ≡ false = point.1 index e (omega arith) within in
    let rise : index < k → (get_or xs index e).object < (get_or xs k e).object = λ h. rising xs 0 index k e above h inside in
    let here : index ≡ k → (get_or xs index e).object ≡ number = λ h. ap (λ i. (get_or xs i e).object) h ∙ there in
    grind (arith, nat_tests)

-- ---- what changes

module _ (change : CObject → CObject) (number : ℕ) where
  abbrev changed : List CoreObject → List CObject
  changed xs = map (λ one. if one.object == number then change one else one) (map view_object xs)

  stays_head : (b : Bool) (x y : CObject) (xs ys : List CObject) → b ≡ false → xs ≡ ys → (if b then y else x) ∷ xs ≡ x ∷ ys
  stays_head true x y xs ys other e = absurd cc
  stays_head false x y xs ys other e = ap (λ others. x ∷ others) e

  changes_head : (b : Bool) (x y : CObject) (xs ys : List CObject) → b ≡ true → xs ≡ ys → (if b then y else x) ∷ xs ≡ y ∷ ys
  changes_head true x y xs ys is e = ap (λ others. y ∷ others) e
  changes_head false x y xs ys is e = absurd cc

  pub none_changes : (xs : List CoreObject) → NoneHas number xs → changed xs ≡ map view_object xs
  none_changes [] none = refl
  none_changes (x ∷ xs) none =
      stays_head (x.object == number) (view_object x) (change (view_object x)) (changed xs) (map view_object xs)
      (ne_eqb x.object number (none 0 x refl)) (none_changes xs (λ i one is. none (suc i) one is))

  above_none : (xs : List CoreObject) → AreAbove (suc number) xs → NoneHas number xs
  above_none xs above i one is same =
      let h = above_get xs (suc number) i one above is in
      let e = same in
      omega (arith, h, e)

  equal_is : (n : ℕ) → n ≡ number → (n == number) ≡ true
  equal_is n e = grind (arith, nat_tests)

  pub one_changes : (xs : List CoreObject) (least i : ℕ) (was : CoreObject) → AreAbove least xs → slice_get xs i ≡ Some was → was.object ≡ number
      → changed_at i change (map view_object xs) ≡ changed xs
  one_changes [] least i was above is n = refl
  one_changes (x ∷ xs) least zero was above is n =
      let same : x ≡ was = cc in
      let here : x.object ≡ number = ap (λ (o : CoreObject). o.object) same ∙ n in
      sym (changes_head (x.object == number) (view_object x) (change (view_object x)) (changed xs) (map view_object xs) (equal_is x.object here)
      (none_changes xs (above_none xs (subst (λ m. AreAbove (suc m) xs) here above.1))))
  one_changes (x ∷ xs) least (suc i) was above is n =
      let h = above_get xs (suc x.object) i was above.1 is in
      let e = n in
      let apart : x.object ≢ number = λ same. omega (arith, h, e, same) in
      sym (stays_head (x.object == number) (view_object x) (change (view_object x)) (changed xs) (changed_at i change (map view_object xs)) (ne_eqb x.object number apart)
      (sym (one_changes xs (suc x.object) i was above.1 is n)))

  pub found_changes : (xs : List CoreObject) (index : ℕ) → AreAbove 0 xs → HasAt number xs index → changed_at index change (map view_object xs) ≡ changed xs
  found_changes xs index above at = one_changes xs 0 index at.one above at.is at.number_is

pub stays_above : (xs : List CoreObject) (least i : ℕ) (was new : CoreObject) → slice_get xs i ≡ Some was → new.object ≡ was.object → AreAbove least xs → AreAbove least (slice_set xs i new)
stays_above [] least i was new is same above = tt
stays_above (x ∷ xs) least zero was new is same above =
    let e : new.object ≡ x.object = same ∙ ap (λ (o : CoreObject). o.object) (let h : x ≡ was = cc in sym h) in
    (subst (λ m. least ≤ m) (sym e) above.0, subst (λ m. AreAbove (suc m) xs) (sym e) above.1)
stays_above (x ∷ xs) least (suc i) was new is same above = (above.0, stays_above xs (suc x.object) i was new is same above.1)

pub above_last : (xs front : List CoreObject) (last one : CoreObject) (number : ℕ) → xs ≡ front ++ last ∷ [] → AreAbove 0 xs → one.object ≡ number
    → nat_lt last.object number ≡ true → AreAbove 0 (xs ++ one ∷ [])
above_last xs front last one number is above same less =
    subst (λ (all : List CoreObject). AreAbove 0 (all ++ one ∷ [])) (sym is)
    (one_more front 0 last one (subst (AreAbove 0) is above) (let e = same in grind (arith, nat_tests)))
