-- Literals that are made from one place of a unit to a later one: their numbers, and whether objects live as long as the program.
use Rattle.std.proofs.Common.{◌≡◌, ◌⊎◌, inl, inr, ⊎_elim, ℕ, zero, suc, ◌+◌, ◌<◌, ◌≤◌, Bool, true, false, ◌||◌, List, [], ◌∷◌, ◌++◌, length, None, Some, slice_get, refl, sym, ap, ◌∙◌, subst, arith}
use Rattle.std.specs.List.{list_any}
use Rattle.cx_core.specs.Trees.{CObject}
use Rattle.cx_rules.specs.Pieces.{made_static, object_static, is_static_object}
use Rattle.cx_rules.specs.Scope.{CMade, CScope, with_made, with_object_number}
use Rattle.cx_typed.specs.Growth.{Gives}
use Rattle.cx_typed.specs.Scopes.{rest_of, TakesNumbers}

-- what is there was there before, or is new
pub was_or_new : {X : Type 0} (xs ys : List X) → ((number : ℕ) → Gives (slice_get xs number) (slice_get ys number)) → (number : ℕ) (x : X) → slice_get ys number ≡ Some x
    → (slice_get xs number ≡ Some x) ⊎ (length xs ≤ number)
was_or_new [] ys more number x is = inr (omega arith)
was_or_new (first ∷ xs) [] more number x is = absurd cc
was_or_new (first ∷ xs) (one ∷ ys) more zero x is = inl (sym (more zero first refl) ∙ is)
was_or_new (first ∷ xs) (one ∷ ys) more (suc number) x is =
    ⊎_elim (λ was. inl was) (λ new. inr (let h : length xs ≤ number = new in omega arith)) (was_or_new xs ys (λ index. more (suc index)) number x is)

-- ---- numbers of objects

pub not_there : {X : Type 0} (xs : List X) (number : ℕ) (x : X) → length xs ≤ number → slice_get xs number ≡ Some x → ⊥
not_there [] number x from is = cc
not_there (first ∷ xs) zero x from is = omega arith
not_there (first ∷ xs) (suc number) x from is = not_there xs number x (omega arith) is

-- no literal is made
pub numbers_by : (before after : CScope) → before.next_object ≤ after.next_object → after.literals ≡ before.literals → TakesNumbers before after
numbers_by before after more same = record {
  grows = more;
  literals = λ number one from is. absurd (not_there before.literals number one from (ap (λ all. slice_get all number) (sym same) ∙ is));
  in_order = λ first second one other from less is there. absurd (not_there before.literals first one from (ap (λ all. slice_get all first) (sym same) ∙ is));
}

-- what is new of a list that is one longer
pub only_last : {X : Type 0} (xs : List X) (x : X) (number : ℕ) (one : X) → length xs ≤ number → slice_get (xs ++ x ∷ []) number ≡ Some one → one ≡ x
only_last [] x zero one from is = cc
only_last [] x (suc number) one from is = absurd cc
only_last (first ∷ xs) x zero one from is = absurd (omega arith)
only_last (first ∷ xs) x (suc number) one from is = only_last xs x number one (omega arith) is

-- one literal is made, with the next number
pub one_number : (before : CScope) (one : CMade) → one.object ≡ before.next_object → TakesNumbers before (with_made one (with_object_number before))
one_number before one number_is = record {
  grows = omega arith;
  literals = λ number made from is. one_there number made (only_last before.literals one number made from is);
  in_order = λ first second made later from less is there.
      absurd (let h : suc (length before.literals) ≤ second = omega (arith, from, less) in
      not_there (before.literals ++ one ∷ []) second later (subst (λ n. n ≤ second) (sym (one_more before.literals one)) h) there);
}
  where
    one_more : (xs : List CMade) (x : CMade) → length (xs ++ x ∷ []) ≡ suc (length xs)
    one_more [] x = refl
    one_more (first ∷ xs) x = ap suc (one_more xs x)

    one_there : (number : ℕ) (made : CMade) → made ≡ one → (before.next_object ≤ made.object) × (made.object < before.next_object + 1)
    one_there number made same = (let e : made.object ≡ before.next_object = ap (λ m. m.object) same ∙ number_is in (omega (arith, e), omega (arith, e)))

pub numbers_on : (before middle after : CScope) → TakesNumbers before middle → TakesNumbers middle after
    → ((number : ℕ) → Gives (slice_get middle.literals number) (slice_get after.literals number)) → TakesNumbers before after
numbers_on before middle after one other kept = record {
  grows = (let a = one.grows in let b = other.grows in omega (arith, a, b));
  literals = λ number made from is.
      ⊎_elim
      (λ was. (let h = one.literals number made from was in let b = other.grows in (h.0, omega (arith, h.1, b))))
      (λ new. (let h = other.literals number made new is in let a = one.grows in (omega (arith, h.0, a), h.1)))
      (was_or_new middle.literals after.literals kept number made is);
  in_order = λ first second made later from less is there.
      ⊎_elim
      (λ was.
      ⊎_elim
      (λ also. one.in_order first second made later from less was also)
      (λ new. (let h = one.literals first made from was in let k = other.literals second later new there in omega (arith, h.1, k.0)))
      (was_or_new middle.literals after.literals kept second later there))
      (λ new. other.in_order first second made later new less is there)
      (was_or_new middle.literals after.literals kept first made is);
}

-- ---- what lives as long as the program

pub either_more : (a b c d : Bool) → (a ≡ true → c ≡ true) → (b ≡ true → d ≡ true) → (a || b) ≡ true → (c || d) ≡ true
either_more true b c d one other is = ap (λ held. held || d) (one refl)
either_more false b true d one other is = refl
either_more false b false d one other is = other is

pub made_more : (number : ℕ) (few many : List CMade) → ((index : ℕ) → Gives (slice_get few index) (slice_get many index)) → list_any (made_static number) few ≡ true → list_any (made_static number) many ≡ true
made_more number [] many more is = absurd cc
made_more number (first ∷ few) [] more is = absurd (let h : None ≡ Some first = more zero first refl in cc)
made_more number (first ∷ few) (one ∷ many) more is =
    either_more (made_static number first) (list_any (made_static number) few) (made_static number one) (list_any (made_static number) many)
    (λ held. ap (made_static number) (first_is (more zero first refl)) ∙ held) (made_more number few many (λ index. more (suc index))) is
  where
    first_is : {x y : CMade} → Some x ≡ Some y → x ≡ y
    first_is same = cc

pub objects_same : (number : ℕ) (few many : List CObject) → many ≡ few → list_any (object_static number) few ≡ true → list_any (object_static number) many ≡ true
objects_same number few many same is = ap (list_any (object_static number)) same ∙ is

pub statics_stay : (before after : CScope) → ((index : ℕ) → Gives (slice_get before.literals index) (slice_get after.literals index)) → rest_of after ≡ rest_of before
    → (number : ℕ) → is_static_object before number ≡ true → is_static_object after number ≡ true
statics_stay before after more same number is =
    either_more (list_any (made_static number) before.literals) (list_any (object_static number) before.objects) (list_any (made_static number) after.literals) (list_any (object_static number) after.objects)
    (made_more number before.literals after.literals more) (objects_same number before.objects after.objects (ap (λ rest. rest.objects) same)) is
