-- The numbers of objects, once there is one more, and where one is changed (ISO C99, 6.2.4).
use Rattle.std.proofs.Common.{◌≡◌, ◌⊎◌, inl, inr, ℕ, zero, suc, ◌+◌, ◌<◌, List, [], ◌∷◌, ◌++◌, map, length, Option, Some, slice_get, refl, sym, ap, ◌∙◌, arith}
use Rattle.cx_core.specs.Trees.{CObject}
use Rattle.cx_rules.specs.Scope.{CMade}
use Rattle.cx_typed_units.proofs.Accounted.{AreApart, apart_of}
use Rattle.cx_typed_units.proofs.Steps.{got_mapped}
use Rattle.cx_typed_units.specs.Account.{CAccount, IsAccounted}

-- each object has a number of its own, that no literal has
pub record AreNumbered (objects : List CObject) (literals : List CMade) (next : ℕ) : Type 0 where
  pub differ : (first second : ℕ) (one other : CObject) → slice_get objects first ≡ Some one → slice_get objects second ≡ Some other → one.object ≡ other.object → first ≡ second
  pub below : (index : ℕ) (one : CObject) → slice_get objects index ≡ Some one → one.object < next
  pub made : AreApart objects literals next

pub numbered_of : (opens : List ℕ) (pending : Option (List ℕ)) (account : CAccount) → IsAccounted opens pending account → AreNumbered account.objects account.literals account.next_object
numbered_of opens pending account held = record { differ = held.objects_differ; below = held.objects_below; made = apart_of opens pending account held }

-- ---- one more object

pub got_last : {X : Type 0} (xs : List X) (new : X) (index : ℕ) (one : X) → slice_get (xs ++ new ∷ []) index ≡ Some one → (slice_get xs index ≡ Some one) ⊎ ((index ≡ length xs) × (new ≡ one))
got_last [] new zero one is = inr (refl, cc)
got_last [] new (suc index) one is = absurd cc
got_last (first ∷ xs) new zero one is = inl is
got_last {X} (first ∷ xs) new (suc index) one is = step (got_last xs new index one is)
  where
    step : (slice_get xs index ≡ Some one) ⊎ ((index ≡ length xs) × (new ≡ one)) → (slice_get (first ∷ xs) (suc index) ≡ Some one) ⊎ ((suc index ≡ length (first ∷ xs)) × (new ≡ one))
    step (inl at) = inl at
    step (inr at) = inr (ap suc at.0, at.1)

module _ (objects : List CObject) (literals : List CMade) (next : ℕ) (held : AreNumbered objects literals next) (new : CObject) (number_is : new.object ≡ next) where
  new_number : (one : CObject) → new ≡ one → one.object ≡ next
  new_number one is = ap (λ (x : CObject). x.object) (sym is) ∙ number_is

  differ_by : (first second : ℕ) (one other : CObject) → one.object ≡ other.object → (slice_get objects first ≡ Some one) ⊎ ((first ≡ length objects) × (new ≡ one))
      → (slice_get objects second ≡ Some other) ⊎ ((second ≡ length objects) × (new ≡ other)) → first ≡ second
  differ_by first second one other same (inl at) (inl there) = held.differ first second one other at there same
  differ_by first second one other same (inl at) (inr there) =
      absurd (let h : one.object < next = held.below first one at in let k : other.object ≡ next = new_number other there.1 in omega (arith, h, k, same))
  differ_by first second one other same (inr at) (inl there) =
      absurd (let h : other.object < next = held.below second other there in let k : one.object ≡ next = new_number one at.1 in omega (arith, h, k, same))
  differ_by first second one other same (inr at) (inr there) = at.0 ∙ sym there.0

  below_by : (index : ℕ) (one : CObject) → (slice_get objects index ≡ Some one) ⊎ ((index ≡ length objects) × (new ≡ one)) → one.object < next + 1
  below_by index one (inl at) = let h : one.object < next = held.below index one at in omega (arith, h)
  below_by index one (inr at) = let k : one.object ≡ next = new_number one at.1 in omega (arith, k)

  apart_by : (first second : ℕ) (one : CObject) (other : CMade) → slice_get literals second ≡ Some other → one.object ≡ other.object
      → (slice_get objects first ≡ Some one) ⊎ ((first ≡ length objects) × (new ≡ one)) → ⊥
  apart_by first second one other there same (inl at) = held.made.apart first second one other at there same
  apart_by first second one other there same (inr at) =
      let h : other.object < next = held.made.below second other there in let k : one.object ≡ next = new_number one at.1 in omega (arith, h, k, same)

  pub one_more_numbered : AreNumbered (objects ++ new ∷ []) literals (next + 1)
  one_more_numbered = record {
    differ = λ first second one other at there same. differ_by first second one other same (got_last objects new first one at) (got_last objects new second other there);
    below = λ index one at. below_by index one (got_last objects new index one at);
    made = record {
      differ = held.made.differ;
      apart = λ first second one other at there same. apart_by first second one other there same (got_last objects new first one at);
      below = λ index one at. let h : one.object < next = held.made.below index one at in omega (arith, h);
    };
  }

-- ---- an object is changed

module _ (objects : List CObject) (literals : List CMade) (next : ℕ) (held : AreNumbered objects literals next) (change : CObject → CObject) (kept : (one : CObject) → (change one).object ≡ one.object) where
  before_number : (was one : CObject) → change was ≡ one → one.object ≡ was.object
  before_number was one is = ap (λ (x : CObject). x.object) (sym is) ∙ kept was

  pub changed_numbered : AreNumbered (map change objects) literals next
  changed_numbered = record {
    differ = λ first second one other at there same.
        let was = got_mapped change objects first one at in
        let also = got_mapped change objects second other there in
        held.differ first second was.0 also.0 was.1 also.1 (sym (before_number was.0 one was.2) ∙ same ∙ before_number also.0 other also.2);
    below = λ index one at.
        let was = got_mapped change objects index one at in
        let h : was.0.object < next = held.below index was.0 was.1 in
        let k : one.object ≡ was.0.object = before_number was.0 one was.2 in
        omega (arith, h, k);
    made = record {
      differ = held.made.differ;
      apart = λ first second one other at there same.
          let was = got_mapped change objects first one at in
          held.made.apart first second was.0 other was.1 there (sym (before_number was.0 one was.2) ∙ same);
      below = held.made.below;
    };
  }
