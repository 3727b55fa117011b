-- Things of units by their numbers: each is found by its own number, numbers of one unit aren't those of another, and a thing with a name is one
-- of some unit (ISO C99, 6.2.2p2).
use Rattle.std.proofs.Common.{◌≡◌, ℕ, zero, suc, ◌+◌, ◌==◌, max, Bool, true, false, ◌||◌, List, [], ◌∷◌, map, All, Option, None, Some, slice_get, eqb, refl, sym, ap, ◌∙◌, arith, subst}
use Rattle.std.specs.Prelude.{◌<◌, cond, IsSome, ⊤}
use Rattle.std.specs.List.{find, list_any, IsDistinct}
use Rattle.std.proofs.lemmas.Bool.Decides.{nat_tests}
use Rattle.std.proofs.lemmas.List.Elements.{All-nil, All-cons, All-head, All-tail}
use Rattle.cx_core.specs.Trees.{CUnit}
use Rattle.cx_links.specs.Program.{CFound, found_or, first_unit}
use Rattle.cx_renumber.specs.Numbers.{above}
use Rattle.cx_typed_links.proofs.Joined.{rows_before}

-- ---- numbers

pub same_number : (first second : ℕ) → (first == second) ≡ true → first ≡ second
same_number first second is = grind (arith, nat_tests, is)

pub number_itself : (number : ℕ) → (number == number) ≡ true
number_itself number = grind (arith, nat_tests)

less_first : (number first others : ℕ) → number ≡ first → number < max (suc first) others
less_first number first others is = omega arith

less_later : (number first others : ℕ) → number < others → number < max (suc first) others
less_later number first others less = omega arith

-- no number of a list is this one
abbrev pub AreOther : ℕ → List ℕ → Type 0
AreOther number [] = ⊤
AreOther number (first ∷ others) = (eqb number first ≡ false) × AreOther number others

-- ---- what is found in a list

module _ {X : Type 0} where
  pub same_found : (o : Option X) (x y : X) → o ≡ Some x → o ≡ Some y → x ≡ y
  same_found None x y first second = absurd cc
  same_found (Some z) x y first second = (let h : z ≡ x = cc (first) in let k : z ≡ y = cc (second) in sym h ∙ k)

  found_by : (P : X → Type 0) (test : X → Bool) (first x : X) (passes : Bool) (later : Option X) → test first ≡ passes → P first
      → (later ≡ Some x → P x × (test x ≡ true)) → cond passes (Some first) later ≡ Some x → P x × (test x ≡ true)
  found_by P test first x true later passes holds goes is =
      let same : first ≡ x = cc (is) in (subst P same holds, subst (λ y. test y ≡ true) same passes)
  found_by P test first x false later passes holds goes is = goes is

  -- what is found in a list passes the test, and what is said of all of the list is said of it
  pub found_holds : (P : X → Type 0) (test : X → Bool) (xs : List X) (x : X) → All P xs → find test xs ≡ Some x → P x × (test x ≡ true)
  found_holds P test [] x all is = absurd cc
  found_holds P test (first ∷ others) x all is =
      found_by P test first x (test first) (find test others) refl (All-head P first others all)
      (λ there. found_holds P test others x (All-tail P first others all) there) is

  any_by : (first : X) (passes any : Bool) (later : Option X) → (any ≡ true → IsSome later) → (passes || any) ≡ true → IsSome (cond passes (Some first) later)
  any_by first true any later goes is = refl
  any_by first false any later goes is = goes is

  -- where something passes, something is found
  pub any_found : (test : X → Bool) (xs : List X) → list_any test xs ≡ true → IsSome (find test xs)
  any_found test [] is = absurd cc
  any_found test (first ∷ others) is = any_by first (test first) (list_any test others) (find test others) (any_found test others) is

  module _ (key : X → ℕ) where
    abbrev has_key : ℕ → X → Bool
    has_key number x = key x == number

    below_by : (number : ℕ) (first x : X) (others : ℕ) (passes : Bool) (later : Option X) → (key first == number) ≡ passes
        → (later ≡ Some x → number < others) → cond passes (Some first) later ≡ Some x → number < max (suc (key first)) others
    below_by number first x others true later passes goes is = less_first number (key first) others (sym (same_number (key first) number passes))
    below_by number first x others false later passes goes is = less_later number (key first) others (goes is)

    -- the number of something that is found is below the least number above all
    pub below_all : (xs : List X) (number : ℕ) (x : X) → find (has_key number) xs ≡ Some x → number < above (map key xs)
    below_all [] number x is = absurd cc
    below_all (first ∷ others) number x is =
        below_by number first x (above (map key others)) (key first == number) (find (has_key number) others) refl (below_all others number x) is

    found_still : (first : X) (others all : List X) → AreOther (key first) (map key others)
        → All (λ x. find (has_key (key x)) all ≡ Some x) others → All (λ x. find (has_key (key x)) (first ∷ all) ≡ Some x) others
    found_still first [] all apart found = All-nil (λ x. find (has_key (key x)) (first ∷ all) ≡ Some x)
    found_still first (x ∷ others) all apart found =
        All-cons (λ x. find (has_key (key x)) (first ∷ all) ≡ Some x) x others
        (ap (λ (passes : Bool). cond passes (Some first) (find (has_key (key x)) all)) apart.0
        ∙ All-head (λ x. find (has_key (key x)) all ≡ Some x) x others found)
        (found_still first others all apart.1 (All-tail (λ x. find (has_key (key x)) all ≡ Some x) x others found))

    -- where numbers differ, each is found by its own
    pub found_alone : (xs : List X) → IsDistinct eqb (map key xs) → All (λ x. find (has_key (key x)) xs ≡ Some x) xs
    unfolding IsDistinct
    found_alone [] differ = All-nil (λ x. find (has_key (key x)) [] ≡ Some x)
    found_alone (first ∷ others) differ =
        All-cons (λ x. find (has_key (key x)) (first ∷ others) ≡ Some x) first others
        (ap (λ (passes : Bool). cond passes (Some first) (find (has_key (key first)) others)) (number_itself (key first)))
        (found_still first others others differ.0 (found_alone others differ.1))

-- ---- numbers of several units

-- two numbers behind those of the units before theirs are the same only where the units and the numbers are
pub units_apart : {U : Type 0} (size : U → ℕ) (units : List U) (first second : ℕ) (one other : U) (number also : ℕ)
    → slice_get units first ≡ Some one → number < size one → slice_get units second ≡ Some other → also < size other
    → rows_before size first units + number ≡ rows_before size second units + also → (first ≡ second) × (number ≡ also)
units_apart size [] first second one other number also is less is_other less_other same = absurd cc
units_apart size (unit ∷ units) zero zero one other number also is less is_other less_other same = (refl, omega (arith, same))
units_apart size (unit ∷ units) zero (suc second) one other number also is less is_other less_other same =
    let here : size unit ≡ size one = ap size (let h : unit ≡ one = cc (is) in h) in
    absurd (omega (arith, same, less, here))
units_apart size (unit ∷ units) (suc first) zero one other number also is less is_other less_other same =
    let here : size unit ≡ size other = ap size (let h : unit ≡ other = cc (is_other) in h) in
    absurd (omega (arith, same, less_other, here))
units_apart size (unit ∷ units) (suc first) (suc second) one other number also is less is_other less_other same =
    let inner = units_apart size units first second one other number also is less is_other less_other
    (same_rest (size unit) (rows_before size first units) number (rows_before size second units) also same) in
    (ap suc inner.0, inner.1)
  where
    same_rest : (most first number second also : ℕ) → (most + first) + number ≡ (most + second) + also → first + number ≡ second + also
    same_rest most first number second also same = omega (arith, same)

-- ---- the first unit that has something

pub record IsFirstIn {A : Type 0} (finds : CUnit → Option A) (start : ℕ) (units : List CUnit) (found : CFound A) : Type 0 where
  pub at : ℕ
  pub unit_is : found.unit ≡ start + at
  pub home_is : slice_get units at ≡ Some found.home
  pub thing_is : finds found.home ≡ Some found.thing

module _ {A : Type 0} (finds : CUnit → Option A) where
  first_by : (start : ℕ) (one : CUnit) (others : List CUnit) (here : Option A) (later : Option (CFound A)) (found : CFound A) → finds one ≡ here
      → (later ≡ Some found → IsFirstIn finds (suc start) others found) → found_or start one here later ≡ Some found
      → IsFirstIn finds start (one ∷ others) found
  first_by start one others (Some thing) later found is goes there =
      let same : record { unit = start; home = one; thing = thing } ≡ found = cc (there) in
      subst (IsFirstIn finds start (one ∷ others)) same
      (record { at = 0; unit_is = nothing_on start; home_is = refl; thing_is = is })
    where
      nothing_on : (n : ℕ) → n ≡ n + 0
      nothing_on n = omega arith
  first_by start one others None later found is goes there =
      let inner = goes there in
      record { at = suc inner.at; unit_is = inner.unit_is ∙ on start inner.at; home_is = inner.home_is; thing_is = inner.thing_is }
    where
      on : (n at : ℕ) → suc n + at ≡ n + suc at
      on n at = omega arith

  pub first_is : (start : ℕ) (units : List CUnit) (found : CFound A) → first_unit finds start units ≡ Some found → IsFirstIn finds start units found
  first_is start [] found is = absurd cc
  first_is start (one ∷ others) found is =
      first_by start one others (finds one) (first_unit finds (suc start) others) found refl (first_is (suc start) others found) is
