-- The mentions of a kind and a name, one in front of the other.
use Rattle.std.proofs.Common.{rules, ◌≡◌, ℕ, zero, suc, ◌<◌, ◌&&◌, ◌||◌, Bool, true, false, cond, if◌then◌else◌, List, [], ◌∷◌, ◌++◌, map, length, take, drop, Option, Some, None, option_map, refl, sym, ap, ◌∙◌, subst, slice_get, arith, unwrap_or, append_assoc, append-nil}
use Rattle.std.proofs.Math.Seq.{take-length, drop-length}
use Rattle.std.proofs.lemmas.Cmp.{nat_list_eq_equiv}
use Rattle.std.proofs.lemmas.Slice.Eq.{bytes_eq-Decides}
use Rattle.std.specs.Global.{Vec}
use Rattle.std.specs.HashMap.{HashMap, get_by, Updates}
use Rattle.std.specs.List.{list_any}
use Rattle.std.specs.Map.{lookup, IsKeyTest, AreApart, KeepsOthers}
use Rattle.std.specs.Option.{option_flatten}
use Rattle.std.specs.Prelude.{bytes_eq, is_some}
use Rattle.std.proofs.lemmas.Bool.{and_parts}
use Rattle.cx_core.specs.Trees.{CMention}
use Rattle.cx_link.specs.Chains.{IsChain, indexed, later_or, latest, latest_of, earlier_from}
use Rattle.cx_link.specs.declared.chain.Chain.{Chain}
use Rattle.cx_links.specs.Rules.{is_kind_of}

-- ---- an index

module _ {K : Type 0} (eq : K → K → Bool) (test : K → Bool) where
  other_entries : {X : Type 0} (old new : List (K × X)) → KeepsOthers eq test old new → (other : K → Bool) → IsKeyTest eq other → AreApart test other → lookup other new ≡ lookup other old
  unfolding KeepsOthers
  other_entries old new h = h

apart : (bs cs ks : List ℕ) → bytes_eq bs cs ≡ false → bytes_eq bs ks ≡ true → bytes_eq cs ks ≡ false
apart bs cs ks n y = nat_list_eq_equiv.symm cs ks ∙ sym (nat_list_eq_equiv.congr bs ks cs y) ∙ n

module _ {S : Type 0} (old new : HashMap (Vec ℕ) ℕ S) where
  -- what an index holds after a number is put at a name
  pub puts : (key : Vec ℕ) (value : ℕ) → Updates (λ (x y : Vec ℕ). bytes_eq x.items y.items) old new key (Some value)
      → (name : List ℕ) → indexed new name ≡ if bytes_eq key.items name then Some value else indexed old name
  puts key value h name = puts_by (bytes_eq key.items name) refl where
    puts_by : (test : Bool) → bytes_eq key.items name ≡ test → indexed new name ≡ if test then Some value else indexed old name
    puts_by true y = ap (λ (bs : List ℕ). indexed new bs) (sym ((bytes_eq-Decides key.items name).0 y)) ∙ h.1
    puts_by false n = other_entries _ _ _ _ h.3 _ (λ x y. nat_list_eq_equiv.congr name x.items y.items) (λ k. apart key.items name k.items n)

-- ---- the last that passes a test

snoc_by : {A : Type 0} (test : A → Bool) (y : A) (ys : List A) (here : Bool)
    → later_or (if here then Some (length ys) else latest test ys) (test y) ≡ if here then Some (suc (length ys)) else later_or (latest test ys) (test y)
snoc_by test y ys true = refl
snoc_by test y ys false = refl

pub latest_last : {A : Type 0} (test : A → Bool) (xs : List A) (x : A) → latest test (xs ++ x ∷ []) ≡ if test x then Some (length xs) else latest test xs
latest_last test [] x = refl
latest_last test (y ∷ ys) x = ap (λ found. later_or found (test y)) (latest_last test ys x) ∙ snoc_by test y ys (test x)

-- a place holds what passes a test
abbrev pub Holds : {A : Type 0} → (A → Bool) → List A → ℕ → Type 0
Holds test xs at = option_map test (slice_get xs at) ≡ Some true

module _ {A : Type 0} (test : A → Bool) (x : A) (xs : List A) where
  holds_here : (at : ℕ) (passes : Bool) → test x ≡ passes → (if passes then Some 0 else None) ≡ Some at → Holds test (x ∷ xs) at
  holds_here at true passes is = subst (λ n. Holds test (x ∷ xs) n) (ap (λ o. unwrap_or o 0) is) (ap (λ b. Some b) passes)
  holds_here at false passes is = cc

  holds_by : (at : ℕ) → ((n : ℕ) → latest test xs ≡ Some n → Holds test xs n) → (found : Option ℕ) → latest test xs ≡ found
      → later_or found (test x) ≡ Some at → Holds test (x ∷ xs) at
  holds_by at behind (Some n) found is = subst (λ m. Holds test (x ∷ xs) m) (ap (λ o. unwrap_or o 0) is) (behind n found)
  holds_by at behind None found is = holds_here at (test x) refl is

pub latest_holds : {A : Type 0} (test : A → Bool) (xs : List A) (at : ℕ) → latest test xs ≡ Some at → Holds test xs at
latest_holds test [] at is = cc
latest_holds test (x ∷ xs) at is = holds_by test x xs at (latest_holds test xs) (latest test xs) refl is

-- ---- all that pass a test, from the last one on

abbrev pub left : {A : Type 0} → (A → Bool) → List A → Option ℕ → Bool
left test xs None = false
left test xs (Some at) = list_any test (take (suc at) xs)

module _ {A : Type 0} (test rest : A → Bool) where
  abbrev pub both : A → Bool
  both x = test x && rest x

  left_here : (x : A) (xs : List A) (passes : Bool) → test x ≡ passes → list_any both xs ≡ false
      → both x || list_any both xs ≡ left both (x ∷ xs) (if passes then Some 0 else None)
  left_here x xs true passes none = ap (λ b. both x || b) none
  left_here x xs false passes none = ap (λ b. (b && rest x) || list_any both xs) passes ∙ none

  left_by : (x : A) (xs : List A) (found : Option ℕ) → list_any both xs ≡ left both xs found
      → both x || list_any both xs ≡ left both (x ∷ xs) (later_or found (test x))
  left_by x xs (Some n) is = ap (λ b. both x || b) is
  left_by x xs None is = left_here x xs (test x) refl is

  pub any_left : (xs : List A) → list_any both xs ≡ left both xs (latest test xs)
  any_left [] = refl
  any_left (x ∷ xs) = left_by x xs (latest test xs) (any_left xs)

  -- all of a list in front of a place at which the rest fails
  pub any_before : (xs : List A) (at : ℕ) (x : A) → slice_get xs at ≡ Some x → rest x ≡ false
      → list_any both (take (suc at) xs) ≡ list_any both (take at xs)
  any_before [] at x is fails = cc
  any_before (y ∷ ys) zero x is fails =
      ap (λ z. (test z && rest z) || false) (search (rules, is)) ∙ ap (λ b. (test x && b) || false) fails ∙ none (test x) where
        none : (b : Bool) → (b && false) || false ≡ false
        none true = refl
        none false = refl
  any_before (y ∷ ys) (suc at) x is fails = ap (λ b. both y || b) (any_before ys at x is fails)

-- ---- in front of a place

pub holds_within : {A : Type 0} (test : A → Bool) (xs : List A) (n at : ℕ) → Holds test (take n xs) at → Holds test xs at
holds_within test xs zero at holds = cc
holds_within test [] (suc n) at holds = holds
holds_within test (x ∷ xs) (suc n) zero holds = holds
holds_within test (x ∷ xs) (suc n) (suc at) holds = holds_within test xs n at holds

pub holds_before : {A : Type 0} (test : A → Bool) (xs : List A) (n at : ℕ) → Holds test (take n xs) at → at < n
holds_before test xs zero at holds = cc
holds_before test [] (suc n) at holds = cc
holds_before test (x ∷ xs) (suc n) zero holds = search (rules, arith)
holds_before test (x ∷ xs) (suc n) (suc at) holds =
    let before = holds_before test xs n at holds in
    omega (arith, before)

left_taken : {A : Type 0} (test : A → Bool) (xs : List A) (n at : ℕ) → at < n → list_any test (take (suc at) (take n xs)) ≡ list_any test (take (suc at) xs)
left_taken test xs zero at below = absurd (omega (arith, below))
left_taken test [] (suc n) at below = refl
left_taken test (x ∷ xs) (suc n) zero below = refl
left_taken test (x ∷ xs) (suc n) (suc at) below = ap (λ b. test x || b) (left_taken test xs n at (omega (arith, below)))

-- ---- the step from one mention of a name to the one in front of it

-- what is known at a place of the chain: whether any of the list passes is said by what stands up to it
pub record Walks {A : Type 0} (test rest : A → Bool) (all : List A) (at : Option ℕ) : Type 0 where
  pub same : list_any (both test rest) all ≡ left (both test rest) all at
  pub holds : (n : ℕ) → at ≡ Some n → Holds test all n

module _ {A : Type 0} (test rest : A → Bool) where
  -- at the last that passes
  pub walk_begins : (all : List A) → Walks test rest all (latest test all)
  walk_begins all = record { same = any_left test rest all; holds = λ n is. latest_holds test all n is }

  left_before : (all : List A) (n : ℕ) (at : Option ℕ) → ((m : ℕ) → at ≡ Some m → m < n)
      → left (both test rest) (take n all) at ≡ left (both test rest) all at
  left_before all n None below = refl
  left_before all n (Some m) below = left_taken (both test rest) all n m (below m refl)

  -- from a mention at which the rest fails to the one in front of it
  pub walk_goes : (all : List A) (n : ℕ) (x : A) → Walks test rest all (Some n) → slice_get all n ≡ Some x → rest x ≡ false
      → Walks test rest all (latest test (take n all))
  walk_goes all n x walks is fails = record {
    same = walks.same ∙ any_before test rest all n x is fails ∙ any_left test rest (take n all)
        ∙ left_before all n (latest test (take n all)) (λ m found. holds_before test all n m (latest_holds test (take n all) m found));
    holds = λ m found. holds_within test all n m (latest_holds test (take n all) m found);
  }

  -- at one that passes
  pub walk_finds : (all : List A) (n : ℕ) (x : A) → Walks test rest all (Some n) → slice_get all n ≡ Some x → rest x ≡ true
      → list_any (both test rest) all ≡ true
  walk_finds all n x walks is passes = walks.same ∙ found all n is (ap (λ o. unwrap_or o false) (sym (ap (option_map test) is) ∙ walks.holds n refl)) where
    found : (xs : List A) (m : ℕ) → slice_get xs m ≡ Some x → test x ≡ true → list_any (both test rest) (take (suc m) xs) ≡ true
    found [] m is holds = cc
    found (y ∷ ys) zero is holds = ap (λ z. (test z && rest z) || false) (ap (λ o. unwrap_or o x) is) ∙ ap (λ b. (b && rest x) || false) holds ∙ ap (λ b. b || false) passes
    found (y ∷ ys) (suc m) is holds = ap (λ b. both test rest y || b) (found ys m is holds) ∙ or_true (both test rest y) where
      or_true : (b : Bool) → b || true ≡ true
      or_true true = refl
      or_true false = refl

  pub walk_ends : (all : List A) → Walks test rest all None → list_any (both test rest) all ≡ false
  walk_ends all walks = walks.same

-- ---- how a chain is made

-- what is known of the first mentions of a list
pub record IsChained {S : Type 0} (index : HashMap (Vec ℕ) ℕ S) (earlier : List (Option ℕ)) (kind : CMention → Bool) (all : List CMention) (at : ℕ) : Type 0 where
  pub last : (name : List ℕ) → indexed index name ≡ latest_of kind (take at all) name
  pub rest : earlier ++ earlier_from kind (take at all) (drop at all) ≡ earlier_from kind [] all

pub chain_begins : {S : Type 0} (index : HashMap (Vec ℕ) ℕ S) (kind : CMention → Bool) (all : List CMention)
    → ((name : List ℕ) → indexed index name ≡ None) → IsChained index [] kind all 0
chain_begins index kind all empty = record { last = empty; rest = refl }

pub split_at : {A : Type 0} (xs : List A) (at : ℕ) (x : A) → slice_get xs at ≡ Some x → (take (suc at) xs ≡ take at xs ++ x ∷ []) × (drop at xs ≡ x ∷ drop (suc at) xs) × (length (take at xs) ≡ at)
split_at [] at x is = cc
split_at (y ∷ ys) zero x is = (ap (λ z. z ∷ []) (ap (λ o. unwrap_or o x) is), ap (λ z. z ∷ ys) (ap (λ o. unwrap_or o x) is), refl)
split_at (y ∷ ys) (suc at) x is =
    let parts = split_at ys at x is in
    (ap (λ zs. y ∷ zs) parts.0, parts.1, ap suc parts.2)

pub chain_goes : {S : Type 0} (index after : HashMap (Vec ℕ) ℕ S) (earlier : List (Option ℕ)) (kind : CMention → Bool) (all : List CMention) (at : ℕ) (one : CMention)
    → IsChained index earlier kind all at → slice_get all at ≡ Some one
    → ((name : List ℕ) → indexed after name ≡ if is_kind_of kind name one then Some at else indexed index name)
    → IsChained after (earlier ++ indexed index one.name ∷ []) kind all (suc at)
chain_goes index after earlier kind all at one chained is noted = record {
  last = λ name. noted name
      ∙ ap (λ found. if is_kind_of kind name one then Some at else found) (chained.last name)
      ∙ ap (λ count. if is_kind_of kind name one then Some count else latest_of kind (take at all) name) (sym (split_at all at one is).2)
      ∙ sym (latest_last (is_kind_of kind name) (take at all) one)
      ∙ ap (latest (is_kind_of kind name)) (sym (split_at all at one is).0);
  rest = append_assoc earlier (indexed index one.name ∷ []) (earlier_from kind (take (suc at) all) (drop (suc at) all))
      ∙ ap (λ found. earlier ++ found ∷ earlier_from kind (take (suc at) all) (drop (suc at) all)) (chained.last one.name)
      ∙ ap (λ done. earlier ++ latest_of kind (take at all) one.name ∷ earlier_from kind done (drop (suc at) all)) (split_at all at one is).0
      ∙ ap (λ others. earlier ++ earlier_from kind (take at all) others) (sym (split_at all at one is).1)
      ∙ chained.rest;
}

pub chain_ends : {S : Type 0} (index : HashMap (Vec ℕ) ℕ S) (earlier : List (Option ℕ)) (kind : CMention → Bool) (all : List CMention)
    → IsChained index earlier kind all (length all) → ((name : List ℕ) → indexed index name ≡ latest_of kind all name) × (earlier ≡ earlier_from kind [] all)
chain_ends index earlier kind all chained = (
  λ name. chained.last name ∙ ap (λ xs. latest_of kind xs name) (take-length all),
  sym (append-nil earlier) ∙ ap (λ xs. earlier ++ earlier_from kind (take (length all) all) xs) (sym (drop-length all)) ∙ chained.rest,
)

-- what stands in front of a mention
pub earlier_at : (kind : CMention → Bool) (done all : List CMention) (at : ℕ) (one : CMention) → slice_get all at ≡ Some one
    → slice_get (earlier_from kind done all) at ≡ Some (latest_of kind (done ++ take at all) one.name)
earlier_at kind done [] at one is = cc
earlier_at kind done (x ∷ xs) zero one is =
    ap (λ y. Some (latest_of kind done y.name)) (ap (λ o. unwrap_or o one) is) ∙ ap (λ ys. Some (latest_of kind ys one.name)) (sym (append-nil done))
earlier_at kind done (x ∷ xs) (suc at) one is =
    earlier_at kind (done ++ x ∷ []) xs at one is ∙ ap (λ ys. Some (latest_of kind ys one.name)) (append_assoc done (x ∷ []) (take at xs))

pub noted : {A : Type 0} (kind : CMention → Bool) (one : CMention) (name key : List ℕ) (after before there : A) → kind one ≡ true → key ≡ one.name
    → after ≡ (if bytes_eq key name then there else before) → after ≡ if is_kind_of kind name one then there else before
noted kind one name key after before there holds same is =
    is ∙ ap (λ bytes. if bytes_eq bytes name then there else before) same ∙ ap (λ b. if (b && bytes_eq one.name name) then there else before) (sym holds)

-- ---- the walk in the code

-- a mention of the walk has the name that is looked for
named_so : (kind : CMention → Bool) (name : List ℕ) (all : List CMention) (n : ℕ) (x : CMention) → slice_get all n ≡ Some x
    → Holds (is_kind_of kind name) all n → x.name ≡ name
named_so kind name all n x is holds =
    let passes : is_kind_of kind name x ≡ true = ap (λ o. unwrap_or o false) (sym (ap (option_map (is_kind_of kind name)) is) ∙ holds) in
    (bytes_eq-Decides x.name name).0 (and_parts (kind x) (bytes_eq x.name name) passes).1

-- what the chain says of a mention of the walk
pub steps_back : (chain : Chain) (kind : CMention → Bool) (rest : CMention → Bool) (all : List CMention) (name : List ℕ) (n : ℕ) (x : CMention)
    → IsChain chain kind all → Walks (is_kind_of kind name) rest all (Some n) → slice_get all n ≡ Some x
    → option_flatten (slice_get chain.earlier n) ≡ latest (is_kind_of kind name) (take n all)
steps_back chain kind rest all name n x chained walks is =
    ap (λ list. option_flatten (slice_get list n)) chained.earlier
    ∙ ap option_flatten (earlier_at kind [] all n x is)
    ∙ ap (λ other. latest (is_kind_of kind other) (take n all)) (named_so kind name all n x is (walks.holds n refl))

pub falls : (found : Option ℕ) (n : ℕ) → ((m : ℕ) → found ≡ Some m → m < n) → unwrap_or (option_map suc found) 0 < suc n
falls None n below = search (rules, arith)
falls (Some m) n below =
    let less = below m refl in
    omega (arith, less)

pub latest_before : {A : Type 0} (test : A → Bool) (all : List A) (n m : ℕ) → latest test (take n all) ≡ Some m → m < n
latest_before test all n m is = holds_before test all n m (latest_holds test (take n all) m is)

pub holds_in : {A : Type 0} (test : A → Bool) (all : List A) (n : ℕ) → Holds test all n → n < length all
holds_in test [] n holds = cc
holds_in test (x ∷ xs) zero holds = search (rules, arith)
holds_in test (x ∷ xs) (suc n) holds =
    let within = holds_in test xs n holds in
    omega (arith, within)

pub same_length : {A B : Type 0} (f : A → B) (xs : List A) → length (map f xs) ≡ length xs
same_length f [] = refl
same_length f (x ∷ xs) = ap suc (same_length f xs)

-- there is one of a kind and a name where the last of them is there
pub any_is_some : {A : Type 0} (test : A → Bool) (xs : List A) → list_any test xs ≡ is_some (latest test xs)
any_is_some test [] = refl
any_is_some test (x ∷ xs) = ap (λ b. test x || b) (any_is_some test xs) ∙ by (latest test xs) (test x) where
  by : (found : Option ℕ) (here : Bool) → here || is_some found ≡ is_some (later_or found here)
  by (Some n) true = refl
  by (Some n) false = refl
  by None true = refl
  by None false = refl
