-- What is told of a key once a name is given to one.
use Rattle.std.proofs.Common.{◌≡◌, ℕ, ◌==◌, Bool, true, false, cond, if◌then◌else◌, List, [], ◌∷◌, ◌++◌, Option, Some, None, is_some, nat_eq, refl, sym, ap, ◌∙◌, arith}
use Rattle.std.proofs.lemmas.Bool.Decides.{nat_tests}
use Rattle.std.proofs.lemmas.Cmp.{nat_eq_equiv}
use Rattle.std.specs.HashMap.{HashMap, get, get_by}
use Rattle.std.specs.Map.{lookup}
use Rattle.cx_core.specs.Trees.{CProgram}
use Rattle.whole_given.specs.Told.{first_of}
use Rattle.whole_keys.specs.Views.{view_key}
use Rattle.whole_keys.specs.contracts.key.NameKeyPartialEq.TheImpl.{ghosts}
use Rattle.whole_keys.specs.declared.key.NameKey.{NameKey}
use Rattle.whole_keys.specs.declared.key.NameKey.TheVariants.{Function, Object, Record, Calloc, BareFunction}
use Rattle.whole_names.specs.Keys as keys
use Rattle.whole_names.specs.Keys.{entries_of, module_keys, same_key}
use Rattle.whole_names.specs.ModuleNames.{GivenName, entry_names, given_from, module_names, name_among, own_names}

module _ {K X : Type 0} (test other : K → Bool) (alike : (key : K) → test key ≡ other key) where
  same_found : (entries : List (K × X)) → lookup test entries ≡ lookup other entries
  same_found [] = refl
  same_found (first ∷ entries) =
      ap (λ t. cond t (Some first.1) (lookup test entries)) (alike first.0) ∙ ap (λ found. cond (other first.0) (Some first.1) found) (same_found entries)

-- the derived test is whether two keys are the same
derived : (one other : NameKey) → ghosts.eq one other ≡ same_key (view_key one) (view_key other)
derived (Function one) (Function other) = refl
derived (Function one) (Object other) = refl
derived (Function one) (Record other) = refl
derived (Function one) Calloc = refl
derived (Function one) (BareFunction other) = refl
derived (Object one) (Function other) = refl
derived (Object one) (Object other) = refl
derived (Object one) (Record other) = refl
derived (Object one) Calloc = refl
derived (Object one) (BareFunction other) = refl
derived (Record one) (Function other) = refl
derived (Record one) (Object other) = refl
derived (Record one) (Record other) = refl
derived (Record one) Calloc = refl
derived (Record one) (BareFunction other) = refl
derived Calloc (Function other) = refl
derived Calloc (Object other) = refl
derived Calloc (Record other) = refl
derived Calloc Calloc = refl
derived Calloc (BareFunction other) = refl
derived (BareFunction one) (Function other) = refl
derived (BareFunction one) (Object other) = refl
derived (BareFunction one) (Record other) = refl
derived (BareFunction one) Calloc = refl
derived (BareFunction one) (BareFunction other) = refl

-- and so it is with the two turned round
turned : (one other : NameKey) → same_key (view_key other) (view_key one) ≡ ghosts.eq one other
turned (Function one) (Function other) = nat_eq_equiv.symm other one
turned (Function one) (Object other) = refl
turned (Function one) (Record other) = refl
turned (Function one) Calloc = refl
turned (Function one) (BareFunction other) = refl
turned (Object one) (Function other) = refl
turned (Object one) (Object other) = nat_eq_equiv.symm other one
turned (Object one) (Record other) = refl
turned (Object one) Calloc = refl
turned (Object one) (BareFunction other) = refl
turned (Record one) (Function other) = refl
turned (Record one) (Object other) = refl
turned (Record one) (Record other) = nat_eq_equiv.symm other one
turned (Record one) Calloc = refl
turned (Record one) (BareFunction other) = refl
turned Calloc (Function other) = refl
turned Calloc (Object other) = refl
turned Calloc (Record other) = refl
turned Calloc Calloc = refl
turned Calloc (BareFunction other) = refl
turned (BareFunction one) (Function other) = refl
turned (BareFunction one) (Object other) = refl
turned (BareFunction one) (Record other) = refl
turned (BareFunction one) Calloc = refl
turned (BareFunction one) (BareFunction other) = nat_eq_equiv.symm other one

equal : (one other : NameKey) → same_key (view_key one) (view_key other) ≡ true → one ≡ other
equal (Function one) (Function other) e = ap Function (grind (arith, nat_tests, e))
equal (Function one) (Object other) e = cc
equal (Function one) (Record other) e = cc
equal (Function one) Calloc e = cc
equal (Function one) (BareFunction other) e = cc
equal (Object one) (Function other) e = cc
equal (Object one) (Object other) e = ap Object (grind (arith, nat_tests, e))
equal (Object one) (Record other) e = cc
equal (Object one) Calloc e = cc
equal (Object one) (BareFunction other) e = cc
equal (Record one) (Function other) e = cc
equal (Record one) (Object other) e = cc
equal (Record one) (Record other) e = ap Record (grind (arith, nat_tests, e))
equal (Record one) Calloc e = cc
equal (Record one) (BareFunction other) e = cc
equal Calloc (Function other) e = cc
equal Calloc (Object other) e = cc
equal Calloc (Record other) e = cc
equal Calloc Calloc e = refl
equal Calloc (BareFunction other) e = cc
equal (BareFunction one) (Function other) e = cc
equal (BareFunction one) (Object other) e = cc
equal (BareFunction one) (Record other) e = cc
equal (BareFunction one) Calloc e = cc
equal (BareFunction one) (BareFunction other) e = ap BareFunction (grind (arith, nat_tests, e))

alike : {X S : Type 0} (names : HashMap NameKey X S) (one : NameKey) → get ghosts.eq names one ≡ get_by (λ (key : NameKey). same_key (view_key one) (view_key key)) names
alike names one = same_found (ghosts.eq one) (λ (key : NameKey). same_key (view_key one) (view_key key)) (derived one) names.entries

none_of : {A : Type 0} (found : Option A) → is_some found ≡ false → found ≡ None
none_of None e = refl
none_of (Some one) e = cc

some_of : {A : Type 0} (found other : Option A) → is_some found ≡ true → found ≡ first_of found other
some_of None other e = cc
some_of (Some one) other e = refl

nothing_more : {A : Type 0} (found : Option A) → found ≡ first_of found None
nothing_more None = refl
nothing_more (Some one) = refl

-- a key that has a name keeps it
stays_by : (old : NameKey → Option (List ℕ)) (key other : NameKey) (name : List ℕ) (same : Bool) → same_key (view_key other) (view_key key) ≡ same → is_some (old key) ≡ true →
    old other ≡ first_of (old other) (if same then Some name else None)
stays_by old key other name true e has = some_of (old other) (Some name) (ap (λ (one : NameKey). is_some (old one)) (equal other key e) ∙ has)
stays_by old key other name false e has = nothing_more (old other)

-- one that has none gets it
gets_by : (old : NameKey → Option (List ℕ)) (key other : NameKey) (name : List ℕ) (new : Option (List ℕ)) (same : Bool) → same_key (view_key other) (view_key key) ≡ same →
    old key ≡ None → new ≡ cond same (Some name) (old other) → new ≡ first_of (old other) (if same then Some name else None)
gets_by old key other name new true e none is = is ∙ sym (ap (λ found. first_of found (Some name)) (ap old (equal other key e) ∙ none))
gets_by old key other name new false e none is = is ∙ nothing_more (old other)

pub stays : {S : Type 0} (names : HashMap NameKey (List ℕ) S) (key other : NameKey) (name : List ℕ) (test : Bool) → test ≡ is_some (get ghosts.eq names key) → test ≡ true →
    get_by (λ (one : NameKey). same_key (view_key other) (view_key one)) names
    ≡ first_of (get_by (λ (one : NameKey). same_key (view_key other) (view_key one)) names) (if same_key (view_key other) (view_key key) then Some name else None)
stays names key other name test has is =
    stays_by (λ one. get_by (λ (held : NameKey). same_key (view_key one) (view_key held)) names) key other name (same_key (view_key other) (view_key key)) refl
    (sym (ap is_some (alike names key)) ∙ sym has ∙ is)

pub gets : {S : Type 0} (names new : HashMap NameKey (List ℕ) S) (key other : NameKey) (name : List ℕ) (test : Bool) → test ≡ is_some (get ghosts.eq names key) → test ≡ false →
    get ghosts.eq new other ≡ cond (ghosts.eq key other) (Some name) (get ghosts.eq names other) →
    get_by (λ (one : NameKey). same_key (view_key other) (view_key one)) new
    ≡ first_of (get_by (λ (one : NameKey). same_key (view_key other) (view_key one)) names) (if same_key (view_key other) (view_key key) then Some name else None)
gets names new key other name test has is put =
    gets_by (λ one. get_by (λ (held : NameKey). same_key (view_key one) (view_key held)) names) key other name
    (get_by (λ (one : NameKey). same_key (view_key other) (view_key one)) new) (same_key (view_key other) (view_key key)) refl
    (sym (alike names key) ∙ none_of (get ghosts.eq names key) (sym has ∙ is))
    (sym (alike new other) ∙ put ∙ ap (λ t. cond t (Some name) (get ghosts.eq names other)) (sym (turned key other))
    ∙ ap (λ found. cond (same_key (view_key other) (view_key key)) (Some name) found) (alike names other))

-- ---- lists of names

among_both : (key : keys.NameKey) (front others : List GivenName) → name_among key (front ++ others) ≡ first_of (name_among key front) (name_among key others)
among_both key [] others = refl
among_both key (one ∷ front) others = by_test (same_key key one.key) (among_both key front others)
  where
    by_test : (t : Bool) → name_among key (front ++ others) ≡ first_of (name_among key front) (name_among key others) →
        (if t then Some one.name else name_among key (front ++ others)) ≡ first_of (if t then Some one.name else name_among key front) (name_among key others)
    by_test true e = refl
    by_test false e = e

-- the names of `main` in front of the others
pub names_all : (program : CProgram) (unit : ℕ) (key : keys.NameKey) (entries list : List keys.NameKey) (none one two : Option (List ℕ)) → none ≡ None →
    entries ≡ entries_of program unit → list ≡ module_keys program unit → one ≡ first_of none (name_among key (entry_names entries)) →
    two ≡ first_of one (name_among key (given_from program own_names list)) → two ≡ name_among key (module_names program unit)
names_all program unit key entries list none one two empty first second told given =
    given
    ∙ ap (λ (found : Option (List ℕ)). first_of found (name_among key (given_from program own_names list)))
    (told ∙ ap (λ (found : Option (List ℕ)). first_of found (name_among key (entry_names entries))) empty
    ∙ ap (λ (those : List keys.NameKey). name_among key (entry_names those)) first)
    ∙ ap (λ (those : List keys.NameKey). first_of (name_among key (entry_names (entries_of program unit))) (name_among key (given_from program own_names those))) second
    ∙ sym (among_both key (entry_names (entries_of program unit)) (given_from program own_names (module_keys program unit)))
