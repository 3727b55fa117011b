-- The crate's own names are no candidates, so it makes no difference whether they are taken.
use Rattle.std.proofs.Common.{◌≡◌, ℕ, zero, suc, ◌+◌, ◌<◌, ◌^◌, Bool, true, false, not, cond, ◌||◌, IsTrue, List, [], ◌∷◌, ◌++◌, length, codes, Option, Some, None, bytes_eq, refl, sym, ap, ◌∙◌, arith, subst}
use Rattle.std.proofs.lemmas.List.{length-append}
use Rattle.cx_core.specs.Trees.{CProgram}
use Rattle.rs_items_sets.specs.LawsNames.{AreFew}
use Rattle.rs_items_sets.specs.Names.{reserved, is_excluded, is_entry_in, is_main_in, raw_or_same, unless, suffixed, candidate, rust_name, IsGone, IsRustName}
use Rattle.rs_items_sets.specs.declared.scope.NameScope.{NameScope}
use Rattle.rs_items_sets.specs.declared.scope.NameScope.TheVariants.{Module, Function, Fields}
use Rattle.rs_items_sets.proofs.FirstFree.{names_first}
use Rattle.rs_items_sets.proofs.Pigeons.{pigeon}
use Rattle.rs_items_sets.proofs.Search.{IsThere, low_first, not_not}
use Rattle.rs_items_sets.proofs.Suffixes.{neither, no_word, other_way, suffixed_has, suffixes_differ}
use Rattle.rs_text.specs.Names.{is_among, path_words, keywords}
use Rattle.whole_names.specs.Keys.{NameKey}
use Rattle.whole_names.specs.ModuleNames.{given_from, own_names, wanted_name}

-- the sets of modules and of functions
abbrev pub HasItems : NameScope → Type 0
HasItems Module = Unit {0}
HasItems Function = Unit {0}
HasItems Fields = ⊥

-- ---- the number of the first free candidate

not_entry : (scope : NameScope) (name : List ℕ) → bytes_eq name (codes "main_0") ≡ false → is_entry_in scope name ≡ false
not_entry Module name e = e
not_entry Function name e = e
not_entry Fields name e = refl

one_there : (taken : List (List ℕ)) (scope : NameScope) (name : List ℕ) → AreFew taken → IsThere taken (candidate scope name) 0 (0 + (length taken + 3))
one_there taken scope name few =
    let found = pigeon (codes "main_0" ∷ taken) (suffixed name) (λ j k low small same. suffixes_differ name j k (omega (arith, low, few)) (omega (arith, small, few)) same) in
    let both = neither (bytes_eq (codes "main_0") (suffixed name found.number)) (is_among taken (suffixed name found.number)) found.free in
    record {
      number = suc found.number;
      reached = omega arith;
      below = omega (arith, found.below);
      one = suffixed name found.number;
      is = ap (λ r. unless r (suffixed name found.number)) (not_entry scope (suffixed name found.number) (other_way (codes "main_0") (suffixed name found.number) both.0));
      free = both.1;
    }

few_numbers : (taken : List (List ℕ)) (scope : NameScope) (name one : List ℕ) → AreFew taken → (a : IsRustName taken scope name one) → a.number < 2 ^ 64
few_numbers taken scope name one few a =
    let low = low_first taken (candidate scope name) (0 + (length taken + 3)) one (one_there taken scope name few) a in
    omega (arith, low, few)

-- ---- candidates

either_not : (a b : Bool) → a ≡ false → b ≡ false → (a || (b || false)) ≡ false
either_not a b e f = ap (λ t. t || (b || false)) e ∙ ap (λ t. t || false) f

unreserved : (name : List ℕ) → is_among reserved name ≡ false → is_among own_names name ≡ false
unfolding reserved
unreserved name h =
    let initialiser = neither (bytes_eq (codes "run_static_initializers") name) _ h in
    let block = neither (bytes_eq (codes "current_block") name) _ initialiser.1 in
    let main = neither (bytes_eq (codes "main_0") name) _ block.1 in
    either_not (bytes_eq (codes "main_0") name) (bytes_eq (codes "run_static_initializers") name) main.0 initialiser.0

itself_not_own : (scope : NameScope) (name one : List ℕ) → candidate scope name 0 ≡ Some one → is_among own_names one ≡ false
itself_not_own scope name one is = by_excluded (is_excluded scope name) refl
  where
    by_keyword : is_excluded scope name ≡ false → raw_or_same name ≡ one → (r : Bool) → is_among keywords name ≡ r → is_among own_names one ≡ false
    by_keyword candid same true e =
        let raw : codes "r#" ++ name ≡ one = sym (ap (λ r. cond r (codes "r#" ++ name) name) e) ∙ same in
        subst (λ n. is_among own_names n ≡ false) raw refl
    by_keyword candid same false e =
        let own : name ≡ one = sym (ap (λ r. cond r (codes "r#" ++ name) name) e) ∙ same in
        let known = neither (is_among path_words name || is_among reserved name) (is_main_in scope name) candid in
        let path = neither (is_among path_words name) (is_among reserved name) known.0 in
        subst (λ n. is_among own_names n ≡ false) own (unreserved name path.1)

    by_excluded : (r : Bool) → is_excluded scope name ≡ r → is_among own_names one ≡ false
    by_excluded true e = let none : None ≡ Some one = sym (ap (λ r. unless r (raw_or_same name)) e) ∙ is in cc
    by_excluded false e = by_keyword e (let some : Some (raw_or_same name) ≡ Some one = sym (ap (λ r. unless r (raw_or_same name)) e) ∙ is in cc) (is_among keywords name) refl

entry_out : (scope : NameScope) (name : List ℕ) → HasItems scope → is_entry_in scope name ≡ false → bytes_eq (codes "main_0") name ≡ false
entry_out Module name wide e = other_way name (codes "main_0") e
entry_out Function name wide e = other_way name (codes "main_0") e
entry_out Fields name wide e = elim wide [ ]

suffixed_not_own : (scope : NameScope) (name one : List ℕ) (k : ℕ) → HasItems scope → k < 2 ^ 64 → candidate scope name (suc k) ≡ Some one → is_among own_names one ≡ false
suffixed_not_own scope name one k wide small is = by_entry (is_entry_in scope (suffixed name k)) refl
  where
    by_entry : (r : Bool) → is_entry_in scope (suffixed name k) ≡ r → is_among own_names one ≡ false
    by_entry true e = let none : None ≡ Some one = sym (ap (λ r. unless r (suffixed name k)) e) ∙ is in cc
    by_entry false e =
        let same : suffixed name k ≡ one = (let some : Some (suffixed name k) ≡ Some one = sym (ap (λ r. unless r (suffixed name k)) e) ∙ is in cc) in
        let initialiser = no_word (codes "run_static_initializers" ∷ []) (suffixed name k) refl (suffixed_has name k small) in
        subst (λ n. is_among own_names n ≡ false) same
        (ap (λ t. t || is_among (codes "run_static_initializers" ∷ []) (suffixed name k)) (entry_out scope (suffixed name k) wide e) ∙ initialiser)

not_own : (scope : NameScope) (name one : List ℕ) (k : ℕ) → HasItems scope → k < 2 ^ 64 → candidate scope name k ≡ Some one → is_among own_names one ≡ false
not_own scope name one zero wide small is = itself_not_own scope name one is
not_own scope name one (suc k) wide small is = suffixed_not_own scope name one k wide (omega (arith, small)) is

-- ---- the first free one

more_taken : (a b t : Bool) → t ≡ true → (a || (b || t)) ≡ true
more_taken true b t e = refl
more_taken false true t e = refl
more_taken false false t e = e

still_gone : (taken : List (List ℕ)) (one : Option (List ℕ)) → IsGone taken one → IsGone (own_names ++ taken) one
still_gone taken None gone = tt
still_gone taken (Some name) gone = more_taken (bytes_eq (codes "main_0") name) (bytes_eq (codes "run_static_initializers") name) (is_among taken name) gone

still_free : (a b t : Bool) → (a || (b || false)) ≡ false → not t ≡ true → not (a || (b || t)) ≡ true
still_free true b t e f = cc
still_free false true t e f = cc
still_free false false t e f = f

-- the names of a module or function behind the crate's own are those that they would be without them
pub own_free : (taken : List (List ℕ)) (scope : NameScope) (name : List ℕ) → HasItems scope → length taken + 5 < 2 ^ 64 →
    rust_name (own_names ++ taken) scope name ≡ rust_name taken scope name
own_free taken scope name wide few =
    let fewer : AreFew taken = omega (arith, few) in
    let one = rust_name taken scope name in
    let a = names_first.first taken scope name fewer in
    let apart = not_own scope name one a.number wide (few_numbers taken scope name one fewer a) a.is in
    let both : AreFew (own_names ++ taken) = omega (arith, few) in
    sym (names_first.only (own_names ++ taken) scope name one both (record {
      number = a.number;
      is = a.is;
      free = still_free (bytes_eq (codes "main_0") one) (bytes_eq (codes "run_static_initializers") one) (is_among taken one) apart a.free;
      first = λ k low. still_gone taken (candidate scope name k) (a.first k low);
    }))

-- and so it is for those of several keys
pub given_own : (program : CProgram) (taken : List (List ℕ)) (keys : List NameKey) → length taken + length keys + 5 < 2 ^ 64 →
    given_from program (own_names ++ taken) keys ≡ given_from program taken keys
given_own program taken [] few = refl
given_own program taken (key ∷ keys) few =
    let name = rust_name taken Module (wanted_name program key) in
    let same : rust_name (own_names ++ taken) Module (wanted_name program key) ≡ name = own_free taken Module (wanted_name program key) tt (omega (arith, few)) in
    let longer : length (taken ++ name ∷ []) ≡ length taken + 1 = length-append taken (name ∷ []) in
    ap (λ (n : List ℕ). record { key = key; name = n } ∷ given_from program ((own_names ++ taken) ++ n ∷ []) keys) same
    ∙ ap (λ others. record { key = key; name = name } ∷ others) (given_own program (taken ++ name ∷ []) keys (omega (arith, few, longer)))
