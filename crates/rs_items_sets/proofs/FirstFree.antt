-- The Rust name of a name is its first candidate that isn't taken.
use Rattle.std.proofs.Common.{◌≡◌, ℕ, zero, suc, ◌+◌, ◌<◌, ◌^◌, Bool, true, false, cond, ◌||◌, List, ◌∷◌, ◌++◌, length, codes, Some, None, bytes_eq, refl, sym, ap, ◌∙◌, arith, subst}
use Rattle.rs_items_sets.specs.LawsNames.{AreFew, NamesAreFirst}
use Rattle.rs_items_sets.specs.Names.{reserved, is_excluded, is_entry_in, is_main_in, raw_or_same, unless, suffixed, candidate, rust_name, IsRustName}
use Rattle.rs_items_sets.specs.declared.scope.NameScope.{NameScope}
use Rattle.rs_items_sets.specs.declared.scope.NameScope.TheVariants.{Module, Function, Fields}
use Rattle.rs_items_sets.proofs.Pigeons.{pigeon}
use Rattle.rs_items_sets.proofs.Search.{IsThere, found_first, low_first, not_not, only_first}
use Rattle.rs_items_sets.proofs.Suffixes.{keywords_lack, neither, no_word, or_right, other_way, path_words_lack, plain_by, suffixed_has, suffixed_word, suffixes_differ}
use Rattle.rs_text.specs.Names.{is_among, is_word, is_identifier, is_plain_identifier, is_raw_identifier, path_words, keywords}

-- ---- one is free

not_entry : (scope : NameScope) (name : List ℕ) → bytes_eq name (codes "main_0") ≡ false → is_entry_in scope name ≡ false
not_entry Module name e = e
not_entry Function name e = e
not_entry Fields name e = refl

one_there : (taken : List (List ℕ)) (scope : NameScope) (name : List ℕ) → AreFew taken → IsThere taken (candidate scope name) 0 (0 + (length taken + 3))
one_there taken scope name few =
    let found = pigeon (codes "main_0" ∷ taken) (suffixed name) (λ j k low small same. suffixes_differ name j k (omega (arith, low, few)) (omega (arith, small, few)) same) in
    let both = neither (bytes_eq (codes "main_0") (suffixed name found.number)) (is_among taken (suffixed name found.number)) found.free in
    record {
      number = suc found.number;
      reached = omega arith;
      below = omega (arith, found.below);
      one = suffixed name found.number;
      is = ap (λ r. unless r (suffixed name found.number)) (not_entry scope (suffixed name found.number) (other_way (codes "main_0") (suffixed name found.number) both.0));
      free = both.1;
    }

rust_name_first : (taken : List (List ℕ)) (scope : NameScope) (name : List ℕ) → AreFew taken → IsRustName taken scope name (rust_name taken scope name)
rust_name_first taken scope name few = found_first taken (candidate scope name) 0 (length taken + 3) (λ k low. absurd (omega (arith, low))) (one_there taken scope name few)

-- ---- it is an identifier

itself_identifier : (scope : NameScope) (name one : List ℕ) → is_word name ≡ true → candidate scope name 0 ≡ Some one → is_identifier one ≡ true
itself_identifier scope name one word is = by_excluded (is_excluded scope name) refl
  where
    by_keyword : is_excluded scope name ≡ false → raw_or_same name ≡ one → (r : Bool) → is_among keywords name ≡ r → is_identifier one ≡ true
    by_keyword candid same true e =
        let raw : codes "r#" ++ name ≡ one = sym (ap (λ r. cond r (codes "r#" ++ name) name) e) ∙ same in
        subst (λ n. is_identifier n ≡ true) raw (or_right (is_plain_identifier (codes "r#" ++ name)) (is_raw_identifier (codes "r#" ++ name)) e)
    by_keyword candid same false e =
        let own : name ≡ one = sym (ap (λ r. cond r (codes "r#" ++ name) name) e) ∙ same in
        let known = neither (is_among path_words name || is_among reserved name) (is_main_in scope name) candid in
        let path = neither (is_among path_words name) (is_among reserved name) known.0 in
        subst (λ n. is_identifier n ≡ true) own (plain_by name word path.0 e)

    by_excluded : (r : Bool) → is_excluded scope name ≡ r → is_identifier one ≡ true
    by_excluded true e = let none : None ≡ Some one = sym (ap (λ r. unless r (raw_or_same name)) e) ∙ is in cc
    by_excluded false e = by_keyword e (let some : Some (raw_or_same name) ≡ Some one = sym (ap (λ r. unless r (raw_or_same name)) e) ∙ is in cc) (is_among keywords name) refl

suffixed_identifier : (scope : NameScope) (name one : List ℕ) (k : ℕ) → k < 2 ^ 64 → is_word name ≡ true → candidate scope name (suc k) ≡ Some one → is_identifier one ≡ true
suffixed_identifier scope name one k small word is = by_entry (is_entry_in scope (suffixed name k)) refl
  where
    by_entry : (r : Bool) → is_entry_in scope (suffixed name k) ≡ r → is_identifier one ≡ true
    by_entry true e = let none : None ≡ Some one = sym (ap (λ r. unless r (suffixed name k)) e) ∙ is in cc
    by_entry false e =
        let same : suffixed name k ≡ one = (let some : Some (suffixed name k) ≡ Some one = sym (ap (λ r. unless r (suffixed name k)) e) ∙ is in cc) in
        subst (λ n. is_identifier n ≡ true) same (plain_by (suffixed name k) (suffixed_word name k small word)
        (no_word path_words (suffixed name k) path_words_lack (suffixed_has name k small)) (no_word keywords (suffixed name k) keywords_lack (suffixed_has name k small)))

candidate_identifier : (scope : NameScope) (name one : List ℕ) (k : ℕ) → k < 2 ^ 64 → is_word name ≡ true → candidate scope name k ≡ Some one → is_identifier one ≡ true
candidate_identifier scope name one zero small word is = itself_identifier scope name one word is
candidate_identifier scope name one (suc k) small word is = suffixed_identifier scope name one k (omega (arith, small)) word is

-- the free candidate that is there bounds the number of the first one
few_numbers : (taken : List (List ℕ)) (scope : NameScope) (name one : List ℕ) → AreFew taken → (a : IsRustName taken scope name one) → a.number < 2 ^ 64
few_numbers taken scope name one few a =
    let low = low_first taken (candidate scope name) (0 + (length taken + 3)) one (one_there taken scope name few) a in
    omega (arith, low, few)

pub names_first : NamesAreFirst
names_first = record {
  first = rust_name_first;
  only = λ taken scope name one few is. only_first taken (candidate scope name) one (rust_name taken scope name) is (rust_name_first taken scope name few);
  differs = λ taken scope name few. not_not (is_among taken (rust_name taken scope name)) (rust_name_first taken scope name few).free;
  identifier = λ taken scope name few word.
      let a = rust_name_first taken scope name few in
      candidate_identifier scope name (rust_name taken scope name) a.number (few_numbers taken scope name (rust_name taken scope name) few a) word a.is;
}
