-- Names that are taken one behind the other differ.
use Rattle.std.proofs.Common.{◌≡◌, ℕ, ◌+◌, Bool, true, false, not, ◌&&◌, ◌||◌, List, [], ◌∷◌, ◌++◌, length, take, bytes_eq, refl, ap, ◌∙◌, arith}
use Rattle.std.specs.List.{list_all}
use Rattle.std.proofs.lemmas.List.{length-append}
use Rattle.std.proofs.lemmas.List.Folds.{list_any-append, list_all-append}
use Rattle.std.proofs.lemmas.Cmp.{nat_list_eq_equiv}
use Rattle.std.proofs.Math.Seq.{take-append_seam}
use Rattle.rs_items_sets.specs.LawsNames.{AreFew, AreFewWith, NamesDiffer}
use Rattle.rs_items_sets.specs.Names.{names_from, rust_name}
use Rattle.rs_items_sets.specs.declared.scope.NameScope.{NameScope}
use Rattle.rs_items_sets.proofs.FirstFree.{names_first}
use Rattle.rs_text.specs.Names.{is_among, is_word, is_identifier}
use Rattle.rs_text.specs.Valid.{all_differ}

both : (a b : Bool) → a ≡ true → b ≡ true → (a && b) ≡ true
both true true x y = refl
both true false x y = y
both false b x y = x

first_of : (a b : Bool) → (a && b) ≡ true → a ≡ true
first_of true b e = refl
first_of false b e = e

second_of : (a b : Bool) → (a && b) ≡ true → b ≡ true
second_of true b e = e
second_of false true e = refl
second_of false false e = e

none_of : (a b : Bool) → (a || b) ≡ false → b ≡ false
none_of true true e = e
none_of true false e = refl
none_of false b e = e

not_first : (a b : Bool) → (a || b) ≡ false → a ≡ false
not_first true b e = e
not_first false b e = refl

-- one more name that isn't taken
pub differ_last : (taken : List (List ℕ)) (name : List ℕ) → all_differ taken ≡ true → is_among taken name ≡ false → all_differ (taken ++ name ∷ []) ≡ true
differ_last [] name differ free = refl
differ_last (first ∷ others) name differ free =
    let apart = first_of (not (is_among others first)) (all_differ others) differ in
    let other : bytes_eq name first ≡ false = nat_list_eq_equiv.symm name first ∙ not_first (bytes_eq first name) (is_among others name) free in
    both (not (is_among (others ++ name ∷ []) first)) (all_differ (others ++ name ∷ []))
    (ap not (list_any-append (λ one. bytes_eq one first) others (name ∷ []) ∙ ap (λ t. is_among others first || (t || false)) other ∙ with_false (is_among others first)) ∙ apart)
    (differ_last others name (second_of (not (is_among others first)) (all_differ others) differ) (none_of (bytes_eq first name) (is_among others name) free))
  where
    with_false : (a : Bool) → (a || (false || false)) ≡ a
    with_false true = refl
    with_false false = refl

few_now : (taken : List (List ℕ)) (name : List ℕ) (names : List (List ℕ)) → AreFewWith taken (name ∷ names) → AreFew taken
few_now taken name names few = omega (arith, few)

few_later : (taken : List (List ℕ)) (one name : List ℕ) (names : List (List ℕ)) → AreFewWith taken (name ∷ names) → AreFewWith (taken ++ one ∷ []) names
few_later taken one name names few = omega (arith, few, length-append taken (one ∷ []))

all_last : (taken : List (List ℕ)) (name : List ℕ) → list_all is_identifier taken ≡ true → is_identifier name ≡ true → list_all is_identifier (taken ++ name ∷ []) ≡ true
all_last taken name all one =
    list_all-append is_identifier taken (name ∷ []) ∙ both (list_all is_identifier taken) (is_identifier name && true) all (both (is_identifier name) true one refl)

differ_all : (taken : List (List ℕ)) (scope : NameScope) (names : List (List ℕ)) → AreFewWith taken names → all_differ taken ≡ true → all_differ (names_from taken scope names) ≡ true
differ_all taken scope [] few differ = differ
differ_all taken scope (name ∷ names) few differ =
    differ_all (taken ++ rust_name taken scope name ∷ []) scope names (few_later taken (rust_name taken scope name) name names few)
    (differ_last taken (rust_name taken scope name) differ (names_first.differs taken scope name (few_now taken name names few)))

identifiers_all : (taken : List (List ℕ)) (scope : NameScope) (names : List (List ℕ)) → AreFewWith taken names → list_all is_identifier taken ≡ true → list_all is_word names ≡ true
    → list_all is_identifier (names_from taken scope names) ≡ true
identifiers_all taken scope [] few all words = all
identifiers_all taken scope (name ∷ names) few all words =
    identifiers_all (taken ++ rust_name taken scope name ∷ []) scope names (few_later taken (rust_name taken scope name) name names few)
    (all_last taken (rust_name taken scope name) all
    (names_first.identifier taken scope name (few_now taken name names few) (first_of (is_word name) (list_all is_word names) words)))
    (second_of (is_word name) (list_all is_word names) words)

count_all : (taken : List (List ℕ)) (scope : NameScope) (names : List (List ℕ)) → length (names_from taken scope names) ≡ length taken + length names
count_all taken scope [] = omega arith
count_all taken scope (name ∷ names) =
    let more = count_all (taken ++ rust_name taken scope name ∷ []) scope names in
    omega (arith, more, length-append taken (rust_name taken scope name ∷ []))

-- those that were taken, and what stands behind them
record StandsBehind (taken all : List (List ℕ)) : Type 0 where
  pub behind : List (List ℕ)
  pub is : all ≡ taken ++ behind

stands : (taken : List (List ℕ)) (scope : NameScope) (names : List (List ℕ)) → StandsBehind taken (names_from taken scope names)
stands taken scope [] = record { behind = []; is = no_more taken }
  where
    no_more : (all : List (List ℕ)) → all ≡ all ++ []
    no_more [] = refl
    no_more (one ∷ others) = ap (λ rest. one ∷ rest) (no_more others)
stands taken scope (name ∷ names) =
    let later = stands (taken ++ rust_name taken scope name ∷ []) scope names in
    record { behind = rust_name taken scope name ∷ later.behind; is = later.is ∙ between taken (rust_name taken scope name) later.behind }
  where
    between : (front : List (List ℕ)) (one : List ℕ) (back : List (List ℕ)) → (front ++ one ∷ []) ++ back ≡ front ++ one ∷ back
    between [] one back = refl
    between (first ∷ front) one back = ap (λ rest. first ∷ rest) (between front one back)

pub names_differ : NamesDiffer
names_differ = record {
  keeps = λ taken scope names. let all = stands taken scope names in ap (take (length taken)) all.is ∙ take-append_seam taken all.behind;
  count = count_all;
  differ = differ_all;
  identifiers = identifiers_all;
}
