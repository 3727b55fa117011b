-- What an identifier is to a reader.
use Rattle.std.proofs.Common.{◌≡◌, ℕ, Bool, true, false, not, ◌&&◌, ◌||◌, nat_eq, List, [], ◌∷◌, drop, take, codes, bytes_eq, refl, sym, ap, subst, ◌∙◌}
use Rattle.std.specs.Cmp.Lexicographic.{same_text}
use Rattle.std.specs.List.{list_all, starts_with}
use Rattle.std.proofs.lemmas.Bool.{and_parts, cond-false}
use Rattle.rs_expr.specs.Signs.{entry_of, words, word_sign, begins_with_digit}
use Rattle.rs_expr.specs.declared.sign.Sign.{Sign}
use Rattle.rs_expr.specs.declared.sign.Sign.TheVariants.{Name, Number}
use Rattle.rs_text.specs.Names.{is_digit, is_word_byte, is_word, is_among, path_words, keywords, is_plain_identifier, is_raw_identifier, is_identifier}

abbrev Table : Type 0
Table = List (List ℕ × Sign)

true_or_false : (b : Bool) → (b ≡ true → ⊥) → b ≡ false
true_or_false true h = absurd (h refl)
true_or_false false h = refl

pub not_true : (b : Bool) → not b ≡ true → b ≡ false
not_true true h = cc
not_true false h = refl

clash : (b : Bool) → b ≡ true → b ≡ false → ⊥
clash true h g = cc
clash false h g = cc

pub either_true : (a b : Bool) → (a || b) ≡ true → (b ≡ true → ⊥) → a ≡ true
either_true true b h no_b = refl
either_true false b h no_b = absurd (no_b h)

-- ---- a table without a word

abbrev differs : List ℕ → List ℕ × Sign → Bool
differs word entry = not (bytes_eq entry.0 word)

no_entry : (table : Table) (word : List ℕ) (other : Sign) → list_all (differs word) table ≡ true → entry_of table word other ≡ other
no_entry [] word other all = refl
no_entry (entry ∷ table) word other all =
    let parts = and_parts (differs word entry) (list_all (differs word) table) all in
    cond-false (bytes_eq entry.0 word) entry.1 (entry_of table word other) (not_true (bytes_eq entry.0 word) parts.0) ∙ no_entry table word other parts.1

-- a test that all keys of a table have, and a word hasn't
by_test : (test : List ℕ → Bool) (table : Table) (word : List ℕ) → list_all (λ entry. test entry.0) table ≡ true → test word ≡ false → list_all (differs word) table ≡ true
by_test test [] word all none = refl
by_test test (entry ∷ table) word all none =
    let parts = and_parts (test entry.0) (list_all (λ entry. test entry.0) table) all in
    let apart : bytes_eq entry.0 word ≡ false =
    true_or_false (bytes_eq entry.0 word) (λ same. clash (test entry.0) parts.0 (ap test (same_text entry.0 word (sym same)) ∙ none)) in
    ap (λ b. not b && list_all (differs word) table) apart ∙ by_test test table word parts.1 none

-- ---- plain identifiers

abbrev is_reserved : List ℕ → Bool
is_reserved word = is_among keywords word || is_among path_words word

words_are_reserved : list_all (λ (entry : List ℕ × Sign). is_reserved entry.0) words ≡ true
unfolding words keywords path_words
words_are_reserved = refl

first_of_word : (word : List ℕ) → is_word word ≡ true → begins_with_digit word ≡ false
first_of_word [] h = refl
first_of_word (first ∷ rest) h = not_true (is_digit first) (and_parts (not (is_digit first)) (list_all is_word_byte (first ∷ rest)) h).0

both_false : (a b : Bool) → a ≡ false → b ≡ false → (a || b) ≡ false
both_false true b h g = cc
both_false false b h g = g

pub record IsPlain (name : List ℕ) : Type 0 where
  pub word : is_word name ≡ true
  pub path : is_among path_words name ≡ false
  pub key : is_among keywords name ≡ false

pub plain_parts : (word : List ℕ) → is_plain_identifier word ≡ true → IsPlain word
plain_parts word h =
    let one = and_parts (is_word word && not (is_among path_words word)) (not (is_among keywords word)) h in
    let two = and_parts (is_word word) (not (is_among path_words word)) one.0 in
    record {
      word = two.0;
      path = not_true (is_among path_words word) two.1;
      key = not_true (is_among keywords word) one.1;
    }

by_sign : (word : List ℕ) → begins_with_digit word ≡ false → list_all (differs word) words ≡ true → word_sign word ≡ Name
by_sign word digit all =
    cond-false (begins_with_digit word) Number (entry_of words word Name) digit ∙ no_entry words word Name all

pub plain_sign : (word : List ℕ) → is_plain_identifier word ≡ true → word_sign word ≡ Name
plain_sign word h =
    let parts = plain_parts word h in
    by_sign word (first_of_word word parts.word)
    (by_test is_reserved words word words_are_reserved (both_false (is_among keywords word) (is_among path_words word) parts.key parts.path))

-- ---- raw identifiers

abbrev is_not_raw : List ℕ → Bool
is_not_raw word = not (starts_with nat_eq word (codes "r#"))

words_are_not_raw : list_all (λ (entry : List ℕ × Sign). is_not_raw entry.0) words ≡ true
unfolding words
words_are_not_raw = refl

raw_first : (word : List ℕ) → starts_with nat_eq word (codes "r#") ≡ true → begins_with_digit word ≡ false
raw_first [] h = refl
raw_first (first ∷ rest) h =
    let same : codes "r#" ≡ take 2 (first ∷ rest) = same_text (codes "r#") (take 2 (first ∷ rest)) (sym h) in
    let e : 114 ≡ first = ap (λ (l : List ℕ). slice_first l) same in
    subst (λ n. is_digit n ≡ false) e refl
  where
    slice_first : List ℕ → ℕ
    slice_first [] = 0
    slice_first (n ∷ ns) = n

pub raw_sign : (word : List ℕ) → is_raw_identifier word ≡ true → word_sign word ≡ Name
raw_sign word h =
    let raw = (and_parts (starts_with nat_eq word (codes "r#")) (is_among keywords (drop 2 word)) h).0 in
    by_sign word (raw_first word raw) (by_test is_not_raw words word words_are_not_raw (ap not raw))

identifier_by : (a b : Bool) (word : List ℕ) → (a || b) ≡ true → (a ≡ true → word_sign word ≡ Name) → (b ≡ true → word_sign word ≡ Name) → word_sign word ≡ Name
identifier_by true b word h plain raw = plain refl
identifier_by false b word h plain raw = raw h

pub name_sign : (word : List ℕ) → is_identifier word ≡ true → word_sign word ≡ Name
name_sign word h = identifier_by (is_plain_identifier word) (is_raw_identifier word) word h (plain_sign word) (raw_sign word)
