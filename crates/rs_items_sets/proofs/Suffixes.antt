-- Names with suffixes: they differ, and are no words that have no digit.
use Rattle.std.proofs.Common.{◌≡◌, ℕ, ◌<◌, ◌^◌, Bool, true, false, not, ◌&&◌, ◌||◌, List, [], ◌∷◌, ◌++◌, length, codes, bytes_eq, refl, sym, ap, ◌∙◌, arith}
use Rattle.std.specs.Fmt.{decimal}
use Rattle.std.specs.List.{list_all}
use Rattle.std.specs.Str.Parse.{AllDigits}
use Rattle.std.proofs.lemmas.Bool.Decides.{nat_tests}
use Rattle.std.proofs.lemmas.Fmt.{decimal_is_IsNumeral, decimal_injective}
use Rattle.std.proofs.lemmas.Str.Parse.{digit_from_value}
use Rattle.std.proofs.lemmas.Slice.Eq.{bytes_eq-Decides}
use Rattle.rs_items_sets.specs.Names.{suffixed}
use Rattle.rs_items_sets.proofs.Search.{not_not}
use Rattle.rs_text.specs.Names.{is_among, is_digit, is_word, is_word_byte, is_identifier, is_raw_identifier, path_words, keywords}

-- ---- they differ

same_rest : (front one other : List ℕ) → front ++ one ≡ front ++ other → one ≡ other
same_rest [] one other same = same
same_rest (byte ∷ front) one other same = same_rest front one other (let rest : front ++ one ≡ front ++ other = cc in rest)

pub suffixes_differ : (name : List ℕ) (j k : ℕ) → j < 2 ^ 64 → k < 2 ^ 64 → suffixed name j ≡ suffixed name k → j ≡ k
suffixes_differ name j k low small same = decimal_injective j k low small (let digits : decimal j ≡ decimal k = (let behind : codes "_" ++ decimal j ≡ codes "_" ++ decimal k = same_rest name (codes "_" ++ decimal j) (codes "_" ++ decimal k) same in cc) in digits)

pub other_way : (a b : List ℕ) → bytes_eq a b ≡ false → bytes_eq b a ≡ false
other_way a b apart = by_test (bytes_eq b a) refl
  where
    by_test : (r : Bool) → bytes_eq b a ≡ r → bytes_eq b a ≡ false
    by_test true e = let same : bytes_eq a b ≡ true = (bytes_eq-Decides a b).1 (sym ((bytes_eq-Decides b a).0 e)) in cc
    by_test false e = e

pub neither : (a b : Bool) → (a || b) ≡ false → (a ≡ false) × (b ≡ false)
neither true b h = cc
neither false b h = (refl, h)

-- ---- words of which none has a digit

pub both : (a b : Bool) → a ≡ true → b ≡ true → (a && b) ≡ true
both a b e f = ap (λ t. t && b) e ∙ f

pub parts : (a b : Bool) → (a && b) ≡ true → (a ≡ true) × (b ≡ true)
parts true b h = (refl, h)
parts false b h = cc

abbrev pub has_digit : List ℕ → Bool
has_digit [] = false
has_digit (byte ∷ bytes) = is_digit byte || has_digit bytes

abbrev pub lack_digits : List (List ℕ) → Bool
lack_digits [] = true
lack_digits (word ∷ words) = not (has_digit word) && lack_digits words

no_word_by : (word name : List ℕ) (rest : Bool) → not (has_digit word) ≡ true → has_digit name ≡ true → rest ≡ false → (r : Bool) → bytes_eq word name ≡ r → (bytes_eq word name || rest) ≡ false
no_word_by word name rest lacks has none true e =
    let no : has_digit word ≡ false = not_not (has_digit word) lacks in
    let some : has_digit word ≡ true = ap has_digit ((bytes_eq-Decides word name).0 e) ∙ has in
    cc
no_word_by word name rest lacks has none false e = ap (λ t. t || rest) e ∙ none

pub no_word : (words : List (List ℕ)) (name : List ℕ) → lack_digits words ≡ true → has_digit name ≡ true → is_among words name ≡ false
no_word [] name lack has = refl
no_word (word ∷ words) name lack has =
    let known = parts (not (has_digit word)) (lack_digits words) lack in
    no_word_by word name (is_among words name) known.0 has (no_word words name known.1 has) (bytes_eq word name) refl

pub keywords_lack : lack_digits keywords ≡ true
unfolding keywords
keywords_lack = refl

pub path_words_lack : lack_digits path_words ≡ true
unfolding path_words
path_words_lack = refl

pub or_right : (a b : Bool) → b ≡ true → (a || b) ≡ true
or_right true b h = refl
or_right false b h = h

pub digit_behind : (front rest : List ℕ) → has_digit rest ≡ true → has_digit (front ++ rest) ≡ true
digit_behind [] rest has = has
digit_behind (byte ∷ front) rest has = or_right (is_digit byte) (has_digit (front ++ rest)) (digit_behind front rest has)

some_digit : (digits : List ℕ) → 0 < length digits → AllDigits 10 digits → has_digit digits ≡ true
some_digit [] some all = absurd (omega (arith, some))
some_digit (digit ∷ digits) some all =
    let range = digit_from_value digit all.0 in
    let one : is_digit digit ≡ true = grind (arith, nat_tests, range) in
    ap (λ t. t || has_digit digits) one

pub suffixed_has : (name : List ℕ) (k : ℕ) → k < 2 ^ 64 → has_digit (suffixed name k) ≡ true
suffixed_has name k small = digit_behind name (codes "_" ++ decimal k) (digit_behind (codes "_") (decimal k) (some_digit (decimal k) (decimal_is_IsNumeral k small).0.0 (decimal_is_IsNumeral k small).0.1))

digit_bytes : (digits : List ℕ) → AllDigits 10 digits → list_all is_word_byte digits ≡ true
digit_bytes [] all = refl
digit_bytes (digit ∷ digits) all =
    let range = digit_from_value digit all.0 in
    let byte : is_word_byte digit ≡ true = grind (arith, nat_tests, range) in
    both (is_word_byte digit) (list_all is_word_byte digits) byte (digit_bytes digits all.1)

pub all_behind : (front rest : List ℕ) → list_all is_word_byte front ≡ true → list_all is_word_byte rest ≡ true → list_all is_word_byte (front ++ rest) ≡ true
all_behind [] rest front_is rest_is = rest_is
all_behind (byte ∷ front) rest front_is rest_is =
    let known = parts (is_word_byte byte) (list_all is_word_byte front) front_is in
    both (is_word_byte byte) (list_all is_word_byte (front ++ rest)) known.0 (all_behind front rest known.1 rest_is)

pub suffixed_word : (name : List ℕ) (k : ℕ) → k < 2 ^ 64 → is_word name ≡ true → is_word (suffixed name k) ≡ true
suffixed_word [] k small word = cc
suffixed_word (first ∷ rest) k small word =
    let known = parts (not (is_digit first)) (list_all is_word_byte (first ∷ rest)) word in
    both (not (is_digit first)) (list_all is_word_byte ((first ∷ rest) ++ (codes "_" ++ decimal k))) known.0
    (all_behind (first ∷ rest) (codes "_" ++ decimal k) known.1 (digit_bytes (decimal k) (decimal_is_IsNumeral k small).0.1))

pub plain_by : (name : List ℕ) → is_word name ≡ true → is_among path_words name ≡ false → is_among keywords name ≡ false → is_identifier name ≡ true
plain_by name word path key =
    ap (λ t. t || is_raw_identifier name) (both (is_word name && not (is_among path_words name)) (not (is_among keywords name))
    (both (is_word name) (not (is_among path_words name)) word (ap not path)) (ap not key))
