-- The label of each number is a label (the Rust Reference, "Lifetimes and loop labels" and "Keywords").
use Rattle.std.proofs.Common.{◌≡◌, ℕ, zero, suc, ◌^◌, ◌<◌, ◌==◌, nat_lt, Bool, true, false, not, ◌&&◌, ◌||◌, List, [], ◌∷◌, length, replicate, bytes_eq, if◌then◌else◌, arith, tests, refl, sym, ap, subst}
use Rattle.std.proofs.lemmas.Bool.Decides.{nat_tests}
use Rattle.std.proofs.lemmas.Fmt.{decimal_is_IsNumeral}
use Rattle.std.proofs.lemmas.Str.Parse.{digit_from_value}
use Rattle.std.specs.Cmp.Lexicographic.{same_text}
use Rattle.std.specs.Fmt.{decimal}
use Rattle.std.specs.List.{list_all}
use Rattle.std.specs.Str.Parse.{AllDigits}
use Rattle.rs_text.specs.Names.{is_digit, is_word_byte, is_word, is_among, path_words, keywords, is_label}
use Rattle.emit_rules.specs.Jumps.{numeral, label_of}
use Rattle.emit_laws.proofs.Closing.{and_left, and_right, and_both}

-- a word that begins as a label of a number does: with an `l`, and a digit or `_` behind it
abbrev begins_numeral : List ℕ → Bool
begins_numeral [] = false
begins_numeral (byte ∷ bytes) = is_digit byte || byte == 95

abbrev is_numbered : List ℕ → Bool
is_numbered [] = false
is_numbered (byte ∷ bytes) = byte == 108 && begins_numeral bytes

abbrev none_numbered : List (List ℕ) → Bool
none_numbered [] = true
none_numbered (word ∷ words) = not (is_numbered word) && none_numbered words

keywords_are_not : none_numbered keywords ≡ true
unfolding keywords
keywords_are_not = refl

path_words_are_not : none_numbered path_words ≡ true
unfolding path_words
path_words_are_not = refl

-- such a word is none of others
not_among : (words : List (List ℕ)) (name : List ℕ) → none_numbered words ≡ true → is_numbered name ≡ true → is_among words name ≡ false
not_among [] name none is = refl
not_among (word ∷ words) name none is = by_test (bytes_eq word name) refl (not_among words name (and_right (not (is_numbered word)) (none_numbered words) none) is)
  where
    never : (test : Bool) → test ≡ true → not test ≡ true → ⊥
    never true is_true no_way = cc
    never false is_true no_way = cc

    by_test : (test : Bool) → bytes_eq word name ≡ test → is_among words name ≡ false → (test || is_among words name) ≡ false
    by_test true same rest =
        absurd (never (is_numbered word) (subst (λ (one : List ℕ). is_numbered one ≡ true) (sym (same_text word name (sym same))) is) (and_left (not (is_numbered word)) (none_numbered words) none))
    by_test false same rest = rest

-- ---- numerals

record IsWritten (bytes : List ℕ) : Type 0 where
  begins : begins_numeral bytes ≡ true
  all : list_all is_word_byte bytes ≡ true

digit_bytes : (digits : List ℕ) → AllDigits 10 digits → list_all is_word_byte digits ≡ true
digit_bytes [] all = refl
digit_bytes (digit ∷ digits) all =
    let range = digit_from_value digit all.0 in
    let byte : is_word_byte digit ≡ true = grind (arith, nat_tests, range) in
    and_both (is_word_byte digit) (list_all is_word_byte digits) byte (digit_bytes digits all.1)

digits_begin : (digits : List ℕ) → 0 < length digits → AllDigits 10 digits → begins_numeral digits ≡ true
digits_begin [] some all = absurd (omega (arith, some))
digits_begin (digit ∷ digits) some all =
    let range = digit_from_value digit all.0 in
    let one : is_digit digit ≡ true = grind (arith, nat_tests, range) in
    ap (λ (test : Bool). test || digit == 95) one

low_lines : (count : ℕ) → list_all is_word_byte (replicate count 95) ≡ true
low_lines zero = refl
low_lines (suc count) = low_lines count

lines_begin : (count : ℕ) → 0 < count → begins_numeral (replicate count 95) ≡ true
lines_begin zero some = absurd (omega (arith, some))
lines_begin (suc count) some = refl

numeral_written : (number : ℕ) → IsWritten (numeral number)
numeral_written number = by_size (nat_lt number (2 ^ 64)) refl
  where
    is_small : nat_lt number (2 ^ 64) ≡ true → number < 2 ^ 64
    is_small is = omega (arith, tests, is)

    is_some : nat_lt number (2 ^ 64) ≡ false → 0 < number
    is_some is = grind (arith, tests, is)

    by_size : (small : Bool) → nat_lt number (2 ^ 64) ≡ small → IsWritten (if small then decimal number else replicate number 95)
    by_size true is =
        let digits = (decimal_is_IsNumeral number (is_small is)).0 in
        record { begins = digits_begin (decimal number) digits.0 digits.1; all = digit_bytes (decimal number) digits.1 }
    by_size false is = record { begins = lines_begin number (is_some is); all = low_lines number }

pub label_is : (number : ℕ) → is_label (label_of number) ≡ true
label_is number =
    let written = numeral_written number in
    let numbered : is_numbered (label_of number) ≡ true = written.begins in
    and_both (is_word (label_of number) && not (is_among path_words (label_of number))) (not (is_among keywords (label_of number)))
    (and_both (is_word (label_of number)) (not (is_among path_words (label_of number))) written.all (ap not (not_among path_words (label_of number) path_words_are_not numbered)))
    (ap not (not_among keywords (label_of number) keywords_are_not numbered))
