-- Which kind of token a front can be, by its first byte, and the longest token.
use Rattle.std.proofs.Common.{◌≡◌, ℕ, ◌<◌, ◌==◌, Bool, true, false, ◌&&◌, ◌||◌, Option, Some, None, option_map, List, [], ◌∷◌, get_or, bytes_eq, refl, ap, ◌∙◌, ⊎_elim, arith}
use Rattle.std.specs.Char.{is_ascii_digit}
use Rattle.std.proofs.lemmas.Bool.{cond-false, and_left, and_right, and_cases, or_parts, or_from, agree_below, agree_below_at, both_ways}
use Rattle.std.proofs.lemmas.Bool.Decides.{nat_tests}
use Rattle.cx_lex.specs.declared.token.Punct.{Punct}
use Rattle.cx_lex.specs.declared.token.TokenKind.TheVariants.{Mark}
use Rattle.cx_lex.specs.Bytes.{dot, double_quote, apostrophe, is_nondigit}
use Rattle.cx_lex.specs.Words.{entry_of, keywords, key_or_word, is_identifier, word_of}
use Rattle.cx_lex.specs.Numbers.{begins_number, is_number, number_from, whole_number, number_token}
use Rattle.cx_lex.specs.Literals.{text_from, whole_text, text_of, letter_from, whole_letter, letter_of}
use Rattle.cx_lex.specs.Marks.{marks, mark_of}
use Rattle.cx_lex.specs.Tokens.{or_else, token_of}

-- ---- marks and their first bytes

-- some text of a table begins with a byte, or with two
abbrev begins_entry : List (List ℕ × Punct) → ℕ → Bool
begins_entry [] b = false
begins_entry (entry ∷ table) b = b == get_or entry.0 0 0 || begins_entry table b

abbrev begins_entry_with : List (List ℕ × Punct) → ℕ → ℕ → Bool
begins_entry_with [] b c = false
begins_entry_with (entry ∷ table) b c = (b == get_or entry.0 0 0 && c == get_or entry.0 1 0) || begins_entry_with table b c

other_text : (b : ℕ) (front text : List ℕ) → (b == get_or text 0 0) ≡ false → bytes_eq (b ∷ front) text ≡ false
other_text b front [] other = refl
other_text b front (c ∷ text) other = and_left _ _ other

other_text_with : (b c : ℕ) (front text : List ℕ) → (b == get_or text 0 0 && c == get_or text 1 0) ≡ false → bytes_eq (b ∷ c ∷ front) text ≡ false
other_text_with b c front [] other = refl
other_text_with b c front (d ∷ []) other = and_right (b == d) false refl
other_text_with b c front (d ∷ e ∷ text) other =
    ⊎_elim (λ first. and_left _ _ first) (λ second. and_right (b == d) _ (and_left _ _ second)) (and_cases (b == d) (c == e) other)

no_entry : (table : List (List ℕ × Punct)) (b : ℕ) (front : List ℕ) → begins_entry table b ≡ false → entry_of table (b ∷ front) ≡ None
no_entry [] b front other = refl
no_entry (entry ∷ table) b front other =
    let parts = or_parts (b == get_or entry.0 0 0) (begins_entry table b) other in
    cond-false (bytes_eq (b ∷ front) entry.0) (Some entry.1) (entry_of table (b ∷ front)) (other_text b front entry.0 parts.0) ∙ no_entry table b front parts.1

no_entry_with : (table : List (List ℕ × Punct)) (b c : ℕ) (front : List ℕ) → begins_entry_with table b c ≡ false → entry_of table (b ∷ c ∷ front) ≡ None
no_entry_with [] b c front other = refl
no_entry_with (entry ∷ table) b c front other =
    let parts = or_parts (b == get_or entry.0 0 0 && c == get_or entry.0 1 0) (begins_entry_with table b c) other in
    cond-false (bytes_eq (b ∷ c ∷ front) entry.0) (Some entry.1) (entry_of table (b ∷ c ∷ front)) (other_text_with b c front entry.0 parts.0) ∙ no_entry_with table b c front parts.1

-- ---- classes of bytes that exclude one another

abbrev not_in_word : ℕ → Bool
not_in_word b = (((is_ascii_digit b || b == dot) || b == apostrophe) || b == double_quote) || begins_entry marks b

abbrev not_in_number : ℕ → Bool
not_in_number b = ((is_nondigit b || b == apostrophe) || b == double_quote) || begins_entry marks b

word_bytes : agree_below (λ b. is_nondigit b && not_in_word b) (λ b. false) 128 ≡ true
unfolding marks
word_bytes = refl

digit_bytes : agree_below (λ b. is_ascii_digit b && not_in_number b) (λ b. false) 128 ≡ true
unfolding marks
digit_bytes = refl

point_bytes : agree_below (λ c. is_ascii_digit c && begins_entry_with marks 46 c) (λ c. false) 128 ≡ true
unfolding marks
point_bytes = refl

below_nondigit : (b : ℕ) → is_nondigit b ≡ true → b < 128
below_nondigit b is = grind (arith, nat_tests)

below_digit : (b : ℕ) → is_ascii_digit b ≡ true → b < 128
below_digit b is = grind (arith, nat_tests)

second_false : (a b : Bool) → (a && b) ≡ false → a ≡ true → b ≡ false
second_false a b h is = ⊎_elim (λ other. absurd (both_ways a other is)) (λ h. h) (and_cases a b h)

word_not : (b : ℕ) → is_nondigit b ≡ true → not_in_word b ≡ false
word_not b is =
    second_false (is_nondigit b) (not_in_word b) (agree_below_at (λ b. is_nondigit b && not_in_word b) (λ b. false) 128 b word_bytes (below_nondigit b is)) is

digit_not : (b : ℕ) → is_ascii_digit b ≡ true → not_in_number b ≡ false
digit_not b is =
    second_false (is_ascii_digit b) (not_in_number b) (agree_below_at (λ b. is_ascii_digit b && not_in_number b) (λ b. false) 128 b digit_bytes (below_digit b is)) is

point_not : (c : ℕ) → is_ascii_digit c ≡ true → begins_entry_with marks 46 c ≡ false
point_not c is =
    second_false (is_ascii_digit c) (begins_entry_with marks 46 c)
    (agree_below_at (λ c. is_ascii_digit c && begins_entry_with marks 46 c) (λ c. false) 128 c point_bytes (below_digit c is)) is

-- ---- what a front is not

module _ (b : ℕ) (front : List ℕ) where
  no_word : is_nondigit b ≡ false → word_of (b ∷ front) ≡ None
  no_word other = cond-false (is_identifier (b ∷ front)) (Some (key_or_word (b ∷ front) (entry_of keywords (b ∷ front)))) None (and_left _ _ other)

  no_number : begins_number (b ∷ front) ≡ false → number_token (b ∷ front) ≡ None
  no_number other = cond-false (is_number (b ∷ front)) (whole_number (number_from (b ∷ front))) None (and_left _ _ other)

  no_letter : (b == apostrophe) ≡ false → letter_of (b ∷ front) ≡ None
  no_letter other = cond-false (b == apostrophe) (whole_letter (letter_from front)) None other

  no_text : (b == double_quote) ≡ false → text_of (b ∷ front) ≡ None
  no_text other = cond-false (b == double_quote) (whole_text (text_from 0 front)) None other

  no_mark : begins_entry marks b ≡ false → mark_of (b ∷ front) ≡ None
  no_mark other = ap (option_map Mark) (no_entry marks b front other)

or_else-none : {A : Type 0} (o : Option A) → or_else o None ≡ o
or_else-none None = refl
or_else-none (Some a) = refl

-- ---- what it can be

-- no number begins with the byte
no_begin : (b : ℕ) (front : List ℕ) → is_ascii_digit b ≡ false → (b == dot) ≡ false → begins_number (b ∷ front) ≡ false
no_begin b front digit point = or_from _ _ digit (and_left _ _ point)

pub token-word : (b : ℕ) (front : List ℕ) → is_nondigit b ≡ true → token_of (b ∷ front) ≡ word_of (b ∷ front)
token-word b front word =
    let first = or_parts _ _ (word_not b word) in
    let second = or_parts _ _ first.0 in
    let third = or_parts _ _ second.0 in
    let fourth = or_parts _ _ third.0 in
    (λ i. or_else (word_of (b ∷ front)) (or_else (no_number b front (no_begin b front fourth.0 fourth.1) i)
    (or_else (no_letter b front third.1 i) (or_else (no_text b front second.1 i) (no_mark b front first.1 i)))))
    ∙ or_else-none (word_of (b ∷ front))

pub token-number : (b : ℕ) (front : List ℕ) → is_ascii_digit b ≡ true → token_of (b ∷ front) ≡ number_token (b ∷ front)
token-number b front digit =
    let first = or_parts _ _ (digit_not b digit) in
    let second = or_parts _ _ first.0 in
    let third = or_parts _ _ second.0 in
    (λ i. or_else (no_word b front third.0 i) (or_else (number_token (b ∷ front))
    (or_else (no_letter b front third.1 i) (or_else (no_text b front second.1 i) (no_mark b front first.1 i)))))
    ∙ or_else-none (number_token (b ∷ front))

pub token-point : (c : ℕ) (front : List ℕ) → is_ascii_digit c ≡ true → token_of (46 ∷ c ∷ front) ≡ number_token (46 ∷ c ∷ front)
token-point c front digit =
    ap (λ (o : Option Punct). or_else (number_token (46 ∷ c ∷ front)) (option_map Mark o)) (no_entry_with marks 46 c front (point_not c digit))
    ∙ or_else-none (number_token (46 ∷ c ∷ front))

no_quote_mark : begins_entry marks 34 ≡ false
unfolding marks
no_quote_mark = refl

no_apostrophe_mark : begins_entry marks 39 ≡ false
unfolding marks
no_apostrophe_mark = refl

pub token-text : (front : List ℕ) → token_of (34 ∷ front) ≡ text_of (34 ∷ front)
token-text front = ap (or_else (text_of (34 ∷ front))) (no_mark 34 front no_quote_mark) ∙ or_else-none (text_of (34 ∷ front))

pub token-letter : (front : List ℕ) → token_of (39 ∷ front) ≡ letter_of (39 ∷ front)
token-letter front = ap (or_else (letter_of (39 ∷ front))) (no_mark 39 front no_apostrophe_mark) ∙ or_else-none (letter_of (39 ∷ front))

pub token-mark : (b : ℕ) (front : List ℕ) → is_nondigit b ≡ false → begins_number (b ∷ front) ≡ false → (b == apostrophe) ≡ false → (b == double_quote) ≡ false
    → token_of (b ∷ front) ≡ mark_of (b ∷ front)
token-mark b front word number letter text =
    λ i. or_else (no_word b front word i) (or_else (no_number b front number i) (or_else (no_letter b front letter i) (or_else (no_text b front text i) (mark_of (b ∷ front)))))
