-- What the code finds at a place is what stands there.
use Rattle.std.proofs.Common.{◌≡◌, ℕ, zero, suc, ◌+◌, ◌≤◌, ◌<◌, ◌==◌, nat_lt, Bool, true, false, ◌&&◌, ◌||◌, cond, Option, Some, None, Result, Ok, Err, List, [], ◌∷◌, length, take, drop, get_or, refl, sym, ap, ◌∙◌, subst, ⊎_elim, arith, one-add}
use Rattle.std.specs.List.{prefix_len}
use Rattle.std.specs.Char.{is_ascii_digit}
use Rattle.std.proofs.lemmas.Bool.{cond-true, cond-false, cases_Bool, and_left, and_right, and_parts, and_cases, or_from, or_cases, lt-ltb, eqb-true, both_ways}
use Rattle.cr_base.specs.declared.rule.Rule.{Rule}
use Rattle.cr_base.specs.declared.rule.Rule.TheVariants.{X2, X7, X8}
use Rattle.cx_lex.specs.declared.token.Ty0.{Ty0}
use Rattle.cx_lex.specs.Bytes.{slash, star, hash, percent, colon, dot, double_quote, apostrophe, is_white, is_nondigit, is_word_byte}
use Rattle.cx_lex.specs.Place.{is_in_line}
use Rattle.cx_lex.specs.Reading.{rule_of}
use Rattle.cx_lex.specs.Words.{entry_of, keywords, key_or_word, word_rule}
use Rattle.cx_lex.specs.Numbers.{continues_number, begins_number, is_number, number_from, number_token}
use Rattle.cx_lex.specs.Literals.{Read, text_from, letter_from}
use Rattle.cx_lex.specs.Tokens.{Piece, space, broken, spelled, space_or, rule_or, rule_at, piece_at, begins_with, begins_wide, word_size, number_size, token_of}
use Rattle.cx_lex.specs.Mirror.{run_size, line_size, comment_piece, marker_piece, text_read, text_piece, letter_read, letter_piece, number_read, number_piece, word_front, word_piece, mark_piece, token_way, way_at}
use Rattle.cx_lex.proofs.FrontLemmas.{longest-le}
use Rattle.cx_lex.proofs.WordLemmas.{word_size-is, continues-digit, number-digit, number-point, number-none}
use Rattle.cx_lex.proofs.TokenLemmas.{token-number, token-point}
use Rattle.cx_lex.proofs.SpaceLemmas.{space-white, space-other, space-comment, space-line, space-marker}
use Rattle.cx_lex.proofs.SpelledLemmas.{token_piece, word_bytes_size, word_size-some, word-spelled, number-spelled, text-spelled, letter-spelled, mark-spelled}

-- a place without white space
abbrev other_piece : List ℕ → Piece
other_piece bytes = rule_or (rule_at bytes) (token_piece bytes)

-- ---- by class, where no white space, no `#` and no wide literal stands

-- the first rule of a chain: of a text, of a letter, of a number of n bytes, of a word of w bytes
abbrev chain : Bool → Bool → Option Rule → Option Rule → (ℕ → Option Rule) → (ℕ → Option Rule) → ℕ → ℕ → Option Rule
chain is_text is_letter text letter number word n w =
    cond is_text text (cond is_letter letter (cond (nat_lt 0 n) (number n) (cond (nat_lt 0 w) (word w) None)))

chain-number : (text letter : Option Rule) (number word : ℕ → Option Rule) (n w : ℕ) → chain false false text letter number word (suc n) w ≡ number (suc n)
chain-number text letter number word n w = cond-true (nat_lt 0 (suc n)) (number (suc n)) (cond (nat_lt 0 w) (word w) None) (lt-ltb 0 (suc n) (omega arith))

chain-word : (text letter : Option Rule) (number word : ℕ → Option Rule) (w : ℕ) → chain false false text letter number word 0 (suc w) ≡ word (suc w)
chain-word text letter number word w = cond-true (nat_lt 0 (suc w)) (word (suc w)) None (lt-ltb 0 (suc w) (omega arith))

-- the rules of literals, numbers and words
abbrev token_rule : List ℕ → Option Rule
token_rule bytes =
    chain (get_or bytes 0 0 == double_quote) (get_or bytes 0 0 == apostrophe) (rule_of (text_from 0 (drop 1 bytes))) (rule_of (letter_from (drop 1 bytes)))
    (λ n. rule_of (number_from (take n bytes))) (λ n. word_rule (take n bytes)) (number_size bytes) (word_size bytes)

text_by : (rest : List ℕ) (read : Read) → text_from 0 rest ≡ read → rule_or (rule_of read) (token_piece (34 ∷ rest)) ≡ text_read (34 ∷ rest) read
text_by rest (Err rule) is = refl
text_by rest (Ok (values, behind)) is = text-spelled rest values behind is

letter_by : (rest : List ℕ) (read : Result (ℕ × List ℕ) Rule) → letter_from rest ≡ read → rule_or (rule_of read) (token_piece (39 ∷ rest)) ≡ letter_read (39 ∷ rest) read
letter_by rest (Err rule) is = refl
letter_by rest (Ok (value, behind)) is = letter-spelled rest value behind is

-- a number of n + 1 bytes
number_by : (bytes : List ℕ) (n : ℕ) (read : Result (ℕ × Ty0) Rule) → number_size bytes ≡ suc n → n < length bytes
    → ((m : ℕ) → n ≤ m → token_of (take (suc m) bytes) ≡ number_token (take (suc m) bytes)) → number_from (take (suc n) bytes) ≡ read
    → rule_or (rule_of read) (token_piece bytes) ≡ number_read (suc n) read
number_by bytes n (Err rule) size within fronts is = refl
number_by bytes n (Ok (value, ty)) size within fronts is = number-spelled bytes n value ty size within fronts is

-- the token's rules, at a byte that begins neither literal
module _ (bytes : List ℕ) (text : (get_or bytes 0 0 == double_quote) ≡ false) (letter : (get_or bytes 0 0 == apostrophe) ≡ false) where
  abbrev neither : ℕ → ℕ → Option Rule
  neither n w = chain false false (rule_of (text_from 0 (drop 1 bytes))) (rule_of (letter_from (drop 1 bytes))) (λ n. rule_of (number_from (take n bytes))) (λ n. word_rule (take n bytes)) n w

  rule_neither : token_rule bytes ≡ neither (number_size bytes) (word_size bytes)
  rule_neither =
      λ i. chain (text i) (letter i) (rule_of (text_from 0 (drop 1 bytes))) (rule_of (letter_from (drop 1 bytes)))
      (λ n. rule_of (number_from (take n bytes))) (λ n. word_rule (take n bytes)) (number_size bytes) (word_size bytes)

  rule_number : (n : ℕ) → number_size bytes ≡ suc n → token_rule bytes ≡ rule_of (number_from (take (suc n) bytes))
  rule_number n size =
      rule_neither ∙ ap (λ (k : ℕ). neither k (word_size bytes)) size
      ∙ chain-number (rule_of (text_from 0 (drop 1 bytes))) (rule_of (letter_from (drop 1 bytes))) (λ n. rule_of (number_from (take n bytes))) (λ n. word_rule (take n bytes)) n (word_size bytes)

  rule_word : (n : ℕ) → number_size bytes ≡ 0 → word_size bytes ≡ suc n → token_rule bytes ≡ word_rule (take (suc n) bytes)
  rule_word n number size =
      rule_neither ∙ (λ i. neither (number i) (size i))
      ∙ chain-word (rule_of (text_from 0 (drop 1 bytes))) (rule_of (letter_from (drop 1 bytes))) (λ n. rule_of (number_from (take n bytes))) (λ n. word_rule (take n bytes)) n

  rule_mark : number_size bytes ≡ 0 → word_size bytes ≡ 0 → token_rule bytes ≡ None
  rule_mark number word = rule_neither ∙ (λ i. neither (number i) (word i))

-- the same for a place without white space, `#` and wide literals
abbrev Agreed : List ℕ → Type 0
Agreed bytes = rule_or (token_rule bytes) (token_piece bytes) ≡ token_way bytes

agreed_text : (rest : List ℕ) → Agreed (34 ∷ rest)
agreed_text rest = text_by rest (text_from 0 rest) refl

agreed_letter : (rest : List ℕ) → Agreed (39 ∷ rest)
agreed_letter rest = letter_by rest (letter_from rest) refl

-- what the code does at a byte that begins neither literal
neither_way : (b : ℕ) (rest : List ℕ) → (b == double_quote) ≡ false → (b == apostrophe) ≡ false
    → token_way (b ∷ rest) ≡ cond (begins_number (b ∷ rest)) (number_piece (b ∷ rest)) (cond (is_nondigit b) (word_piece (b ∷ rest)) (mark_piece (b ∷ rest)))
neither_way b rest text letter =
    cond-false (b == double_quote) (text_piece (b ∷ rest))
    (cond (b == apostrophe) (letter_piece (b ∷ rest)) (cond (begins_number (b ∷ rest)) (number_piece (b ∷ rest)) (cond (is_nondigit b) (word_piece (b ∷ rest)) (mark_piece (b ∷ rest))))) text
    ∙ cond-false (b == apostrophe) (letter_piece (b ∷ rest)) (cond (begins_number (b ∷ rest)) (number_piece (b ∷ rest)) (cond (is_nondigit b) (word_piece (b ∷ rest)) (mark_piece (b ∷ rest)))) letter

-- ---- numbers

number_of_size : (bytes : List ℕ) (n : ℕ) → (get_or bytes 0 0 == double_quote) ≡ false → (get_or bytes 0 0 == apostrophe) ≡ false
    → number_size bytes ≡ run_size 0 bytes → run_size 0 bytes ≡ suc n
    → ((m : ℕ) → n ≤ m → token_of (take (suc m) bytes) ≡ number_token (take (suc m) bytes)) → rule_or (token_rule bytes) (token_piece bytes) ≡ number_piece bytes
number_of_size bytes n text letter same run fronts =
    let size = same ∙ run in
    ap (λ (r : Option Rule). rule_or r (token_piece bytes)) (rule_number bytes text letter n size)
    ∙ number_by bytes n (number_from (take (suc n) bytes)) size (omega (arith, size, longest-le (λ front behind. is_number front) bytes)) fronts refl
    ∙ ap (λ (k : ℕ). number_read k (number_from (take k bytes))) (sym run)

run_more : (previous b : ℕ) (rest : List ℕ) → continues_number previous b ≡ true → run_size previous (b ∷ rest) ≡ suc (run_size b rest)
run_more previous b rest is = cond-true (continues_number previous b) (1 + run_size b rest) 0 is ∙ one-add (run_size b rest)

number_digit : (b : ℕ) (rest : List ℕ) → (b == double_quote) ≡ false → (b == apostrophe) ≡ false → is_ascii_digit b ≡ true
    → rule_or (token_rule (b ∷ rest)) (token_piece (b ∷ rest)) ≡ number_piece (b ∷ rest)
number_digit b rest text letter digit =
    number_of_size (b ∷ rest) (run_size b rest) text letter (number-digit b rest digit) (run_more 0 b rest (continues-digit 0 b digit)) (λ m le. token-number b (take m rest) digit)

point_fronts : (c m : ℕ) (rest : List ℕ) → is_ascii_digit c ≡ true → 1 ≤ m → token_of (take (suc m) (46 ∷ c ∷ rest)) ≡ number_token (take (suc m) (46 ∷ c ∷ rest))
point_fronts c zero rest digit le = absurd (omega arith)
point_fronts c (suc m) rest digit le = token-point c (take m rest) digit

number_point : (rest : List ℕ) → is_ascii_digit (get_or rest 0 0) ≡ true → rule_or (token_rule (46 ∷ rest)) (token_piece (46 ∷ rest)) ≡ number_piece (46 ∷ rest)
number_point [] digit = cc
number_point (c ∷ rest) digit =
    number_of_size (46 ∷ c ∷ rest) (suc (run_size c rest)) refl refl (number-point c rest digit)
    (run_more 0 46 (c ∷ rest) refl ∙ ap suc (run_more 46 c rest (continues-digit 46 c digit))) (λ m le. point_fronts c m rest digit (omega (arith, le)))

agreed_number : (b : ℕ) (rest : List ℕ) → (b == double_quote) ≡ false → (b == apostrophe) ≡ false → begins_number (b ∷ rest) ≡ true → Agreed (b ∷ rest)
agreed_number b rest text letter begins =
    ⊎_elim (λ digit. number_digit b rest text letter digit)
    (λ point.
    let parts = and_parts (b == dot) (is_ascii_digit (get_or rest 0 0)) point in
    subst (λ (c : ℕ). rule_or (token_rule (c ∷ rest)) (token_piece (c ∷ rest)) ≡ number_piece (c ∷ rest)) (sym (eqb-true b 46 parts.0)) (number_point rest parts.1))
    (or_cases (is_ascii_digit b) (b == dot && is_ascii_digit (get_or rest 0 0)) begins)
    ∙ sym (neither_way b rest text letter
    ∙ cond-true (begins_number (b ∷ rest)) (number_piece (b ∷ rest)) (cond (is_nondigit b) (word_piece (b ∷ rest)) (mark_piece (b ∷ rest))) begins)

-- ---- words and marks

module _ (b : ℕ) (rest : List ℕ) (text : (b == double_quote) ≡ false) (letter : (b == apostrophe) ≡ false) (number : begins_number (b ∷ rest) ≡ false) where
  no_number_way : token_way (b ∷ rest) ≡ cond (is_nondigit b) (word_piece (b ∷ rest)) (mark_piece (b ∷ rest))
  no_number_way =
      neither_way b rest text letter
      ∙ cond-false (begins_number (b ∷ rest)) (number_piece (b ∷ rest)) (cond (is_nondigit b) (word_piece (b ∷ rest)) (mark_piece (b ∷ rest))) number

  agreed_word : is_nondigit b ≡ true → Agreed (b ∷ rest)
  agreed_word word =
      let n = prefix_len is_word_byte rest in
      let size = word_size-some b rest word in
      (λ i. rule_or (rule_word (b ∷ rest) text letter n (number-none b rest number) size i) (word-spelled b rest word i))
      ∙ ap (λ (k : ℕ). rule_or (word_rule (take k (b ∷ rest))) (spelled (prefix_len is_word_byte (b ∷ rest)) (key_or_word (word_front (b ∷ rest)) (entry_of keywords (word_front (b ∷ rest))))))
      (sym (word_bytes_size b rest word))
      ∙ sym (no_number_way ∙ cond-true (is_nondigit b) (word_piece (b ∷ rest)) (mark_piece (b ∷ rest)) word)

  agreed_mark : is_nondigit b ≡ false → Agreed (b ∷ rest)
  agreed_mark word =
      let none = word_size-is b rest ∙ cond-false (is_nondigit b) (prefix_len is_word_byte (b ∷ rest)) 0 word in
      ap (λ (r : Option Rule). rule_or r (token_piece (b ∷ rest))) (rule_mark (b ∷ rest) text letter (number-none b rest number) none)
      ∙ mark-spelled b rest word number letter text
      ∙ sym (no_number_way ∙ cond-false (is_nondigit b) (word_piece (b ∷ rest)) (mark_piece (b ∷ rest)) word)

agreed : (b : ℕ) (rest : List ℕ) → Agreed (b ∷ rest)
agreed b rest =
    ⊎_elim (λ text. subst (λ (c : ℕ). Agreed (c ∷ rest)) (sym (eqb-true b 34 text)) (agreed_text rest))
    (λ text. ⊎_elim (λ letter. subst (λ (c : ℕ). Agreed (c ∷ rest)) (sym (eqb-true b 39 letter)) (agreed_letter rest))
    (λ letter. ⊎_elim (λ number. agreed_number b rest text letter number)
    (λ number. ⊎_elim (λ word. agreed_word b rest text letter number word) (λ word. agreed_mark b rest text letter number word) (cases_Bool (is_nondigit b)))
    (cases_Bool (begins_number (b ∷ rest))))
    (cases_Bool (b == apostrophe)))
    (cases_Bool (b == double_quote))

-- ---- any place

-- what the code does where nothing is white space
abbrev Way : Bool → ℕ → List ℕ → Type 0
Way first b rest = piece_at first (b ∷ rest) ≡ way_at first (b ∷ rest)

-- two given bytes come first
module _ (first : Bool) where
  way_comment : (rest : List ℕ) → Way first 47 (42 ∷ rest)
  unfolding piece_at
  way_comment rest = space-comment first rest

  way_line : (rest : List ℕ) → Way first 47 (47 ∷ rest)
  unfolding piece_at
  way_line rest =
      ap (λ (n : ℕ). space_or n (other_piece (47 ∷ 47 ∷ rest))) (space-line first rest)
      ∙ ap space (sym (one-add (1 + prefix_len is_in_line rest) ∙ ap suc (one-add (prefix_len is_in_line rest))))

  way_marker : (rest : List ℕ) → Way first 35 rest
  unfolding piece_at
  way_marker rest = space-marker first rest

  way_digraph : (rest : List ℕ) → Way first 37 (58 ∷ rest)
  unfolding piece_at
  way_digraph rest = ap (λ (n : ℕ). space_or n (broken X8)) (space-other first 37 (58 ∷ rest) refl refl refl)

-- a pair of bytes that come first
pair_first : (P : ℕ → List ℕ → Type 0) (b x y : ℕ) (rest : List ℕ) → (0 == y) ≡ false → (b == x && get_or rest 0 0 == y) ≡ true → ((more : List ℕ) → P x (y ∷ more)) → P b rest
pair_first P b x y [] zero_not is holds = absurd (both_ways (0 == y) zero_not (and_parts (b == x) (0 == y) is).1)
pair_first P b x y (c ∷ rest) zero_not is holds =
    let parts = and_parts (b == x) (c == y) is in
    subst (λ (d : ℕ). P d (c ∷ rest)) (sym (eqb-true b x parts.0)) (subst (λ (d : ℕ). P x (d ∷ rest)) (sym (eqb-true c y parts.1)) (holds rest))

module _ (first : Bool) (b : ℕ) (rest : List ℕ) (white : is_white b ≡ false) (comment : begins_with slash star (b ∷ rest) ≡ false)
    (line : begins_with slash slash (b ∷ rest) ≡ false) (marker : (b == hash) ≡ false) (digraph : begins_with percent colon (b ∷ rest) ≡ false) where
  no_slashes : (b == slash && (get_or rest 0 0 == star || get_or rest 0 0 == slash)) ≡ false
  no_slashes =
      ⊎_elim (λ other. and_left _ _ other) (λ star_not. ⊎_elim (λ other. and_left _ _ other) (λ slash_not. and_right (b == slash) _ (or_from _ _ star_not slash_not))
      (and_cases (b == slash) (get_or rest 0 0 == slash) line)) (and_cases (b == slash) (get_or rest 0 0 == star) comment)

  no_space : piece_at first (b ∷ rest) ≡ other_piece (b ∷ rest)
  unfolding piece_at
  no_space = ap (λ (n : ℕ). space_or n (other_piece (b ∷ rest))) (space-other first b rest white no_slashes marker)

  -- the rules of what begins there
  rules : rule_at (b ∷ rest) ≡ cond (begins_wide (b ∷ rest)) (Some X7) (token_rule (b ∷ rest))
  rules = λ i. cond (comment i) (Some X2) (cond (or_from (b == hash) (begins_with percent colon (b ∷ rest)) marker digraph i) (Some X8) (cond (begins_wide (b ∷ rest)) (Some X7) (token_rule (b ∷ rest))))

  last_way : way_at first (b ∷ rest) ≡ cond (begins_wide (b ∷ rest)) (broken X7) (token_way (b ∷ rest))
  last_way =
      λ i. cond (white i) (space 1) (cond (comment i) (comment_piece (b ∷ rest)) (cond (line i) (space (line_size (b ∷ rest))) (cond (marker i) (marker_piece first (b ∷ rest))
      (cond (digraph i) (broken X8) (cond (begins_wide (b ∷ rest)) (broken X7) (token_way (b ∷ rest)))))))

  wide_by : (wide : Bool) → rule_or (cond wide (Some X7) (token_rule (b ∷ rest))) (token_piece (b ∷ rest)) ≡ cond wide (broken X7) (token_way (b ∷ rest))
  wide_by true = refl
  wide_by false = agreed b rest

  way_other : Way first b rest
  way_other = no_space ∙ ap (λ (r : Option Rule). rule_or r (token_piece (b ∷ rest))) rules ∙ wide_by (begins_wide (b ∷ rest)) ∙ sym last_way

way_white : (first : Bool) (b : ℕ) (rest : List ℕ) → is_white b ≡ true → Way first b rest
unfolding piece_at
way_white first b rest white =
    ap (λ (n : ℕ). space_or n (other_piece (b ∷ rest))) (space-white first b rest white)
    ∙ sym (cond-true (is_white b) (space 1) (cond (begins_with slash star (b ∷ rest)) (comment_piece (b ∷ rest)) (cond (begins_with slash slash (b ∷ rest)) (space (line_size (b ∷ rest)))
    (cond (b == hash) (marker_piece first (b ∷ rest)) (cond (begins_with percent colon (b ∷ rest)) (broken X8) (cond (begins_wide (b ∷ rest)) (broken X7) (token_way (b ∷ rest))))))) white)

pub way : (first : Bool) (b : ℕ) (rest : List ℕ) → Way first b rest
way first b rest =
    ⊎_elim (λ white. way_white first b rest white) (λ white.
    ⊎_elim (λ comment. pair_first (Way first) b 47 42 rest refl comment (way_comment first)) (λ comment.
    ⊎_elim (λ line. pair_first (Way first) b 47 47 rest refl line (way_line first)) (λ line.
    ⊎_elim (λ marker. subst (λ (c : ℕ). Way first c rest) (sym (eqb-true b 35 marker)) (way_marker first rest)) (λ marker.
    ⊎_elim (λ digraph. pair_first (Way first) b 37 58 rest refl digraph (way_digraph first)) (λ digraph.
    way_other first b rest white comment line marker digraph)
    (cases_Bool (begins_with percent colon (b ∷ rest))))
    (cases_Bool (b == hash)))
    (cases_Bool (begins_with slash slash (b ∷ rest))))
    (cases_Bool (begins_with slash star (b ∷ rest))))
    (cases_Bool (is_white b))
