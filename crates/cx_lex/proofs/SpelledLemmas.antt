-- The longest token at a place, by its class, and its size.
use Rattle.std.proofs.Common.{◌≡◌, ℕ, zero, suc, ◌+◌, ◌-◌, ◌≤◌, ◌<◌, ◌==◌, Bool, true, false, cond, Option, Some, None, is_some, option_map, Result, Ok, Err, List, [], ◌∷◌, length, take, drop, get_or, refl, sym, ap, ◌∙◌, ⊎_elim, arith, one-add, length-take, length-drop, get_or-take}
use Rattle.std.specs.List.{prefix_len}
use Rattle.std.specs.Char.{is_ascii_digit}
use Rattle.std.proofs.lemmas.Bool.{cond-true, cond-false, or_right, both_ways, cases_lt}
use Rattle.std.proofs.lemmas.List.{get_or_past}
use Rattle.std.proofs.Math.ListN.{drop_of_length-le}
use Rattle.cr_base.specs.declared.rule.Rule.TheVariants.{X1, X2}
use Rattle.cr_base.specs.declared.rule.Rule.{Rule}
use Rattle.cx_lex.specs.declared.token.Punct.{Punct}
use Rattle.cx_lex.specs.declared.token.Ty0.{Ty0}
use Rattle.cx_lex.specs.declared.token.TokenKind.{TokenKind}
use Rattle.cx_lex.specs.declared.token.TokenKind.TheVariants.{Number, Letter, Text, Mark}
use Rattle.cx_lex.specs.Bytes.{apostrophe, double_quote, is_nondigit, is_word_byte}
use Rattle.cx_lex.specs.Words.{entry_of, keywords, key_or_word, is_identifier}
use Rattle.cx_lex.specs.Numbers.{begins_number, is_number, number_from, whole_number, number_token}
use Rattle.cx_lex.specs.Literals.{Item, closes, breaks, member, item_at, Read, text_from, whole_text, letter_item, letter_from, whole_letter, signed_of}
use Rattle.cx_lex.specs.Marks.{marks, mark_of}
use Rattle.cx_lex.specs.Tokens.{token_of, token_size, word_size, number_size, Piece, broken, spelled, token_or_stray}
use Rattle.cx_lex.specs.Mirror.{mark_in, mark_or_stray, word_front}
use Rattle.cx_lex.proofs.FrontLemmas.{Test, at_front, longest-none, longest-one, longest-same, longest-passes, longest-above}
use Rattle.cx_lex.proofs.WordLemmas.{word_size-is, begins-front}
use Rattle.cx_lex.proofs.TokenLemmas.{token-word, token-text, token-letter, token-mark}
use Rattle.cx_lex.proofs.TextLemmas.{behind-bound, text-cut, text-whole}
use Rattle.cx_lex.proofs.ItemLemmas.{member-cut, member-whole}
use Rattle.cx_lex.proofs.MarkLemmas.{marks-fall, IsLongestMark, mark-longest, mark-none}

-- the longest token, or X1
abbrev pub token_piece : List ℕ → Piece
token_piece bytes = token_or_stray (token_size bytes) (token_of (take (token_size bytes) bytes))

abbrev is_token : Test
is_token front behind = is_some (token_of front)

spelled-is : (bytes : List ℕ) (size : ℕ) (kind : TokenKind) → token_size bytes ≡ size → token_of (take size bytes) ≡ Some kind → token_piece bytes ≡ spelled size kind
spelled-is bytes size kind e is = (λ i. token_or_stray (e i) (token_of (take (e i) bytes))) ∙ ap (token_or_stray size) is

-- nothing is no token
pub no_token : token_or_stray 0 (token_of []) ≡ broken X1
unfolding marks
no_token = refl

-- ---- words

some_cond : (c : Bool) (kind : TokenKind) → is_some (cond c (Some kind) None) ≡ c
some_cond true kind = refl
some_cond false kind = refl

module _ (b : ℕ) (rest : List ℕ) (word : is_nondigit b ≡ true) where
  pub word_bytes_size : prefix_len is_word_byte (b ∷ rest) ≡ suc (prefix_len is_word_byte rest)
  word_bytes_size =
      let n = prefix_len is_word_byte rest in
      cond-true (is_word_byte b) (1 + n) 0 (or_right (is_ascii_digit b) (is_nondigit b) word) ∙ one-add n

  token_size-word : token_size (b ∷ rest) ≡ word_size (b ∷ rest)
  token_size-word = longest-same (λ front behind. is_some (token_of front)) (λ front behind. is_identifier front) (b ∷ rest) (λ n lt.
      ap is_some (token-word b (take n rest) word) ∙ some_cond (is_identifier (b ∷ take n rest)) (key_or_word (b ∷ take n rest) (entry_of keywords (b ∷ take n rest))))

  pub word_size-some : word_size (b ∷ rest) ≡ suc (prefix_len is_word_byte rest)
  word_size-some = word_size-is b rest ∙ cond-true (is_nondigit b) (prefix_len is_word_byte (b ∷ rest)) 0 word ∙ word_bytes_size

  word_kind : (n : ℕ) → word_size (b ∷ rest) ≡ suc n → token_of (b ∷ take n rest) ≡ Some (key_or_word (b ∷ take n rest) (entry_of keywords (b ∷ take n rest)))
  word_kind n is =
      token-word b (take n rest) word
      ∙ cond-true (is_identifier (b ∷ take n rest)) (Some (key_or_word (b ∷ take n rest) (entry_of keywords (b ∷ take n rest)))) None
      (longest-passes (λ front behind. is_identifier front) (b ∷ rest) n is)

  pub word-spelled : token_piece (b ∷ rest) ≡ spelled (prefix_len is_word_byte (b ∷ rest)) (key_or_word (word_front (b ∷ rest)) (entry_of keywords (word_front (b ∷ rest))))
  word-spelled =
      let n = prefix_len is_word_byte rest in
      spelled-is (b ∷ rest) (suc n) (key_or_word (b ∷ take n rest) (entry_of keywords (b ∷ take n rest))) (token_size-word ∙ word_size-some) (word_kind n word_size-some)
      ∙ ap (λ (k : ℕ). spelled k (key_or_word (take k (b ∷ rest)) (entry_of keywords (take k (b ∷ rest))))) (sym word_bytes_size)

-- ---- numbers

-- fronts that can only be numbers, from a size on
module _ (bytes : List ℕ) (n value : ℕ) (ty : Ty0) (size : number_size bytes ≡ suc n) (within : n < length bytes)
    (fronts : (m : ℕ) → n ≤ m → token_of (take (suc m) bytes) ≡ number_token (take (suc m) bytes)) (read : number_from (take (suc n) bytes) ≡ Ok (value, ty)) where
  number_here : token_of (take (suc n) bytes) ≡ Some (Number value ty)
  number_here =
      fronts n (omega arith)
      ∙ cond-true (is_number (take (suc n) bytes)) (whole_number (number_from (take (suc n) bytes))) None (longest-passes (λ front behind. is_number front) bytes n size)
      ∙ ap whole_number read

  number_above : (m : ℕ) → n < m → m < length bytes → is_some (token_of (take (suc m) bytes)) ≡ false
  number_above m more lt =
      ap is_some (fronts m (omega arith)
      ∙ cond-false (is_number (take (suc m) bytes)) (whole_number (number_from (take (suc m) bytes))) None
      (longest-above (λ front behind. is_number front) bytes m (omega (arith, size, more)) lt))

  pub number-spelled : token_piece bytes ≡ spelled (suc n) (Number value ty)
  number-spelled =
      spelled-is bytes (suc n) (Number value ty)
      (longest-one (λ front behind. is_some (token_of front)) bytes n within (ap is_some number_here) number_above) number_here

-- ---- string literals

-- a front that is a whole text is the one that ends with the closing quote
text_above_by : (rest values behind : List ℕ) (m : ℕ) (read : Read) → text_from 0 rest ≡ Ok (values, behind) → m ≤ length rest → length rest < m + length behind
    → text_from 0 (take m rest) ≡ read → is_some (whole_text read) ≡ false
text_above_by rest values behind m (Err rule) is le more read = refl
text_above_by rest values behind m (Ok (others, b ∷ left)) is le more read = refl
text_above_by rest values behind m (Ok (others, [])) is le more read =
    let e : ◌≡◌ {A = List ℕ × List ℕ} (others, drop m rest) (values, behind) = let h = sym (text-whole 0 m rest others read le) ∙ is in cc in
    absurd (omega (arith, more, le, length-drop m rest, ap (λ (p : List ℕ × List ℕ). length p.1) e))

module _ (rest values behind : List ℕ) (is : text_from 0 rest ≡ Ok (values, behind)) where
  abbrev text_size : ℕ
  text_size = length rest - length behind

  text_here : token_of (34 ∷ take text_size rest) ≡ Some (Text values)
  text_here =
      let bound = behind-bound 0 rest values behind is in
      token-text (take text_size rest) ∙ ap whole_text (text-cut 0 text_size rest values behind is (omega arith))

  text_above : (m : ℕ) → text_size < m → m < length (34 ∷ rest) → is_some (token_of (34 ∷ take m rest)) ≡ false
  text_above m more lt =
      let bound = behind-bound 0 rest values behind is in
      ap is_some (token-text (take m rest)) ∙ text_above_by rest values behind m (text_from 0 (take m rest)) is (omega arith) (omega arith) refl

  pub text-spelled : token_piece (34 ∷ rest) ≡ spelled (length (34 ∷ rest) - length behind) (Text values)
  text-spelled =
      let bound = behind-bound 0 rest values behind is in
      let e : suc text_size ≡ length (34 ∷ rest) - length behind = omega arith in
      spelled-is (34 ∷ rest) (suc text_size) (Text values)
      (longest-one (λ front behind. is_some (token_of front)) (34 ∷ rest) text_size (omega arith) (ap is_some text_here) text_above) text_here
      ∙ ap (λ (n : ℕ). spelled n (Text values)) e

-- ---- character constants

-- what a character constant is read as
record IsLetter (bytes : List ℕ) (value : ℕ) (behind : List ℕ) : Type 0 where
  size : ℕ
  item : item_at apostrophe bytes ≡ member size value
  closed : (get_or bytes size 0 == apostrophe) ≡ true
  rest : drop (size + 1) bytes ≡ behind

closed_by : (closed : Bool) (size value : ℕ) (bytes : List ℕ) (read : ℕ) (behind : List ℕ) → (get_or bytes size 0 == apostrophe) ≡ closed → item_at apostrophe bytes ≡ member size value
    → cond {A = Result (ℕ × List ℕ) Rule} closed (Ok (value, drop (size + 1) bytes)) (Err X2) ≡ Ok (read, behind) → IsLetter bytes read behind
closed_by true size value bytes read behind closed item is =
    let e : ◌≡◌ {A = ℕ × List ℕ} (value, drop (size + 1) bytes) (read, behind) = cc in
    record {
      size = size;
      item = item ∙ ap (λ (p : ℕ × List ℕ). member size p.0) e;
      closed = closed;
      rest = ap (λ (p : ℕ × List ℕ). p.1) e;
    }
closed_by false size value bytes read behind closed item is = cc

letter_by : (bytes : List ℕ) (item : Item) (value : ℕ) (behind : List ℕ) → item_at apostrophe bytes ≡ item → letter_item item bytes ≡ Ok (value, behind) → IsLetter bytes value behind
letter_by bytes closes value behind item is = cc
letter_by bytes (breaks rule) value behind item is = cc
letter_by bytes (member size read) value behind item is = closed_by (get_or bytes size 0 == apostrophe) size read bytes value behind refl item is

letter-parts : (bytes : List ℕ) (value : ℕ) (behind : List ℕ) → letter_from bytes ≡ Ok (value, behind) → IsLetter bytes value behind
letter-parts bytes value behind is = letter_by bytes (item_at apostrophe bytes) value behind refl is

letter-is : (bytes : List ℕ) (size value : ℕ) → item_at apostrophe bytes ≡ member size value → (get_or bytes size 0 == apostrophe) ≡ true → letter_from bytes ≡ Ok (value, drop (size + 1) bytes)
letter-is bytes size value item closed =
    ap (λ (i : Item). letter_item i bytes) item ∙ cond-true (get_or bytes size 0 == apostrophe) (Ok (value, drop (size + 1) bytes)) (Err X2) closed

-- a quote is within the list
within_by : (bytes : List ℕ) (n : ℕ) → (get_or bytes n 0 == apostrophe) ≡ true → n < length bytes
within_by bytes n closed =
    ⊎_elim (λ lt. lt) (λ past. absurd (both_ways (get_or bytes n 0 == apostrophe) (ap (λ (b : ℕ). b == apostrophe) (get_or_past bytes n 0 past)) closed)) (cases_lt n (length bytes))

module _ (b size value : ℕ) (rest : List ℕ) (item : item_at apostrophe (b ∷ rest) ≡ member size value) (closed : (get_or (b ∷ rest) size 0 == apostrophe) ≡ true) where
  -- the front that ends with the closing quote
  letter_front : letter_from (b ∷ take size rest) ≡ Ok (value, [])
  letter_front =
      letter-is (b ∷ take size rest) size value (member-cut apostrophe b size rest size value item (omega arith))
      (ap (λ (c : ℕ). c == apostrophe) (get_or-take (suc size) (b ∷ rest) size 0 (omega arith)) ∙ closed)
      ∙ ap (λ (left : List ℕ). Ok (value, left)) (drop_of_length-le (b ∷ take size rest) (omega (arith, length-take size rest)))

  -- and no other front
  letter_other : (m other : ℕ) → m ≤ length rest → letter_from (b ∷ take m rest) ≡ Ok (other, []) → m ≡ size
  letter_other m other le is =
      let parts = letter-parts (b ∷ take m rest) other [] is in
      let bound = within_by (b ∷ take m rest) parts.size parts.closed in
      let whole = member-whole apostrophe b m rest parts.size other parts.item (omega (arith, bound, length-take m rest)) in
      let same : size ≡ parts.size = let h : member size value ≡ member parts.size other = sym item ∙ whole in cc in
      omega (arith, same, bound, le, length-take m rest, length-drop (parts.size + 1) (b ∷ take m rest), ap length parts.rest)

  letter_above_by : (m : ℕ) (read : Result (ℕ × List ℕ) Rule) → size < m → m ≤ length rest → letter_from (b ∷ take m rest) ≡ read → is_some (whole_letter read) ≡ false
  letter_above_by m (Err rule) more le read = refl
  letter_above_by m (Ok (other, c ∷ left)) more le read = refl
  letter_above_by m (Ok (other, [])) more le read = absurd (omega (arith, more, letter_other m other le read))

  letter_above : (m : ℕ) → suc size < m → m < length (39 ∷ b ∷ rest) → at_front is_token (39 ∷ b ∷ rest) m ≡ false
  letter_above zero more lt = absurd (omega arith)
  letter_above (suc m) more lt =
      ap is_some (token-letter (b ∷ take m rest)) ∙ letter_above_by m (letter_from (b ∷ take m rest)) (omega arith) (omega arith) refl

  letter_here : token_of (39 ∷ b ∷ take size rest) ≡ Some (Letter (signed_of value))
  letter_here = token-letter (b ∷ take size rest) ∙ ap whole_letter letter_front

  letter_piece_is : token_piece (39 ∷ b ∷ rest) ≡ spelled (suc (suc size)) (Letter (signed_of value))
  letter_piece_is =
      spelled-is (39 ∷ b ∷ rest) (suc (suc size)) (Letter (signed_of value))
      (longest-one is_token (39 ∷ b ∷ rest) (suc size) (let bound = within_by (b ∷ rest) size closed in omega arith) (ap is_some letter_here) letter_above) letter_here

pub letter-spelled : (rest : List ℕ) (value : ℕ) (behind : List ℕ) → letter_from rest ≡ Ok (value, behind)
    → token_piece (39 ∷ rest) ≡ spelled (length (39 ∷ rest) - length behind) (Letter (signed_of value))
letter-spelled [] value behind is = cc
letter-spelled (b ∷ rest) value behind is =
    let parts = letter-parts (b ∷ rest) value behind is in
    let bound = within_by (b ∷ rest) parts.size parts.closed in
    letter_piece_is b parts.size value rest parts.item parts.closed
    ∙ ap (λ (n : ℕ). spelled n (Letter (signed_of value))) (omega (arith, bound, length-drop (parts.size + 1) (b ∷ rest), ap length parts.rest))

-- ---- marks

module _ (b : ℕ) (rest : List ℕ) (word : is_nondigit b ≡ false) (number : begins_number (b ∷ rest) ≡ false) (letter : (b == apostrophe) ≡ false) (text : (b == double_quote) ≡ false) where
  mark_front : (n : ℕ) → token_of (b ∷ take n rest) ≡ mark_of (b ∷ take n rest)
  mark_front n = token-mark b (take n rest) word (begins-front b n rest number) letter text

  mark_here : (n : ℕ) (mark : Punct) → IsLongestMark marks (b ∷ rest) (suc n) mark → token_of (b ∷ take n rest) ≡ Some (Mark mark)
  mark_here n mark found = mark_front n ∙ ap (option_map Mark) found.here

  mark_above : (n m : ℕ) (mark : Punct) → IsLongestMark marks (b ∷ rest) (suc n) mark → n < m → m < length (b ∷ rest) → is_some (token_of (b ∷ take m rest)) ≡ false
  mark_above n m mark found more lt = ap is_some (mark_front m ∙ ap (option_map Mark) (found.longer (suc m) (omega arith) (omega arith)))

  mark_by : (n : ℕ) (mark : Punct) → IsLongestMark marks (b ∷ rest) n mark → token_piece (b ∷ rest) ≡ spelled n (Mark mark)
  mark_by zero mark found = absurd (omega (arith, found.some))
  mark_by (suc n) mark found =
      spelled-is (b ∷ rest) (suc n) (Mark mark)
      (longest-one is_token (b ∷ rest) n (omega (arith, found.within)) (ap is_some (mark_here n mark found)) (λ m more lt. mark_above n m mark found more lt))
      (mark_here n mark found)

  stray : mark_in marks (b ∷ rest) ≡ None → token_piece (b ∷ rest) ≡ broken X1
  stray none =
      let e = longest-none is_token (b ∷ rest) (λ n lt. ap is_some (mark_front n ∙ ap (option_map Mark) (mark-none marks (b ∷ rest) (suc n) none (omega arith)))) in
      (λ i. token_or_stray (e i) (token_of (take (e i) (b ∷ rest)))) ∙ no_token

  mark_or_stray_by : (found : Option (ℕ × Punct)) → mark_in marks (b ∷ rest) ≡ found → token_piece (b ∷ rest) ≡ mark_or_stray found
  mark_or_stray_by None found = stray found
  mark_or_stray_by (Some mark) found = mark_by mark.0 mark.1 (mark-longest 3 marks (b ∷ rest) mark.0 mark.1 marks-fall found)

  pub mark-spelled : token_piece (b ∷ rest) ≡ mark_or_stray (mark_in marks (b ∷ rest))
  mark-spelled = mark_or_stray_by (mark_in marks (b ∷ rest)) refl
