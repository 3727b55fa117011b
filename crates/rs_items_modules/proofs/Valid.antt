-- The candidates for the name of a module are such names, of which none is reserved but `main_0`.
use Rattle.std.proofs.Common.{◌≡◌, ℕ, zero, suc, ◌<◌, ◌^◌, Bool, true, false, not, ◌&&◌, ◌||◌, ◌==◌, List, [], ◌∷◌, ◌++◌, bytes_eq, codes, Some, if◌then◌else◌, refl, sym, ap, ◌∙◌, arith, subst}
use Rattle.std.specs.Fmt.{decimal}
use Rattle.std.specs.List.{list_all}
use Rattle.std.proofs.lemmas.Cmp.{nat_list_eq_equiv}
use Rattle.std.proofs.lemmas.Slice.Eq.{bytes_eq-Decides}
use Rattle.rs_items_modules.specs.Modules.{is_kept_back, lacks_start, module_candidate, started, word_byte_of, word_bytes_of, word_of}
use Rattle.rs_items_sets.specs.Names.{reserved, suffixed, unless}
use Rattle.rs_items_sets.proofs.Suffixes.{both, has_digit, keywords_lack, neither, no_word, or_right, parts, path_words_lack, suffixed_has, suffixed_word}
use Rattle.rs_text.specs.Names.{is_among, is_digit, is_module_name, is_plain_identifier, is_word, is_word_byte, keywords, path_words}

-- ---- the word of a file is one

word_byte_by : (byte : ℕ) (r : Bool) → is_word_byte byte ≡ r → is_word_byte (if r then byte else 95) ≡ true
word_byte_by byte true is = is
word_byte_by byte false is = refl

word_byte : (byte : ℕ) → is_word_byte (word_byte_of byte) ≡ true
word_byte byte = word_byte_by byte (is_word_byte byte) refl

word_bytes : (stem : List ℕ) → list_all is_word_byte (word_bytes_of stem) ≡ true
word_bytes [] = refl
word_bytes (byte ∷ stem) = both (is_word_byte (word_byte_of byte)) (list_all is_word_byte (word_bytes_of stem)) (word_byte byte) (word_bytes stem)

started_word : (bytes : List ℕ) → list_all is_word_byte bytes ≡ true → (lacks : Bool) → lacks_start bytes ≡ lacks → is_word (started lacks bytes) ≡ true
started_word bytes all true is = all
started_word [] all false is = cc
started_word (byte ∷ bytes) all false is =
    both (not (is_digit byte)) (list_all is_word_byte (byte ∷ bytes)) (ap not (neither (is_digit byte) (bytes_eq (byte ∷ bytes) (codes "_")) is).0) all

pub file_word : (stem : List ℕ) → is_word (word_of stem) ≡ true
file_word stem = started_word (word_bytes_of stem) (word_bytes stem) (lacks_start (word_bytes_of stem)) refl

-- ---- names of modules

plain_module : (name : List ℕ) → is_word name ≡ true → is_among path_words name ≡ false → is_among keywords name ≡ false → bytes_eq name (codes "main") ≡ false → is_module_name name ≡ true
plain_module name word path key main =
    both (is_plain_identifier name) (not (bytes_eq name (codes "main")))
    (both (is_word name && not (is_among path_words name)) (not (is_among keywords name)) (both (is_word name) (not (is_among path_words name)) word (ap not path)) (ap not key))
    (ap not main)

-- what a word that isn't kept back is not
record IsFree (word : List ℕ) : Type 0 where
  pub path : is_among path_words word ≡ false
  pub key : is_among keywords word ≡ false
  pub unreserved : is_among reserved word ≡ false
  pub main : bytes_eq word (codes "main") ≡ false

free_word : (word : List ℕ) → is_kept_back word ≡ false → IsFree word
free_word word is =
    let last = neither (is_among path_words word || is_among keywords word || is_among reserved word) (bytes_eq word (codes "main")) is in
    let third = neither (is_among path_words word || is_among keywords word) (is_among reserved word) last.0 in
    let second = neither (is_among path_words word) (is_among keywords word) third.0 in
    record { path = second.0; key = second.1; unreserved = third.1; main = last.1 }

no_main : (name : List ℕ) → has_digit name ≡ true → bytes_eq name (codes "main") ≡ false
no_main name has = nat_list_eq_equiv.symm name (codes "main") ∙ (neither (bytes_eq (codes "main") name) false (no_word (codes "main" ∷ []) name refl has)).0

suffixed_module : (word : List ℕ) (k : ℕ) → k < 2 ^ 64 → is_word word ≡ true → is_module_name (suffixed word k) ≡ true
suffixed_module word k small is =
    let has = suffixed_has word k small in
    plain_module (suffixed word k) (suffixed_word word k small is) (no_word path_words (suffixed word k) path_words_lack has) (no_word keywords (suffixed word k) keywords_lack has) (no_main (suffixed word k) has)

-- the word itself, where it is a candidate
itself_by : (word one : List ℕ) (kept : Bool) → is_kept_back word ≡ kept → unless kept word ≡ Some one → (is_kept_back word ≡ false) × (word ≡ one)
itself_by word one true is there = cc
itself_by word one false is there = (is, cc)

pub candidate_module : (word one : List ℕ) (k : ℕ) → k < 2 ^ 64 → is_word word ≡ true → module_candidate word k ≡ Some one → is_module_name one ≡ true
candidate_module word one zero small is there =
    let own = itself_by word one (is_kept_back word) refl there in
    let free = free_word word own.0 in
    subst (λ name. is_module_name name ≡ true) own.1 (plain_module word is free.path free.key free.main)
candidate_module word one (suc k) small is there =
    let own : suffixed word k ≡ one = cc in
    subst (λ name. is_module_name name ≡ true) own (suffixed_module word k (omega (arith, small)) is)

-- ---- reserved names

abbrev has_line : List ℕ → Bool
has_line [] = false
has_line (byte ∷ bytes) = byte == 95 || has_line bytes

-- a word without a digit or without `_`, or `main_0`
abbrev is_unlike : List ℕ → Bool
is_unlike word = not (has_digit word && has_line word) || bytes_eq word (codes "main_0")

reserved_unlike : list_all is_unlike reserved ≡ true
unfolding reserved
reserved_unlike = refl

line_behind : (front rest : List ℕ) → has_line rest ≡ true → has_line (front ++ rest) ≡ true
line_behind [] rest has = has
line_behind (byte ∷ front) rest has = or_right (byte == 95) (has_line (front ++ rest)) (line_behind front rest has)

same_name : (word name : List ℕ) → is_unlike word ≡ true → has_digit name ≡ true → has_line name ≡ true → word ≡ name → bytes_eq name (codes "main_0") ≡ true
same_name word name unlike digit line same =
    let at_name : is_unlike name ≡ true = ap is_unlike (sym same) ∙ unlike in
    sym (ap (λ t. not t || bytes_eq name (codes "main_0")) (both (has_digit name) (has_line name) digit line)) ∙ at_name

among_by : (words : List (List ℕ)) (word name : List ℕ) → (not (is_among words name) || bytes_eq name (codes "main_0")) ≡ true → is_unlike word ≡ true → has_digit name ≡ true → has_line name ≡ true
    → (r : Bool) → bytes_eq word name ≡ r → (not (r || is_among words name) || bytes_eq name (codes "main_0")) ≡ true
among_by words word name others unlike digit line true is = same_name word name unlike digit line ((bytes_eq-Decides word name).0 is)
among_by words word name others unlike digit line false is = others

among_unlike : (words : List (List ℕ)) (name : List ℕ) → list_all is_unlike words ≡ true → has_digit name ≡ true → has_line name ≡ true
    → (not (is_among words name) || bytes_eq name (codes "main_0")) ≡ true
among_unlike [] name unlike digit line = refl
among_unlike (word ∷ words) name unlike digit line =
    let known = parts (is_unlike word) (list_all is_unlike words) unlike in
    among_by words word name (among_unlike words name known.1 digit line) known.0 digit line (bytes_eq word name) refl

pub candidate_unreserved : (word one : List ℕ) (k : ℕ) → k < 2 ^ 64 → module_candidate word k ≡ Some one → (not (is_among reserved one) || bytes_eq one (codes "main_0")) ≡ true
candidate_unreserved word one zero small there =
    let own = itself_by word one (is_kept_back word) refl there in
    let free : is_among reserved one ≡ false = subst (λ name. is_among reserved name ≡ false) own.1 (free_word word own.0).unreserved in
    ap (λ t. not t || bytes_eq one (codes "main_0")) free
candidate_unreserved word one (suc k) small there =
    let own : suffixed word k ≡ one = cc in
    subst (λ name. (not (is_among reserved name) || bytes_eq name (codes "main_0")) ≡ true) own
    (among_unlike reserved (suffixed word k) reserved_unlike (suffixed_has word k (omega (arith, small))) (line_behind word (codes "_" ++ decimal k) refl))
