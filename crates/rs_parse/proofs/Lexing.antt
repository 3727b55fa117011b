-- What single tokens of printed text are lexed as.
use Rattle.std.proofs.Common.{◌≡◌, ℕ, zero, suc, ◌+◌, ◌==◌, Bool, true, false, not, ◌&&◌, ◌||◌, nat_eq, List, [], ◌∷◌, ◌++◌, take, drop, length, codes, bytes_eq, slice_index, Option, Some, None, option_map, refl, sym, ap, subst, ◌∙◌, arith, append_assoc, length-append, if◌then◌else◌}
use Rattle.std.specs.Cmp.Lexicographic.{same_text}
use Rattle.std.specs.List.{list_all, prefix_len, starts_with}
use Rattle.std.proofs.lemmas.Bool.{and_parts, and_left, and_right, cond-true, cond-false}
use Rattle.std.proofs.lemmas.Bool.Decides.{nat_tests}
use Rattle.rs_lex.proofs.LexLemmas.{tokens_by_piece}
use Rattle.rs_text.specs.Names.{is_digit, is_word_byte, is_word, is_among, keywords, is_identifier, is_plain_identifier, is_raw_identifier, is_label}
use Rattle.rs_text.specs.Reads.{fits, both_fit}
use Rattle.rs_text.specs.Tokens.{RToken, Word, Label, Quoted, Mark, Close, marks, is_blank, is_prefix_mark, is_quoted_byte, word_size, word_front, is_raw, quoted_size, quoted_front, label_front, first_mark, mark_front, token_at, piece_at, then_tokens, tokens_behind, tokens_in}
use Rattle.rs_text.specs.Words.{operator_mark}
use Rattle.rs_text.specs.declared.operator.Operator.{Operator}
use Rattle.rs_text.specs.declared.operator.Operator.TheVariants.{Add, Sub, Mul, Div, Rem, BitAnd, BitOr, BitXor, Shl, Shr, Equal, NotEqual, Less, LessEqual, Greater, GreaterEqual}
use Rattle.rs_parse.proofs.NameSigns.{not_true, plain_parts}

abbrev pub Toks : Type 0
Toks = List RToken

abbrev pub Text : Type 0
Text = List ℕ

-- a text spells these tokens of a tree
pub record Reads (text : Text) (tokens : Toks) : Type 0 where
  pub fit : both_fit (tokens_in text) (Some tokens) ≡ true

pub reads_nil : Reads [] []
reads_nil = record { fit = refl }

-- ---- one piece

abbrev front_of : RToken → ℕ → RToken × ℕ
front_of t n = (t, n)

abbrev piece_of : Toks → ℕ → Toks × ℕ
piece_of ts n = (ts, n)

pub same_self : (xs : Text) → bytes_eq xs xs ≡ true
same_self [] = refl
same_self (x ∷ xs) = let e : nat_eq x x ≡ true = grind (arith, nat_tests) in ap (λ b. b && bytes_eq xs xs) e ∙ same_self xs

fit_word : (o : Option Toks) (w : Text) (us : Toks) → both_fit o (Some us) ≡ true → both_fit (then_tokens (Word w ∷ []) o) (Some (Word w ∷ us)) ≡ true
fit_word None w us h = cc
fit_word (Some ts) w us h = ap (λ b. b && fits ts us) (same_self w) ∙ h

fit_label : (o : Option Toks) (w : Text) (us : Toks) → both_fit o (Some us) ≡ true → both_fit (then_tokens (Label w ∷ []) o) (Some (Label w ∷ us)) ≡ true
fit_label None w us h = cc
fit_label (Some ts) w us h = ap (λ b. b && fits ts us) (same_self w) ∙ h

fit_quoted : (o : Option Toks) (w : Text) (us : Toks) → both_fit o (Some us) ≡ true → both_fit (then_tokens (Quoted w ∷ []) o) (Some (Quoted w ∷ us)) ≡ true
fit_quoted None w us h = cc
fit_quoted (Some ts) w us h = ap (λ b. b && fits ts us) (same_self w) ∙ h

fit_mark : (o : Option Toks) (w : Text) (us : Toks) → both_fit o (Some us) ≡ true → both_fit (then_tokens (Mark w ∷ []) o) (Some (Mark w ∷ us)) ≡ true
fit_mark None w us h = cc
fit_mark (Some ts) w us h = ap (λ b. b && fits ts us) (same_self w) ∙ h

fit_space : (o : Option Toks) (us : Toks) → both_fit o (Some us) ≡ true → both_fit (then_tokens [] o) (Some us) ≡ true
fit_space None us h = cc
fit_space (Some ts) us h = h

drop_all : (xs ys : Text) → drop (length xs) (xs ++ ys) ≡ ys
drop_all [] ys = refl
drop_all (x ∷ xs) ys = drop_all xs ys

take_all : (xs ys : Text) → take (length xs) (xs ++ ys) ≡ xs
take_all [] ys = refl
take_all (x ∷ xs) ys = ap (λ l. x ∷ l) (take_all xs ys)

-- the tokens of a text whose first piece is known
lexed : (c : ℕ) (cs t : Text) (ts : Toks) → piece_at c (cs ++ t) ≡ Some (piece_of ts (length (c ∷ cs))) → tokens_in ((c ∷ cs) ++ t) ≡ then_tokens ts (tokens_in t)
lexed c cs t ts is =
    tokens_by_piece c (cs ++ t)
    ∙ ap (λ p. tokens_behind p (c ∷ (cs ++ t)) tokens_in) is
    ∙ ap (λ (l : Text). then_tokens ts (tokens_in l)) (drop_all (c ∷ cs) t)

pub space_reads : (c : ℕ) (t : Text) (us : Toks) → is_blank c ≡ true → Reads t us → Reads (c ∷ t) us
space_reads c t us blank r =
    let is : piece_at c t ≡ Some (piece_of [] 1) = cond-true (is_blank c) _ _ blank in
    record { fit = ap (λ o. both_fit o (Some us)) (lexed c [] t [] is) ∙ fit_space (tokens_in t) us r.fit }

pub blank : {t : Text} {us : Toks} → Reads t us → Reads (32 ∷ t) us
blank {t} {us} r = space_reads 32 t us refl r

pub newline : {t : Text} {us : Toks} → Reads t us → Reads (10 ∷ t) us
newline {t} {us} r = space_reads 10 t us refl r

-- ---- words

-- what a word, a label or the end of a list of types may stand before
abbrev pub is_soft : ℕ → Bool
is_soft b = not (is_word_byte b) && not (is_prefix_mark b) && not (b == 62) && not (b == 61)

abbrev pub soft : Text → Bool
soft t = is_soft (slice_index t 0)

record IsSoft (b : ℕ) : Type 0 where
  word : is_word_byte b ≡ false
  prefix : is_prefix_mark b ≡ false
  greater : (b == 62) ≡ false
  equal : (b == 61) ≡ false

soft_parts : (b : ℕ) → is_soft b ≡ true → IsSoft b
soft_parts b h =
    let one = and_parts (not (is_word_byte b) && not (is_prefix_mark b) && not (b == 62)) (not (b == 61)) h in
    let two = and_parts (not (is_word_byte b) && not (is_prefix_mark b)) (not (b == 62)) one.0 in
    let three = and_parts (not (is_word_byte b)) (not (is_prefix_mark b)) two.0 in
    record { word = not_true (is_word_byte b) three.0; prefix = not_true (is_prefix_mark b) three.1; greater = not_true (b == 62) two.1; equal = not_true (b == 61) one.1 }

-- what a word or a label may stand before
abbrev pub is_mild : ℕ → Bool
is_mild b = not (is_word_byte b) && not (is_prefix_mark b)

abbrev pub mild : Text → Bool
mild t = is_mild (slice_index t 0)

record IsMild (b : ℕ) : Type 0 where
  word : is_word_byte b ≡ false
  prefix : is_prefix_mark b ≡ false

mild_parts : (b : ℕ) → is_mild b ≡ true → IsMild b
mild_parts b h =
    let parts = and_parts (not (is_word_byte b)) (not (is_prefix_mark b)) h in record { word = not_true (is_word_byte b) parts.0; prefix = not_true (is_prefix_mark b) parts.1 }

pub mild_of : (t : Text) → soft t ≡ true → mild t ≡ true
mild_of t h =
    let one = and_parts (not (is_word_byte (slice_index t 0)) && not (is_prefix_mark (slice_index t 0)) && not (slice_index t 0 == 62)) (not (slice_index t 0 == 61)) h in
    (and_parts (not (is_word_byte (slice_index t 0)) && not (is_prefix_mark (slice_index t 0))) (not (slice_index t 0 == 62)) one.0).0

prefix_front : (p : ℕ → Bool) (xs t : Text) → list_all p xs ≡ true → p (slice_index t 0) ≡ false → prefix_len p (xs ++ t) ≡ length xs
prefix_front p [] [] all stop = refl
prefix_front p [] (y ∷ ys) all stop = ap (λ (b : Bool). if b then 1 + prefix_len p ys else 0) stop
prefix_front p (x ∷ xs) t all stop =
    let parts = and_parts (p x) (list_all p xs) all in
    let e : 1 + length xs ≡ suc (length xs) = omega arith in
    ap (λ (b : Bool). if b then 1 + prefix_len p (xs ++ t) else 0) parts.0 ∙ ap (λ n. 1 + n) (prefix_front p xs t parts.1 stop) ∙ e

index_front : (xs t : Text) → slice_index (xs ++ t) (length xs) ≡ slice_index t 0
index_front [] t = refl
index_front (x ∷ xs) t = index_front xs t

not_hash : (b : ℕ) → is_word_byte b ≡ true → nat_eq 35 b ≡ false
not_hash b h = grind (arith, nat_tests, h)

soft_no_hash : (b : ℕ) → is_prefix_mark b ≡ false → nat_eq 35 b ≡ false
soft_no_hash b h = grind (arith, nat_tests, h)

raw_by : (x y : ℕ) (zs : Text) → nat_eq 35 y ≡ false → starts_with nat_eq (x ∷ y ∷ zs) (codes "r#") ≡ false
raw_by x y zs h = and_right (nat_eq 114 x) (nat_eq 35 y && true) (and_left (nat_eq 35 y) true h)

not_raw : (c : ℕ) (cs t : Text) → list_all is_word_byte cs ≡ true → is_mild (slice_index t 0) ≡ true → is_raw (c ∷ (cs ++ t)) ≡ false
not_raw c (d ∷ cs) t all h =
    and_left (starts_with nat_eq (c ∷ d ∷ (cs ++ t)) (codes "r#")) _ (raw_by c d (cs ++ t) (not_hash d (and_parts (is_word_byte d) (list_all is_word_byte cs) all).0))
not_raw c [] [] all h = and_left (starts_with nat_eq (c ∷ []) (codes "r#")) _ (and_right (nat_eq 114 c) false refl)
not_raw c [] (y ∷ ys) all h =
    and_left (starts_with nat_eq (c ∷ y ∷ ys) (codes "r#")) _ (raw_by c y ys (soft_no_hash y (mild_parts y h).prefix))

word_no_blank : (b : ℕ) → is_word_byte b ≡ true → is_blank b ≡ false
word_no_blank b h = grind (arith, nat_tests, h)

word_piece : (c : ℕ) (cs t : Text) → list_all is_word_byte (c ∷ cs) ≡ true → mild t ≡ true → piece_at c (cs ++ t) ≡ Some (piece_of (Word (c ∷ cs) ∷ []) (length (c ∷ cs)))
word_piece c cs t all h =
    let w : Text = c ∷ cs in
    let parts = and_parts (is_word_byte c) (list_all is_word_byte cs) all in
    let s = mild_parts (slice_index t 0) h in
    let size : word_size (w ++ t) ≡ length w = prefix_front is_word_byte w t all s.word in
    let front : token_at c (cs ++ t) ≡ Some (front_of (Word w) (length w)) =
    cond-false (is_raw (w ++ t)) _ _ (not_raw c cs t parts.1 h)
    ∙ cond-true (is_word_byte c) _ _ parts.0
    ∙ ap (word_front (w ++ t)) size
    ∙ cond-false (is_prefix_mark (slice_index (w ++ t) (length w))) _ _ (ap is_prefix_mark (index_front w t) ∙ s.prefix)
    ∙ ap (λ (l : Text). Some (front_of (Word l) (length w))) (take_all w t) in
    cond-false (is_blank c) _ _ (word_no_blank c parts.0) ∙ ap (option_map (λ (front : RToken × ℕ). piece_of (front.0 ∷ []) front.1)) front

word_reads_by : (c : ℕ) (cs t : Text) (us : Toks) → list_all is_word_byte (c ∷ cs) ≡ true → mild t ≡ true → Reads t us → Reads ((c ∷ cs) ++ t) (Word (c ∷ cs) ∷ us)
word_reads_by c cs t us all h r =
    record { fit = ap (λ o. both_fit o (Some (Word (c ∷ cs) ∷ us))) (lexed c cs t (Word (c ∷ cs) ∷ []) (word_piece c cs t all h)) ∙ fit_word (tokens_in t) (c ∷ cs) us r.fit }

-- a text of bytes of words
abbrev pub is_wordy : Text → Bool
is_wordy [] = false
is_wordy (c ∷ cs) = list_all is_word_byte (c ∷ cs)

pub word_reads : (w t : Text) (us : Toks) → is_wordy w ≡ true → mild t ≡ true → Reads t us → Reads (w ++ t) (Word w ∷ us)
word_reads [] t us all h r = cc
word_reads (c ∷ cs) t us all h r = word_reads_by c cs t us all h r

-- ---- raw identifiers

drop_two : (cs t : Text) → drop 1 (35 ∷ (cs ++ t)) ≡ cs ++ t
drop_two cs t = refl

raw_piece : (c : ℕ) (cs t : Text) → list_all is_word_byte (c ∷ cs) ≡ true → mild t ≡ true →
    piece_at 114 ((35 ∷ c ∷ cs) ++ t) ≡ Some (piece_of (Word (114 ∷ 35 ∷ c ∷ cs) ∷ []) (length (114 ∷ 35 ∷ c ∷ cs)))
raw_piece c cs t all h =
    let w : Text = c ∷ cs in
    let raw : Text = 114 ∷ 35 ∷ w in
    let parts = and_parts (is_word_byte c) (list_all is_word_byte cs) all in
    let s = mild_parts (slice_index t 0) h in
    let size : word_size (w ++ t) ≡ length w = prefix_front is_word_byte w t all s.word in
    let e : 2 + length w ≡ length raw = omega arith in
    let front : token_at 114 ((35 ∷ w) ++ t) ≡ Some (front_of (Word raw) (length raw)) =
    cond-true (is_raw (raw ++ t)) _ _ parts.0
    ∙ ap (λ n. word_front (raw ++ t) (2 + n)) size
    ∙ ap (word_front (raw ++ t)) e
    ∙ cond-false (is_prefix_mark (slice_index (raw ++ t) (length raw))) _ _ (ap is_prefix_mark (index_front raw t) ∙ s.prefix)
    ∙ ap (λ (l : Text). Some (front_of (Word l) (length raw))) (take_all raw t) in
    ap (option_map (λ (front : RToken × ℕ). piece_of (front.0 ∷ []) front.1)) front

raw_reads : (k t : Text) (us : Toks) → is_wordy k ≡ true → mild t ≡ true → Reads t us → Reads ((114 ∷ 35 ∷ k) ++ t) (Word (114 ∷ 35 ∷ k) ∷ us)
raw_reads [] t us all h r = cc
raw_reads (c ∷ cs) t us all h r =
    record {
      fit = ap (λ o. both_fit o (Some (Word (114 ∷ 35 ∷ c ∷ cs) ∷ us))) (lexed 114 (35 ∷ c ∷ cs) t (Word (114 ∷ 35 ∷ c ∷ cs) ∷ []) (raw_piece c cs t all h))
          ∙ fit_word (tokens_in t) (114 ∷ 35 ∷ c ∷ cs) us r.fit;
    }

-- ---- names

among_has : (p : Text → Bool) (ws : List Text) (x : Text) → list_all p ws ≡ true → is_among ws x ≡ true → p x ≡ true
among_has p [] x all h = cc
among_has p (w ∷ ws) x all h =
    let parts = and_parts (p w) (list_all p ws) all in by_first (bytes_eq w x) refl parts.0 (among_has p ws x parts.1) h
  where
    by_first : (b : Bool) → bytes_eq w x ≡ b → p w ≡ true → (is_among ws x ≡ true → p x ≡ true) → (b || is_among ws x) ≡ true → p x ≡ true
    by_first true is here next g = subst (λ (l : Text). p l ≡ true) (same_text w x (sym is)) here
    by_first false is here next g = next g

keywords_are_wordy : list_all is_wordy keywords ≡ true
unfolding keywords
keywords_are_wordy = refl

pub word_wordy : (x : Text) → is_word x ≡ true → is_wordy x ≡ true
word_wordy [] h = cc
word_wordy (c ∷ cs) h = (and_parts (not (is_digit c)) (list_all is_word_byte (c ∷ cs)) h).1

pub raw_form : (x : Text) → starts_with nat_eq x (codes "r#") ≡ true → x ≡ 114 ∷ 35 ∷ drop 2 x
raw_form [] h = cc
raw_form (a ∷ []) h = let e = and_parts (nat_eq 114 a) false h in let g : false ≡ true = e.1 in cc
raw_form (a ∷ b ∷ x) h =
    let same : codes "r#" ≡ a ∷ b ∷ [] = same_text (codes "r#") (a ∷ b ∷ []) (sym h) in
    ap (λ (l : Text). l ++ x) (sym same)

pub name_reads : (x t : Text) (us : Toks) → is_identifier x ≡ true → mild t ≡ true → Reads t us → Reads (x ++ t) (Word x ∷ us)
name_reads x t us v h r = by_kind (is_plain_identifier x) (is_raw_identifier x) v
    (λ plain. word_reads x t us (word_wordy x (plain_parts x plain).word) h r)
    (λ raw.
    let parts = and_parts (starts_with nat_eq x (codes "r#")) (is_among keywords (drop 2 x)) raw in
    let form = raw_form x parts.0 in
    subst (λ (l : Text). Reads (l ++ t) (Word l ∷ us)) (sym form) (raw_reads (drop 2 x) t us (among_has is_wordy keywords (drop 2 x) keywords_are_wordy parts.1) h r))
  where
    by_kind : (a b : Bool) → (a || b) ≡ true → (a ≡ true → Reads (x ++ t) (Word x ∷ us)) → (b ≡ true → Reads (x ++ t) (Word x ∷ us)) → Reads (x ++ t) (Word x ∷ us)
    by_kind true b h one other = one refl
    by_kind false b h one other = other h

pub plain_reads : (x t : Text) (us : Toks) → is_plain_identifier x ≡ true → mild t ≡ true → Reads t us → Reads (x ++ t) (Word x ∷ us)
plain_reads x t us v h r = word_reads x t us (word_wordy x (plain_parts x v).word) h r

-- ---- labels

label_piece : (c : ℕ) (cs t : Text) → list_all is_word_byte (c ∷ cs) ≡ true → mild t ≡ true →
    piece_at 39 ((c ∷ cs) ++ t) ≡ Some (piece_of (Label (c ∷ cs) ∷ []) (length (39 ∷ c ∷ cs)))
label_piece c cs t all h =
    let w : Text = c ∷ cs in
    let s = mild_parts (slice_index t 0) h in
    let size : word_size (w ++ t) ≡ length w = prefix_front is_word_byte w t all s.word in
    let e : length w + 1 ≡ length (39 ∷ w) = omega arith in
    let some : (length w == 0) ≡ false = grind (arith, nat_tests) in
    let front : label_front (w ++ t) (word_size (w ++ t)) ≡ Some (front_of (Label w) (length (39 ∷ w))) =
    ap (label_front (w ++ t)) size
    ∙ cond-false (length w == 0 || is_prefix_mark (slice_index (w ++ t) (length w))) _ _
    (ap (λ b. b || is_prefix_mark (slice_index (w ++ t) (length w))) some ∙ ap is_prefix_mark (index_front w t) ∙ s.prefix)
    ∙ ap (λ (l : Text). Some (front_of (Label l) (length w + 1))) (take_all w t)
    ∙ ap (λ n. Some (front_of (Label w) n)) e in
    ap (option_map (λ (front : RToken × ℕ). piece_of (front.0 ∷ []) front.1)) front

pub label_reads : (l t : Text) (us : Toks) → is_label l ≡ true → mild t ≡ true → Reads t us → Reads (39 ∷ (l ++ t)) (Label l ∷ us)
label_reads l t us v h r = by_word l (word_wordy l (plain_parts l v).word)
  where
    by_word : (l : Text) → is_wordy l ≡ true → Reads (39 ∷ (l ++ t)) (Label l ∷ us)
    by_word [] all = cc
    by_word (c ∷ cs) all =
        record { fit = ap (λ o. both_fit o (Some (Label (c ∷ cs) ∷ us))) (lexed 39 (c ∷ cs) t (Label (c ∷ cs) ∷ []) (label_piece c cs t all h)) ∙ fit_label (tokens_in t) (c ∷ cs) us r.fit }

-- ---- texts in quotes

quoted_word : (b : ℕ) → is_word_byte b ≡ true → is_quoted_byte b ≡ true
quoted_word b h = grind (arith, nat_tests, h)

all_quoted : (s : Text) → list_all is_word_byte s ≡ true → list_all is_quoted_byte s ≡ true
all_quoted [] h = refl
all_quoted (c ∷ cs) h =
    let parts = and_parts (is_word_byte c) (list_all is_word_byte cs) h in
    ap (λ b. b && list_all is_quoted_byte cs) (quoted_word c parts.0) ∙ all_quoted cs parts.1

index_behind : (xs t : Text) (c : ℕ) → slice_index (xs ++ c ∷ t) (length xs + 1) ≡ slice_index t 0
index_behind [] t c = refl
index_behind (x ∷ xs) t c =
    let e : length (x ∷ xs) + 1 ≡ suc (length xs + 1) = omega arith in
    ap (slice_index (x ∷ (xs ++ c ∷ t))) e ∙ index_behind xs t c

both_true : (a b : Bool) → a ≡ true → b ≡ true → (a && b) ≡ true
both_true true b h g = g
both_true false b h g = cc

quoted_piece : (s t : Text) → list_all is_word_byte s ≡ true → is_word_byte (slice_index t 0) ≡ false →
    quoted_front (s ++ 34 ∷ t) ≡ Some (front_of (Quoted s) (length s + 2))
quoted_piece s t all h =
    let text : Text = s ++ 34 ∷ t in
    let size : quoted_size text ≡ length s = prefix_front is_quoted_byte s (34 ∷ t) (all_quoted s all) refl in
    let first : (slice_index text (length s) == 34) ≡ true = ap (λ b. b == 34) (index_front s (34 ∷ t)) in
    let second : not (is_word_byte (slice_index text (length s + 1))) ≡ true = ap (λ b. not (is_word_byte b)) (index_behind s t 34) ∙ ap not h in
    ap (λ n. if slice_index text n == 34 && not (is_word_byte (slice_index text (n + 1))) then Some (front_of (Quoted (take n text)) (n + 2)) else None) size
    ∙ cond-true (slice_index text (length s) == 34 && not (is_word_byte (slice_index text (length s + 1)))) _ _ (both_true _ _ first second)
    ∙ ap (λ (l : Text). Some (front_of (Quoted l) (length s + 2))) (take_all s (34 ∷ t))

-- a symbol in quotes
pub quoted_reads : (s t : Text) (us : Toks) → list_all is_word_byte s ≡ true → is_word_byte (slice_index t 0) ≡ false → Reads t us → Reads (34 ∷ (s ++ 34 ∷ t)) (Quoted s ∷ us)
quoted_reads s t us all h r =
    let cs : Text = s ++ 34 ∷ [] in
    let same : cs ++ t ≡ s ++ 34 ∷ t = append_assoc s (34 ∷ []) t in
    let e : length s + 2 ≡ length (34 ∷ cs) = omega (arith, length-append s (34 ∷ [])) in
    let is : piece_at 34 (cs ++ t) ≡ Some (piece_of (Quoted s ∷ []) (length (34 ∷ cs))) =
    ap (piece_at 34) same ∙ ap (option_map (λ (front : RToken × ℕ). piece_of (front.0 ∷ []) front.1)) (quoted_piece s t all h) ∙ ap (λ n. Some (piece_of (Quoted s ∷ []) n)) e in
    let fit : both_fit (tokens_in ((34 ∷ cs) ++ t)) (Some (Quoted s ∷ us)) ≡ true =
    ap (λ o. both_fit o (Some (Quoted s ∷ us))) (lexed 34 cs t (Quoted s ∷ []) is) ∙ fit_quoted (tokens_in t) s us r.fit in
    record { fit = ap (λ (l : Text). both_fit (tokens_in (34 ∷ l)) (Some (Quoted s ∷ us))) (sym same) ∙ fit }

-- ---- marks

pub mark_reads : (c : ℕ) (cs t : Text) (us : Toks) → piece_at c (cs ++ t) ≡ Some (piece_of (Mark (c ∷ cs) ∷ []) (length (c ∷ cs))) → Reads t us → Reads ((c ∷ cs) ++ t) (Mark (c ∷ cs) ∷ us)
mark_reads c cs t us is r =
    record { fit = ap (λ o. both_fit o (Some (Mark (c ∷ cs) ∷ us))) (lexed c cs t (Mark (c ∷ cs) ∷ []) is) ∙ fit_mark (tokens_in t) (c ∷ cs) us r.fit }

pub open_paren : {t : Text} {us : Toks} → Reads t us → Reads (40 ∷ t) (Mark (codes "(") ∷ us)
unfolding marks
open_paren {t} {us} r = mark_reads 40 ([]) t us refl r

pub close_paren : {t : Text} {us : Toks} → Reads t us → Reads (41 ∷ t) (Mark (codes ")") ∷ us)
unfolding marks
close_paren {t} {us} r = mark_reads 41 ([]) t us refl r

pub open_bracket : {t : Text} {us : Toks} → Reads t us → Reads (91 ∷ t) (Mark (codes "[") ∷ us)
unfolding marks
open_bracket {t} {us} r = mark_reads 91 ([]) t us refl r

pub close_bracket : {t : Text} {us : Toks} → Reads t us → Reads (93 ∷ t) (Mark (codes "]") ∷ us)
unfolding marks
close_bracket {t} {us} r = mark_reads 93 ([]) t us refl r

pub open_brace : {t : Text} {us : Toks} → Reads t us → Reads (123 ∷ t) (Mark (codes "{") ∷ us)
unfolding marks
open_brace {t} {us} r = mark_reads 123 ([]) t us refl r

pub close_brace : {t : Text} {us : Toks} → Reads t us → Reads (125 ∷ t) (Mark (codes "}") ∷ us)
unfolding marks
close_brace {t} {us} r = mark_reads 125 ([]) t us refl r

pub comma : {t : Text} {us : Toks} → Reads t us → Reads (44 ∷ t) (Mark (codes ",") ∷ us)
unfolding marks
comma {t} {us} r = mark_reads 44 ([]) t us refl r

pub semicolon : {t : Text} {us : Toks} → Reads t us → Reads (59 ∷ t) (Mark (codes ";") ∷ us)
unfolding marks
semicolon {t} {us} r = mark_reads 59 ([]) t us refl r

pub hash : {t : Text} {us : Toks} → Reads t us → Reads (35 ∷ t) (Mark (codes "#") ∷ us)
unfolding marks
hash {t} {us} r = mark_reads 35 ([]) t us refl r

pub path_mark : {t : Text} {us : Toks} → Reads t us → Reads (58 ∷ 58 ∷ t) (Mark (codes "::") ∷ us)
unfolding marks
path_mark {t} {us} r = mark_reads 58 (58 ∷ []) t us refl r

pub arrow : {t : Text} {us : Toks} → Reads t us → Reads (45 ∷ 62 ∷ t) (Mark (codes "->") ∷ us)
unfolding marks
arrow {t} {us} r = mark_reads 45 (62 ∷ []) t us refl r

pub fat_arrow : {t : Text} {us : Toks} → Reads t us → Reads (61 ∷ 62 ∷ t) (Mark (codes "=>") ∷ us)
unfolding marks
fat_arrow {t} {us} r = mark_reads 61 (62 ∷ []) t us refl r

pub and_mark : {t : Text} {us : Toks} → Reads t us → Reads (38 ∷ 38 ∷ t) (Mark (codes "&&") ∷ us)
unfolding marks
and_mark {t} {us} r = mark_reads 38 (38 ∷ []) t us refl r

pub or_mark : {t : Text} {us : Toks} → Reads t us → Reads (124 ∷ 124 ∷ t) (Mark (codes "||") ∷ us)
unfolding marks
or_mark {t} {us} r = mark_reads 124 (124 ∷ []) t us refl r

pub colon : {t : Text} {us : Toks} → Reads t us → Reads (58 ∷ 32 ∷ t) (Mark (codes ":") ∷ us)
unfolding marks
colon {t} {us} r = mark_reads 58 [] (32 ∷ t) us refl (blank r)

pub equal : {t : Text} {us : Toks} → Reads t us → Reads (61 ∷ 32 ∷ t) (Mark (codes "=") ∷ us)
unfolding marks
equal {t} {us} r = mark_reads 61 [] (32 ∷ t) us refl (blank r)

-- `...` before a parenthesis
pub ellipsis : {t : Text} {us : Toks} → Reads (41 ∷ t) us → Reads (46 ∷ 46 ∷ 46 ∷ 41 ∷ t) (Mark (codes "...") ∷ us)
unfolding marks
ellipsis {t} {us} r = mark_reads 46 (46 ∷ 46 ∷ []) (41 ∷ t) us refl r

-- a colon before a quote or a brace's blank is one with a blank; `!` before a parenthesis
pub bang_paren : {t : Text} {us : Toks} → Reads (40 ∷ t) us → Reads (33 ∷ 40 ∷ t) (Mark (codes "!") ∷ us)
unfolding marks
bang_paren {t} {us} r = mark_reads 33 [] (40 ∷ t) us refl r

-- an operator with a blank behind it
pub operator_reads : (o : Operator) {t : Text} {us : Toks} → Reads t us → Reads (operator_mark o ++ 32 ∷ t) (Mark (operator_mark o) ∷ us)
unfolding marks
operator_reads Add {t} {us} r = mark_reads 43 ([]) (32 ∷ t) us refl (blank r)
operator_reads Sub {t} {us} r = mark_reads 45 ([]) (32 ∷ t) us refl (blank r)
operator_reads Mul {t} {us} r = mark_reads 42 ([]) (32 ∷ t) us refl (blank r)
operator_reads Div {t} {us} r = mark_reads 47 ([]) (32 ∷ t) us refl (blank r)
operator_reads Rem {t} {us} r = mark_reads 37 ([]) (32 ∷ t) us refl (blank r)
operator_reads BitAnd {t} {us} r = mark_reads 38 ([]) (32 ∷ t) us refl (blank r)
operator_reads BitOr {t} {us} r = mark_reads 124 ([]) (32 ∷ t) us refl (blank r)
operator_reads BitXor {t} {us} r = mark_reads 94 ([]) (32 ∷ t) us refl (blank r)
operator_reads Shl {t} {us} r = mark_reads 60 (60 ∷ []) (32 ∷ t) us refl (blank r)
operator_reads Shr {t} {us} r = mark_reads 62 (62 ∷ []) (32 ∷ t) us refl (blank r)
operator_reads Equal {t} {us} r = mark_reads 61 (61 ∷ []) (32 ∷ t) us refl (blank r)
operator_reads NotEqual {t} {us} r = mark_reads 33 (61 ∷ []) (32 ∷ t) us refl (blank r)
operator_reads Less {t} {us} r = mark_reads 60 ([]) (32 ∷ t) us refl (blank r)
operator_reads LessEqual {t} {us} r = mark_reads 60 (61 ∷ []) (32 ∷ t) us refl (blank r)
operator_reads Greater {t} {us} r = mark_reads 62 ([]) (32 ∷ t) us refl (blank r)
operator_reads GreaterEqual {t} {us} r = mark_reads 62 (61 ∷ []) (32 ∷ t) us refl (blank r)

-- ---- marks before an operand or a name

-- what an operand begins with
abbrev pub is_hard : ℕ → Bool
is_hard b = is_word_byte b || b == 40 || b == 42 || b == 91

hard_no : (b c : ℕ) → is_hard b ≡ false → is_hard c ≡ true → nat_eq b c ≡ false
hard_no b c h g = by_equal (nat_eq b c) refl
  where
    by_equal : (e : Bool) → nat_eq b c ≡ e → e ≡ false
    by_equal true is = let same : b ≡ c = grind (arith, nat_tests, is) in let k : false ≡ true = sym h ∙ ap is_hard same ∙ g in cc
    by_equal false is = refl

-- the marks of two and three bytes, and those of one
unfoldable long_marks : List Text
long_marks =
    codes "<<=" ∷ codes ">>=" ∷ codes "..." ∷ codes "..=" ∷
    codes "&&" ∷ codes "||" ∷ codes "<<" ∷ codes ">>" ∷ codes "+=" ∷ codes "-=" ∷ codes "*=" ∷ codes "/=" ∷ codes "%=" ∷
    codes "^=" ∷ codes "&=" ∷ codes "|=" ∷ codes "==" ∷ codes "!=" ∷ codes ">=" ∷ codes "<=" ∷ codes ".." ∷ codes "::" ∷
    codes "->" ∷ codes "=>" ∷ codes "<-" ∷ []

unfoldable short_marks : List Text
short_marks =
    codes "+" ∷ codes "-" ∷ codes "*" ∷ codes "/" ∷ codes "%" ∷ codes "^" ∷ codes "!" ∷ codes "&" ∷ codes "|" ∷ codes "=" ∷
    codes ">" ∷ codes "<" ∷ codes "@" ∷ codes "." ∷ codes "," ∷ codes ";" ∷ codes ":" ∷ codes "#" ∷ codes "$" ∷ codes "?" ∷
    codes "~" ∷ codes "(" ∷ codes ")" ∷ codes "[" ∷ codes "]" ∷ codes "{" ∷ codes "}" ∷ []

marks_are : marks ≡ long_marks ++ short_marks
unfolding marks long_marks short_marks
marks_are = refl

abbrev is_long : Text → Bool
is_long (a ∷ b ∷ m) = not (is_hard b)
is_long _ = false

longs_are_long : list_all is_long long_marks ≡ true
unfolding long_marks
longs_are_long = refl

skip_long : (ms others : List Text) (x c : ℕ) (t : Text) → list_all is_long ms ≡ true → is_hard c ≡ true → first_mark (ms ++ others) (x ∷ c ∷ t) ≡ first_mark others (x ∷ c ∷ t)
skip_long [] others x c t all h = refl
skip_long ([] ∷ ms) others x c t all h = cc
skip_long ((a ∷ []) ∷ ms) others x c t all h = cc
skip_long ((a ∷ b ∷ m) ∷ ms) others x c t all h =
    let parts = and_parts (not (is_hard b)) (list_all is_long ms) all in
    cond-false (starts_with nat_eq (x ∷ c ∷ t) (a ∷ b ∷ m)) _ _ (and_right (nat_eq a x) _ (and_left (nat_eq b c) _ (hard_no b c (not_true (is_hard b) parts.0) h)))
    ∙ skip_long ms others x c t parts.1 h

short_first : (x c : ℕ) (t : Text) → is_hard c ≡ true → first_mark marks (x ∷ c ∷ t) ≡ first_mark short_marks (x ∷ c ∷ t)
short_first x c t h = ap (λ ms. first_mark ms (x ∷ c ∷ t)) marks_are ∙ skip_long long_marks short_marks x c t longs_are_long h

-- what begins with what an operand begins with
abbrev pub hard : Text → Bool
hard [] = false
hard (c ∷ t) = is_hard c

minus_piece : (c : ℕ) (t : Text) → is_hard c ≡ true → mark_front (45 ∷ c ∷ t) ≡ Some (front_of (Mark (codes "-")) 1)
unfolding short_marks
minus_piece c t h = short_first 45 c t h

pub minus : {t : Text} {us : Toks} → hard t ≡ true → Reads t us → Reads (45 ∷ t) (Mark (codes "-") ∷ us)
minus {t = []} {us = us} h r = cc
minus {t = c ∷ t} {us = us} h r =
    mark_reads 45 [] (c ∷ t) us (ap (option_map (λ (front : RToken × ℕ). piece_of (front.0 ∷ []) front.1)) (minus_piece c t h)) r

bang_piece : (c : ℕ) (t : Text) → is_hard c ≡ true → mark_front (33 ∷ c ∷ t) ≡ Some (front_of (Mark (codes "!")) 1)
unfolding short_marks
bang_piece c t h = short_first 33 c t h

pub bang : {t : Text} {us : Toks} → hard t ≡ true → Reads t us → Reads (33 ∷ t) (Mark (codes "!") ∷ us)
bang {t = []} {us = us} h r = cc
bang {t = c ∷ t} {us = us} h r =
    mark_reads 33 [] (c ∷ t) us (ap (option_map (λ (front : RToken × ℕ). piece_of (front.0 ∷ []) front.1)) (bang_piece c t h)) r

star_piece : (c : ℕ) (t : Text) → is_hard c ≡ true → mark_front (42 ∷ c ∷ t) ≡ Some (front_of (Mark (codes "*")) 1)
unfolding short_marks
star_piece c t h = short_first 42 c t h

pub star : {t : Text} {us : Toks} → hard t ≡ true → Reads t us → Reads (42 ∷ t) (Mark (codes "*") ∷ us)
star {t = []} {us = us} h r = cc
star {t = c ∷ t} {us = us} h r =
    mark_reads 42 [] (c ∷ t) us (ap (option_map (λ (front : RToken × ℕ). piece_of (front.0 ∷ []) front.1)) (star_piece c t h)) r

dot_piece : (c : ℕ) (t : Text) → is_hard c ≡ true → mark_front (46 ∷ c ∷ t) ≡ Some (front_of (Mark (codes ".")) 1)
unfolding short_marks
dot_piece c t h = short_first 46 c t h

pub dot : {t : Text} {us : Toks} → hard t ≡ true → Reads t us → Reads (46 ∷ t) (Mark (codes ".") ∷ us)
dot {t = []} {us = us} h r = cc
dot {t = c ∷ t} {us = us} h r =
    mark_reads 46 [] (c ∷ t) us (ap (option_map (λ (front : RToken × ℕ). piece_of (front.0 ∷ []) front.1)) (dot_piece c t h)) r

less_piece : (c : ℕ) (t : Text) → is_hard c ≡ true → mark_front (60 ∷ c ∷ t) ≡ Some (front_of (Mark (codes "<")) 1)
unfolding short_marks
less_piece c t h = short_first 60 c t h

pub less : {t : Text} {us : Toks} → hard t ≡ true → Reads t us → Reads (60 ∷ t) (Mark (codes "<") ∷ us)
less {t = []} {us = us} h r = cc
less {t = c ∷ t} {us = us} h r =
    mark_reads 60 [] (c ∷ t) us (ap (option_map (λ (front : RToken × ℕ). piece_of (front.0 ∷ []) front.1)) (less_piece c t h)) r

-- ---- ends of lists of types

abbrev closes_test : Text → Bool
closes_test (a ∷ b ∷ m) = not (nat_eq a 62) || (nat_eq b 62 || nat_eq b 61)
closes_test _ = false

longs_are_closes : list_all closes_test long_marks ≡ true
unfolding long_marks
longs_are_closes = refl

no_match : (a b c : ℕ) (m : Text) (t : Text) → closes_test (a ∷ b ∷ m) ≡ true → nat_eq 62 c ≡ false → nat_eq 61 c ≡ false →
    starts_with nat_eq (62 ∷ c ∷ t) (a ∷ b ∷ m) ≡ false
no_match a b c m t test h g = by_first (nat_eq a 62) refl test
  where
    by_second : (x y : Bool) → nat_eq b 62 ≡ x → nat_eq b 61 ≡ y → (x || y) ≡ true → nat_eq b c ≡ false
    by_second true y is also k = let same : b ≡ 62 = grind (arith, nat_tests, is) in ap (λ n. nat_eq n c) same ∙ h
    by_second false true is also k = let same : b ≡ 61 = grind (arith, nat_tests, also) in ap (λ n. nat_eq n c) same ∙ g
    by_second false false is also k = cc

    by_first : (x : Bool) → nat_eq a 62 ≡ x → (not x || (nat_eq b 62 || nat_eq b 61)) ≡ true → starts_with nat_eq (62 ∷ c ∷ t) (a ∷ b ∷ m) ≡ false
    by_first true is k = and_right (nat_eq a 62) _ (and_left (nat_eq b c) _ (by_second (nat_eq b 62) (nat_eq b 61) refl refl k))
    by_first false is k = and_left (nat_eq a 62) _ is

skip_close : (ms others : List Text) (c : ℕ) (t : Text) → list_all closes_test ms ≡ true → nat_eq 62 c ≡ false → nat_eq 61 c ≡ false →
    first_mark (ms ++ others) (62 ∷ c ∷ t) ≡ first_mark others (62 ∷ c ∷ t)
skip_close [] others c t all h g = refl
skip_close ([] ∷ ms) others c t all h g = cc
skip_close ((a ∷ []) ∷ ms) others c t all h g = cc
skip_close ((a ∷ b ∷ m) ∷ ms) others c t all h g =
    let parts = and_parts (closes_test (a ∷ b ∷ m)) (list_all closes_test ms) all in
    cond-false (starts_with nat_eq (62 ∷ c ∷ t) (a ∷ b ∷ m)) _ _ (no_match a b c m t parts.0 h g) ∙ skip_close ms others c t parts.1 h g

swap_eq : (a b : ℕ) → (a == b) ≡ false → nat_eq b a ≡ false
swap_eq a b h = grind (arith, nat_tests, h)

short_close : (c : ℕ) (t : Text) → first_mark short_marks (62 ∷ c ∷ t) ≡ Some (front_of (Mark (codes ">")) 1)
unfolding short_marks
short_close c t = refl

close_front : (t : Text) → soft t ≡ true → mark_front (62 ∷ t) ≡ Some (front_of (Mark (codes ">")) 1)
unfolding marks
close_front [] h = refl
close_front (c ∷ t) h =
    let s = soft_parts c h in
    ap (λ ms. first_mark ms (62 ∷ c ∷ t)) marks_are ∙ skip_close long_marks short_marks c t longs_are_closes (swap_eq c 62 s.greater) (swap_eq c 61 s.equal) ∙ short_close c t

double_front : (t : Text) → nat_eq 61 (slice_index t 0) ≡ false → mark_front (62 ∷ 62 ∷ t) ≡ Some (front_of (Mark (codes ">>")) 2)
unfolding marks
double_front [] h = refl
double_front (c ∷ t) h = cond-false (nat_eq 61 c && true) _ _ (and_left (nat_eq 61 c) true h)

fit_close : (o : Option Toks) (us : Toks) → both_fit o (Some us) ≡ true → both_fit (then_tokens (Mark (codes ">") ∷ []) o) (Some (Close ∷ us)) ≡ true
fit_close None us h = cc
fit_close (Some ts) [] h = h
fit_close (Some ts) (Close ∷ us) h = h
fit_close (Some ts) (Word x ∷ us) h = h
fit_close (Some ts) (Label x ∷ us) h = h
fit_close (Some ts) (Quoted x ∷ us) h = h
fit_close (Some ts) (Mark x ∷ us) h = h

fit_double : (o : Option Toks) (us : Toks) → both_fit o (Some us) ≡ true → both_fit (then_tokens (Mark (codes ">>") ∷ []) o) (Some (Close ∷ Close ∷ us)) ≡ true
fit_double None us h = cc
fit_double (Some ts) us h = h

close_reads : (t : Text) (us : Toks) → soft t ≡ true → Reads t us → Reads (62 ∷ t) (Close ∷ us)
close_reads t us h r =
    let is : piece_at 62 t ≡ Some (piece_of (Mark (codes ">") ∷ []) 1) = ap (option_map (λ (front : RToken × ℕ). piece_of (front.0 ∷ []) front.1)) (close_front t h) in
    record { fit = ap (λ o. both_fit o (Some (Close ∷ us))) (lexed 62 [] t (Mark (codes ">") ∷ []) is) ∙ fit_close (tokens_in t) us r.fit }

double_reads : (t : Text) (us : Toks) → nat_eq 61 (slice_index t 0) ≡ false → Reads t us → Reads (62 ∷ 62 ∷ t) (Close ∷ Close ∷ us)
double_reads t us h r =
    let is : piece_at 62 (62 ∷ t) ≡ Some (piece_of (Mark (codes ">>") ∷ []) 2) = ap (option_map (λ (front : RToken × ℕ). piece_of (front.0 ∷ []) front.1)) (double_front t h) in
    record { fit = ap (λ o. both_fit o (Some (Close ∷ Close ∷ us))) (lexed 62 (62 ∷ []) t (Mark (codes ">>") ∷ []) is) ∙ fit_double (tokens_in t) us r.fit }

abbrev pub angles : ℕ → Text → Text
angles zero t = t
angles (suc n) t = 62 ∷ angles n t

abbrev pub closes : ℕ → Toks → Toks
closes zero us = us
closes (suc n) us = Close ∷ closes n us

no_equal : (n : ℕ) (t : Text) → soft t ≡ true → nat_eq 61 (slice_index (angles n t) 0) ≡ false
no_equal zero t h = swap_eq (slice_index t 0) 61 (soft_parts (slice_index t 0) h).equal
no_equal (suc n) t h = refl

pub angles_mild : (n : ℕ) (t : Text) → soft t ≡ true → mild (angles n t) ≡ true
angles_mild zero t h = mild_of t h
angles_mild (suc n) t h = refl

pub closes_read : (n : ℕ) (t : Text) (us : Toks) → soft t ≡ true → Reads t us → Reads (angles n t) (closes n us)
closes_read zero t us h r = r
closes_read (suc zero) t us h r = close_reads t us h r
closes_read (suc (suc n)) t us h r = double_reads (angles n t) (closes n us) (no_equal n t h) (closes_read n t us h r)
