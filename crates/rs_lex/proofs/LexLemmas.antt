-- What a text spells is what its first piece is, and then what stands behind it spells.
use Rattle.std.proofs.Common.{◌≡◌, ℕ, zero, suc, ◌+◌, ◌≤◌, ◌<◌, ◌==◌, Bool, true, false, not, ◌&&◌, ◌||◌, nat_eq, nat_le, if◌then◌else◌, Option, Some, None, option_map, List, [], ◌∷◌, ◌++◌, length, take, drop, refl, sym, ap, subst, ◌∙◌, arith, append_assoc, append-nil, length-drop, length-take, slice_index, codes}
use Rattle.std.specs.List.{starts_with, list_all}
use Rattle.std.specs.Cmp.Lexicographic.{same_text}
use Rattle.std.proofs.lemmas.Bool.{and_parts}
use Rattle.std.proofs.lemmas.List.{get_or_past}
use Rattle.std.proofs.lemmas.List.Sums.{prefix_len-le-length}
use Rattle.std.proofs.lemmas.Bool.Decides.{nat_tests}
use Rattle.rs_text.specs.Names.{is_word_byte}
use Rattle.rs_text.specs.Tokens.{RToken, Word, Label, Quoted, Mark, Front, marks, is_blank, is_prefix_mark, word_size, word_front, is_raw, quoted_size, quoted_front, label_front, first_mark, begins_comment, mark_front, token_at, piece_at, then_tokens, tokens_behind, tokens_within, tokens_in}
use Rattle.rs_lex.specs.declared.angles.Last.{Last}
use Rattle.rs_lex.specs.declared.angles.Last.TheVariants.{Other}
use Rattle.rs_lex.specs.declared.token.Token.{Token}
use Rattle.rs_lex.specs.Closed.{closed_token, open_behind, last_of, closed_from, closed_in}
use Rattle.rs_lex.specs.Lexed.{open_after, last_after, left, ReadTo}
use Rattle.rs_lex.specs.Views.{tokens_view, piece_in}

-- ---- sizes of pieces

abbrev pub IsSize : ℕ → ℕ → Type 0
IsSize size most = (1 ≤ size) × (size ≤ most)

unless_none : {A : Type 0} (b : Bool) (x y : A) → (if b then None else Some x) ≡ Some y → x ≡ y
unless_none true x y h = cc
unless_none false x y h = cc

when_some : {A : Type 0} (b : Bool) (x y : A) → (if b then Some x else None) ≡ Some y → x ≡ y
when_some true x y h = cc
when_some false x y h = cc

when_true : {A : Type 0} (b : Bool) (x y : A) → (if b then Some x else None) ≡ Some y → b ≡ true
when_true true x y h = refl
when_true false x y h = cc

abbrev Sized_token : Type 0
Sized_token = RToken × ℕ

abbrev pair : RToken → ℕ → Sized_token
pair t n = (t, n)

second : (x y : RToken) (m n : ℕ) → pair x m ≡ pair y n → m ≡ n
second x y m n h = ap (λ (p : Sized_token). p.1) h

some_same : {A : Type 0} (x y : A) → Some x ≡ Some y → x ≡ y
some_same x y h = cc

same_start : (needle text : List ℕ) → starts_with nat_eq text needle ≡ true → length needle ≤ length text
same_start needle text h =
    let e : needle ≡ take (length needle) text = same_text needle (take (length needle) text) (sym h) in
    let l : length needle ≡ length (take (length needle) text) = ap length e in
    omega (arith, l, length-take (length needle) text)

abbrev SizedIn : List ℕ → Front → Type 0
SizedIn text front = (t : RToken) (n : ℕ) → front ≡ Some (t, n) → IsSize n (length text)

mark_step : (m : List ℕ) (text : List ℕ) (others : Front) (b : Bool) → starts_with nat_eq text m ≡ b → nat_le 1 (length m) ≡ true →
    SizedIn text others → SizedIn text (if b then Some (Mark m, length m) else others)
mark_step m text others true is some next t n h =
    let e : length m ≡ n = second (Mark m) t (length m) n (some_same (pair (Mark m) (length m)) (pair t n) h) in
    let l = same_start m text is in
    let f : 1 ≤ length m = grind (arith, nat_tests, some) in
    (omega (arith, e, f), omega (arith, e, l))
mark_step m text others false is some next t n h = next t n h

-- a mark of a list without empty ones
mark_size : (ms : List (List ℕ)) (text : List ℕ) → list_all (λ m. nat_le 1 (length m)) ms ≡ true → SizedIn text (first_mark ms text)
mark_size [] text all = λ t n h. cc
mark_size (m ∷ ms) text all =
    let parts = and_parts (nat_le 1 (length m)) (list_all (λ m. nat_le 1 (length m)) ms) all in
    mark_step m text (first_mark ms text) (starts_with nat_eq text m) refl parts.0 (mark_size ms text parts.1)

marks_are_some : list_all (λ m. nat_le 1 (length m)) marks ≡ true
unfolding marks
marks_are_some = refl

not_comment : (b : Bool) (text : List ℕ) (found : Front) → SizedIn text found → SizedIn text (if b then None else found)
not_comment true text found sized t n h = cc
not_comment false text found sized t n h = sized t n h

mark_front-size : (text : List ℕ) → SizedIn text (mark_front text)
mark_front-size text = not_comment (begins_comment text) text (first_mark marks text) (mark_size marks text marks_are_some)

word_size_of : (text : List ℕ) (size : ℕ) (t : RToken) (n : ℕ) → word_front text size ≡ Some (t, n) → size ≡ n
word_size_of text size t n h =
    second (Word (take size text)) t size n (unless_none (is_prefix_mark (slice_index text size)) (Word (take size text), size) (t, n) h)

-- a byte that isn't 0 stands within its text
index_within : (text : List ℕ) (at b : ℕ) → slice_index text at ≡ suc b → at < length text
index_within [] at b h = let e : slice_index [] at ≡ 0 = get_or_past [] at 0 (omega arith) in let f : 0 ≡ suc b = sym e ∙ h in cc
index_within (c ∷ text) zero b h = omega arith
index_within (c ∷ text) (suc at) b h = let more = index_within text at b h in omega (arith, more)

word_first : (byte : ℕ) (rest : List ℕ) → is_word_byte byte ≡ true → 1 ≤ word_size (byte ∷ rest)
word_first byte rest h = grind (arith, h)

label_size : (rest : List ℕ) (t : RToken) (n : ℕ) → label_front rest (word_size rest) ≡ Some (t, n) → IsSize n (suc (length rest))
label_size rest t n h =
    let size = word_size rest in
    let e : size + 1 ≡ n = second (Label (take size rest)) t (size + 1) n
    (unless_none (size == 0 || is_prefix_mark (slice_index rest size)) (Label (take size rest), size + 1) (t, n) h) in
    let l = prefix_len-le-length is_word_byte rest in
    (omega (arith, e), omega (arith, e, l))

quoted_size-within : (rest : List ℕ) (t : RToken) (n : ℕ) → quoted_front rest ≡ Some (t, n) → IsSize n (suc (length rest))
quoted_size-within rest t n h =
    let size = quoted_size rest in
    let test = slice_index rest size == 34 && not (is_word_byte (slice_index rest (size + 1))) in
    let e : size + 2 ≡ n = second (Quoted (take size rest)) t (size + 2) n (when_some test (Quoted (take size rest), size + 2) (t, n) h) in
    let parts = and_parts (slice_index rest size == 34) (not (is_word_byte (slice_index rest (size + 1)))) (when_true test (Quoted (take size rest), size + 2) (t, n) h) in
    let is : slice_index rest size ≡ 34 = grind (arith, nat_tests, parts.0) in
    let l = index_within rest size 33 is in
    (omega (arith, e), omega (arith, e, l))

-- ---- by the first byte

abbrev Sized : ℕ → List ℕ → Front → Type 0
Sized byte rest front = (t : RToken) (n : ℕ) → front ≡ Some (t, n) → IsSize n (suc (length rest))

either_way : (byte : ℕ) (rest : List ℕ) (b : Bool) (x y : Front) → (b ≡ true → Sized byte rest x) → (b ≡ false → Sized byte rest y) → Sized byte rest (if b then x else y)
either_way byte rest true x y yes_way no_way = yes_way refl
either_way byte rest false x y yes_way no_way = no_way refl

raw_size : (byte : ℕ) (rest : List ℕ) → is_raw (byte ∷ rest) ≡ true → Sized byte rest (word_front (byte ∷ rest) (2 + word_size (drop 1 rest)))
raw_size byte rest raw t n h =
    let parts = and_parts (starts_with nat_eq (byte ∷ rest) (codes "r#")) (is_word_byte (slice_index (byte ∷ rest) 2)) raw in
    let two : 2 ≤ length (byte ∷ rest) = same_start (codes "r#") (byte ∷ rest) parts.0 in
    let e = word_size_of (byte ∷ rest) (2 + word_size (drop 1 rest)) t n h in
    let l = prefix_len-le-length is_word_byte (drop 1 rest) in
    (omega (arith, e), omega (arith, e, l, two, length-drop 1 rest))

word_front-size : (byte : ℕ) (rest : List ℕ) → is_word_byte byte ≡ true → Sized byte rest (word_front (byte ∷ rest) (word_size (byte ∷ rest)))
word_front-size byte rest word t n h =
    let e = word_size_of (byte ∷ rest) (word_size (byte ∷ rest)) t n h in
    let l = prefix_len-le-length is_word_byte (byte ∷ rest) in
    let f = word_first byte rest word in
    (omega (arith, e, f), omega (arith, e, l))

front_size : (byte : ℕ) (rest : List ℕ) → Sized byte rest (token_at byte rest)
front_size byte rest =
    either_way byte rest (is_raw (byte ∷ rest)) _ _ (raw_size byte rest) (λ _.
    either_way byte rest (is_word_byte byte) _ _ (word_front-size byte rest) (λ _.
    either_way byte rest (byte == 34) _ _ (λ _ t n h. quoted_size-within rest t n h) (λ _.
    either_way byte rest (byte == 39) _ _ (λ _ t n h. label_size rest t n h) (λ _ t n h. mark_front-size (byte ∷ rest) t n h))))

abbrev pub Pieced : Type 0
Pieced = List RToken × ℕ

abbrev pub seen : List RToken → ℕ → Pieced
seen ts n = (ts, n)

same_size : (xs ys : List RToken) (m n : ℕ) → Some (seen xs m) ≡ Some (seen ys n) → m ≡ n
same_size xs ys m n h = ap (λ (p : Pieced). p.1) (some_same (seen xs m) (seen ys n) h)

abbrev in_list : Front → Option Pieced
in_list front = option_map (λ front. (front.0 ∷ [], front.1)) front

mapped_size : (byte : ℕ) (rest : List ℕ) (front : Front) → Sized byte rest front → (ts : List RToken) (n : ℕ) →
    in_list front ≡ Some (ts, n) → IsSize n (suc (length rest))
mapped_size byte rest None sized ts n h = cc
mapped_size byte rest (Some front) sized ts n h = sized front.0 n (ap (λ m. Some (pair front.0 m)) (same_size (front.0 ∷ []) ts front.1 n h))

piece_by : (byte : ℕ) (rest : List ℕ) (b : Bool) (other : Option Pieced) (ts : List RToken) (n : ℕ) →
    (if b then Some (seen [] 1) else other) ≡ Some (ts, n) → (other ≡ Some (ts, n) → IsSize n (suc (length rest))) → IsSize n (suc (length rest))
piece_by byte rest true other ts n h next = let e = same_size [] ts 1 n h in (omega (arith, e), omega (arith, e))
piece_by byte rest false other ts n h next = next h

pub piece_size : (byte : ℕ) (rest : List ℕ) (ts : List RToken) (n : ℕ) → piece_at byte rest ≡ Some (ts, n) → IsSize n (suc (length rest))
piece_size byte rest ts n h = piece_by byte rest (is_blank byte) (in_list (token_at byte rest)) ts n h (mapped_size byte rest (token_at byte rest) (front_size byte rest) ts n)

-- ---- the tokens of a text by its first piece

behind_same : (piece : Option (List RToken × ℕ)) (text : List ℕ) (f g : List ℕ → Option (List RToken)) →
    ((ts : List RToken) (n : ℕ) → piece ≡ Some (ts, n) → f (drop n text) ≡ g (drop n text)) → tokens_behind piece text f ≡ tokens_behind piece text g
behind_same None text f g same = refl
behind_same (Some piece) text f g same = ap (then_tokens piece.0) (same piece.0 piece.1 refl)

-- a bound beyond the text's length changes nothing
pub within_more : (n m : ℕ) (text : List ℕ) → length text ≤ n → length text ≤ m → tokens_within n text ≡ tokens_within m text
within_more zero zero [] a b = refl
within_more zero (suc m) [] a b = refl
within_more (suc n) zero [] a b = refl
within_more (suc n) (suc m) [] a b = refl
within_more zero m (byte ∷ rest) a b = absurd (omega (arith, a))
within_more (suc n) zero (byte ∷ rest) a b = absurd (omega (arith, b))
within_more (suc n) (suc m) (byte ∷ rest) a b =
    behind_same (piece_at byte rest) (byte ∷ rest) (tokens_within n) (tokens_within m) (λ ts k h.
    let size = piece_size byte rest ts k h in
    within_more n m (drop k (byte ∷ rest)) (omega (arith, a, size.0, length-drop k (byte ∷ rest))) (omega (arith, b, size.0, length-drop k (byte ∷ rest))))

pub tokens_by_piece : (byte : ℕ) (rest : List ℕ) → tokens_in (byte ∷ rest) ≡ tokens_behind (piece_at byte rest) (byte ∷ rest) tokens_in
tokens_by_piece byte rest =
    behind_same (piece_at byte rest) (byte ∷ rest) (tokens_within (length rest)) tokens_in (λ ts k h.
    let size = piece_size byte rest ts k h in
    within_more (length rest) (length (drop k (byte ∷ rest))) (drop k (byte ∷ rest)) (omega (arith, size.0, length-drop k (byte ∷ rest))) (omega arith))

-- ---- ends of lists of types

pub closed_append : (n : ℕ) (last : Last) (xs ys : List RToken) →
    closed_from n last (xs ++ ys) ≡ closed_from n last xs ++ closed_from (open_after n last xs) (last_after last xs) ys
closed_append n last [] ys = refl
closed_append n last (x ∷ xs) ys =
    ap (λ l. closed_token n x ++ l) (closed_append (open_behind n last x) (last_of x) xs ys)
    ∙ sym (append_assoc (closed_token n x) (closed_from (open_behind n last x) (last_of x) xs) _)

mapped_then : (n : ℕ) (last : Last) (ts : List RToken) (o : Option (List RToken)) →
    option_map (closed_from n last) (then_tokens ts o)
    ≡ then_tokens (closed_from n last ts) (option_map (closed_from (open_after n last ts) (last_after last ts)) o)
mapped_then n last ts None = refl
mapped_then n last ts (Some tokens) = ap Some (closed_append n last ts tokens)

pub then_twice : (a b : List RToken) (o : Option (List RToken)) → then_tokens a (then_tokens b o) ≡ then_tokens (a ++ b) o
then_twice a b None = refl
then_twice a b (Some tokens) = ap Some (sym (append_assoc a b tokens))

-- ---- the loop

pub read_start : (text : List ℕ) → ReadTo text [] 0 Other text
read_start text = record { same = nothing_before (closed_in text); within = omega arith }
  where
    nothing_before : (o : Option (List RToken)) → o ≡ then_tokens [] o
    nothing_before None = refl
    nothing_before (Some tokens) = refl

abbrev then_left : Option (List RToken × ℕ) → List ℕ → ℕ → Last → Option (List RToken)
then_left None text n last = None
then_left (Some piece) text n last =
    then_tokens (closed_from n last piece.0) (left (open_after n last piece.0) (last_after last piece.0) (drop piece.1 text))

left_by : (piece : Option (List RToken × ℕ)) (text : List ℕ) (n : ℕ) (last : Last) →
    option_map (closed_from n last) (tokens_behind piece text tokens_in) ≡ then_left piece text n last
left_by None text n last = refl
left_by (Some piece) text n last = mapped_then n last piece.0 (tokens_in (drop piece.1 text))

left_step : (byte : ℕ) (rest : List ℕ) (n : ℕ) (last : Last) → left n last (byte ∷ rest) ≡ then_left (piece_at byte rest) (byte ∷ rest) n last
left_step byte rest n last = ap (option_map (closed_from n last)) (tokens_by_piece byte rest) ∙ left_by (piece_at byte rest) (byte ∷ rest) n last

-- where no piece begins, there are no tokens
pub read_stops : (text : List ℕ) (tokens : List Token) (n : ℕ) (last : Last) (rest : List ℕ) → ReadTo text tokens n last rest →
    1 ≤ length rest → None ≡ piece_in rest → closed_in text ≡ None
read_stops text tokens n last [] read some none = absurd (omega (arith, some))
read_stops text tokens n last (byte ∷ rest) read some none =
    read.same ∙ ap (then_tokens (tokens_view tokens)) (left_step byte rest n last ∙ ap (λ p. then_left p (byte ∷ rest) n last) (sym none))

pub size_within : (rest : List ℕ) (ts : List RToken) (k : ℕ) → Some (seen ts k) ≡ piece_in rest → IsSize k (length rest)
size_within [] ts k is = cc
size_within (byte ∷ rest) ts k is = piece_size byte rest ts k (sym is)

pub read_goes_on : (text : List ℕ) (tokens after : List Token) (n m : ℕ) (last next : Last) (rest behind : List ℕ) (ts : List RToken) (k : ℕ) →
    ReadTo text tokens n last rest → Some (seen ts k) ≡ piece_in rest → tokens_view after ≡ tokens_view tokens ++ closed_from n last ts →
    m ≡ open_after n last ts → next ≡ last_after last ts → m ≤ n + 1 → behind ≡ drop k rest → ReadTo text after m next behind
read_goes_on text tokens after n m last next [] behind ts k read piece added count follows more cut = cc
read_goes_on text tokens after n m last next (byte ∷ rest) behind ts k read piece added count follows more cut =
    let size = piece_size byte rest ts k (sym piece) in
    let left_then : Option (List RToken) = then_tokens (closed_from n last ts) (left (open_after n last ts) (last_after last ts) (drop k (byte ∷ rest))) in
    let step : left n last (byte ∷ rest) ≡ left_then = left_step byte rest n last ∙ ap (λ p. then_left p (byte ∷ rest) n last) (sym piece) in
    subst (λ (t : List ℕ). ReadTo text after m next t) (sym cut) (record {
      same = read.same ∙ ap (then_tokens (tokens_view tokens)) step
          ∙ then_twice (tokens_view tokens) (closed_from n last ts) (left (open_after n last ts) (last_after last ts) (drop k (byte ∷ rest)))
          ∙ ap (λ l. then_tokens l (left (open_after n last ts) (last_after last ts) (drop k (byte ∷ rest)))) (sym added)
          ∙ ap (λ i. then_tokens (tokens_view after) (left i (last_after last ts) (drop k (byte ∷ rest)))) (sym count)
          ∙ ap (λ i. then_tokens (tokens_view after) (left m i (drop k (byte ∷ rest)))) (sym follows);
      within = omega (arith, read.within, more, size.0, size.1, length-drop k (byte ∷ rest));
    })

pub read_ends : (text : List ℕ) (tokens : List Token) (n : ℕ) (last : Last) (rest : List ℕ) → ReadTo text tokens n last rest → length rest ≡ 0 →
    closed_in text ≡ Some (tokens_view tokens)
read_ends text tokens n last [] read none = read.same ∙ ap Some (append-nil (tokens_view tokens))
read_ends text tokens n last (byte ∷ rest) read none = absurd (omega (arith, none))

pub shorter : (rest behind : List ℕ) (k : ℕ) → IsSize k (length rest) → behind ≡ drop k rest → length behind < length rest
shorter rest behind k size cut = omega (arith, size.0, size.1, ap length cut, length-drop k rest)
