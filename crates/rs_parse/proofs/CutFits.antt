-- A text spells its own tokens, where the ends of lists of types are told apart.
use Rattle.std.proofs.Common.{◌≡◌, ℕ, zero, suc, Bool, true, false, not, ◌&&◌, ◌||◌, ◌==◌, ◌+◌, nat_eq, nat_le, take, List, [], ◌∷◌, ◌++◌, codes, bytes_eq, Option, Some, None, option_map, refl, sym, ap, subst, ◌∙◌, slice_index, if◌then◌else◌, length, replicate, drop}
use Rattle.std.specs.Cmp.Lexicographic.{same_text}
use Rattle.std.specs.List.{list_all, starts_with}
use Rattle.rs_lex.specs.Closed.{closed_in, closed_token, closed_from, open_behind, last_of}
use Rattle.rs_text.specs.Names.{is_word_byte}
use Rattle.rs_text.specs.Reads.{fits, both_fit}
use Rattle.rs_text.specs.Tokens.{RToken, Word, Mark, Label, Quoted, Close, Front, marks, is_blank, is_raw, is_prefix_mark, word_front, quoted_front, label_front, mark_front, first_mark, begins_comment, word_size, quoted_size, token_at, piece_at, then_tokens, tokens_behind, tokens_within, tokens_in}
use Rattle.rs_parse.proofs.Lexing.{Toks, Text, same_self}
use Rattle.rs_parse.proofs.MainText.{is_plain, plain_both}

-- ---- no text has the end of a list of types as a token

abbrev front_plain : Front → Bool
front_plain None = true
front_plain (Some front) = is_plain front.0

if_plain : (b : Bool) (f g : Front) → front_plain f ≡ true → front_plain g ≡ true → front_plain (if b then f else g) ≡ true
if_plain true f g h k = h
if_plain false f g h k = k

first_plain : (ms : List Text) (text : Text) → front_plain (first_mark ms text) ≡ true
first_plain [] text = refl
first_plain (m ∷ ms) text = if_plain (starts_with nat_eq text m) (Some (Mark m, length m)) (first_mark ms text) refl (first_plain ms text)

word_plain : (text : Text) (size : ℕ) → front_plain (word_front text size) ≡ true
word_plain text size = if_plain (is_prefix_mark (slice_index text size)) None (Some (Word (take size text), size)) refl refl

quoted_plain : (text : Text) → front_plain (quoted_front text) ≡ true
quoted_plain text =
    if_plain (slice_index text (quoted_size text) == 34 && not (is_word_byte (slice_index text (quoted_size text + 1))))
    (Some (Quoted (take (quoted_size text) text), quoted_size text + 2)) None refl refl

label_plain : (text : Text) (size : ℕ) → front_plain (label_front text size) ≡ true
label_plain text size = if_plain (size == 0 || is_prefix_mark (slice_index text size)) None (Some (Label (take size text), size + 1)) refl refl

mark_plain : (text : Text) → front_plain (mark_front text) ≡ true
mark_plain text = if_plain (begins_comment text) None (first_mark marks text) refl (first_plain marks text)

front_is_plain : (b : ℕ) (rest : Text) → front_plain (token_at b rest) ≡ true
front_is_plain b rest =
    if_plain (is_raw (b ∷ rest)) (word_front (b ∷ rest) (2 + word_size (drop 1 rest)))
    (if is_word_byte b then word_front (b ∷ rest) (word_size (b ∷ rest)) else if b == 34 then quoted_front rest else if b == 39 then label_front rest (word_size rest) else mark_front (b ∷ rest))
    (word_plain (b ∷ rest) (2 + word_size (drop 1 rest)))
    (if_plain (is_word_byte b) (word_front (b ∷ rest) (word_size (b ∷ rest)))
    (if b == 34 then quoted_front rest else if b == 39 then label_front rest (word_size rest) else mark_front (b ∷ rest))
    (word_plain (b ∷ rest) (word_size (b ∷ rest)))
    (if_plain (b == 34) (quoted_front rest) (if b == 39 then label_front rest (word_size rest) else mark_front (b ∷ rest)) (quoted_plain rest)
    (if_plain (b == 39) (label_front rest (word_size rest)) (mark_front (b ∷ rest)) (label_plain rest (word_size rest)) (mark_plain (b ∷ rest)))))

abbrev piece_plain : Option (Toks × ℕ) → Bool
piece_plain None = true
piece_plain (Some piece) = list_all is_plain piece.0

made_plain : (front : Front) → front_plain front ≡ true → piece_plain (option_map (λ front. (front.0 ∷ [], front.1)) front) ≡ true
made_plain None h = refl
made_plain (Some front) h = ap (λ b. b && true) h

blank_plain : (b : Bool) (o : Option (Toks × ℕ)) → piece_plain o ≡ true → piece_plain (if b then Some ([], 1) else o) ≡ true
blank_plain true o h = refl
blank_plain false o h = h

piece_is_plain : (b : ℕ) (rest : Text) → piece_plain (piece_at b rest) ≡ true
piece_is_plain b rest =
    blank_plain (is_blank b) (option_map (λ front. (front.0 ∷ [], front.1)) (token_at b rest)) (made_plain (token_at b rest) (front_is_plain b rest))

abbrev all_plain : Option Toks → Bool
all_plain None = true
all_plain (Some ts) = list_all is_plain ts

then_plain : (xs : Toks) (o : Option Toks) → list_all is_plain xs ≡ true → all_plain o ≡ true → all_plain (then_tokens xs o) ≡ true
then_plain xs None h k = refl
then_plain xs (Some ts) h k = plain_both xs ts h k

rest_plain : (piece : Option (Toks × ℕ)) (text : Text) (others : Text → Option Toks) → piece_plain piece ≡ true → ((t : Text) → all_plain (others t) ≡ true) →
    all_plain (tokens_behind piece text others) ≡ true
rest_plain None text others h k = refl
rest_plain (Some piece) text others h k = then_plain piece.0 (others (drop piece.1 text)) h (k (drop piece.1 text))

within_plain : (n : ℕ) (text : Text) → all_plain (tokens_within n text) ≡ true
within_plain n [] = refl
within_plain zero (b ∷ rest) = refl
within_plain (suc n) (b ∷ rest) = rest_plain (piece_at b rest) (b ∷ rest) (tokens_within n) (piece_is_plain b rest) (within_plain n)

abbrev toks_or : Option Toks → Toks
toks_or None = []
toks_or (Some ts) = ts

-- ---- tokens of a text, and the same where ends are told apart

one_or_end : (e : Bool) (ts us : Toks) → fits ts us ≡ true → fits (Mark (codes ">") ∷ ts) ((if e then Close ∷ [] else Mark (codes ">") ∷ []) ++ us) ≡ true
one_or_end true ts [] h = h
one_or_end true ts (Close ∷ us) h = h
one_or_end true ts (Word x ∷ us) h = h
one_or_end true ts (Label x ∷ us) h = h
one_or_end true ts (Quoted x ∷ us) h = h
one_or_end true ts (Mark x ∷ us) h = h
one_or_end false ts us h = h

two_or_ends : (e : Bool) (ts us : Toks) → fits ts us ≡ true →
    fits (Mark (codes ">>") ∷ ts) ((if e then Close ∷ Close ∷ [] else Mark (codes ">>") ∷ []) ++ us) ≡ true
two_or_ends true ts us h = h
two_or_ends false ts us h = h

abbrev ended : ℕ → Text → ℕ → Toks
ended n x k = if nat_le 1 k && nat_le k n then replicate k Close else Mark x ∷ []

pub no_end : (n : ℕ) (x : Text) → bytes_eq x (codes ">") ≡ false → bytes_eq x (codes ">>") ≡ false → closed_token n (Mark x) ≡ Mark x ∷ []
no_end n x h k =
    ap (λ (b : Bool). ended n x (if b then 1 else if bytes_eq x (codes ">>") then 2 else 0)) h
    ∙ ap (λ (c : Bool). ended n x (if c then 2 else 0)) k

mark_fits : (b c : Bool) (n : ℕ) (x : Text) (ts us : Toks) → bytes_eq x (codes ">") ≡ b → bytes_eq x (codes ">>") ≡ c → fits ts us ≡ true →
    fits (Mark x ∷ ts) (closed_token n (Mark x) ++ us) ≡ true
mark_fits true c n x ts us h k f =
    subst (λ (l : Text). fits (Mark l ∷ ts) (closed_token n (Mark l) ++ us) ≡ true) (sym (same_text x (codes ">") (sym h))) (one_or_end (nat_le 1 n) ts us f)
mark_fits false true n x ts us h k f =
    subst (λ (l : Text). fits (Mark l ∷ ts) (closed_token n (Mark l) ++ us) ≡ true) (sym (same_text x (codes ">>") (sym k))) (two_or_ends (nat_le 2 n) ts us f)
mark_fits false false n x ts us h k f =
    subst (λ (out : Toks). fits (Mark x ∷ ts) (out ++ us) ≡ true) (sym (no_end n x h k)) (ap (λ b. b && fits ts us) (same_self x) ∙ f)

closed_fits : (n : ℕ) (p : RToken) (ts : Toks) → list_all is_plain ts ≡ true → fits ts (closed_from n (last_of p) ts) ≡ true
closed_fits n p [] h = refl
closed_fits n p (Close ∷ ts) h = cc
closed_fits n p (Word x ∷ ts) h =
    ap (λ b. b && fits ts (closed_from (open_behind n (last_of p) (Word x)) (last_of (Word x)) ts)) (same_self x) ∙ closed_fits (open_behind n (last_of p) (Word x)) (Word x) ts h
closed_fits n p (Label x ∷ ts) h =
    ap (λ b. b && fits ts (closed_from (open_behind n (last_of p) (Label x)) (last_of (Label x)) ts)) (same_self x) ∙ closed_fits (open_behind n (last_of p) (Label x)) (Label x) ts h
closed_fits n p (Quoted x ∷ ts) h =
    ap (λ b. b && fits ts (closed_from (open_behind n (last_of p) (Quoted x)) (last_of (Quoted x)) ts)) (same_self x) ∙ closed_fits (open_behind n (last_of p) (Quoted x)) (Quoted x) ts h
closed_fits n p (Mark x ∷ ts) h =
    mark_fits (bytes_eq x (codes ">")) (bytes_eq x (codes ">>")) n x ts (closed_from (open_behind n (last_of p) (Mark x)) (last_of (Mark x)) ts) refl refl
    (closed_fits (open_behind n (last_of p) (Mark x)) (Mark x) ts h)

pub some_same : {a b : Toks} → Some a ≡ Some b → a ≡ b
some_same h = ap (λ o. toks_or o) h

spelled_by : (o : Option Toks) (us : Toks) → all_plain o ≡ true → option_map (λ ts. closed_from 0 (last_of Close) ts) o ≡ Some us → both_fit o (Some us) ≡ true
spelled_by None us p h = cc
spelled_by (Some ts) us p h = subst (λ (l : Toks). fits ts l ≡ true) (some_same h) (closed_fits 0 Close ts p)

pub spells_closed : (text : Text) (us : Toks) → closed_in text ≡ Some us → both_fit (tokens_in text) (Some us) ≡ true
spells_closed text us h = spelled_by (tokens_in text) us (within_plain (length text) text) h
