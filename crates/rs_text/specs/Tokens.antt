-- The tokens of Rust text (the Rust Reference, "Tokens", "Whitespace" and "Comments"), as far as the written crates
-- have them: words, labels, texts in quotes and marks. Each is the longest that stands at its place.
use Rattle.std.specs.Prelude.{ℕ, zero, suc, ◌+◌, Bool, not, ◌&&◌, ◌||◌, ◌==◌, nat_eq, nat_le, List, [], ◌∷◌, ◌++◌, length, take, drop, Option, Some, None, option_map, codes, slice_index, if◌then◌else◌}
use Rattle.std.specs.List.{prefix_len, starts_with}
use Rattle.rs_text.specs.Names.{is_word_byte}

pub data RToken : Type 0 where
  -- an identifier, a keyword, or a literal of an integer with its suffix
  Word : List ℕ → RToken
  -- a label, without its quote
  Label : List ℕ → RToken
  -- a text in double quotes, without them
  Quoted : List ℕ → RToken
  -- a mark of punctuation
  Mark : List ℕ → RToken
  -- The end of a list of types in `< >`. It is a token of trees alone: a text spells one by `>`, and two side by side also by `>>`
  -- (Reads).
  Close : RToken

-- White space of ASCII: tab, newline, vertical tab, form feed, carriage return and blank. It separates tokens and has no other
-- meaning.
abbrev pub is_blank : ℕ → Bool
is_blank byte = byte == 32 || nat_le 9 byte && nat_le byte 13

-- a quote or `#`: directly behind a word it makes a prefixed literal, none of which the written crates have, or a raw
-- identifier, and directly behind a label a character or a reserved form
abbrev pub is_prefix_mark : ℕ → Bool
is_prefix_mark byte = byte == 34 || byte == 39 || byte == 35

-- a byte of a text in quotes: there are no escapes
abbrev pub is_quoted_byte : ℕ → Bool
is_quoted_byte byte = not (byte == 34) && not (byte == 92)

-- the marks of punctuation of three, two and one bytes
unfoldable pub marks : List (List ℕ)
marks =
    codes "<<=" ∷ codes ">>=" ∷ codes "..." ∷ codes "..=" ∷
    codes "&&" ∷ codes "||" ∷ codes "<<" ∷ codes ">>" ∷ codes "+=" ∷ codes "-=" ∷ codes "*=" ∷ codes "/=" ∷ codes "%=" ∷
    codes "^=" ∷ codes "&=" ∷ codes "|=" ∷ codes "==" ∷ codes "!=" ∷ codes ">=" ∷ codes "<=" ∷ codes ".." ∷ codes "::" ∷
    codes "->" ∷ codes "=>" ∷ codes "<-" ∷
    codes "+" ∷ codes "-" ∷ codes "*" ∷ codes "/" ∷ codes "%" ∷ codes "^" ∷ codes "!" ∷ codes "&" ∷ codes "|" ∷ codes "=" ∷
    codes ">" ∷ codes "<" ∷ codes "@" ∷ codes "." ∷ codes "," ∷ codes ";" ∷ codes ":" ∷ codes "#" ∷ codes "$" ∷ codes "?" ∷
    codes "~" ∷ codes "(" ∷ codes ")" ∷ codes "[" ∷ codes "]" ∷ codes "{" ∷ codes "}" ∷ []

-- a token at the front of a text, and how many bytes it has
abbrev pub Front : Type 0
Front = Option (RToken × ℕ)

-- the longest word
abbrev pub word_size : List ℕ → ℕ
word_size text = prefix_len is_word_byte text

-- a word of this many bytes, where no prefixed literal begins with it
abbrev pub word_front : List ℕ → ℕ → Front
word_front text size = if is_prefix_mark (slice_index text size) then None else Some (Word (take size text), size)

-- `r#` before a word
abbrev pub is_raw : List ℕ → Bool
is_raw text = starts_with nat_eq text (codes "r#") && is_word_byte (slice_index text 2)

abbrev pub quoted_size : List ℕ → ℕ
quoted_size text = prefix_len is_quoted_byte text

-- a text in quotes, whose first quote is taken off, where no suffix stands directly behind it
abbrev pub quoted_front : List ℕ → Front
quoted_front text =
    if slice_index text (quoted_size text) == 34 && not (is_word_byte (slice_index text (quoted_size text + 1)))
    then Some (Quoted (take (quoted_size text) text), quoted_size text + 2)
    else None

-- a label, whose quote is taken off, of this many bytes without it
abbrev pub label_front : List ℕ → ℕ → Front
label_front text size =
    if size == 0 || is_prefix_mark (slice_index text size) then None else Some (Label (take size text), size + 1)

-- the first mark of a list that a text begins with
abbrev pub first_mark : List (List ℕ) → List ℕ → Front
first_mark [] text = None
first_mark (one ∷ others) text =
    if starts_with nat_eq text one then Some (Mark one, length one) else first_mark others text

-- there are no comments
abbrev pub begins_comment : List ℕ → Bool
begins_comment text = starts_with nat_eq text (codes "//") || starts_with nat_eq text (codes "/*")

abbrev pub mark_front : List ℕ → Front
mark_front text = if begins_comment text then None else first_mark marks text

-- the longest token at the front of a text that begins with this byte
abbrev pub token_at : ℕ → List ℕ → Front
token_at byte rest =
    if is_raw (byte ∷ rest) then word_front (byte ∷ rest) (2 + word_size (drop 1 rest))
    else if is_word_byte byte then word_front (byte ∷ rest) (word_size (byte ∷ rest))
    else if byte == 34 then quoted_front rest
    else if byte == 39 then label_front rest (word_size rest)
    else mark_front (byte ∷ rest)

-- a piece at the front of a text: the token in it, if it isn't white space, and how many bytes it has
abbrev pub piece_at : ℕ → List ℕ → Option (List RToken × ℕ)
piece_at byte rest =
    if is_blank byte then Some ([], 1) else option_map (λ front. (front.0 ∷ [], front.1)) (token_at byte rest)

abbrev pub then_tokens : List RToken → Option (List RToken) → Option (List RToken)
then_tokens first rest = option_map (λ tokens. first ++ tokens) rest

-- the tokens of a piece, and then those of what stands behind it
abbrev pub tokens_behind : Option (List RToken × ℕ) → List ℕ → (List ℕ → Option (List RToken)) → Option (List RToken)
tokens_behind None text others = None
tokens_behind (Some piece) text others = then_tokens piece.0 (others (drop piece.1 text))

-- the tokens of a text of at most so many bytes
abbrev pub tokens_within : ℕ → List ℕ → Option (List RToken)
tokens_within n [] = Some []
tokens_within zero (byte ∷ rest) = None
tokens_within (suc n) (byte ∷ rest) = tokens_behind (piece_at byte rest) (byte ∷ rest) (tokens_within n)

-- the tokens that a text spells, if it spells some
abbrev pub tokens_in : List ℕ → Option (List RToken)
tokens_in text = tokens_within (length text) text
