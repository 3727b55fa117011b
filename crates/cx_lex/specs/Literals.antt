-- Character constants (ISO C99, 6.4.4.4) and string literals (6.4.5), and the rules that they break.
use Rattle.std.specs.Prelude.{ℕ, zero, suc, ◌+◌, ◌-◌, Bool, ◌||◌, ◌==◌, nat_lt, if◌then◌else◌, List, [], ◌∷◌, drop, slice_index, Option, Some, None, Result, Ok, Err, ℤ, pos, ◌-ℤ◌}
use Rattle.cr_base.specs.declared.rule.Rule.{Rule}
use Rattle.cr_base.specs.declared.rule.Rule.TheVariants.{X2, X3, X7}
use Rattle.cx_lex.specs.declared.token.TokenKind.{TokenKind}
use Rattle.cx_lex.specs.declared.token.TokenKind.TheVariants.{Letter, Text}
use Rattle.cx_lex.specs.Bytes.{newline, double_quote, apostrophe, backslash}
use Rattle.cx_lex.specs.Escapes.{Valued, escape_at}

-- What comes next behind an opening quote: the closing one; a rule that is broken there; or a member, with its size in
-- bytes and the value that it stands for.
pub data Item : Type 0 where
  closes : Item
  breaks : Rule → Item
  member : ℕ → ℕ → Item

-- an escape sequence of a value up to 255 is a member; any other breaks X3
abbrev pub escape_item : Option Valued → Item
escape_item None = breaks X3
escape_item (Some escape) = if nat_lt 255 escape.value then breaks X3 else member (1 + escape.size) escape.value

-- the byte behind a backslash begins a universal character name (6.4.3): u or U
abbrev pub is_universal : ℕ → Bool
is_universal b = b == 85 || b == 117

-- The item at a place in a literal with this quote. X2 is broken at the end of the line or of the file, X7 at a
-- universal character name, X3 at any other backslash that begins no escape sequence.
abbrev pub item_at : ℕ → List ℕ → Item
item_at quote [] = breaks X2
item_at quote (b ∷ rest) =
    if b == quote then closes
    else (if b == newline then breaks X2
    else (if b == backslash then (if is_universal (slice_index rest 0) then breaks X7 else escape_item (escape_at rest))
    else member 1 b))

-- ---- string literals

-- the values up to the closing quote and the bytes behind it, or the first rule that is broken before it
abbrev pub Read : Type 0
Read = Result (List ℕ × List ℕ) Rule

abbrev pub with_value : ℕ → Read → Read
with_value value (Ok read) = Ok (value ∷ read.0, read.1)
with_value value (Err rule) = Err rule

-- what an item makes of what is read behind it; `rest` is the bytes behind its first one
abbrev pub with_item : Item → List ℕ → Read → Read
with_item closes rest behind = Ok ([], rest)
with_item (breaks rule) rest behind = Err rule
with_item (member size value) rest behind = with_value value behind

abbrev pub size_of : Item → ℕ
size_of closes = 1
size_of (breaks rule) = 1
size_of (member size value) = size

-- A string literal behind its opening quote, read from the left, item by item. The number counts the bytes that are
-- left of an item.
abbrev pub text_from : ℕ → List ℕ → Read
text_from left [] = Err X2
text_from (suc left) (b ∷ rest) = text_from left rest
text_from zero (b ∷ rest) =
    with_item (item_at double_quote (b ∷ rest)) rest (text_from (size_of (item_at double_quote (b ∷ rest)) - 1) rest)

-- the token of the bytes of a string literal, which ends at its closing quote
abbrev pub whole_text : Read → Option TokenKind
whole_text (Ok (values, [])) = Some (Text values)
whole_text (Ok (values, b ∷ rest)) = None
whole_text (Err rule) = None

abbrev pub text_of : List ℕ → Option TokenKind
text_of front = if slice_index front 0 == double_quote then whole_text (text_from 0 (drop 1 front)) else None

-- ---- character constants

-- A character constant behind its opening quote: the value of its one member and the bytes behind the closing quote. X2
-- is broken where there is no member, or the closing quote doesn't follow it.
abbrev pub letter_item : Item → List ℕ → Result (ℕ × List ℕ) Rule
letter_item closes bytes = Err X2
letter_item (breaks rule) bytes = Err rule
letter_item (member size value) bytes = if slice_index bytes size == apostrophe then Ok (value, drop (size + 1) bytes) else Err X2

abbrev pub letter_from : List ℕ → Result (ℕ × List ℕ) Rule
letter_from bytes = letter_item (item_at apostrophe bytes) bytes

-- a byte as a signed `char`, converted to `int` (6.4.4.4p10; plain `char` is signed in this profile)
abbrev pub signed_of : ℕ → ℤ
signed_of byte = if nat_lt byte 128 then pos byte else pos byte -ℤ pos 256

abbrev pub whole_letter : Result (ℕ × List ℕ) Rule → Option TokenKind
whole_letter (Ok (value, [])) = Some (Letter (signed_of value))
whole_letter (Ok (value, b ∷ rest)) = None
whole_letter (Err rule) = None

-- the token of the bytes of a character constant
abbrev pub letter_of : List ℕ → Option TokenKind
letter_of front = if slice_index front 0 == apostrophe then whole_letter (letter_from (drop 1 front)) else None
