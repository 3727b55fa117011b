-- What the bytes of a unit spell (ISO C99, 6.4), and the first rule of tokens that they break.
use Rattle.std.specs.Prelude.{◌≡◌, ℕ, zero, suc, ◌-◌, Bool, ◌&&◌, ◌||◌, ◌==◌, nat_lt, if◌then◌else◌, List, [], ◌∷◌, ◌++◌, take, drop, slice_index, Option, Some, None, is_some}
use Rattle.cr_base.specs.declared.rule.Rule.{Rule}
use Rattle.cr_base.specs.declared.rule.Rule.TheVariants.{X1, X2, X7, X8}
use Rattle.cx_lex.specs.declared.token.Token.{Token}
use Rattle.cx_lex.specs.declared.token.TokenKind.{TokenKind}
use Rattle.cx_lex.specs.Bytes.{slash, star, hash, percent, colon, double_quote, apostrophe, backslash}
use Rattle.cx_lex.specs.Fronts.{longest}
use Rattle.cx_lex.specs.Place.{line_of, begins_line}
use Rattle.cx_lex.specs.Reading.{rule_of}
use Rattle.cx_lex.specs.Space.{is_space}
use Rattle.cx_lex.specs.Words.{is_identifier, word_of, word_rule}
use Rattle.cx_lex.specs.Numbers.{is_number, number_from, number_token}
use Rattle.cx_lex.specs.Literals.{text_from, text_of, letter_from, letter_of, is_universal}
use Rattle.cx_lex.specs.Marks.{mark_of}

abbrev pub or_else : {A : Type 0} → Option A → Option A → Option A
or_else None other = other
or_else (Some a) other = Some a

-- The token whose bytes are the whole front, where they are one: an identifier or a keyword, an integer constant, a
-- character constant, a string literal or a mark (6.4p1).
abbrev pub token_of : List ℕ → Option TokenKind
token_of front = or_else (word_of front) (or_else (number_token front) (or_else (letter_of front) (or_else (text_of front) (mark_of front))))

-- the length of the longest front that is one token, or 0 (6.4p4)
abbrev pub token_size : List ℕ → ℕ
token_size bytes = longest (λ front behind. is_some (token_of front)) bytes

-- the longest front that is an identifier, and that is a number
abbrev pub word_size : List ℕ → ℕ
word_size bytes = longest (λ front behind. is_identifier front) bytes

abbrev pub number_size : List ℕ → ℕ
number_size bytes = longest (λ front behind. is_number front) bytes

-- the bytes begin with these two
abbrev pub begins_with : ℕ → ℕ → List ℕ → Bool
begins_with a b bytes = slice_index bytes 0 == a && slice_index bytes 1 == b

-- a wide literal, or a universal character name (6.4.3)
abbrev pub begins_wide : List ℕ → Bool
begins_wide bytes =
    begins_with 76 double_quote bytes || begins_with 76 apostrophe bytes
    || (slice_index bytes 0 == backslash && is_universal (slice_index bytes 1))

-- The rule that is broken by what begins at a place where no front is white space, if one is. A comment begins there only
-- where it isn't closed, and a `#` only where it begins no linemarker.
abbrev pub rule_at : List ℕ → Option Rule
rule_at bytes =
    if begins_with slash star bytes then Some X2
    else (if slice_index bytes 0 == hash || begins_with percent colon bytes then Some X8
    else (if begins_wide bytes then Some X7
    else (if slice_index bytes 0 == double_quote then rule_of (text_from 0 (drop 1 bytes))
    else (if slice_index bytes 0 == apostrophe then rule_of (letter_from (drop 1 bytes))
    else (if nat_lt 0 (number_size bytes) then rule_of (number_from (take (number_size bytes) bytes))
    else (if nat_lt 0 (word_size bytes) then word_rule (take (word_size bytes) bytes)
    else None))))))

-- What stands at a place: white space of a size in bytes; a broken rule; or a token of a size.
pub data Piece : Type 0 where
  space : ℕ → Piece
  broken : Rule → Piece
  spelled : ℕ → TokenKind → Piece

-- the longest token, or X1 where the byte begins none
abbrev pub token_or_stray : ℕ → Option TokenKind → Piece
token_or_stray size None = broken X1
token_or_stray size (Some kind) = spelled size kind

abbrev pub rule_or : Option Rule → Piece → Piece
rule_or None other = other
rule_or (Some rule) other = broken rule

abbrev pub space_or : ℕ → Piece → Piece
space_or zero other = other
space_or (suc n) other = space (suc n)

-- White space, where a front of the bytes is that; or else the rule that is broken; or else the longest token. `first`
-- says that only blanks and tabs stand before the place in its line.
unfoldable pub piece_at : Bool → List ℕ → Piece
piece_at first bytes =
    space_or (longest (is_space first) bytes)
    (rule_or (rule_at bytes) (token_or_stray (token_size bytes) (token_of (take (token_size bytes) bytes))))

-- From a place on, with the bytes before it and those behind it, a file spells the tokens.
pub data SpellsFrom : List ℕ → List ℕ → List Token → Type 0 where
  -- at its end, none
  at_end : {before : List ℕ} → SpellsFrom before [] []
  -- behind white space, those that the rest spells
  behind_space : {before bytes : List ℕ} {tokens : List Token} (size : ℕ)
      → piece_at (begins_line before) bytes ≡ space size
      → SpellsFrom (before ++ take size bytes) (drop size bytes) tokens
      → SpellsFrom before bytes tokens
  -- where no front is white space and no rule is broken, the longest token, with its line, and those that the rest spells
  behind_token : {before bytes : List ℕ} {tokens : List Token} (size : ℕ) (kind : TokenKind)
      → piece_at (begins_line before) bytes ≡ spelled size kind
      → SpellsFrom (before ++ take size bytes) (drop size bytes) tokens
      → SpellsFrom before bytes (record { kind = kind; line = line_of before } ∷ tokens)

-- what the bytes of a file spell
abbrev pub Spells : List ℕ → List Token → Type 0
Spells bytes tokens = SpellsFrom [] bytes tokens

-- a rule, and the line where it is broken
abbrev pub RuleOnLine : Type 0
RuleOnLine = Rule × ℕ

-- the fault of a piece at a line, or else what is found behind it
abbrev pub fault_or : Piece → ℕ → Option RuleOnLine → Option RuleOnLine
fault_or (space size) line behind = behind
fault_or (broken rule) line behind = Some (rule, line)
fault_or (spelled size kind) line behind = behind

-- how many bytes of a piece are behind its first one
abbrev pub size_left : Piece → ℕ
size_left (space size) = size - 1
size_left (broken rule) = 0
size_left (spelled size kind) = size - 1

-- The first place from the left at which a rule is broken, with its line: looking at each place that is not inside white
-- space or inside a token. The number counts the bytes that are left of these.
abbrev pub fault_from : List ℕ → ℕ → List ℕ → Option RuleOnLine
fault_from before left [] = None
fault_from before (suc left) (b ∷ rest) = fault_from (before ++ b ∷ []) left rest
fault_from before zero (b ∷ rest) =
    let piece = piece_at (begins_line before) (b ∷ rest) in
    fault_or piece (line_of before) (fault_from (before ++ b ∷ []) (size_left piece) rest)

-- the first rule of tokens that a file breaks, with its line
unfoldable pub token_fault : List ℕ → Option RuleOnLine
token_fault bytes = fault_from [] 0 bytes
