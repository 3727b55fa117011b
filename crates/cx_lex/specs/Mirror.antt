-- What the code computes, in the order in which it does. Private contracts name these, and proofs/ shows that they are
-- what the other files of specs/ say.
use Rattle.std.specs.Prelude.{◌≡◌, ℕ, ◌+◌, ◌-◌, ◌≤◌, ⊤, Bool, ◌&&◌, ◌||◌, ◌==◌, nat_eq, if◌then◌else◌, List, [], ◌∷◌, length, take, drop, slice_index, option_map, Option, Some, None, Result, Ok, Err}
use Rattle.std.specs.List.{prefix_len, starts_with}
use Rattle.cr_base.specs.declared.refusal.Stop.{Stop}
use Rattle.cr_base.specs.declared.refusal.Stop.TheVariants.{Refused, Memory as WantOfMemory}
use Rattle.cr_base.specs.declared.rule.Rule.{Rule}
use Rattle.cr_base.specs.declared.rule.Rule.TheVariants.{X1, X2, X3, X4, X5, X7, X8}
use Rattle.cx_lex.specs.declared.fault.Fault.{Fault}
use Rattle.cx_lex.specs.declared.fault.Fault.TheVariants.{Broken, Memory}
use Rattle.cx_lex.specs.declared.literals.Item.{Item}
use Rattle.cx_lex.specs.declared.literals.Item.TheVariants.{Closes, Breaks, Member}
use Rattle.cx_lex.specs.declared.numbers.Suffix.{Suffix}
use Rattle.cx_lex.specs.declared.piece.Piece.{Piece}
use Rattle.cx_lex.specs.declared.token.Punct.{Punct}
use Rattle.cx_lex.specs.declared.token.Token.{Token}
use Rattle.cx_lex.specs.declared.token.TokenKind.{TokenKind}
use Rattle.cx_lex.specs.declared.token.TokenKind.TheVariants.{Number, Letter, Text, Mark}
use Rattle.cx_lex.specs.declared.token.Ty0.{Ty0}
use Rattle.cx_lex.specs.Bytes.{newline, is_margin, star, slash, hash, percent, colon, double_quote, apostrophe, is_white, is_nondigit, is_word_byte}
use Rattle.cx_lex.specs.Literals.{Item as SeenItem, closes, breaks, member, text_from, letter_from, signed_of}
use Rattle.cx_lex.specs.Marks.{marks}
use Rattle.cx_lex.specs.Numbers.{continues_number, is_floating, begins_number, number_from}
use Rattle.cx_lex.specs.Numbers as numbers
use Rattle.cx_lex.specs.Place.{is_in_line}
use Rattle.cx_lex.specs.Space.{is_marker}
use Rattle.cx_lex.specs.Tokens.{Piece as SeenPiece, space, broken, spelled, rule_or, begins_with, begins_wide}
use Rattle.cx_lex.specs.Words.{entry_of, keywords, key_or_word, word_rule}

-- behind the first `*/`, where the bytes begin at a place
abbrev pub comment_end : ℕ → List ℕ → Option ℕ
comment_end at [] = None
comment_end at (b ∷ rest) = if b == star && slice_index rest 0 == slash then Some (at + 2) else comment_end (at + 1) rest

-- the size of a comment behind its `/*`, where it ends
abbrev pub comment_size : List ℕ → Option ℕ
comment_size bytes = comment_end 2 (drop 2 bytes)

-- the first mark of a table that the bytes begin with, and its size
abbrev pub mark_in : List (List ℕ × Punct) → List ℕ → Option (ℕ × Punct)
mark_in [] bytes = None
mark_in (entry ∷ table) bytes = if starts_with nat_eq bytes entry.0 then Some (length entry.0, entry.1) else mark_in table bytes

-- how many bytes a number goes on with behind the previous one
abbrev pub run_size : ℕ → List ℕ → ℕ
run_size previous [] = 0
run_size previous (b ∷ rest) = if continues_number previous b then 1 + run_size b rest else 0

-- a suffix, as the definitions see it
abbrev pub suffix_seen : Option Suffix → Option numbers.Suffix
suffix_seen suffix = option_map (λ s. record { unsigned = s.unsigned; longs = s.longs }) suffix

-- the rule that a number breaks which is no integer constant
abbrev pub other_rule : List ℕ → Rule
other_rule text = if is_floating text then X5 else X4

-- an item of a literal, as the definitions see it
abbrev pub item_seen : Item → SeenItem
item_seen Closes = closes
item_seen (Breaks rule) = breaks rule
item_seen (Member size value) = member size value

-- a member has at least one byte, and at most so many
abbrev pub IsWithin : Item → ℕ → Type 0
IsWithin Closes most = ⊤
IsWithin (Breaks rule) most = ⊤
IsWithin (Member size value) most = (1 ≤ size) × (size ≤ most)

-- an escape sequence of a size behind its backslash, without a value where that is over 255
abbrev pub value_item : ℕ → Option ℕ → SeenItem
value_item size None = breaks X3
value_item size (Some value) = member (1 + size) value

-- the answer for a string literal behind its opening quote, want of memory aside
abbrev pub IsTextOf : List ℕ → Result (List ℕ × ℕ) Fault → Type 0
IsTextOf bytes (Ok text) = (text_from 0 bytes ≡ Ok (text.0, drop text.1 bytes)) × (text.1 ≤ length bytes)
IsTextOf bytes (Err (Broken rule)) = text_from 0 bytes ≡ Err rule
IsTextOf bytes (Err Memory) = ⊤

-- ---- what stands at a place

-- a piece, as the definitions see it
abbrev pub piece_seen : ℕ → Option TokenKind → SeenPiece
piece_seen size None = space size
piece_seen size (Some kind) = spelled size kind

-- the answer for a place, want of memory aside
abbrev pub Agrees : Result Piece Fault → SeenPiece → Type 0
Agrees (Ok piece) seen = piece_seen piece.size piece.kind ≡ seen
Agrees (Err (Broken rule)) seen = broken rule ≡ seen
Agrees (Err Memory) seen = ⊤

abbrev pub space_or_open : Option ℕ → SeenPiece
space_or_open None = broken X2
space_or_open (Some size) = space size

abbrev pub comment_piece : List ℕ → SeenPiece
comment_piece bytes = space_or_open (comment_size bytes)

abbrev pub line_size : List ℕ → ℕ
line_size bytes = prefix_len is_in_line bytes

abbrev pub marker_piece : Bool → List ℕ → SeenPiece
marker_piece first bytes = if first && is_marker (take (line_size bytes) bytes) then space (line_size bytes) else broken X8

abbrev pub text_read : List ℕ → Result (List ℕ × List ℕ) Rule → SeenPiece
text_read bytes (Ok read) = spelled (length bytes - length read.1) (Text read.0)
text_read bytes (Err rule) = broken rule

abbrev pub text_piece : List ℕ → SeenPiece
text_piece bytes = text_read bytes (text_from 0 (drop 1 bytes))

abbrev pub letter_read : List ℕ → Result (ℕ × List ℕ) Rule → SeenPiece
letter_read bytes (Ok read) = spelled (length bytes - length read.1) (Letter (signed_of read.0))
letter_read bytes (Err rule) = broken rule

abbrev pub letter_piece : List ℕ → SeenPiece
letter_piece bytes = letter_read bytes (letter_from (drop 1 bytes))

abbrev pub number_read : ℕ → Result (ℕ × Ty0) Rule → SeenPiece
number_read size (Ok read) = spelled size (Number read.0 read.1)
number_read size (Err rule) = broken rule

abbrev pub number_piece : List ℕ → SeenPiece
number_piece bytes = number_read (run_size 0 bytes) (number_from (take (run_size 0 bytes) bytes))

abbrev pub word_front : List ℕ → List ℕ
word_front bytes = take (prefix_len is_word_byte bytes) bytes

abbrev pub word_piece : List ℕ → SeenPiece
word_piece bytes =
    rule_or (word_rule (word_front bytes))
    (spelled (prefix_len is_word_byte bytes) (key_or_word (word_front bytes) (entry_of keywords (word_front bytes))))

abbrev pub mark_or_stray : Option (ℕ × Punct) → SeenPiece
mark_or_stray None = broken X1
mark_or_stray (Some mark) = spelled mark.0 (Mark mark.1)

abbrev pub mark_piece : List ℕ → SeenPiece
mark_piece bytes = mark_or_stray (mark_in marks bytes)

abbrev pub token_way : List ℕ → SeenPiece
token_way bytes =
    if slice_index bytes 0 == double_quote then text_piece bytes
    else (if slice_index bytes 0 == apostrophe then letter_piece bytes
    else (if begins_number bytes then number_piece bytes
    else (if is_nondigit (slice_index bytes 0) then word_piece bytes
    else mark_piece bytes)))

abbrev pub way_at : Bool → List ℕ → SeenPiece
way_at first bytes =
    if is_white (slice_index bytes 0) then space 1
    else (if begins_with slash star bytes then comment_piece bytes
    else (if begins_with slash slash bytes then space (line_size bytes)
    else (if slice_index bytes 0 == hash then marker_piece first bytes
    else (if begins_with percent colon bytes then broken X8
    else (if begins_wide bytes then broken X7
    else token_way bytes)))))

-- only blanks and tabs stand behind the newline, also with one more byte
abbrev pub stays_first : Bool → ℕ → Bool
stays_first first b = b == newline || (first && is_margin b)

-- a token on a line, where there is one
abbrev pub token_list : Option TokenKind → ℕ → List Token
token_list None line = []
token_list (Some kind) line = record { kind = kind; line = line } ∷ []

-- why a unit isn't read, on a line
abbrev pub stop_of : ℕ → ℕ → Fault → Stop
stop_of unit line (Broken rule) = Refused (record { rule = rule; unit = unit; line = line })
stop_of unit line Memory = WantOfMemory
