-- What stands ahead, and the readers of one token.
use Rattle.std.specs.Prelude.{ℤ, ℕ, Bool, true, false, if◌then◌else◌, List, [], ◌∷◌, drop, Option, Some, None}
use denote.Enum.Bare.{sameb}
use Rattle.cx_cursor.specs.Reading.{State, at, Reader}
use Rattle.cx_cursor.specs.declared.sight.Sight.{Sight}
use Rattle.cx_cursor.specs.declared.sight.Sight.TheVariants.{End, Word, TypeWord, Number, Letter, Text, Key, Mark}
use Rattle.cx_lex.specs.contracts.token.Keyword.{the_type as keyword_type}
use Rattle.cx_lex.specs.contracts.token.Punct.{the_type as punct_type}
use Rattle.cx_lex.specs.declared.token.Keyword.{Keyword}
use Rattle.cx_lex.specs.declared.token.Punct.{Punct}
use Rattle.cx_lex.specs.declared.token.Token.{Token}
use Rattle.cx_lex.specs.declared.token.TokenKind.{TokenKind}
use Rattle.cx_lex.specs.declared.token.TokenKind.TheVariants as kind
use Rattle.cx_lex.specs.declared.token.Ty0.{Ty0}
use Rattle.cx_tree.specs.Names.{Binding, is_type}

-- ---- what stands ahead

-- an identifier, by whether it is a typedef name in scope
abbrev pub word_sight : Bool → Sight
word_sight true = TypeWord
word_sight false = Word

abbrev pub sight_of : List Binding → TokenKind → Sight
sight_of names (kind.Word name) = word_sight (is_type names name)
sight_of names (kind.Key keyword) = Key keyword
sight_of names (kind.Number value ty) = Number
sight_of names (kind.Letter value) = Letter
sight_of names (kind.Text bytes) = Text
sight_of names (kind.Mark punct) = Mark punct

abbrev pub sight_in : List Binding → List Token → Sight
sight_in names [] = End
sight_in names (token ∷ tokens) = sight_of names token.kind

-- what the next token is
abbrev pub sight : State → Sight
sight state = sight_in state.names state.tokens

-- what the token behind the next one is
abbrev pub sight_behind : State → Sight
sight_behind state = sight_in state.names (drop 1 state.tokens)

-- two marks are the same
unfoldable pub same_mark : Punct → Punct → Bool
same_mark = sameb punct_type

-- two keywords are the same
unfoldable pub same_key : Keyword → Keyword → Bool
same_key = sameb keyword_type

-- this mark stands ahead
abbrev pub shows_mark : Punct → Sight → Bool
shows_mark punct (Mark found) = same_mark found punct
shows_mark punct End = false
shows_mark punct Word = false
shows_mark punct TypeWord = false
shows_mark punct Number = false
shows_mark punct Letter = false
shows_mark punct Text = false
shows_mark punct (Key keyword) = false

-- this keyword stands ahead
abbrev pub shows_key : Keyword → Sight → Bool
shows_key keyword (Key found) = same_key found keyword
shows_key keyword End = false
shows_key keyword Word = false
shows_key keyword TypeWord = false
shows_key keyword Number = false
shows_key keyword Letter = false
shows_key keyword Text = false
shows_key keyword (Mark punct) = false

-- an identifier stands ahead
abbrev pub shows_word : Sight → Bool
shows_word Word = true
shows_word TypeWord = true
shows_word End = false
shows_word Number = false
shows_word Letter = false
shows_word Text = false
shows_word (Key keyword) = false
shows_word (Mark punct) = false

abbrev pub shows_text : Sight → Bool
shows_text Text = true
shows_text End = false
shows_text Word = false
shows_text TypeWord = false
shows_text Number = false
shows_text Letter = false
shows_text (Key keyword) = false
shows_text (Mark punct) = false

abbrev pub shows_end : Sight → Bool
shows_end End = true
shows_end Word = false
shows_end TypeWord = false
shows_end Number = false
shows_end Letter = false
shows_end Text = false
shows_end (Key keyword) = false
shows_end (Mark punct) = false

abbrev pub sees_mark : Punct → State → Bool
sees_mark punct state = shows_mark punct (sight state)

abbrev pub sees_key : Keyword → State → Bool
sees_key keyword state = shows_key keyword (sight state)

-- ---- readers of one token, which give its line

-- one token, by what is taken of its kind
abbrev pub taken : {A : Type 0} → Option A → List Token → List Binding → Option (A × State)
taken None tokens names = None
taken (Some a) tokens names = Some (a, at tokens names)

-- the token ahead, by what is taken of its kind and its line
abbrev pub token_in : {A : Type 0} → (TokenKind → ℕ → Option A) → List Token → List Binding → Option (A × State)
token_in take [] names = None
token_in take (token ∷ tokens) names = taken (take token.kind token.line) tokens names

-- an identifier, a typedef name or not
abbrev pub word_by : TokenKind → ℕ → Option (List ℕ × ℕ)
word_by (kind.Word name) line = Some (name, line)
word_by _ line = None

unfoldable pub word : Reader (List ℕ × ℕ)
word state = token_in word_by state.tokens state.names

-- an integer constant: its value, its type and its line
abbrev pub number_by : TokenKind → ℕ → Option (ℕ × Ty0 × ℕ)
number_by (kind.Number value ty) line = Some (value, ty, line)
number_by _ line = None

unfoldable pub number : Reader (ℕ × Ty0 × ℕ)
number state = token_in number_by state.tokens state.names

-- a character constant
abbrev pub letter_by : TokenKind → ℕ → Option (ℤ × ℕ)
letter_by (kind.Letter value) line = Some (value, line)
letter_by _ line = None

unfoldable pub letter : Reader (ℤ × ℕ)
letter state = token_in letter_by state.tokens state.names

-- a string literal
abbrev pub text_by : TokenKind → ℕ → Option (List ℕ × ℕ)
text_by (kind.Text bytes) line = Some (bytes, line)
text_by _ line = None

unfoldable pub text : Reader (List ℕ × ℕ)
text state = token_in text_by state.tokens state.names

-- any mark
abbrev pub operator_by : TokenKind → ℕ → Option (Punct × ℕ)
operator_by (kind.Mark punct) line = Some (punct, line)
operator_by _ line = None

unfoldable pub operator : Reader (Punct × ℕ)
operator state = token_in operator_by state.tokens state.names

-- any keyword
abbrev pub keyword_by : TokenKind → ℕ → Option (Keyword × ℕ)
keyword_by (kind.Key keyword) line = Some (keyword, line)
keyword_by _ line = None

unfoldable pub keyword : Reader (Keyword × ℕ)
keyword state = token_in keyword_by state.tokens state.names

-- this mark
abbrev pub mark_by : Punct → TokenKind → ℕ → Option ℕ
mark_by punct (kind.Mark found) line = if same_mark found punct then Some line else None
mark_by punct _ line = None

unfoldable pub mark : Punct → Reader ℕ
mark punct state = token_in (mark_by punct) state.tokens state.names

-- this keyword
abbrev pub key_by : Keyword → TokenKind → ℕ → Option ℕ
key_by wanted (kind.Key found) line = if same_key found wanted then Some line else None
key_by wanted _ line = None

unfoldable pub key : Keyword → Reader ℕ
key wanted state = token_in (key_by wanted) state.tokens state.names
