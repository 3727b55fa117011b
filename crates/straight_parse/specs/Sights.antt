-- What stands ahead, and the readers of one token.
use Rattle.std.specs.Prelude.{ℕ, Bool, false, if◌then◌else◌, List, [], ◌∷◌, Option, Some, None}
use denote.Enum.Bare.{sameb}
use Rattle.cx_lex.specs.contracts.token.Punct.{the_type}
use Rattle.cx_lex.specs.declared.token.Keyword.{Keyword}
use Rattle.cx_lex.specs.declared.token.Punct.{Punct}
use Rattle.cx_lex.specs.declared.token.TokenKind.{TokenKind}
use Rattle.cx_lex.specs.declared.token.TokenKind.TheVariants as kind
use Rattle.cx_lex.specs.declared.token.Ty0.{Ty0}
use Rattle.straight_parse.specs.declared.sight.Sight.{Sight}
use Rattle.straight_parse.specs.declared.sight.Sight.TheVariants.{End, Word, Number, Key, Mark, Literal}
use Rattle.straight_parse.specs.Reading.{State, Reader}

-- ---- what stands ahead

abbrev pub sight_of : TokenKind → Sight
sight_of (kind.Word name) = Word
sight_of (kind.Key keyword) = Key keyword
sight_of (kind.Number value ty) = Number
sight_of (kind.Letter value) = Literal
sight_of (kind.Text bytes) = Literal
sight_of (kind.Mark punct) = Mark punct

abbrev pub sight : State → Sight
sight [] = End
sight (token ∷ tokens) = sight_of token.kind

-- two marks are the same
unfoldable pub same_mark : Punct → Punct → Bool
same_mark = sameb the_type

-- this mark stands ahead
abbrev pub shows_mark : Punct → Sight → Bool
shows_mark punct (Mark found) = same_mark found punct
shows_mark punct End = false
shows_mark punct Word = false
shows_mark punct Number = false
shows_mark punct (Key keyword) = false
shows_mark punct Literal = false

abbrev pub sees_mark : Punct → State → Bool
sees_mark punct tokens = shows_mark punct (sight tokens)

-- ---- readers of one token, which give its line

-- an identifier
abbrev pub word_by : TokenKind → ℕ → State → Option ((List ℕ × ℕ) × State)
word_by (kind.Word name) line tokens = Some ((name, line), tokens)
word_by _ line tokens = None

unfoldable pub word : Reader (List ℕ × ℕ)
word [] = None
word (token ∷ tokens) = word_by token.kind token.line tokens

-- an integer constant: its value, its type and its line
abbrev pub number_by : TokenKind → ℕ → State → Option ((ℕ × Ty0 × ℕ) × State)
number_by (kind.Number value ty) line tokens = Some ((value, ty, line), tokens)
number_by _ line tokens = None

unfoldable pub number : Reader (ℕ × Ty0 × ℕ)
number [] = None
number (token ∷ tokens) = number_by token.kind token.line tokens

-- any mark
abbrev pub operator_by : TokenKind → ℕ → State → Option ((Punct × ℕ) × State)
operator_by (kind.Mark punct) line tokens = Some ((punct, line), tokens)
operator_by _ line tokens = None

unfoldable pub operator : Reader (Punct × ℕ)
operator [] = None
operator (token ∷ tokens) = operator_by token.kind token.line tokens

-- any keyword
abbrev pub keyword_by : TokenKind → ℕ → State → Option ((Keyword × ℕ) × State)
keyword_by (kind.Key keyword) line tokens = Some ((keyword, line), tokens)
keyword_by _ line tokens = None

unfoldable pub keyword : Reader (Keyword × ℕ)
keyword [] = None
keyword (token ∷ tokens) = keyword_by token.kind token.line tokens

-- this mark
abbrev pub mark_by : Punct → TokenKind → ℕ → State → Option (ℕ × State)
mark_by punct (kind.Mark found) line tokens = if same_mark found punct then Some (line, tokens) else None
mark_by punct _ line tokens = None

unfoldable pub mark : Punct → Reader ℕ
mark punct [] = None
mark punct (token ∷ tokens) = mark_by punct token.kind token.line tokens
