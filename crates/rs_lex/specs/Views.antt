-- Which token of the definitions a value of the declared types is.
use Rattle.std.specs.Prelude.{ℕ, List, [], ◌∷◌, map, length, Option, Some, None}
use Rattle.rs_lex.specs.declared.front.Front.{Front}
use Rattle.rs_lex.specs.declared.front.Piece.{Piece}
use Rattle.rs_lex.specs.declared.token.Token.{Token}
use Rattle.rs_lex.specs.declared.token.TokenKind.{TokenKind}
use Rattle.rs_lex.specs.declared.token.TokenKind.TheVariants as kind
use Rattle.rs_text.specs.Tokens.{RToken, Word, Label, Quoted, Mark, Close}
use Rattle.rs_text.specs.Tokens as tokens

abbrev pub kind_view : TokenKind → RToken
kind_view (kind.Word name) = Word name
kind_view (kind.Label name) = Label name
kind_view (kind.Quoted name) = Quoted name
kind_view (kind.Mark name) = Mark name
kind_view kind.Close = Close

abbrev pub token_view : Token → RToken
token_view token = kind_view token.kind

abbrev pub tokens_view : List Token → List RToken
tokens_view tokens = map token_view tokens

-- a mark that was found, with its size
abbrev pub mark_seen : Option (List ℕ) → tokens.Front
mark_seen None = None
mark_seen (Some mark) = Some (Mark mark, length mark)

-- the token of a piece, if it is one
abbrev pub kinds_seen : Option TokenKind → List RToken
kinds_seen None = []
kinds_seen (Some one) = kind_view one ∷ []

-- a token that was found
abbrev pub token_seen : Option Front → tokens.Front
token_seen None = None
token_seen (Some front) = Some (kind_view front.kind, front.size)

abbrev pub piece_seen : Option Piece → Option (List RToken × ℕ)
piece_seen None = None
piece_seen (Some piece) = Some (kinds_seen piece.kind, piece.size)

-- the piece at the front of a text
abbrev pub piece_in : List ℕ → Option (List RToken × ℕ)
piece_in [] = None
piece_in (byte ∷ rest) = tokens.piece_at byte rest
