-- What a token is to a reader.
use Rattle.std.specs.Prelude.{ℕ, Bool, false, bytes_eq, codes, List, [], ◌∷◌, if◌then◌else◌}
use Rattle.rs_expr.specs.declared.sign.Sign.{Sign}
use Rattle.rs_expr.specs.declared.sign.Sign.TheVariants.{End, Name, Number, As, Break, Continue, Crate, Else, Extern, False, If, Let, Loop, Match, NoneWord, Return, Static, Struct, True, Underscore, Label, Quoted, Close, OtherMark, AndAnd, Arrow, Bang, Comma, Dot, Equal, Hash, LeftBrace, LeftBracket, LeftParenthesis, Minus, OrOr, PathMark, RightBrace, RightBracket, RightParenthesis, Semicolon, Star}
use Rattle.rs_text.specs.Names.{is_digit}
use Rattle.rs_text.specs.Tokens.{RToken}
use Rattle.rs_text.specs.Tokens as tokens

-- what a table has for a text
abbrev pub entry_of : {A : Type 0} → List (List ℕ × A) → List ℕ → A → A
entry_of [] text other = other
entry_of (entry ∷ table) text other = if bytes_eq entry.0 text then entry.1 else entry_of table text other

unfoldable pub words : List (List ℕ × Sign)
words =
    (codes "as", As) ∷ (codes "break", Break) ∷ (codes "continue", Continue) ∷ (codes "crate", Crate) ∷ (codes "else", Else)
    ∷ (codes "extern", Extern) ∷ (codes "false", False) ∷ (codes "if", If) ∷ (codes "let", Let) ∷ (codes "loop", Loop)
    ∷ (codes "match", Match) ∷ (codes "None", NoneWord) ∷ (codes "return", Return) ∷ (codes "static", Static)
    ∷ (codes "struct", Struct) ∷ (codes "true", True) ∷ (codes "_", Underscore) ∷ []

unfoldable pub marks : List (List ℕ × Sign)
marks =
    (codes "&&", AndAnd) ∷ (codes "->", Arrow) ∷ (codes "!", Bang) ∷ (codes ",", Comma) ∷ (codes ".", Dot) ∷ (codes "=", Equal)
    ∷ (codes "#", Hash) ∷ (codes "{", LeftBrace) ∷ (codes "[", LeftBracket) ∷ (codes "(", LeftParenthesis) ∷ (codes "-", Minus)
    ∷ (codes "||", OrOr) ∷ (codes "::", PathMark) ∷ (codes "}", RightBrace) ∷ (codes "]", RightBracket)
    ∷ (codes ")", RightParenthesis) ∷ (codes ";", Semicolon) ∷ (codes "*", Star) ∷ []

abbrev pub begins_with_digit : List ℕ → Bool
begins_with_digit [] = false
begins_with_digit (first ∷ rest) = is_digit first

abbrev pub word_sign : List ℕ → Sign
word_sign word = if begins_with_digit word then Number else entry_of words word Name

abbrev pub mark_sign : List ℕ → Sign
mark_sign mark = entry_of marks mark OtherMark

abbrev pub sign : RToken → Sign
sign (tokens.Word word) = word_sign word
sign (tokens.Mark mark) = mark_sign mark
sign (tokens.Label label) = Label
sign (tokens.Quoted text) = Quoted
sign tokens.Close = Close

-- the bytes of a token; the end of a list of types has none
abbrev pub text_of : RToken → List ℕ
text_of (tokens.Word word) = word
text_of (tokens.Mark mark) = mark
text_of (tokens.Label label) = label
text_of (tokens.Quoted text) = text
text_of tokens.Close = []

-- what the first of the tokens ahead is, and its bytes
abbrev pub sign_at : List RToken → Sign
sign_at [] = End
sign_at (token ∷ tokens) = sign token

abbrev pub text_at : List RToken → List ℕ
text_at [] = []
text_at (token ∷ tokens) = text_of token
