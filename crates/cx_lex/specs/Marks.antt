-- The marks (ISO C99, 6.4.6: punctuators) other than `#`, `##`, `%:` and `%:%:`.
use Rattle.std.specs.Prelude.{ℕ, List, [], ◌∷◌, Option, option_map, codes}
use Rattle.cx_lex.specs.declared.token.Punct.{Punct}
use Rattle.cx_lex.specs.declared.token.Punct.TheVariants.{LeftBracket, RightBracket, LeftParenthesis, RightParenthesis, LeftBrace, RightBrace, Dot, Arrow, PlusPlus, MinusMinus, Ampersand, Star, Plus, Minus, Tilde, Exclamation, Slash, Percent, ShiftLeft, ShiftRight, Less, Greater, LessEqual, GreaterEqual, EqualEqual, NotEqual, Caret, Bar, AndAnd, BarBar, Question, Colon, Semicolon, Ellipsis, Equal, StarEqual, SlashEqual, PercentEqual, PlusEqual, MinusEqual, ShiftLeftEqual, ShiftRightEqual, AmpersandEqual, CaretEqual, BarEqual, Comma}
use Rattle.cx_lex.specs.declared.token.TokenKind.{TokenKind}
use Rattle.cx_lex.specs.declared.token.TokenKind.TheVariants.{Mark}
use Rattle.cx_lex.specs.Words.{entry_of}

-- the marks by their bytes, those of more bytes first; `<: :> <% %>` are `[ ] { }` (6.4.6p3)
unfoldable pub marks : List (List ℕ × Punct)
marks = (codes "...", Ellipsis) ∷ (codes "<<=", ShiftLeftEqual) ∷ (codes ">>=", ShiftRightEqual)
    ∷ (codes "->", Arrow) ∷ (codes "++", PlusPlus) ∷ (codes "--", MinusMinus) ∷ (codes "<<", ShiftLeft) ∷ (codes ">>", ShiftRight)
    ∷ (codes "<=", LessEqual) ∷ (codes ">=", GreaterEqual) ∷ (codes "==", EqualEqual) ∷ (codes "!=", NotEqual)
    ∷ (codes "&&", AndAnd) ∷ (codes "||", BarBar) ∷ (codes "*=", StarEqual) ∷ (codes "/=", SlashEqual) ∷ (codes "%=", PercentEqual)
    ∷ (codes "+=", PlusEqual) ∷ (codes "-=", MinusEqual) ∷ (codes "&=", AmpersandEqual) ∷ (codes "^=", CaretEqual) ∷ (codes "|=", BarEqual)
    ∷ (codes "<:", LeftBracket) ∷ (codes ":>", RightBracket) ∷ (codes "<%", LeftBrace) ∷ (codes "%>", RightBrace)
    ∷ (codes "[", LeftBracket) ∷ (codes "]", RightBracket) ∷ (codes "(", LeftParenthesis) ∷ (codes ")", RightParenthesis)
    ∷ (codes "{", LeftBrace) ∷ (codes "}", RightBrace) ∷ (codes ".", Dot) ∷ (codes "&", Ampersand) ∷ (codes "*", Star)
    ∷ (codes "+", Plus) ∷ (codes "-", Minus) ∷ (codes "~", Tilde) ∷ (codes "!", Exclamation) ∷ (codes "/", Slash) ∷ (codes "%", Percent)
    ∷ (codes "<", Less) ∷ (codes ">", Greater) ∷ (codes "^", Caret) ∷ (codes "|", Bar) ∷ (codes "?", Question) ∷ (codes ":", Colon)
    ∷ (codes ";", Semicolon) ∷ (codes "=", Equal) ∷ (codes ",", Comma) ∷ []

-- the token of a mark's bytes
abbrev pub mark_of : List ℕ → Option TokenKind
mark_of front = option_map Mark (entry_of marks front)
