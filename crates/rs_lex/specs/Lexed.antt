-- What the reader of tokens answers.
use Rattle.std.specs.Prelude.{◌≡◌, ◌≤◌, ◌+◌, ⊤, ℕ, List, [], ◌∷◌, length, Option, Some, None, option_map, Result, Ok, Err}
use Rattle.rs_lex.specs.declared.angles.Last.{Last}
use Rattle.rs_lex.specs.declared.lexer.LexFault.{LexFault}
use Rattle.rs_lex.specs.declared.lexer.LexFault.TheVariants.{NotTokens, Memory}
use Rattle.rs_lex.specs.declared.token.Token.{Token}
use Rattle.rs_lex.specs.Views.{tokens_view}
use Rattle.rs_lex.specs.Closed.{closed_from, closed_in, open_behind, last_of}
use Rattle.rs_text.specs.Tokens.{RToken, tokens_in, then_tokens}

-- the answer is these tokens, or that there are none, want of memory aside
abbrev pub IsLexed : Option (List RToken) → Result (List Token) LexFault → Type 0
IsLexed spelled (Ok tokens) = spelled ≡ Some (tokens_view tokens)
IsLexed spelled (Err (NotTokens line)) = spelled ≡ None
IsLexed spelled (Err Memory) = ⊤

-- how many lists of types are open behind tokens, and what the next token has to know of the last of them
abbrev pub open_after : ℕ → Last → List RToken → ℕ
open_after count last [] = count
open_after count last (token ∷ tokens) = open_after (open_behind count last token) (last_of token) tokens

abbrev pub last_after : Last → List RToken → Last
last_after last [] = last
last_after last (token ∷ tokens) = last_after (last_of token) tokens

-- the tokens of the rest of a text, where so many lists of types are open
abbrev pub left : ℕ → Last → List ℕ → Option (List RToken)
left count last text = option_map (closed_from count last) (tokens_in text)

-- The tokens of a text are those that were read, and then those of its rest; a rest is a part of the text.
pub record ReadTo (text : List ℕ) (tokens : List Token) (count : ℕ) (last : Last) (rest : List ℕ) : Type 0 where
  pub same : closed_in text ≡ then_tokens (tokens_view tokens) (left count last rest)
  pub within : count + length rest ≤ length text
