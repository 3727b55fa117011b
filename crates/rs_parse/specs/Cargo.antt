-- How the code reads `Cargo.toml`, a line behind the other.
use Rattle.std.specs.Prelude.{ℕ, nat_eq, Bool, true, false, not, ◌&&◌, bytes_eq, codes, List, [], ◌∷◌, Option, Some, None, if◌then◌else◌}
use Rattle.std.specs.List.{list_all, prefix_len}
use Rattle.rs_text.specs.declared.line.Line.{Line}
use Rattle.rs_text.specs.Reads.{spells, spells_as}
use Rattle.rs_text.specs.Tokens.{RToken, Mark, Close, tokens_in}

-- how many bytes stand before the first newline
abbrev pub line_size : List ℕ → ℕ
line_size text = prefix_len (λ byte. not (nat_eq byte 10)) text

-- a token that ends no list of types
abbrev pub is_still : RToken → Bool
is_still (Mark mark) = not (bytes_eq mark (codes ">")) && not (bytes_eq mark (codes ">>"))
is_still Close = false
is_still _ = true

abbrev pub are_still : Option (List RToken) → Bool
are_still None = false
are_still (Some tokens) = list_all is_still tokens

-- a line has tokens, and none that ends a list of types
abbrev pub is_still_line : Line → Bool
is_still_line line = are_still (tokens_in line.text)

-- the printed lines behind one whose tokens are those of a text
abbrev pub behind_line : List ℕ → List Line → Option (List Line)
behind_line text [] = None
behind_line text (line ∷ lines) = if spells_as text line.text then Some lines else None

-- the printed lines that are left behind a line of a text, if it is the next one or has no tokens
abbrev pub left_behind : List ℕ → List Line → Option (List Line)
left_behind text lines = if spells text [] then Some lines else behind_line text lines
