-- A place in a file is told by the bytes before it and the bytes behind it.
use Rattle.std.specs.Prelude.{ℕ, ◌+◌, Bool, true, not, ◌==◌, List, [], ◌∷◌, reverse, count_by, take_while}
use Rattle.std.specs.List.{list_all}
use Rattle.cx_lex.specs.Bytes.{newline, is_margin}

-- a byte of a line, which ends at its newline
abbrev pub is_in_line : ℕ → Bool
is_in_line b = not (b == newline)

-- the line of a place, from 1: one more than the newlines before it
abbrev pub line_of : List ℕ → ℕ
line_of before = 1 + count_by (λ b. b == newline) before

-- only blanks and tabs stand before the place in its line: going back from it, none else up to a newline or the file's beginning
abbrev pub begins_line : List ℕ → Bool
begins_line before = list_all is_margin (take_while is_in_line (reverse before))

-- the line ends at the place: the file ends there, or a newline is next
abbrev pub ends_line : List ℕ → Bool
ends_line [] = true
ends_line (b ∷ rest) = b == newline
