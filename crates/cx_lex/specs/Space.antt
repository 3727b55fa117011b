-- White space (ISO C99, 6.4p3; comments: 6.4.9), and the linemarkers that `gcc -E` writes, which this profile reads as white space.
use Rattle.std.specs.Prelude.{ℕ, Bool, true, false, ◌&&◌, ◌||◌, ◌==◌, if◌then◌else◌, List, [], ◌∷◌, length, drop, slice_index, Option, Some, None}
use Rattle.std.specs.List.{list_all, prefix_len}
use Rattle.std.specs.Char.{is_ascii_digit}
use Rattle.cx_lex.specs.Bytes.{slash, star, hash, double_quote, backslash, is_white, is_margin}
use Rattle.cx_lex.specs.Place.{is_in_line, ends_line}

-- the bytes end with `*/`, and no `*/` stands earlier in them
abbrev pub ends_comment : List ℕ → Bool
ends_comment [] = false
ends_comment (b ∷ rest) = if b == star && slice_index rest 0 == slash then length rest == 1 else ends_comment rest

-- `/* .. */` (6.4.9p1)
abbrev pub is_block_comment : List ℕ → Bool
is_block_comment front = (slice_index front 0 == slash && slice_index front 1 == star) && ends_comment (drop 2 front)

-- `// ..`, on one line (6.4.9p2)
abbrev pub is_line_comment : List ℕ → Bool
is_line_comment front = (slice_index front 0 == slash && slice_index front 1 == slash) && list_all is_in_line front

-- behind the closing quote of a quoted text, or None where it isn't closed; a backslash takes the next byte with it
abbrev pub behind_quoted : Bool → List ℕ → Option (List ℕ)
behind_quoted taken [] = None
behind_quoted true (b ∷ rest) = behind_quoted false rest
behind_quoted false (b ∷ rest) = if b == double_quote then Some rest else behind_quoted (b == backslash) rest

-- behind a text in double quotes, where one is there
abbrev pub behind_name : List ℕ → Option (List ℕ)
behind_name bytes = if slice_index bytes 0 == double_quote then behind_quoted false (drop 1 bytes) else Some bytes

-- a byte of the runs of digits behind the text, or between them
abbrev pub is_flag : ℕ → Bool
is_flag b = is_ascii_digit b || is_margin b

-- runs of digits, with blanks and tabs between and around them, where there is something at all
abbrev pub is_flags : Option (List ℕ) → Bool
is_flags None = false
is_flags (Some flags) = list_all is_flag flags

-- behind the blanks and tabs that the bytes begin with
abbrev pub behind_margin : List ℕ → List ℕ
behind_margin bytes = drop (prefix_len is_margin bytes) bytes

-- behind the digits that the bytes begin with
abbrev pub behind_digits : List ℕ → List ℕ
behind_digits bytes = drop (prefix_len is_ascii_digit bytes) bytes

-- With blanks or tabs between and behind them: `#`, a run of digits, at most one text in double quotes, and any number
-- of runs of digits.
abbrev pub is_marker : List ℕ → Bool
is_marker line =
    let number = behind_margin (drop 1 line) in
    (slice_index line 0 == hash && is_ascii_digit (slice_index number 0))
    && is_flags (behind_name (behind_margin (behind_digits number)))

-- a linemarker, which is one line
abbrev pub is_linemarker : List ℕ → Bool
is_linemarker line = list_all is_in_line line && is_marker line

-- A front that is one piece of white space. `first` says that only blanks and tabs stand before it in its line.
abbrev pub is_space : Bool → List ℕ → List ℕ → Bool
is_space first front behind =
    (length front == 1 && is_white (slice_index front 0)) || is_block_comment front
    || (is_line_comment front && ends_line behind)
    || (first && is_linemarker front && ends_line behind)
