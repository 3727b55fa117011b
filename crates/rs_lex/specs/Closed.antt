-- Where `>` ends a list of types. Lists of types stand behind `::` and behind a name before `unsafe`; while one is open, `>` ends it
-- and `>>` ends two, since no operator stands in a list of types (the Rust Reference, "Paths" and "Function pointer types").
use Rattle.std.specs.Prelude.{ℕ, ◌+◌, ◌-◌, Bool, false, ◌&&◌, nat_le, bytes_eq, codes, List, [], ◌∷◌, ◌++◌, replicate, Option, option_map, if◌then◌else◌}
use Rattle.rs_lex.specs.declared.angles.Last.{Last}
use Rattle.rs_lex.specs.declared.angles.Last.TheVariants.{Other, PathMark, LessMark}
use Rattle.rs_text.specs.Tokens.{RToken, Word, Mark, Close, tokens_in}

abbrev pub is_mark : List ℕ → RToken → Bool
is_mark mark (Mark text) = bytes_eq text mark
is_mark mark _ = false

abbrev pub is_word : List ℕ → RToken → Bool
is_word word (Word text) = bytes_eq text word
is_word word _ = false

-- what the next token has to know of this one: that it is `::` or `<`
abbrev pub last_of : RToken → Last
last_of token = if is_mark (codes "::") token then PathMark else if is_mark (codes "<") token then LessMark else Other

-- `<` behind `::`, and `unsafe` behind `<`, are in a list of types that begins with `<`
abbrev pub opens : Last → RToken → Bool
opens Other token = false
opens PathMark token = is_mark (codes "<") token
opens LessMark token = is_word (codes "unsafe") token

-- how many lists of types a token may end
abbrev pub ends : RToken → ℕ
ends token = if is_mark (codes ">") token then 1 else if is_mark (codes ">>") token then 2 else 0

-- a token ends lists of types, of which so many are open
abbrev pub does_end : ℕ → RToken → Bool
does_end count token = nat_le 1 (ends token) && nat_le (ends token) count

abbrev pub closed_token : ℕ → RToken → List RToken
closed_token count token = if does_end count token then replicate (ends token) Close else token ∷ []

-- how many lists of types are open behind a token
abbrev pub open_behind : ℕ → Last → RToken → ℕ
open_behind count last token =
    if does_end count token then count - ends token else if opens last token then count + 1 else count

-- the tokens of a text with the ends of lists of types told apart, where so many are open
abbrev pub closed_from : ℕ → Last → List RToken → List RToken
closed_from count last [] = []
closed_from count last (token ∷ tokens) =
    closed_token count token ++ closed_from (open_behind count last token) (last_of token) tokens

abbrev pub closed : List RToken → List RToken
closed tokens = closed_from 0 Other tokens

-- the tokens that a text spells, with the ends of lists of types told apart
abbrev pub closed_in : List ℕ → Option (List RToken)
closed_in text = option_map closed (tokens_in text)
