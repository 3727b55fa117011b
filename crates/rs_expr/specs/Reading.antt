-- Readers: what is read from the front of the tokens, and the tokens behind it. A reader reads something from any tokens.
use Rattle.std.specs.Prelude.{◌≡◌, ⊤, ℕ, zero, suc, Bool, true, false, List, [], ◌∷◌, ◌++◌, length, drop, Result, Ok, Err, if◌then◌else◌}
use Rattle.rs_expr.specs.declared.sign.Sign.{Sign}
use Rattle.rs_expr.specs.declared.sign.Sign.TheVariants.{End, Comma, RightParenthesis}
use Rattle.rs_expr.specs.Signs.{sign_at}
use Rattle.rs_text.specs.Tokens.{RToken}

abbrev pub Toks : Type 0
Toks = List RToken

abbrev pub Reader : Type 0 → Type 0
Reader A = Toks → A × Toks

-- what a function that reads ensures: what its reader gives, unless it ended early
abbrev pub Gives : {A B E : Type 0} → (A → B) → Result A E → Toks → B × Toks → Type 0
Gives view (Ok value) after read = read ≡ (view value, after)
Gives view (Err fault) after read = ⊤

abbrev pub read_of : {A : Type 0} → A → Toks → A × Toks
read_of a tokens = (a, tokens)

-- one more of a list
unfoldable pub added : {A : Type 0} → Reader A → List A → Reader (List A)
added read all tokens = read_of (all ++ (read tokens).0 ∷ []) (read tokens).1

-- one behind the other until a sign stops them; at most so many turns
unfoldable pub many : {A : Type 0} → (Sign → Bool) → Reader A → ℕ → List A → Reader (List A)
many stops read zero all tokens = read_of all tokens
many stops read (suc turns) all tokens =
    if stops (sign_at tokens) then read_of all tokens else many stops read turns (added read all tokens).0 (added read all tokens).1

-- as many as stand in front of what stops them
abbrev pub many_ahead : {A : Type 0} → (Sign → Bool) → Reader A → Reader (List A)
many_ahead stops read tokens = many stops read (length tokens) [] tokens

-- a comma that may stand
abbrev pub comma_behind : Sign → Toks → Toks
comma_behind Comma tokens = drop 1 tokens
comma_behind _ tokens = tokens

-- a part of a list, with the comma behind it
unfoldable pub part : {A : Type 0} → Reader A → Reader A
part read tokens = read_of (read tokens).0 (comma_behind (sign_at (read tokens).1) (read tokens).1)

abbrev pub ends_list : Sign → Bool
ends_list End = true
ends_list RightParenthesis = true
ends_list _ = false

-- parts with commas between two, up to the parenthesis that closes them
abbrev pub listed : {A : Type 0} → Reader A → Reader (List A)
listed read = many_ahead ends_list (part read)
