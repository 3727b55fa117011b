-- Tokens that are the same, as a test.
use Rattle.std.specs.Prelude.{ℕ, Bool, true, false, ◌&&◌, bytes_eq, List, [], ◌∷◌}
use Rattle.rs_text.specs.Tokens.{RToken, Word, Label, Quoted, Mark, Close}

abbrev pub same_name : List ℕ → List ℕ → Bool
same_name one other = bytes_eq one other

abbrev pub same_token : RToken → RToken → Bool
same_token (Word one) (Word other) = same_name one other
same_token (Label one) (Label other) = same_name one other
same_token (Quoted one) (Quoted other) = same_name one other
same_token (Mark one) (Mark other) = same_name one other
same_token Close Close = true
same_token _ _ = false

abbrev pub same_tokens : List RToken → List RToken → Bool
same_tokens [] [] = true
same_tokens [] (other ∷ others) = false
same_tokens (token ∷ tokens) [] = false
same_tokens (token ∷ tokens) (other ∷ others) = same_token token other && same_tokens tokens others
