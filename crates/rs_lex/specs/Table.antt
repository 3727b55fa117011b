-- The marks of punctuation of three, two and one bytes, as the constant of src/marks.rt lists them.
use Rattle.std.specs.Prelude.{ℕ, List, [], ◌∷◌, codes}

unfoldable pub mark_table : List (List ℕ)
mark_table =
    codes "<<=" ∷ codes ">>=" ∷ codes "..." ∷ codes "..=" ∷
    codes "&&" ∷ codes "||" ∷ codes "<<" ∷ codes ">>" ∷ codes "+=" ∷ codes "-=" ∷ codes "*=" ∷ codes "/=" ∷ codes "%=" ∷
    codes "^=" ∷ codes "&=" ∷ codes "|=" ∷ codes "==" ∷ codes "!=" ∷ codes ">=" ∷ codes "<=" ∷ codes ".." ∷ codes "::" ∷
    codes "->" ∷ codes "=>" ∷ codes "<-" ∷
    codes "+" ∷ codes "-" ∷ codes "*" ∷ codes "/" ∷ codes "%" ∷ codes "^" ∷ codes "!" ∷ codes "&" ∷ codes "|" ∷ codes "=" ∷
    codes ">" ∷ codes "<" ∷ codes "@" ∷ codes "." ∷ codes "," ∷ codes ";" ∷ codes ":" ∷ codes "#" ∷ codes "$" ∷ codes "?" ∷
    codes "~" ∷ codes "(" ∷ codes ")" ∷ codes "[" ∷ codes "]" ∷ codes "{" ∷ codes "}" ∷ []
