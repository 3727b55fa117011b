-- The tokens behind a cursor's first ones.
use Rattle.std.proofs.Common.{◌≡◌, ℕ, zero, suc, List, [], ◌∷◌, drop, refl}
use Rattle.rs_lex.specs.declared.token.Token.{Token}
use Rattle.rs_lex.specs.Views.{tokens_view}

pub view_behind : (count : ℕ) (tokens : List Token) → tokens_view (drop count tokens) ≡ drop count (tokens_view tokens)
view_behind zero tokens = refl
view_behind (suc count) [] = refl
view_behind (suc count) (token ∷ tokens) = view_behind count tokens
