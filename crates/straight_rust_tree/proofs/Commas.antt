-- Lists with commas.
use Rattle.std.proofs.Common.{◌≡◌, ℕ, Bool, map, List, [], ◌∷◌, ◌++◌, refl, append_assoc, arith}
use Rattle.straight_rust_tree.specs.Lines.{behind_comma, listed, outer_param, outer_params, variadic_params}
use Rattle.straight_rust_tree.specs.View.{ty_view}
use Rattle.straight_rust_tree.specs.declared.tree.RTy.{RTy}

-- what stands behind a part in a list that is joined of two
pub behind_append : (xs ys : List (List ℕ)) → behind_comma (xs ++ ys) ≡ behind_comma xs ++ behind_comma ys
behind_append [] ys = refl
behind_append (x ∷ xs) ys = grind (arith, append_assoc, behind_append xs ys)

-- a list that was written in three pieces: its first part, the parts behind it, and further parts
pub listed_in_pieces : (before one two three first : List ℕ) (rest more : List (List ℕ)) →
    one ≡ before ++ first → two ≡ one ++ behind_comma rest → three ≡ two ++ behind_comma more →
    three ≡ before ++ listed ((first ∷ rest) ++ more)
listed_in_pieces before one two three first rest more e f g =
    rw (g, f, e, behind_append rest more) (simp append_assoc refl)

-- the parameters of an external function, written in three pieces
pub all_listed : (params others : List RTy) (first : RTy) (variadic : Bool) (before one two three : List ℕ) →
    params ≡ first ∷ others → one ≡ before ++ outer_param 0 (ty_view first) →
    two ≡ one ++ behind_comma (outer_params 1 (map ty_view others)) →
    three ≡ two ++ behind_comma (variadic_params variadic) →
    three ≡ before ++ listed (outer_params 0 (map ty_view params) ++ variadic_params variadic)
all_listed params others first variadic before one two three is e f g =
    rw is (listed_in_pieces before one two three (outer_param 0 (ty_view first)) (outer_params 1 (map ty_view others)) (variadic_params variadic) e f g)
