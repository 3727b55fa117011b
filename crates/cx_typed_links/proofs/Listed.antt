-- What a list contains, the list of what a function makes of it contains.
use Rattle.std.proofs.Common.{◌≡◌, ℕ, zero, suc, List, [], ◌∷◌, ◌++◌, map, get_or, refl, sym, ap, ◌∙◌, subst}
use Rattle.std.specs.Prelude.{◌<◌}
use Rattle.std.specs.List.{Contains}
use Rattle.std.proofs.lemmas.List.{length-map}

got_there : {X Y : Type 0} (f : X → Y) (xs : List X) (k : ℕ) (other : X) → get_or (map f xs) k (f other) ≡ f (get_or xs k other)
got_there f [] k other = refl
got_there f (x ∷ xs) zero other = refl
got_there f (x ∷ xs) (suc k) other = got_there f xs k other

pub contains_there : {X Y : Type 0} (f : X → Y) (xs : List X) (x : X) → Contains xs x → Contains (map f xs) (f x)
contains_there f xs x held =
    (held.0, subst (λ (count : ℕ). held.0 < count) (sym (length-map xs f)) held.1, got_there f xs held.0 x ∙ ap f held.2)

pub map_joined : {X Y : Type 0} (f : X → Y) (xs ys : List X) → map f (xs ++ ys) ≡ map f xs ++ map f ys
map_joined f [] ys = refl
map_joined f (x ∷ xs) ys = ap (λ others. f x ∷ others) (map_joined f xs ys)
