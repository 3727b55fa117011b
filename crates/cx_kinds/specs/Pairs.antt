-- Two lists of types that go together, one by one. Named by the contracts of parts alone.
use Rattle.std.specs.Prelude.{Bool, true, false, ◌&&◌, List, [], ◌∷◌}

abbrev pub pairwise : {C : Type 0} → (C → C → Bool) → List C → List C → Bool
pairwise f [] [] = true
pairwise f (first ∷ firsts) (second ∷ seconds) = f first second && pairwise f firsts seconds
pairwise f _ _ = false
