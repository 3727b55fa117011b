-- Numbers of places of cases.
use Rattle.std.proofs.Common.{◌≡◌, ℕ, List, [], ◌∷◌, ◌++◌, map, refl, ap}
use Rattle.build_flow_nodes.specs.Points.{FlowPlace}

pub choice_numbered : (number : FlowPlace → ℕ) (places : List FlowPlace) (other : FlowPlace) → map number (places ++ other ∷ []) ≡ map number places ++ number other ∷ []
choice_numbered number [] other = refl
choice_numbered number (one ∷ places) other = ap (λ (rest : List ℕ). number one ∷ rest) (choice_numbered number places other)
