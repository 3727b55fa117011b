-- Counts of nodes.
use Rattle.std.proofs.Common.{◌≡◌, ℕ, ◌+◌, ◌<◌, sym, ap, ◌∙◌, subst}
use Rattle.std.proofs.Math.Nat.{add_assoc}

pub few_left : (x a b y n : ℕ) → x + (a + b) < n → y ≡ x + a → y + b < n
few_left x a b y n few is = subst (λ k. k < n) (sym (ap (λ z. z + b) is ∙ add_assoc x a b)) few
