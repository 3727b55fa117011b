-- What gets less from one turn of a loop to the next: the units and what is left of the source's bound, and within that the weight of its position.
use Rattle.std.proofs.Common.{◌≡◌, ◌⊎◌, inl, inr, ℕ, zero, suc, pred, ◌+◌, ◌*◌, ◌<◌, ◌≤◌, arith, refl}
use Rattle.std.proofs.Math.Nat.{mul-le-mul_right}
use Rattle.flow.specs.Sources.{IsBehind, nothing_left, within_less, weighs_less}

-- what is left of the source's bound, with the weight of its position; nothing is left of none
abbrev pub rank : (limit : ℕ) → (bound : ℕ) → (weight : ℕ) → ℕ
rank limit zero weight = 0
rank limit (suc bound) weight = suc bound * limit + weight

nothing_later : (n weight limit bound : ℕ) → 1 ≤ weight → (pred n + 0 < n + rank limit bound weight) ⊎ ((n ≡ 0) × (bound ≡ 0))
nothing_later zero weight limit zero heavy = inr (refl, refl)
nothing_later zero weight limit (suc bound) heavy = inl (omega (arith, heavy))
nothing_later (suc n) weight limit bound heavy = inl (omega arith)

one_more : (less bound limit : ℕ) → less < bound → less * limit + limit ≤ bound * limit
one_more less bound limit is = let e : suc less * limit ≤ bound * limit = mul-le-mul_right limit is in omega (arith, e)

within : (n less bound limit weight later : ℕ) → less < bound → 1 ≤ weight → later ≤ limit → (pred n + rank limit less later < n + rank limit bound weight) ⊎ ((n ≡ 0) × (bound ≡ 0))
within n zero bound limit weight later is heavy light = nothing_later n weight limit bound heavy
within n (suc less) (suc bound) limit weight later is heavy light = inl (let e = one_more (suc less) (suc bound) limit is in omega (arith, e, heavy, light))
within n (suc less) zero limit weight later is heavy light = absurd (omega (arith, is))

lighter : (n less bound limit weight later : ℕ) → less ≤ bound → later < weight → (pred n + rank limit less later < n + rank limit bound weight) ⊎ ((n ≡ 0) × (bound ≡ 0))
lighter n zero bound limit weight later is light = nothing_later n weight limit bound (omega (arith, light))
lighter n (suc less) (suc bound) limit weight later is light = inl (let e : suc less * limit ≤ suc bound * limit = mul-le-mul_right limit is in omega (arith, e, light))
lighter n (suc less) zero limit weight later is light = absurd (omega (arith, is))

-- a position behind another, with a unit less
pub gets_less : {P : Type 0} (weight : P → ℕ) (limit : ℕ) → ((position : P) → 1 ≤ weight position) → ((position : P) → weight position ≤ limit) →
    (n less bound : ℕ) (later earlier : P) → IsBehind weight less later bound earlier →
    (pred n + rank limit less (weight later) < n + rank limit bound (weight earlier)) ⊎ ((n ≡ 0) × (bound ≡ 0))
gets_less weight limit heavy light n zero bound later earlier behind = nothing_later n (weight earlier) limit bound (heavy earlier)
gets_less weight limit heavy light n (suc less) bound later earlier (nothing_left is) = absurd cc
gets_less weight limit heavy light n (suc less) bound later earlier (within_less is) = within n (suc less) bound limit (weight earlier) (weight later) is (heavy earlier) (light later)
gets_less weight limit heavy light n (suc less) bound later earlier (weighs_less is weighs) = lighter n (suc less) bound limit (weight earlier) (weight later) is weighs
