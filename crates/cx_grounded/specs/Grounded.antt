-- Ranks of records by a table.
use Rattle.std.specs.Prelude.{◌≡◌, ℕ, ◌<◌, List, [], ◌∷◌, Some, IsSome, slice_get, unwrap_or, ⊤}
use Rattle.cx_core.specs.Trees.{CMember, CRecord, CTy, CTypes}
use Rattle.cx_layout.specs.Calls.{HasFittingBits, HoldsOnly, IsGrounded, record_at}

abbrev pub rank_in : List ℕ → ℕ → ℕ
rank_in ranks number = unwrap_or (slice_get ranks number) 0

-- a completed record of a lower rank
abbrev pub IsLower : CTypes → List ℕ → ℕ → ℕ → Type 0
IsLower types ranks rank number = IsSome (record_at types number) × (rank_in ranks number < rank)

-- an object of a type holds by value only completed records of a lower rank
abbrev pub HoldsLower : CTypes → List ℕ → ℕ → CTy → Type 0
HoldsLower types ranks rank = HoldsOnly (IsLower types ranks rank)

-- a member has a fitting width, and holds only completed records of a lower rank
abbrev pub Fits : CTypes → List ℕ → ℕ → CMember → Type 0
Fits types ranks rank one = HasFittingBits one × HoldsLower types ranks rank one.type

abbrev pub AllFit : CTypes → List ℕ → ℕ → List CMember → Type 0
AllFit types ranks rank [] = ⊤
AllFit types ranks rank (one ∷ others) = Fits types ranks rank one × AllFit types ranks rank others

-- the record with a number, if there is one
abbrev pub IsGroundedAt : CTypes → List ℕ → ℕ → Type 0
IsGroundedAt types ranks number = (one : CRecord) → record_at types number ≡ Some one → IsGrounded types (rank_in ranks) number one
