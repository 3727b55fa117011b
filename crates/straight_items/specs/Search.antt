-- How the names of temporaries are looked for. Private contracts name these, and proofs/ shows that they are what
-- Temporaries says.
use Rattle.std.specs.Prelude.{◌≡◌, ℕ, ◌-◌, ◌<◌, ◌≤◌, Bool, true, false, ◌||◌, ◌==◌, List, ◌++◌, codes, if◌then◌else◌}
use Rattle.std.specs.Fmt.{decimal}
use Rattle.straight_items.specs.Temporaries.{AreApart}
use Rattle.straight_rust_tree.specs.Names.{is_among}

-- a candidate for the name of a temporary, by its number
abbrev pub temporary : ℕ → List ℕ
temporary number = if number == 0 then codes "t" else codes "t_" ++ decimal (number - 1)

-- a name that is taken by others or by a temporary
abbrev pub is_used : List (List ℕ) → List (List ℕ) → List ℕ → Bool
is_used taken names name = is_among taken name || is_among names name

-- the candidates before a number are used
abbrev pub AreUsed : List (List ℕ) → List (List ℕ) → ℕ → Type 0
AreUsed taken names above = (k : ℕ) → k < above → is_used taken names (temporary k) ≡ true

-- the candidates from one number on and before another are taken by others
abbrev pub AreTaken : List (List ℕ) → ℕ → ℕ → Type 0
AreTaken taken from above = (k : ℕ) → from ≤ k → k < above → is_among taken (temporary k) ≡ true

-- the first candidate from a number on that others haven't taken
pub record IsNextFree (taken : List (List ℕ)) (from : ℕ) (name : List ℕ) (number : ℕ) : Type 0 where
  pub is : name ≡ temporary number
  pub reached : from ≤ number
  pub free : is_among taken name ≡ false
  pub passed : AreTaken taken from number
  pub small : number < 4294967295

-- the candidates from a number on are no temporaries
abbrev pub AreUnused : List (List ℕ) → ℕ → Type 0
AreUnused names from = (k : ℕ) → from ≤ k → k < 4294967295 → is_among names (temporary k) ≡ false

-- names of temporaries, with a number before which the candidates are used and from which on they are no temporaries
pub record HoldsNames (taken names : List (List ℕ)) (next : ℕ) : Type 0 where
  pub apart : AreApart taken names
  pub used : AreUsed taken names next
  pub unused : AreUnused names next
