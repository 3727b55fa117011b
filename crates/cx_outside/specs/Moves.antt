-- What the calls of what is kept do.
use Rattle.std.specs.Prelude.{◌≡◌, ℕ, ◌<◌, Bool, true, false, List, [], ◌∷◌}
use Rattle.cr_world.specs.Held.{is_listed, without_entry}
use Rattle.std.specs.declared.cmp.Reverse.{Reverse}
use Rattle.cx_outside.specs.States.{KeptState}

-- an allocated block was forgotten, or the block isn't one
abbrev pub Released : Bool → ℕ → KeptState → KeptState → Type 0
Released true block before after = (is_listed block before.heap ≡ true) × (after ≡ record before { heap = without_entry block before.heap })
Released false block before after = (is_listed block before.heap ≡ false) × (after ≡ before)

-- a number is greater than those that are held with the greatest in front
abbrev pub IsNewest : ℕ → List (Reverse ℕ) → Type 0
IsNewest block [] = Unit {0}
IsNewest block (first ∷ others) = first.0 < block
