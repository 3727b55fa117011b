-- What contracts see of a shelf over the files of the system.
use Rattle.std.specs.Prelude.{ℕ, Option, None}
use Rattle.shelf.specs.declared.called.Called.{Called}
use Rattle.shelf.specs.Shelf.{ShelfState}

-- a shelf over files: how many calls failed, which stands still at the last value of a `u64`, and
-- the last of these
pub record DiskShelfView : Type 0 where
  pub faults : ℕ
  pub last : Option Called

-- it doesn't tell what it holds
abbrev pub state_of : DiskShelfView → ShelfState
state_of shelf = record { held = None; faults = shelf.faults; last = shelf.last }
