-- When a structure or union of C has a size, an alignment and spots of its members (ISO C99, 6.7.2.1).
use Rattle.std.specs.Prelude.{◌≡◌, ℕ, List, Some}
use Rattle.cr_base.specs.declared.layout.Spot.{Spot}
use Rattle.cx_core.specs.Layouts.{CLayouts, row_of}
use Rattle.cx_core.specs.Trees.{CRecord}

-- it has this size and alignment, and its members stand at these spots, one for each, where the structures and unions in it are laid out in some way
pub record IsLaidOut (one : CRecord) (spots : List Spot) (size align : ℕ) : Type 0 where
  pub layouts : CLayouts
  pub row : row_of layouts one ≡ Some (record { laid = record { size = size; align = align }; spots = spots })
