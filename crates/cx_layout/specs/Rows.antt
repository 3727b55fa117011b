-- What holds of every table of layouts, and of pieces that are too large.
use Rattle.std.specs.Prelude.{◌≡◌, ℕ, ◌≤◌, ◌<◌, List, ◌∷◌, ◌++◌, Option, Some, IfSome, IsSome, All}
use Rattle.cr_base.specs.declared.layout.Laid.{Laid}
use Rattle.cr_base.specs.declared.layout.Piece.{Piece}
use Rattle.cr_base.specs.declared.layout.Piece.TheVariants.{Plain, Bits}
use Rattle.cr_base.specs.Layout.{most_bytes}
use Rattle.cx_layout.specs.declared.extent.Extent.{Extent}
use Rattle.cx_layout.specs.declared.extent.Extent.TheVariants.{Unknown, TooLarge, Known}
use Rattle.cx_core.specs.Layouts.{CLayouts, CRow, row_at}

-- a record that is laid out isn't too large, and has an alignment
abbrev pub IsFine : Laid → Type 0
IsFine laid = (laid.size ≤ most_bytes) × (0 < laid.align) × (laid.align ≤ most_bytes)

abbrev pub IsFineRow : Option CRow → Type 0
IsFineRow found = IfSome found (λ row. IsFine row.laid)

abbrev pub AreFine : CLayouts → Type 0
AreFine layouts = All IsFineRow layouts

abbrev pub IsFineExtent : Extent → Type 0
IsFineExtent (Known laid) = IsFine laid
IsFineExtent Unknown = Unit {0}
IsFineExtent TooLarge = Unit {0}

-- a member that is too large for any record
abbrev pub IsLarge : Piece → Type 0
IsLarge (Plain size align) = most_bytes < size
IsLarge (Bits size width is_named) = ⊥

abbrev pub IsLargePiece : Option Piece → Type 0
IsLargePiece found = IsSome found × IfSome found IsLarge

-- one of the members of a record is too large for any
pub record HasLarge (found : Option (List Piece)) : Type 0 where
  pub front : List Piece
  pub one : Piece
  pub behind : List Piece
  pub found_is : found ≡ Some (front ++ one ∷ behind)
  pub large : IsLarge one

-- a record stands at its number so, and no other changes
pub record PutsRow (old : CLayouts) (number : ℕ) (row : CRow) (new : CLayouts) : Type 0 where
  pub here : row_at new number ≡ Some row
  pub others : (other : ℕ) → (other ≡ number → ⊥) → row_at new other ≡ row_at old other
