-- Where the members of a record stand beside each other.
use Rattle.std.specs.Prelude.{◌≡◌, ℕ, ◌+◌, ◌*◌, ◌<◌, List, Some, slice_get, All}
use Rattle.cr_base.specs.declared.layout.Piece.{Piece}
use Rattle.cr_base.specs.declared.layout.Spot.{Spot}
use Rattle.cr_base.specs.Layout.{width_of, align_of}
use Rattle.cx_core.specs.Layouts.{CLayouts, CRow, row_of, pieces_of}
use Rattle.cx_core.specs.Trees.{CRecord}

-- the first bit of a member, and the first bit behind it, from the first bit of the record on
abbrev pub first_bit : Spot → ℕ
first_bit spot = 8 * spot.byte + spot.bit

abbrev pub end_bit : Spot → Piece → ℕ
end_bit spot piece = first_bit spot + width_of piece

-- a record is laid out so; its members ask for these bits, and each has an alignment
pub record IsLaidOut (layouts : CLayouts) (one : CRecord) (row : CRow) (pieces : List Piece) : Type 0 where
  pub row_is : row_of layouts one ≡ Some row
  pub pieces_are : pieces_of layouts one.members ≡ Some pieces
  pub aligned : All (λ piece. 0 < align_of piece) pieces

-- the member with a number asks for these bits and stands there
pub record IsAt (pieces : List Piece) (row : CRow) (index : ℕ) (piece : Piece) (spot : Spot) : Type 0 where
  pub piece_is : slice_get pieces index ≡ Some piece
  pub spot_is : slice_get row.spots index ≡ Some spot
