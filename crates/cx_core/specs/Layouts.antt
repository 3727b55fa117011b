-- Sizes and alignments of the types of a program, and where the members of its records stand (ISO C99, 6.2.6.1, 6.5.3.4
-- and 6.7.2.1; in the manner of the System V ABI for x86-64).
use Rattle.std.specs.Prelude.{ℕ, zero, suc, ◌*◌, ◌/◌, nat_le, Bool, if◌then◌else◌, List, [], ◌∷◌, map, Option, None, Some, option_map, is_some, slice_get, length}
use Rattle.std.specs.Option.{option_and_then, option_flatten}
use Rattle.cr_base.specs.declared.layout.Laid.{Laid}
use Rattle.cr_base.specs.declared.layout.Piece.{Piece}
use Rattle.cr_base.specs.declared.layout.Piece.TheVariants.{Plain, Bits}
use Rattle.cr_base.specs.declared.layout.Spot.{Spot}
use Rattle.cr_base.specs.Layout.{most_bytes, laid_record, spots_of}
use Rattle.cx_core.specs.Conversions.{width_of_basic}
use Rattle.cx_core.specs.Trees.{CTy, ty, CTyForm, void, basic, enum_type, pointer, array, record_type, function, CMember, CRecord, CTypes}

-- a record that is laid out: its size and alignment, and where its members stand, in their order
pub record CRow : Type 0 where
  pub laid : Laid
  pub spots : List Spot

-- the records that are laid out, by their numbers
abbrev pub CLayouts : Type 0
CLayouts = List (Option CRow)

abbrev pub row_at : CLayouts → ℕ → Option CRow
row_at layouts number = option_flatten (slice_get layouts number)

-- ---- sizes and alignments of types

-- so many bytes, with this alignment
abbrev pub bytes : ℕ → Laid
bytes size = record { size = size; align = size }

-- so many elements, one or more (6.7.5.2p1)
abbrev pub elements : ℕ → Option Laid → Option Laid
elements zero element = None
elements (suc n) element = option_map (λ one. record { size = suc n * one.size; align = one.align }) element

abbrev pub array_extent : Option ℕ → Option Laid → Option Laid
array_extent None element = None
array_extent (Some count) element = elements count element

abbrev mutual
  -- the size and the alignment of a type, whatever its size is: none where it is incomplete or a function
  pub whole_extent : CLayouts → CTy → Option Laid
  whole_extent layouts (ty form is_const) = whole_extent_of layouts form

  pub whole_extent_of : CLayouts → CTyForm → Option Laid
  whole_extent_of layouts void = None
  whole_extent_of layouts (basic which) = Some (bytes (width_of_basic which / 8))
  whole_extent_of layouts (enum_type number) = Some (bytes 4)
  whole_extent_of layouts (pointer to) = Some (bytes 8)
  whole_extent_of layouts (array element length) = array_extent length (whole_extent layouts element)
  whole_extent_of layouts (record_type number) = option_map (λ row. row.laid) (row_at layouts number)
  whole_extent_of layouts (function result params variadic) = None

-- no more than the most bytes
abbrev pub within_most : Laid → Option Laid
within_most laid = if nat_le laid.size most_bytes then Some laid else None

-- the size and the alignment of a type: none where it is incomplete, a function, or too large
abbrev pub extent : CLayouts → CTy → Option Laid
extent layouts type = option_and_then within_most (whole_extent layouts type)

-- ---- records

-- a member of this size and alignment, as the layout of its record sees it
abbrev pub piece : CMember → Laid → Piece
piece one laid = elim one.bits as (λ _. Piece) [
  | None ↦ Plain laid.size laid.align
  | Some width ↦ Bits laid.size width (is_some one.name)
]

abbrev pub piece_of : CLayouts → CMember → Option Piece
piece_of layouts one = option_map (piece one) (whole_extent layouts one.type)

abbrev pub put_front : Option Piece → Option (List Piece) → Option (List Piece)
put_front None others = None
put_front (Some first) others = option_map (λ pieces. first ∷ pieces) others

-- the members of a record, where each of them has a size
abbrev pub pieces_of : CLayouts → List CMember → Option (List Piece)
pieces_of layouts [] = Some []
pieces_of layouts (first ∷ others) = put_front (piece_of layouts first) (pieces_of layouts others)

abbrev pub row_of_pieces : Bool → List Piece → Option CRow
row_of_pieces is_union pieces =
    option_map (λ laid. record { laid = laid; spots = spots_of is_union pieces }) (laid_record is_union pieces)

-- how a record is laid out: none where one of its members has no size, or the record is too large
abbrev pub row_of : CLayouts → CRecord → Option CRow
row_of layouts one = option_and_then (row_of_pieces one.is_union) (pieces_of layouts one.members)

-- ---- all records of a program: each is laid out once those that it holds are

-- the completed records whose members have sizes by these layouts
abbrev pub pass : CTypes → CLayouts → CLayouts
pass types layouts = map (option_and_then (row_of layouts)) types.records

abbrev pub completed_count : List (Option CRecord) → ℕ
completed_count [] = 0
completed_count (None ∷ others) = completed_count others
completed_count (Some one ∷ others) = suc (completed_count others)

-- none is laid out, then those that hold no record, then those that hold only these, and so on
abbrev pub passes : ℕ → CTypes → CLayouts
passes zero types = map (λ _. None) types.records
passes (suc n) types = pass types (passes n types)

-- the layouts of the records of a program: a chain of records that hold each other has no more links than there are
-- completed records
unfoldable pub layouts_of : CTypes → CLayouts
layouts_of types = passes (completed_count types.records) types
