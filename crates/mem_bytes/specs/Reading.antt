-- What is read at once: the number in cells whose bits are all set, and the pointer whose bytes they
-- are.
use Rattle.std.specs.Prelude.{◌≡◌, ℕ, Bool, true, false, ◌&&◌, ◌==◌, if◌then◌else◌, List, Option, Some, None, Ok}
use Rattle.std.specs.List.{list_all}
use Rattle.cr_base.specs.declared.scalar.Scalar.{Scalar}
use Rattle.mem_bytes.specs.declared.cell.Cell.{Cell}
use Rattle.mem_bytes.specs.declared.cell.Cell.TheVariants.{Bits, PtrByte}
use Rattle.mem_bytes.specs.declared.value.Value.{Value}
use Rattle.mem_bytes.specs.Coding.{is_set, is_bits, is_zero, bits_of, stored_pointer}

-- the byte of a cell all of whose bits are set and that is no pointer's
abbrev pub set_byte : Cell → Option ℕ
set_byte (Bits value set) = if set == 255 then Some value else None
set_byte (PtrByte of index) = None

-- all cells have such a byte
abbrev pub are_set_bytes : List Cell → Bool
are_set_bytes cells = list_all is_set cells && list_all is_bits cells

-- the number that such cells hold
abbrev pub set_number : List Cell → Option ℕ
set_number cells = if are_set_bytes cells then Some (bits_of cells) else None

-- cells are the bytes of a pointer of a scalar type, which isn't null
pub record IsWholePointer (scalar : Scalar) (of : Value) (cells : List Cell) : Type 0 where
  pub set : list_all is_set cells ≡ true
  pub not_zero : list_all is_zero cells ≡ false
  pub stored : stored_pointer scalar cells ≡ Ok of
