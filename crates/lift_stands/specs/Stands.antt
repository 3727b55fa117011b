-- When a memory of the written crate stands for one of the C program (ISO C99, 6.2.4 and 6.2.6.1; the Rust Reference, "Behavior considered
-- undefined"). Each live block of C has an image, which is a live block of the crate, and each cell of it is below the cell beside it.
use Rattle.std.specs.Prelude.{◌≡◌, ℕ, ◌<◌, ◌≤◌, ◌/◌, ◌%◌, ◌^◌, ℤ, Bool, true, List, [], ◌∷◌, ◌++◌, length, All, Option, Some, slice_get, Ok}
use Rattle.mem_bytes.specs.declared.cell.Cell.{Cell}
use Rattle.mem_bytes.specs.declared.cell.Cell.TheVariants.{Bits, PtrByte}
use Rattle.mem_bytes.specs.declared.value.Ptr.{Ptr}
use Rattle.mem_bytes.specs.declared.value.Value.{Value}
use Rattle.mem_bytes.specs.declared.value.Value.TheVariants.{Whole, Null, Object, Code}
use Rattle.mem_bytes.specs.Access.{record_at}
use Rattle.mem_bytes.specs.Laws.{IsHeld, HoldsCells}
use Rattle.mem_bytes.specs.Memory.{Block, Blocks, live_block}

-- ---- images

-- what stands for what
pub record Images : Type 0 where
  -- the image of each block of C, live or dead, by its number: a block of the crate
  pub blocks : List ℕ
  -- the image of a function of C that has one: a function of the crate
  pub functions : ℕ → Option ℕ
  -- the program has a bit-field member, so that each byte of the crate beside one that is no pointer's has all its bits set
  pub in_bytes : Bool

-- the image of a block of C, by its number
abbrev pub image_of : Images → ℕ → Option ℕ
image_of images number = slice_get images.blocks number

-- a block of C keeps its image, also when it has died; functions keep theirs
pub record Extends (images later : Images) : Type 0 where
  pub blocks : (number image : ℕ) → image_of images number ≡ Some image → image_of later number ≡ Some image
  pub functions : later.functions ≡ images.functions
  pub in_bytes : later.in_bytes ≡ images.in_bytes

-- with the image of one more block
abbrev pub with_image : ℕ → Images → Images
with_image image images = record images { blocks = images.blocks ++ image ∷ [] }

-- ---- values and cells

-- a place of the crate is the image of a place of C
pub record PlaceBelow (images : Images) (at to : Ptr) : Type 0 where
  pub block : image_of images at.block ≡ Some to.block
  pub offset : to.offset ≡ at.offset

-- a scalar value of the crate stands for one of C
pub data ValueBelow (images : Images) : Value → Value → Type 0 where
  same_number : (number : ℤ) → ValueBelow images (Whole number) (Whole number)
  both_null : ValueBelow images Null Null
  to_image : (at to : Ptr) → PlaceBelow images at to → ValueBelow images (Object at) (Object to)
  to_function : (number image : ℕ) → images.functions number ≡ Some image → ValueBelow images (Code number) (Code image)

-- a bit of a number, counted from the lowest
abbrev pub bit_of : ℕ → ℕ → ℕ
bit_of k number = number / 2 ^ k % 2

-- a cell has a bit set, with this value
abbrev pub HasBit : (k value : ℕ) → Cell → Type 0
HasBit k value (Bits number set) = (bit_of k set ≡ 1) × (bit_of k number ≡ value)
HasBit k value (PtrByte of index) = ⊥

-- a cell that is no pointer's byte, and all bits of which are set
abbrev pub IsByte : Cell → Type 0
IsByte cell = (number : ℕ) × (cell ≡ Bits number 255)

-- bits of C are below a cell: an unset bit is below anything, a set one below its equal
pub record BitsBelow (in_bytes : Bool) (number set : ℕ) (other : Cell) : Type 0 where
  pub whole : set ≡ 255 → other ≡ Bits number 255
  pub each : (k : ℕ) → k < 8 → bit_of k set ≡ 1 → HasBit k (bit_of k number) other
  pub bytes : in_bytes ≡ true → IsByte other

-- a cell of C is below one of the crate: a byte of a pointer is below the same byte of what stands for that pointer
abbrev pub CellBelow : Images → Cell → Cell → Type 0
CellBelow images (Bits number set) other = BitsBelow images.in_bytes number set other
CellBelow images (PtrByte of index) (PtrByte to other) = ValueBelow images of to × (other ≡ index)
CellBelow images (PtrByte of index) (Bits number set) = ⊥

abbrev pub CellsBelow : Images → List Cell → List Cell → Type 0
CellsBelow images [] [] = Unit {0}
CellsBelow images (cell ∷ cells) (other ∷ others) = CellBelow images cell other × CellsBelow images cells others
CellsBelow images [] (other ∷ others) = ⊥
CellsBelow images (cell ∷ cells) [] = ⊥

-- ---- memories

-- a block of C is below one of the crate: that has the same size and no less alignment, which isn't 0
pub record BlockBelow (images : Images) (block other : Block) : Type 0 where
  pub align : block.align ≤ other.align
  pub aligned : 0 < other.align
  pub cells : CellsBelow images block.cells other.cells

-- the image of a block of C lives, and the block is below it
pub record HasImage (images : Images) (others : Blocks) (number : ℕ) (block : Block) : Type 0 where
  pub image : ℕ
  pub entry : image_of images number ≡ Some image
  pub other : Block
  pub live : live_block others image ≡ Some other
  pub below : BlockBelow images block other

-- a block lives
abbrev pub Lives : Blocks → ℕ → Type 0
Lives memory number = (block : Block) × (live_block memory number ≡ Some block)

-- a memory of the crate stands for one of C
pub record StandsFor (images : Images) (memory others : Blocks) : Type 0 where
  -- each block of C that was made has an image
  pub mapped : length images.blocks ≡ length memory
  -- that of a live one lives, and the block is below it
  pub blocks : (number : ℕ) (block : Block) → live_block memory number ≡ Some block → HasImage images others number block
  -- no two live ones have one image
  pub apart : (first second image : ℕ) → Lives memory first → Lives memory second → image_of images first ≡ Some image → image_of images second ≡ Some image → first ≡ second
  -- an image is a block that was made
  pub made : (number image : ℕ) → image_of images number ≡ Some image → image < length others
  -- no two functions have one image, so that pointers to them are equal where C's are
  pub functions : (first second image : ℕ) → images.functions first ≡ Some image → images.functions second ≡ Some image → first ≡ second
  -- both hold cells that a machine holds, so that the bytes of a bit-field make a number
  pub held : HoldsCells memory
  pub others_held : HoldsCells others

-- no block of C, live or dead, has this image
abbrev pub IsNoImage : Images → ℕ → Type 0
IsNoImage images image = (number : ℕ) → image_of images number ≡ Some image → ⊥

-- no live block of C has this image: a local of the crate is vacant before its object begins, and again when it has died
abbrev pub IsVacant : Images → Blocks → ℕ → Type 0
IsVacant images memory image = (number : ℕ) → Lives memory number → image_of images number ≡ Some image → ⊥

-- ---- values of structures and unions

-- the place of the crate at a value holds what stands for the cells of a structure or union of this alignment
pub record PlaceHolds (images : Images) (others : Blocks) (align : ℕ) (value : Value) (list : List Cell) : Type 0 where
  pub at : Ptr
  pub value_is : value ≡ Object at
  pub cells : List Cell
  pub found : record_at others at (length list) align ≡ Ok cells
  pub held : All IsHeld list
  pub below : CellsBelow images list cells
