-- Where an object of C may begin in the written crate, and what leaves images as they are.
use Rattle.std.specs.Prelude.{◌≡◌, ℕ, ◌<◌, ◌≤◌, Bool, true, All, length, Option, Some}
use Rattle.mem_bytes.specs.Laws.{IsHeld, HoldsCells}
use Rattle.mem_bytes.specs.Memory.{Block, Blocks, live_block, size_of}
use Rattle.lift_stands.specs.Stands.{Images, image_of, IsByte, Lives, IsVacant}

-- a block of the crate has room for a new object of a size and an alignment, whatever its cells are; where the program has a bit-field member they are bytes
pub record HasRoom (in_bytes : Bool) (size align : ℕ) (other : Block) : Type 0 where
  pub same_size : size_of other ≡ size
  pub enough_align : align ≤ other.align
  pub aligned : 0 < other.align
  pub bytes : in_bytes ≡ true → All IsByte other.cells

-- the bytes of a new block of the crate are 0 where those of C's are, and where the program has a bit-field member
pub record IsZeroEnough (in_bytes is_zero other_zero : Bool) : Type 0 where
  pub zero : is_zero ≡ true → other_zero ≡ true
  pub bytes : in_bytes ≡ true → other_zero ≡ true

-- a live block of the crate that no live one of C has as its image
pub record IsVacantBlock (images : Images) (memory others : Blocks) (image : ℕ) (other : Block) : Type 0 where
  pub vacant : IsVacant images memory image
  pub live : live_block others image ≡ Some other

-- another memory of the crate has each image of a live block of C as it was
pub record KeepsImages (images : Images) (memory others next : Blocks) : Type 0 where
  pub same : (number image : ℕ) → Lives memory number → image_of images number ≡ Some image → live_block next image ≡ live_block others image
  pub grows : length others ≤ length next
  pub held : HoldsCells next

-- another memory of C has made no more blocks, and what lives in it is as it was
pub record LivesFewer (memory after : Blocks) : Type 0 where
  pub many : length after ≡ length memory
  pub same : (number : ℕ) (block : Block) → live_block after number ≡ Some block → live_block memory number ≡ Some block

-- what may stand at a place of a memory: nothing, or a block of cells that a machine holds
abbrev pub IsHeldSlot : Option Block → Type 0
IsHeldSlot slot = (block : Block) → slot ≡ Some block → All IsHeld block.cells

-- a block of the crate is none of those that a piece leaves as they are: it was made since the function was entered, stands for a live block of C, or is the
-- piece's own
abbrev pub MayChange : (base : ℕ) → (own : ℕ → Bool) → Images → Blocks → ℕ → Type 0
MayChange base own images memory number = number < base → IsVacant images memory number → own number ≡ true
