-- When the memory of a crate's run stands for the memory of its program's run.
use Rattle.std.specs.Prelude.{◌≡◌, ℕ, ◌/◌, ◌%◌, ◌^◌, ◌<◌, ◌≤◌, ⊤, List, [], ◌∷◌, length, Some, slice_get}
use Rattle.mem_bytes.specs.declared.cell.Cell.{Cell}
use Rattle.mem_bytes.specs.declared.cell.Cell.TheVariants.{Bits, PtrByte}
use Rattle.mem_bytes.specs.declared.value.Value.{Value}
use Rattle.mem_bytes.specs.declared.value.Value.TheVariants.{Whole, Null, Object, Code}
use Rattle.mem_bytes.specs.Memory.{Block, Blocks, live_block}

-- a map from the things of a program to those of its crate: the image of each block, live or dead, and of each
-- function, by their numbers
pub record Images : Type 0 where
  pub blocks : List ℕ
  pub functions : List ℕ

-- a value of a crate stands for one of a program: numbers are equal, and a pointer points to the image
abbrev pub ValueBelow : Images → Value → Value → Type 0
ValueBelow images (Whole n) (Whole m) = n ≡ m
ValueBelow images Null Null = ⊤
ValueBelow images (Object at) (Object to) = (slice_get images.blocks at.block ≡ Some to.block) × (at.offset ≡ to.offset)
ValueBelow images (Code f) (Code g) = slice_get images.functions f ≡ Some g
ValueBelow images _ _ = ⊥

-- a bit of a byte, from the lowest on
abbrev pub bit_of : ℕ → ℕ → ℕ
bit_of byte k = byte / 2 ^ k % 2

-- a cell has a set bit, of this value
abbrev pub HasBit : Cell → ℕ → ℕ → Type 0
HasBit (Bits value set) k bit = (bit_of set k ≡ 1) × (bit_of value k ≡ bit)
HasBit (PtrByte of index) k bit = ⊥

-- a cell of a crate stands for one of a program. An unset bit is below anything, a set bit below its equal; where
-- all bits are set, the cells are equal. A pointer's byte is below the same byte of the pointer to the image
pub record BitsBelow (value set : ℕ) (other : Cell) : Type 0 where
  pub whole : set ≡ 255 → other ≡ Bits value 255
  pub each : (k : ℕ) → k < 8 → bit_of set k ≡ 1 → HasBit other k (bit_of value k)

abbrev pub CellBelow : Images → Cell → Cell → Type 0
CellBelow images (Bits value set) other = BitsBelow value set other
CellBelow images (PtrByte of index) (PtrByte to other) = ValueBelow images of to × (index ≡ other)
CellBelow images (PtrByte of index) (Bits value set) = ⊥

-- each cell stands for the one beside it, and there are as many
abbrev pub CellsBelow : Images → List Cell → List Cell → Type 0
CellsBelow images [] [] = ⊤
CellsBelow images (cell ∷ cells) (other ∷ others) = CellBelow images cell other × CellsBelow images cells others
CellsBelow images [] (other ∷ others) = ⊥
CellsBelow images (cell ∷ cells) [] = ⊥

-- a block of a crate stands for one of a program: it has the same size and no less alignment
pub record BlockBelow (images : Images) (block other : Block) : Type 0 where
  pub align : block.align ≤ other.align
  pub cells : CellsBelow images block.cells other.cells

-- a live block has a live image that stands for it
pub record HasImage (images : Images) (crate_memory : Blocks) (number : ℕ) (block : Block) : Type 0 where
  pub image : ℕ
  pub other : Block
  pub mapped : slice_get images.blocks number ≡ Some image
  pub live : live_block crate_memory image ≡ Some other
  pub below : BlockBelow images block other

-- the memory of a crate's run stands for the memory of its program's run, under these images
pub record StandsFor (images : Images) (memory crate_memory : Blocks) : Type 0 where
  -- each block has an image, also a dead one
  pub mapped : length images.blocks ≡ length memory
  pub blocks : (number : ℕ) (block : Block) → live_block memory number ≡ Some block → HasImage images crate_memory number block
  -- two live blocks have different images
  pub apart : (one two image : ℕ) (first second : Block) → live_block memory one ≡ Some first → live_block memory two ≡ Some second →
      slice_get images.blocks one ≡ Some image → slice_get images.blocks two ≡ Some image → one ≡ two
