-- Laws of lives (ISO C99, 6.2.4): memories stand for each other after an object has begun or died.
use Rattle.std.specs.Prelude.{◌≡◌, ℕ, ◌<◌, ◌≤◌, Bool, All, length, Option, Some, slice_set}
use Rattle.cr_world.specs.Held.{fresh_block, with_block, without_block}
use Rattle.mem_bytes.specs.Laws.{IsHeld}
use Rattle.mem_bytes.specs.Memory.{Block, Blocks, new_block}
use Rattle.lift_stands.specs.Stands.{Images, image_of, with_image, Lives, BlockBelow, StandsFor, IsVacant}
use Rattle.lift_stands_lives.specs.Rooms.{HasRoom, IsZeroEnough, IsVacantBlock, KeepsImages, LivesFewer, IsHeldSlot}

pub record LivesStand : Type 0 where
  -- ---- what a new object is below
  -- of an object that begins no bit is set, so any room for it will do
  pub room : (images : Images) (size align : ℕ) (other : Block) → HasRoom images.in_bytes size align other → BlockBelow images (new_block size align) other
  -- and so will a new block of the crate
  pub fresh : (images : Images) (size align more : ℕ) (is_zero other_zero : Bool) → align ≤ more → 0 < more → IsZeroEnough images.in_bytes is_zero other_zero →
      BlockBelow images (fresh_block is_zero size align) (fresh_block other_zero size more)
  -- ---- the crate alone
  -- it may do anything but change what stands for live blocks of C
  pub aside : (images : Images) (memory others next : Blocks) → StandsFor images memory others → KeepsImages images memory others next →
      StandsFor images memory next
  -- so a block that is vacant may change or die
  pub slot : (images : Images) (memory others : Blocks) (image : ℕ) (slot : Option Block) → StandsFor images memory others → IsVacant images memory image →
      IsHeldSlot slot → StandsFor images memory (slice_set others image slot)
  -- and a block may begin
  pub beside : (images : Images) (memory others : Blocks) (other : Block) → StandsFor images memory others → All IsHeld other.cells →
      StandsFor images memory (with_block other others)
  -- ---- an object of C begins
  -- on a block of the crate that is vacant
  pub onto : (images : Images) (memory others : Blocks) (image : ℕ) (block other : Block) → StandsFor images memory others →
      IsVacantBlock images memory others image other → BlockBelow images block other → All IsHeld block.cells →
      StandsFor (with_image image images) (with_block block memory) others
  -- on a block that begins with it
  pub both : (images : Images) (memory others : Blocks) (block other : Block) → StandsFor images memory others → BlockBelow images block other →
      All IsHeld block.cells → All IsHeld other.cells →
      StandsFor (with_image (length others) images) (with_block block memory) (with_block other others)
  -- ---- an object of C dies
  -- any number of them, alone
  pub fewer : (images : Images) (memory after others : Blocks) → StandsFor images memory others → LivesFewer memory after → StandsFor images after others
  pub dies : (images : Images) (memory others : Blocks) (number : ℕ) → StandsFor images memory others → StandsFor images (without_block number memory) others
  -- with its image
  pub both_die : (images : Images) (memory others : Blocks) (number image : ℕ) → StandsFor images memory others → Lives memory number →
      image_of images number ≡ Some image → StandsFor images (without_block number memory) (without_block image others)
