-- Laws of vacant blocks: what stands for no live block of C goes on doing so while C makes other blocks with other images, and what stood for a block that has
-- died does so, too.
use Rattle.std.specs.Prelude.{◌≡◌, ◌≢◌, ℕ, ◌<◌, ◌≤◌, length, Some}
use Rattle.cr_world.specs.Held.{with_block, without_block}
use Rattle.mem_bytes.specs.Memory.{Block, Blocks}
use Rattle.lift_stands.specs.Stands.{Images, image_of, with_image, Extends, Lives, StandsFor, IsVacant}

-- between two states of C no block that was dead lives again, and none that was made since has this image
pub record LeavesVacant (images later : Images) (memory after : Blocks) (image : ℕ) : Type 0 where
  pub mapped : length images.blocks ≡ length memory
  pub extends : Extends images later
  pub dead : (number : ℕ) → number < length memory → Lives after number → Lives memory number
  pub past : (number : ℕ) → length memory ≤ number → Lives after number → image_of later number ≢ Some image

pub record VacantStays : Type 0 where
  pub on : (images later : Images) (memory after : Blocks) (image : ℕ) → LeavesVacant images later memory after image → IsVacant images memory image →
      IsVacant later after image
  -- while another block of C begins
  pub begins : (images : Images) (memory : Blocks) (block : Block) (image other : ℕ) → length images.blocks ≡ length memory → image ≢ other →
      IsVacant images memory image → IsVacant (with_image other images) (with_block block memory) image
  -- or one dies
  pub dies : (images : Images) (memory : Blocks) (number image : ℕ) → IsVacant images memory image → IsVacant images (without_block number memory) image
  -- a number that no block of the crate had yet
  pub new : (images : Images) (memory others : Blocks) (image : ℕ) → StandsFor images memory others → length others ≤ image → IsVacant images memory image
  -- the image of what has just died
  pub left : (images : Images) (memory others : Blocks) (number image : ℕ) → StandsFor images memory others → Lives memory number →
      image_of images number ≡ Some image → IsVacant images (without_block number memory) image
