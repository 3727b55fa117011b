-- What a piece of a run of the written crate leaves of what isn't its own, beside the piece of C that it stands for.
use Rattle.std.specs.Prelude.{◌≡◌, ℕ, ◌<◌, ◌≤◌, Bool, true, false, length, Some, None}
use Rattle.mem_bytes.specs.Memory.{Block, live_block, size_of}
use Rattle.cr_world.specs.Held.{Held, is_listed}
use Rattle.lift_stands.specs.Stands.{Images, image_of, Extends, IsVacant}

-- a live block lives on with its size and its alignment
pub record LivesOn (before : Block) (beyond : Held) (number : ℕ) : Type 0 where
  pub block : Block
  pub live : live_block beyond.blocks number ≡ Some block
  pub size : size_of block ≡ size_of before
  pub align : block.align ≡ before.align

-- Between two states of C (`held`, `after`) and of the crate (`other`, `beyond`): `base` is how many blocks the crate had made when the function that runs was
-- entered, or fewer, so that blocks below it are those of callers and of static objects; `own` tells those of them that the piece may write, as the place of
-- a result.
pub record KeepsOthers (base : ℕ) (own : ℕ → Bool) (images later : Images) (held after other beyond : Held) : Type 0 where
  pub extends : Extends images later
  pub grows : length held.blocks ≤ length after.blocks
  pub others_grow : length other.blocks ≤ length beyond.blocks
  -- what C made since has an image that was made since, too
  pub past : (number image : ℕ) → length held.blocks ≤ number → image_of later number ≡ Some image → base ≤ image
  -- what was dead in C stays dead
  pub dead : (number : ℕ) → number < length held.blocks → live_block held.blocks number ≡ None → live_block after.blocks number ≡ None
  -- what is listed as allocated was so, or was made since
  pub heap : (number : ℕ) → number < length held.blocks → is_listed number after.heap ≡ true → is_listed number held.heap ≡ true
  pub other_heap : (number : ℕ) → number < length other.blocks → is_listed number beyond.heap ≡ true → is_listed number other.heap ≡ true
  -- a block of the crate that stood for no live one of C, and isn't the piece's own, is as it was
  pub vacant : (number : ℕ) → number < base → IsVacant images held.blocks number → own number ≡ false → live_block beyond.blocks number ≡ live_block other.blocks number
  -- and one that lived, and that no allocation gave, lives on, whatever it stood for: a local is there when its object begins anew
  pub rooms : (number : ℕ) (block : Block) → number < base → live_block other.blocks number ≡ Some block → is_listed number other.heap ≡ false → LivesOn block beyond number
