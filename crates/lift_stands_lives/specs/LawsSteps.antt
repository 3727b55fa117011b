-- Laws of single steps: what each leaves of what isn't its own. `base` and `own` are those of the piece (lift_stands/specs/Keeps.antt).
use Rattle.std.specs.Prelude.{◌≡◌, ℕ, ◌<◌, ◌≤◌, Bool, true, length, Some}
use Rattle.cr_world.specs.Held.{Held, with_blocks, with_block, without_block, with_allocated, is_listed, without_allocated}
use Rattle.mem_bytes.specs.declared.value.Ptr.{Ptr}
use Rattle.mem_bytes.specs.Laws.{Writes}
use Rattle.mem_bytes.specs.Memory.{Block, Blocks, live_block}
use Rattle.lift_stands.specs.Keeps.{KeepsOthers}
use Rattle.lift_stands.specs.Stands.{Images, image_of, with_image, PlaceBelow, Lives}
use Rattle.lift_stands.specs.Worlds.{HeldStands}
use Rattle.lift_stands_lives.specs.Rooms.{LivesFewer, MayChange}

pub record StepsKeepOthers : Type 0 where
  -- ---- which blocks a piece may change
  -- the image of a live block of C
  pub image : (base : ℕ) (own : ℕ → Bool) (images : Images) (memory : Blocks) (number image : ℕ) → Lives memory number →
      image_of images number ≡ Some image → MayChange base own images memory image
  -- and what was made since the function was entered
  pub since : (base : ℕ) (own : ℕ → Bool) (images : Images) (memory : Blocks) (number : ℕ) → base ≤ number → MayChange base own images memory number
  -- ---- stores
  -- in C
  pub stores : (base : ℕ) (own : ℕ → Bool) (images : Images) (held other : Held) (at : Ptr) (count : ℕ) (after : Blocks) →
      length images.blocks ≡ length held.blocks → Writes held.blocks at count after → KeepsOthers base own images images held (with_blocks after held) other other
  -- in the crate
  pub stores_aside : (base : ℕ) (own : ℕ → Bool) (images : Images) (held other : Held) (at : Ptr) (count : ℕ) (after : Blocks) →
      length images.blocks ≡ length held.blocks → Writes other.blocks at count after → MayChange base own images held.blocks at.block →
      KeepsOthers base own images images held held other (with_blocks after other)
  -- in both, at places of which one stands for the other
  pub both_store : (base : ℕ) (own : ℕ → Bool) (images : Images) (held other : Held) (at to : Ptr) (count many : ℕ) (after beyond : Blocks) →
      length images.blocks ≡ length held.blocks → Writes held.blocks at count after → Writes other.blocks to many beyond → PlaceBelow images at to →
      KeepsOthers base own images images held (with_blocks after held) other (with_blocks beyond other)
  -- ---- lives
  pub onto : (base : ℕ) (own : ℕ → Bool) (images : Images) (held other : Held) (image : ℕ) (block : Block) → length images.blocks ≡ length held.blocks →
      base ≤ image → KeepsOthers base own images (with_image image images) held (with_blocks (with_block block held.blocks) held) other other
  pub beside : (base : ℕ) (own : ℕ → Bool) (images : Images) (held other : Held) (block : Block) → length images.blocks ≡ length held.blocks →
      base ≤ length other.blocks → KeepsOthers base own images images held held other (with_blocks (with_block block other.blocks) other)
  pub both : (base : ℕ) (own : ℕ → Bool) (images : Images) (held other : Held) (block room : Block) → length images.blocks ≡ length held.blocks →
      base ≤ length other.blocks →
      KeepsOthers base own images (with_image (length other.blocks) images) held (with_blocks (with_block block held.blocks) held) other
      (with_blocks (with_block room other.blocks) other)
  pub dies : (base : ℕ) (own : ℕ → Bool) (images : Images) (held other : Held) (number : ℕ) → length images.blocks ≡ length held.blocks →
      KeepsOthers base own images images held (with_blocks (without_block number held.blocks) held) other other
  -- any number of them
  pub fewer : (base : ℕ) (own : ℕ → Bool) (images : Images) (held other : Held) (after : Blocks) → length images.blocks ≡ length held.blocks →
      LivesFewer held.blocks after → KeepsOthers base own images images held (with_blocks after held) other other
  -- the crate may do anything to what was made since the function was entered, as where its locals end
  pub newer : (base : ℕ) (own : ℕ → Bool) (images : Images) (held other : Held) (next : Blocks) → length images.blocks ≡ length held.blocks →
      length other.blocks ≤ length next → ((number : ℕ) → number < base → live_block next number ≡ live_block other.blocks number) →
      KeepsOthers base own images images held held other (with_blocks next other)
  -- a block of the crate that was made since the function was entered
  pub ends : (base : ℕ) (own : ℕ → Bool) (images : Images) (held other : Held) (number : ℕ) → length images.blocks ≡ length held.blocks → base ≤ number →
      KeepsOthers base own images images held held other (with_blocks (without_block number other.blocks) other)
  pub both_die : (base : ℕ) (own : ℕ → Bool) (images : Images) (held other : Held) (number image : ℕ) → length images.blocks ≡ length held.blocks →
      base ≤ image →
      KeepsOthers base own images images held (with_blocks (without_block number held.blocks) held) other (with_blocks (without_block image other.blocks) other)
  -- ---- allocated blocks
  pub allocated : (base : ℕ) (own : ℕ → Bool) (images : Images) (held other : Held) (is_zero other_zero : Bool) (size : ℕ) →
      length images.blocks ≡ length held.blocks → base ≤ length other.blocks →
      KeepsOthers base own images (with_image (length other.blocks) images) held (with_allocated is_zero size held) other
      (with_allocated other_zero size other)
  pub freed : (base : ℕ) (own : ℕ → Bool) (images : Images) (held other : Held) (number image : ℕ) → HeldStands images held other →
      is_listed number held.heap ≡ true → image_of images number ≡ Some image →
      KeepsOthers base own images images held (without_allocated number held) other (without_allocated image other)
