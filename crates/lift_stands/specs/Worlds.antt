-- When what a run of the written crate holds, and its world, stand for those of a run of the C program (ISO C99, 5.1.2.3, 7.20.3).
use Rattle.std.specs.Prelude.{◌≡◌, ℕ, ◌<◌, true, length, Some}
use Rattle.cr_world.specs.Held.{Held, is_listed}
use Rattle.cr_world.specs.Laws.{HeapLives}
use Rattle.cr_world.specs.World.{World, open_ended}
use Rattle.lift_stands.specs.Stands.{Images, image_of, StandsFor}

-- an image of an allocated block is allocated
pub record IsGivenImage (images : Images) (other : Held) (number : ℕ) : Type 0 where
  pub image : ℕ
  pub entry : image_of images number ≡ Some image
  pub listed : is_listed image other.heap ≡ true

-- the blocks that `malloc` or `calloc` gave in C are images of such in the crate, so that what C may free the crate may
pub record HeapStands (images : Images) (held other : Held) : Type 0 where
  pub given : (number : ℕ) → is_listed number held.heap ≡ true → IsGivenImage images other number
  -- what C lists lives, and nothing stands in its list twice
  pub lives : HeapLives held
  -- what the crate lists was made, so a new local is none of it
  pub made : (number : ℕ) → is_listed number other.heap ≡ true → number < length other.blocks

pub record HeldStands (images : Images) (held other : Held) : Type 0 where
  pub memories : StandsFor images held.blocks other.blocks
  pub heaps : HeapStands images held other

-- worlds stand for each other: the same calls were made with the same answers, the same answers are left, and both runs take theirs on open terms
pub record WorldsStand (images : Images) (world other : World) : Type 0 where
  pub held : HeldStands images world.held other.held
  pub made : other.made ≡ world.made
  pub answers : other.answers ≡ world.answers
  pub terms : world.terms ≡ open_ended
  pub other_terms : other.terms ≡ open_ended
