-- Laws of images: what stands for what goes on doing so when blocks of C get images.
use Rattle.std.specs.Prelude.{◌≡◌, ℕ, true, List, length, Some}
use Rattle.mem_bytes.specs.declared.cell.Cell.{Cell}
use Rattle.mem_bytes.specs.declared.value.Ptr.{Ptr}
use Rattle.mem_bytes.specs.declared.value.Value.{Value}
use Rattle.mem_bytes.specs.Coding.{is_same_pointer}
use Rattle.lift_stands.specs.Stands.{Images, image_of, with_image, Extends, PlaceBelow, ValueBelow, CellsBelow}

pub record ImagesGrow : Type 0 where
  pub same : (images : Images) → Extends images images
  pub more : (images later last : Images) → Extends images later → Extends later last → Extends images last
  -- with one more, which is that of the next block
  pub one : (images : Images) (image : ℕ) → Extends images (with_image image images)
  pub next : (images : Images) (image : ℕ) → image_of (with_image image images) (length images.blocks) ≡ Some image

-- places, values and cells are below what they were below
pub record StaysBelow : Type 0 where
  pub place : (images later : Images) (at to : Ptr) → Extends images later → PlaceBelow images at to → PlaceBelow later at to
  pub value : (images later : Images) (one other : Value) → Extends images later → ValueBelow images one other → ValueBelow later one other
  pub cells : (images later : Images) (list others : List Cell) → Extends images later → CellsBelow images list others → CellsBelow later list others

-- equal pointers of C stand for equal pointers
abbrev pub KeepsSamePointers : Type 0
KeepsSamePointers =
    (images : Images) (first second one two : Value) → ValueBelow images first one → ValueBelow images second two → is_same_pointer first second ≡ true →
    is_same_pointer one two ≡ true
