-- Laws of operations on pointers, in the words that both languages share: where one has a meaning in C, the same operation on what stands for its operands
-- has one in the crate, and gives the same number or what stands for C's pointer (ISO C99, 6.5.6, 6.5.8 and 6.5.9).
use Rattle.std.specs.Prelude.{◌≡◌, ℕ, Bool, ℤ, Result, Ok}
use Rattle.mem_bytes.specs.declared.pointer.PointerFault.{PointerFault}
use Rattle.mem_bytes.specs.declared.value.Ptr.{Ptr}
use Rattle.mem_bytes.specs.declared.value.Value.{Value}
use Rattle.mem_bytes.specs.Memory.{Blocks}
use Rattle.mem_bytes.specs.Pointers.{object_size, usable, moved, distance, difference, are_equal, equality}
use Rattle.lift_stands.specs.Stands.{Images, PlaceBelow, ValueBelow, StandsFor}

-- a pointer of the crate stands for one of C
pub record PointsBelow (images : Images) (value : Value) (result : Result Value PointerFault) : Type 0 where
  pub other : Value
  pub is : result ≡ Ok other
  pub below : ValueBelow images value other

pub record PointersStand : Type 0 where
  pub size : (images : Images) (memory others : Blocks) (at to : Ptr) (size : ℕ) → StandsFor images memory others → PlaceBelow images at to →
      object_size memory at ≡ Ok size → object_size others to ≡ Ok size
  pub usable : (images : Images) (memory others : Blocks) (value other one : Value) → StandsFor images memory others → ValueBelow images value other →
      usable memory value ≡ Ok one → PointsBelow images one (usable others other)
  pub moved : (images : Images) (memory others : Blocks) (value other new : Value) (bytes : ℤ) → StandsFor images memory others →
      ValueBelow images value other → moved memory value bytes ≡ Ok new → PointsBelow images new (moved others other bytes)
  pub distance : (images : Images) (memory others : Blocks) (first second one two : Value) (bytes : ℤ) → StandsFor images memory others →
      ValueBelow images first one → ValueBelow images second two → distance memory first second ≡ Ok bytes → distance others one two ≡ Ok bytes
  pub difference : (images : Images) (memory others : Blocks) (size : ℕ) (first second one two : Value) (count : ℤ) → StandsFor images memory others →
      ValueBelow images first one → ValueBelow images second two → difference memory size first second ≡ Ok count →
      difference others size one two ≡ Ok count
  -- pointers to objects, to functions and null ones
  pub equality : (images : Images) (memory others : Blocks) (first second one two : Value) (same : Bool) → StandsFor images memory others →
      ValueBelow images first one → ValueBelow images second two → equality memory first second ≡ Ok same → are_equal one two ≡ same
