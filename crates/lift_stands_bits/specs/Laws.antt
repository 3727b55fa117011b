-- Laws of bit-fields: where a load or a store of C has a meaning, the crate may load and store the bytes that it touches, one by one (ISO C99, 6.2.6.1 and
-- 6.7.2.1p9).
use Rattle.std.specs.Prelude.{◌≡◌, ℕ, ◌<◌, ◌^◌, true, List, Ok}
use Rattle.cr_world.specs.Held.{Held}
use Rattle.mem_bytes.specs.declared.value.Ptr.{Ptr}
use Rattle.mem_bytes.specs.Access.{field_at, after_put_bits}
use Rattle.mem_bytes.specs.Bits.{bytes_touched, field_of}
use Rattle.mem_bytes.specs.Coding.{number_of}
use Rattle.mem_bytes.specs.Laws.{Writes}
use Rattle.mem_bytes.specs.Memory.{Blocks}
use Rattle.mem_bytes_bits.specs.Laws.{HoldsBytes, after_put_bytes, with_field_bytes}
use Rattle.lift_stands.specs.Stands.{Images, PlaceBelow, StandsFor}
use Rattle.lift_stands.specs.Worlds.{HeldStands}
use Rattle.lift_stands_lives.specs.LawsStored.{StoreLeaves}

-- the crate has bytes where C has a bit-field, which is so many bits of their number
pub record FieldInBytes (others : Blocks) (to : Ptr) (bit width field : ℕ) : Type 0 where
  pub bytes : List ℕ
  pub holds : HoldsBytes others to (bytes_touched bit width) bytes
  pub same : field ≡ field_of bit width (number_of bytes)

-- the crate stores the bytes of the number with another field, and the memories stand for each other
pub record FieldByBytes (images : Images) (after others : Blocks) (to : Ptr) (bit width field : ℕ) : Type 0 where
  pub bytes : List ℕ
  pub holds : HoldsBytes others to (bytes_touched bit width) bytes
  pub beyond : Blocks
  pub done : after_put_bytes others to (with_field_bytes bit width field bytes) ≡ Ok beyond
  pub writes : Writes others to (bytes_touched bit width) beyond
  pub stands : StandsFor images after beyond

-- the same for what both hold: what isn't the piece's own is as it was
pub record FieldLeaves (images : Images) (held other : Held) (after : Blocks) (to : Ptr) (bit width field : ℕ) : Type 0 where
  pub bytes : List ℕ
  pub holds : HoldsBytes other.blocks to (bytes_touched bit width) bytes
  pub stored : StoreLeaves images held other after (after_put_bytes other.blocks to (with_field_bytes bit width field bytes))

pub record BitFieldsStand : Type 0 where
  pub load : (images : Images) (memory others : Blocks) (at to : Ptr) (bit width field : ℕ) → images.in_bytes ≡ true → StandsFor images memory others →
      PlaceBelow images at to → field_at memory at bit width ≡ Ok field → FieldInBytes others to bit width field
  -- the bits beside the field may be unset in C: the crate's stay as they are
  pub store : (images : Images) (memory after others : Blocks) (at to : Ptr) (bit width field : ℕ) → images.in_bytes ≡ true →
      StandsFor images memory others → PlaceBelow images at to → field < 2 ^ width → after_put_bits memory at bit width field ≡ Ok after →
      FieldByBytes images after others to bit width field
  pub leaves : (images : Images) (held other : Held) (after : Blocks) (at to : Ptr) (bit width field : ℕ) → images.in_bytes ≡ true →
      HeldStands images held other → PlaceBelow images at to → field < 2 ^ width → after_put_bits held.blocks at bit width field ≡ Ok after →
      FieldLeaves images held other after to bit width field
