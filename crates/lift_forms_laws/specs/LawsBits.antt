-- Laws of bit-fields: the number that the crate puts together from bytes is C's value of the bit-field, and what it stores byte by byte is what C stores in the bit-field
-- (ISO C99, 6.5.16.1p2 and 6.7.2.1p9).
use Rattle.std.specs.Prelude.{◌≡◌, ℕ, ◌^◌, ◌≤◌, ◌<◌, Bool, true, ℤ, pos, List, Ok}
use Rattle.cr_base.specs.Scalar.{residue, wrapped}
use Rattle.cr_base.specs.declared.layout.Spot.{Spot}
use Rattle.cr_base.specs.declared.scalar.Scalar.TheVariants as scalar
use Rattle.cr_runs.specs.Runs.{came}
use Rattle.cr_world.specs.Held.{with_blocks}
use Rattle.cr_world.specs.World.{World, with_held}
use Rattle.mem_bytes.specs.Access.{after_put_bits}
use Rattle.mem_bytes.specs.Bits.{bytes_touched, field_of}
use Rattle.mem_bytes.specs.Coding.{number_of}
use Rattle.mem_bytes.specs.Laws.{behind, Writes}
use Rattle.mem_bytes.specs.Memory.{Blocks}
use Rattle.mem_bytes.specs.declared.value.Ptr.{Ptr}
use Rattle.mem_bytes.specs.declared.value.Value.{Value}
use Rattle.mem_bytes.specs.declared.value.Value.TheVariants.{Whole, Object}
use Rattle.mem_bytes_bits.specs.Laws.{HoldsBytes, after_put_bytes, with_field_bytes}
use Rattle.rs_mean.specs.Run.{Frame, normal, run_stmts}
use Rattle.rs_mean.specs.Typing.{casts}
use Rattle.rs_text.specs.declared.integer.IntegerTy.TheVariants.{U64}
use Rattle.rs_text.specs.Tree.{Ty, Integer, Pointer, Expr, Stmt, stmts}
use Rattle.lift_forms.specs.BitFields.{bit_read, bit_write, read_type}
use Rattle.lift_forms.specs.LawsTyping.{IsBitField}
use Rattle.lift_forms_laws.specs.Gives.{GivesAt}

-- the value of a bit-field in the number of its bytes
abbrev pub bits_value : Spot → (signed : Bool) → ℕ → ℤ
bits_value spot signed number = wrapped (scalar.Whole spot.width signed) (pos (field_of spot.bit spot.width number))

pub record BitFieldsGive : Type 0 where
  pub reads : (frame : Frame) (world : World) (base : Expr) (target : Ty) (to : Ptr) (spot : Spot) (bytes : List ℕ) (signed : Bool) → IsBitField spot →
      GivesAt frame world base (Pointer target) (Object to) → HoldsBytes world.held.blocks (behind to spot.byte) (bytes_touched spot.bit spot.width) bytes →
      GivesAt frame world (bit_read base spot signed) (Integer (read_type signed)) (Whole (bits_value spot signed (number_of bytes)))

-- ---- stores

-- a world whose program holds another memory
abbrev pub with_memory : Blocks → World → World
with_memory blocks world = with_held (with_blocks blocks world.held) world

-- so many of the lowest bits of a number
abbrev pub low_bits : (many : ℕ) → ℤ → ℕ
low_bits many number = residue number (2 ^ many)

-- an expression gives the same while a number is stored in a bit-field, the lowest bits first: in each memory in which so many of its bits have been put there
pub record GivesAlong (frame : Frame) (world : World) (to : Ptr) (spot : Spot) (number : ℤ) (e : Expr) (ty : Ty) (given : Value) : Type 0 where
  pub gives : (many : ℕ) (part : Blocks) → many ≤ spot.width → after_put_bits world.held.blocks (behind to spot.byte) spot.bit many (low_bits many number) ≡ Ok part →
      GivesAt frame (with_memory part world) e ty given

-- an expression gives the same in each memory in which the bit-field alone has another value: it doesn't read the bits that are written
pub record GivesBeside (frame : Frame) (world : World) (to : Ptr) (spot : Spot) (e : Expr) (ty : Ty) (given : Value) : Type 0 where
  pub gives : (field : ℕ) (other : Blocks) → field < 2 ^ spot.width → after_put_bits world.held.blocks (behind to spot.byte) spot.bit spot.width field ≡ Ok other →
      GivesAt frame (with_memory other world) e ty given

-- statements store a number in a bit-field: they come to their end, take no unit, put as many low bits of the number as there are in it, and write no byte but those that it
-- touches
pub record StoresField (frame : Frame) (world : World) (to : Ptr) (spot : Spot) (number : ℤ) (bytes : List ℕ) (written : List Stmt) : Type 0 where
  pub beyond : Blocks
  pub put : after_put_bits world.held.blocks (behind to spot.byte) spot.bit spot.width (low_bits spot.width number) ≡ Ok beyond
  pub by_bytes : after_put_bytes world.held.blocks (behind to spot.byte) (with_field_bytes spot.bit spot.width (low_bits spot.width number) bytes) ≡ Ok beyond
  pub writes : Writes world.held.blocks (behind to spot.byte) (bytes_touched spot.bit spot.width) beyond
  pub runs : (units : ℕ) → run_stmts frame (stmts written) world units ≡ came normal (with_memory beyond world) units

pub record BitFieldsStore : Type 0 where
  -- the value is that of an integer or a `bool`, and is evaluated once for each byte
  pub writes : (frame : Frame) (world : World) (base stored : Expr) (target ty : Ty) (to : Ptr) (spot : Spot) (number : ℤ) (bytes : List ℕ) → IsBitField spot →
      casts ty (Integer U64) ≡ true → HoldsBytes world.held.blocks (behind to spot.byte) (bytes_touched spot.bit spot.width) bytes →
      GivesAlong frame world to spot number base (Pointer target) (Object to) → GivesAlong frame world to spot number stored ty (Whole number) →
      StoresField frame world to spot number bytes (bit_write base spot stored)
  -- so it may be one that doesn't read the bits that are written, whatever else it reads in the same bytes
  pub along : (frame : Frame) (world : World) (to : Ptr) (spot : Spot) (number : ℤ) (bytes : List ℕ) (e : Expr) (ty : Ty) (given : Value) → IsBitField spot →
      HoldsBytes world.held.blocks (behind to spot.byte) (bytes_touched spot.bit spot.width) bytes → GivesBeside frame world to spot e ty given →
      GivesAlong frame world to spot number e ty given
