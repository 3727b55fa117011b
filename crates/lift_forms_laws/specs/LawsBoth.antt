-- Laws of bit-fields in both memories: what C loads from a bit-field the crate's expression gives, and where C stores in one the crate's statements leave what stands for it
-- (ISO C99, 6.3.2.1p2, 6.5.16.1p2 and 6.7.2.1p9).
use Rattle.std.specs.Prelude.{◌≡◌, ℕ, ◌≤◌, Bool, true, false, ℤ, List, Ok}
use Rattle.cr_base.specs.declared.layout.Spot.{Spot}
use Rattle.cr_base.specs.declared.scalar.Scalar.{Scalar}
use Rattle.cr_base.specs.declared.scalar.Scalar.TheVariants as scalar_type
use Rattle.cr_runs.specs.Runs.{came}
use Rattle.cr_world.specs.Held.{Held}
use Rattle.cr_world.specs.World.{World}
use Rattle.cx_mean.specs.Accesses.{CLoaded, loaded_bits, CStored, stored_bits}
use Rattle.cx_mean.specs.Marks.{Marks}
use Rattle.cx_mean.specs.Operands.{CValue, scalar}
use Rattle.mem_bytes.specs.Access.{after_put_bits}
use Rattle.mem_bytes.specs.Laws.{behind}
use Rattle.mem_bytes.specs.Memory.{Blocks}
use Rattle.mem_bytes.specs.declared.value.Ptr.{Ptr}
use Rattle.mem_bytes.specs.declared.value.Value.{Value}
use Rattle.mem_bytes.specs.declared.value.Value.TheVariants.{Whole, Object}
use Rattle.rs_mean.specs.Run.{Frame, normal, run_stmts}
use Rattle.rs_mean.specs.Typing.{casts}
use Rattle.rs_text.specs.declared.integer.IntegerTy.TheVariants.{U64}
use Rattle.rs_text.specs.Tree.{Ty, Integer, Pointer, Expr, Stmt, stmts}
use Rattle.lift_forms.specs.BitFields.{bit_read, bit_write, read_type}
use Rattle.lift_forms.specs.LawsTyping.{IsBitField}
use Rattle.lift_stands.specs.Stands.{Images, PlaceBelow, StandsFor}
use Rattle.lift_stands.specs.Worlds.{HeldStands}
use Rattle.lift_stands_accesses.specs.Objects.{LeftStanding}
use Rattle.lift_forms_laws.specs.Gives.{GivesAt}
use Rattle.lift_forms_laws.specs.LawsBits.{with_memory, low_bits}

-- whether a bit-field of a declared type has a sign; of `_Bool` it has none
abbrev pub has_sign : Scalar → Bool
has_sign (scalar_type.Whole width signed) = signed
has_sign _ = false

-- C loads a number, and the crate's expression gives the same
pub record BitFieldLoaded (frame : Frame) (world : World) (base : Expr) (spot : Spot) (kind : Scalar) (value : CValue) : Type 0 where
  pub number : ℤ
  pub is : value ≡ scalar (Whole number)
  pub gives : GivesAt frame world (bit_read base spot (has_sign kind)) (Integer (read_type (has_sign kind))) (Whole number)

-- an expression gives the same while a number is stored in a bit-field: in each memory of the crate that stands for one of C in which so many of its lowest bits have been put
-- there, and beside these nothing has changed
pub record GivesMeanwhile (images : Images) (held : Held) (frame : Frame) (world : World) (at : Ptr) (spot : Spot) (number : ℤ) (e : Expr) (ty : Ty) (given : Value) : Type 0 where
  pub gives : (many : ℕ) (part beyond : Blocks) → many ≤ spot.width → after_put_bits held.blocks at spot.bit many (low_bits many number) ≡ Ok part →
      LeftStanding images held world.held part beyond → GivesAt frame (with_memory beyond world) e ty given

-- statements come to their end, take no unit, and what both hold then stands for each other
pub record BitFieldStored (images : Images) (held : Held) (frame : Frame) (world : World) (written : List Stmt) (one : CStored) : Type 0 where
  pub beyond : Blocks
  pub runs : (units : ℕ) → run_stmts frame (stmts written) world units ≡ came normal (with_memory beyond world) units
  pub left : LeftStanding images held world.held one.blocks beyond

pub record BitFieldsInBoth : Type 0 where
  pub loads : (images : Images) (memory : Blocks) (frame : Frame) (world : World) (at to : Ptr) (spot : Spot) (marks : Marks) (kind : Scalar) (one : CLoaded) (base : Expr)
      (target : Ty) → images.in_bytes ≡ true → StandsFor images memory world.held.blocks → PlaceBelow images at (behind to spot.byte) → IsBitField spot →
      GivesAt frame world base (Pointer target) (Object to) → loaded_bits memory at spot.bit spot.width marks kind ≡ Ok one →
      BitFieldLoaded frame world base spot kind one.value
  pub stores : (images : Images) (held : Held) (frame : Frame) (world : World) (at to : Ptr) (spot : Spot) (marks : Marks) (kind : Scalar) (number : ℤ) (one : CStored)
      (base stored : Expr) (target ty : Ty) → images.in_bytes ≡ true → HeldStands images held world.held → PlaceBelow images at (behind to spot.byte) → IsBitField spot →
      casts ty (Integer U64) ≡ true → GivesMeanwhile images held frame world at spot number base (Pointer target) (Object to) →
      GivesMeanwhile images held frame world at spot number stored ty (Whole number) →
      stored_bits held.blocks at spot.bit spot.width marks (scalar (Whole number)) kind ≡ Ok one →
      BitFieldStored images held frame world (bit_write base spot stored) one
