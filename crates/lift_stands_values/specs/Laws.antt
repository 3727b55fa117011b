-- Laws of members, compound literals, arguments and operands (ISO C99, 6.5.2.2, 6.5.2.3, 6.5.2.5 and 6.2.6.1).
use Rattle.std.specs.Prelude.{◌≡◌, ℕ, ◌<◌, Bool, false, true, ℤ, List, map, replicate, Option, Some, Ok}
use Rattle.cr_base.specs.declared.layout.Laid.{Laid}
use Rattle.cr_base.specs.declared.layout.Spot.{Spot}
use Rattle.cr_base.specs.declared.scalar.Scalar.{Scalar}
use Rattle.cr_runs.specs.Runs.{came}
use Rattle.cr_world.specs.Held.{Held}
use Rattle.cr_world.specs.World.{World}
use Rattle.cx_core.specs.Trees.{CTy, CPuts}
use Rattle.cx_mean.specs.Accesses.{CStored, of_scalar, of_record, kind_of}
use Rattle.cx_mean.specs.Calls.{arguments, values_of}
use Rattle.cx_mean.specs.Initialisers.{CCleared, first_cells, object_cleared, put_stored}
use Rattle.cx_mean.specs.Nodes.{member_of_place, member_of_kind, member_bits}
use Rattle.cx_mean.specs.Operands.{CValue, scalar, cells, COperand, Frame, slot_of}
use Rattle.cx_mean.specs.Settings.{CSetting, scalar_in_type}
use Rattle.ext_calls.specs.declared.call.Arg.{Arg}
use Rattle.lift_stands.specs.Stands.{Images, PlaceBelow, ValueBelow, StandsFor, PlaceHolds, Extends}
use Rattle.lift_stands.specs.Worlds.{HeldStands}
use Rattle.lift_stands_accesses.specs.Objects.{ScalarStored, RecordStored, FieldStored}
use Rattle.lift_stands_known.specs.Effects.{ValuesBelow}
use Rattle.lift_stands_lives.specs.LawsStored.{StoreLeaves}
use Rattle.lift_stands_values.specs.Given.{GivenBelow, ArgumentsBelow}
use Rattle.lift_stands_values.specs.Literals.{ClearedAlone}
use Rattle.lift_stands_values.specs.Members.{MemberBelow, FitsAt, MemberLoaded, BitsLoaded}
use Rattle.mem_bytes.specs.Access.{value_at, after_fill}
use Rattle.mem_bytes.specs.Coding.{IsScalar, IsValueOf, scalar_size}
use Rattle.mem_bytes.specs.Laws.{behind}
use Rattle.mem_bytes.specs.Memory.{Blocks, unset_cell}
use Rattle.mem_bytes.specs.declared.cell.Cell.{Cell}
use Rattle.mem_bytes.specs.declared.value.Ptr.{Ptr}
use Rattle.mem_bytes.specs.declared.value.Value.{Value}
use Rattle.mem_bytes.specs.declared.value.Value.TheVariants.{Whole as Number, Object}
use Rattle.rs_mean.specs.Calls.{based, arguments_of, value_in}
use Rattle.rs_mean.specs.Layout.{FieldPlace, laid_at}
use Rattle.rs_mean.specs.Run.{is_base, field_spot}
use Rattle.rs_mean.specs.Values.{Typed}
use Rattle.rs_text.specs.Tree.{Record, ModuleTree}

-- ---- members

pub record MembersStand : Type 0 where
  -- a member of a place
  pub places : (images : Images) (memory others : Blocks) (here there : Value) (spot : Spot) (laid : Laid) (value : CValue) → StandsFor images memory others →
      ValueBelow images here there → member_of_place memory spot (Some laid) (Ok here) ≡ Ok value → MemberBelow images others laid.align there spot value
  -- the crate finds its field there
  pub fields : (images : Images) (align : ℕ) (there : Value) (spot : Spot) (value : CValue) (field : FieldPlace) (is_based : Bool) (world : World) (units : ℕ)
      (member : MemberBelow images world.held.blocks align there spot value) → field.byte ≡ spot.byte →
      field_spot is_based there (Some field) world units ≡ came (based is_based field.ty (Object member.to)) world units
  -- and what it is a field of may stand there
  pub bases : (images : Images) (others : Blocks) (there : Value) (spot : Spot) (value : CValue) (modules : List ModuleTree) (m x : List ℕ) (laid : Laid) →
      laid_at modules m x ≡ Some laid → MemberBelow images others laid.align there spot value → is_base modules others (Record m x) there ≡ true
  -- a scalar member of a value
  pub scalars : (images : Images) (others : Blocks) (align byte : ℕ) (source : Ptr) (list : List Cell) (from : Option Ptr) (kind : Scalar) (value : CValue) →
      PlaceHolds images others align (Object source) list → FitsAt (scalar_size kind) align byte →
      member_of_kind byte list from (of_scalar kind) ≡ Ok value → MemberLoaded images others (behind source byte) kind value
  -- a structure or union in a value
  pub records : (images : Images) (others : Blocks) (align byte : ℕ) (source : Ptr) (list part : List Cell) (from to : Option Ptr) (laid : Laid) →
      PlaceHolds images others align (Object source) list → FitsAt laid.align align byte →
      member_of_kind byte list from (of_record laid) ≡ Ok (cells part to) → PlaceHolds images others laid.align (Object (behind source byte)) part
  -- a bit-field in a value
  pub bits : (images : Images) (memory others : Blocks) (align : ℕ) (source : Ptr) (list : List Cell) (spot : Spot) (width : ℕ) (kind : Scalar)
      (value : CValue) → images.in_bytes ≡ true → StandsFor images memory others → 0 < align → PlaceHolds images others align (Object source) list →
      member_bits spot width list kind ≡ Ok value → BitsLoaded others (behind source spot.byte) spot.bit width kind value

-- ---- compound literals and declarations

pub record LiteralsStand : Type 0 where
  -- zero bytes stand for the object, whatever bits its puts leave
  pub clears : (setting : CSetting) (frame : Frame) (number : ℕ) (puts : Option CPuts) (images : Images) (held other : Held) (at to : Ptr) (one : CCleared) →
      HeldStands images held other → slot_of frame number ≡ Some at → PlaceBelow images at to →
      object_cleared setting frame number puts held.blocks ≡ Ok one → StoreLeaves images held other one.blocks (after_fill other.blocks to 0 one.size)
  -- where no bit is left set, and the program has no bit-field member, what the crate has there stands for it
  pub leaves : (setting : CSetting) (frame : Frame) (number : ℕ) (puts : Option CPuts) (images : Images) (held other : Held) (at to : Ptr) (one : CCleared) →
      images.in_bytes ≡ false → HeldStands images held other → slot_of frame number ≡ Some at → PlaceBelow images at to →
      object_cleared setting frame number puts held.blocks ≡ Ok one → first_cells setting one.size puts ≡ Ok (replicate one.size unset_cell) →
      ClearedAlone images held other one.blocks
  -- a put of a scalar, of a structure or union, and of a bit-field
  pub scalars : (setting : CSetting) (frame : Frame) (number : ℕ) (spot : Spot) (type : CTy) (operand : COperand) (images : Images) (held other : Held)
      (at to : Ptr) (kind : Scalar) (value given : Value) (one : CStored) → HeldStands images held other → slot_of frame number ≡ Some at →
      PlaceBelow images at to → spot.width ≡ 0 → kind_of setting type ≡ Ok (of_scalar kind) → IsScalar kind → operand.value ≡ scalar value →
      ValueBelow images value given → put_stored setting frame held.blocks number spot type operand ≡ Ok one →
      ScalarStored images held other (behind to spot.byte) kind value given one
  pub records : (setting : CSetting) (frame : Frame) (number : ℕ) (spot : Spot) (type : CTy) (operand : COperand) (images : Images) (held other : Held)
      (at to source : Ptr) (laid : Laid) (room : ℕ) (list : List Cell) (from : Option Ptr) (one : CStored) → HeldStands images held other →
      slot_of frame number ≡ Some at → PlaceBelow images at to → spot.width ≡ 0 → kind_of setting type ≡ Ok (of_record laid) →
      operand.value ≡ cells list from → PlaceHolds images other.blocks room (Object source) list →
      put_stored setting frame held.blocks number spot type operand ≡ Ok one → RecordStored images held other (behind to spot.byte) source laid list one
  pub fields : (setting : CSetting) (frame : Frame) (object : ℕ) (spot : Spot) (type : CTy) (operand : COperand) (images : Images) (held other : Held)
      (at to : Ptr) (kind : Scalar) (number : ℤ) (one : CStored) → images.in_bytes ≡ true → HeldStands images held other → slot_of frame object ≡ Some at →
      PlaceBelow images at to → 0 < spot.width → scalar_in_type setting type ≡ Some kind → operand.value ≡ scalar (Number number) →
      put_stored setting frame held.blocks object spot type operand ≡ Ok one →
      FieldStored images held other (behind to spot.byte) spot.bit spot.width kind number one

-- ---- arguments

pub record ArgumentsStand : Type 0 where
  pub seen : (setting : CSetting) (images : Images) (memory others : Blocks) (operands : List COperand) (given : List Typed) (args : List Arg) →
      StandsFor images memory others → ArgumentsBelow setting images operands given → arguments setting memory operands ≡ Ok args →
      arguments_of others given ≡ Ok args
  pub values : (setting : CSetting) (images : Images) (operands : List COperand) (given : List Typed) (values : List Value) →
      ArgumentsBelow setting images operands given → values_of operands ≡ Ok values → ValuesBelow images values (map value_in given)

-- ---- ranges

pub record RangesStand : Type 0 where
  -- what memory holds is in the range of the type by which it is loaded
  pub loads : (memory : Blocks) (at : Ptr) (kind : Scalar) (value : Value) → IsScalar kind → value_at memory at kind ≡ Ok value → IsValueOf kind value
  -- and what stands for a value of a type is one
  pub below : (images : Images) (kind : Scalar) (value given : Value) → ValueBelow images value given → IsValueOf kind value → IsValueOf kind given

-- ---- more images

abbrev pub OperandsStay : Type 0
OperandsStay =
    (images later : Images) (others : Blocks) (frame : Frame) (align : ℕ) (value : CValue) (given : Value) → Extends images later →
    GivenBelow images others frame align value given → GivenBelow later others frame align value given
