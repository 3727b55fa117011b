-- Puts of compound literals and of initialisers.
use Rattle.std.proofs.Common.{◌≡◌, ℕ, zero, suc, ◌+◌, ◌<◌, true, ℤ, List, Option, Some, Ok, sym, ap, ◌∙◌, arith}
use Rattle.cr_base.specs.declared.layout.Laid.{Laid}
use Rattle.cr_base.specs.declared.layout.Spot.{Spot}
use Rattle.cr_base.specs.declared.scalar.Scalar.{Scalar}
use Rattle.cr_world.specs.Held.{Held}
use Rattle.cx_core.specs.Trees.{CTy}
use Rattle.cx_mean.specs.Accesses.{CStored, CKind, of_scalar, of_record, kind_of, object_at, stored_kind, stored_bits, stored}
use Rattle.cx_mean.specs.Initialisers.{part_with, part_place, put_stored}
use Rattle.cx_mean.specs.Operands.{needed, scalar, cells, COperand, Frame, slot_of}
use Rattle.cx_mean.specs.Settings.{CSetting, scalar_in_type}
use Rattle.lift_stands.specs.Stands.{Images, PlaceBelow, ValueBelow, PlaceHolds}
use Rattle.lift_stands.specs.Worlds.{HeldStands}
use Rattle.lift_stands_accesses.specs.Objects.{ScalarStored, RecordStored, FieldStored}
use Rattle.lift_stands_accesses.proofs.Stores.{scalar_stored, record_stored, bits_stored}
use Rattle.mem_bytes.specs.Access.{and_then}
use Rattle.mem_bytes.specs.Coding.{IsScalar}
use Rattle.mem_bytes.specs.Laws.{behind}
use Rattle.mem_bytes.specs.declared.cell.Cell.{Cell}
use Rattle.mem_bytes.specs.declared.value.Ptr.{Ptr}
use Rattle.mem_bytes.specs.declared.value.Value.{Value}
use Rattle.mem_bytes.specs.declared.value.Value.TheVariants.{Whole as Number, Object as Pointer}

-- the place so many bytes behind another
behind_below : (images : Images) (at to : Ptr) (bytes : ℕ) → PlaceBelow images at to → PlaceBelow images (behind at bytes) (behind to bytes)
behind_below images at to bytes place = record { block = place.block; offset = ap (λ n. n + bytes) place.offset }

module _ (setting : CSetting) (frame : Frame) (number : ℕ) (spot : Spot) (type : CTy) (operand : COperand) (images : Images) (held other : Held) (at to : Ptr) (one : CStored) (stands : HeldStands images held other) (slot : slot_of frame number ≡ Some at) (place : PlaceBelow images at to) (e : put_stored setting frame held.blocks number spot type operand ≡ Ok one) where
  -- the store in the part of the object
  part_stored : stored setting frame held.blocks type (part_place at spot) operand.value operand.marks ≡ Ok one
  part_stored = ap (λ s. and_then (needed s) (λ p. stored setting frame held.blocks type (part_place p spot) operand.value operand.marks)) (sym slot) ∙ e

  -- of a part that is no bit-field
  kind_stored : (kind : CKind) → spot.width ≡ 0 → kind_of setting type ≡ Ok kind → stored_kind held.blocks (behind at spot.byte) operand.marks operand.value kind ≡ Ok one
  kind_stored kind whole found =
      ap (λ k. and_then k (λ is. and_then (object_at (Pointer (behind at spot.byte))) (λ p. stored_kind held.blocks p operand.marks operand.value is))) (sym found)
      ∙ ap (λ w. stored setting frame held.blocks type (part_with (behind at spot.byte) spot.bit w) operand.value operand.marks) (sym whole)
      ∙ part_stored

  pub scalar_put : (kind : Scalar) (value given : Value) → spot.width ≡ 0 → kind_of setting type ≡ Ok (of_scalar kind) → IsScalar kind → operand.value ≡ scalar value → ValueBelow images value given → ScalarStored images held other (behind to spot.byte) kind value given one
  scalar_put kind value given whole found is_scalar is below =
      scalar_stored images held other (behind at spot.byte) (behind to spot.byte) operand.marks one stands (behind_below images at to spot.byte place) kind value given is_scalar below
      (ap (λ v. stored_kind held.blocks (behind at spot.byte) operand.marks v (of_scalar kind)) (sym is) ∙ kind_stored (of_scalar kind) whole found)

  pub record_put : (source : Ptr) (laid : Laid) (room : ℕ) (list : List Cell) (from : Option Ptr) → spot.width ≡ 0 → kind_of setting type ≡ Ok (of_record laid) → operand.value ≡ cells list from → PlaceHolds images other.blocks room (Pointer source) list → RecordStored images held other (behind to spot.byte) source laid list one
  record_put source laid room list from whole found is holds =
      record_stored images held other (behind at spot.byte) (behind to spot.byte) operand.marks one stands (behind_below images at to spot.byte place) source laid room list from holds
      (ap (λ v. stored_kind held.blocks (behind at spot.byte) operand.marks v (of_record laid)) (sym is) ∙ kind_stored (of_record laid) whole found)

  field_stored : (kind : Scalar) (value : ℤ) (width : ℕ) → images.in_bytes ≡ true → 0 < width → scalar_in_type setting type ≡ Some kind → operand.value ≡ scalar (Number value) → stored setting frame held.blocks type (part_with (behind at spot.byte) spot.bit width) operand.value operand.marks ≡ Ok one → FieldStored images held other (behind to spot.byte) spot.bit width kind value one
  field_stored kind value zero in_bytes some found is f = absurd (omega (arith, some))
  field_stored kind value (suc n) in_bytes some found is f =
      bits_stored images held other (behind at spot.byte) (behind to spot.byte) operand.marks one stands (behind_below images at to spot.byte place) spot.bit (suc n) kind value in_bytes
      (ap (λ v. stored_bits held.blocks (behind at spot.byte) spot.bit (suc n) operand.marks v kind) (sym is)
      ∙ ap (λ k. and_then (needed k) (stored_bits held.blocks (behind at spot.byte) spot.bit (suc n) operand.marks operand.value)) (sym found)
      ∙ f)

  pub field_put : (kind : Scalar) (value : ℤ) → images.in_bytes ≡ true → 0 < spot.width → scalar_in_type setting type ≡ Some kind → operand.value ≡ scalar (Number value) → FieldStored images held other (behind to spot.byte) spot.bit spot.width kind value one
  field_put kind value in_bytes some found is = field_stored kind value spot.width in_bytes some found is part_stored
