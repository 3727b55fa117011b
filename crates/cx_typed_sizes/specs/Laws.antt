-- Sizes of the types of typed programs (ISO C99, 6.2.7, 6.5.3.4, 6.5.6 and 6.7.2.1): a complete type has a byte, and pointers to compatible
-- types move alike.
use Rattle.std.specs.Prelude.{◌≡◌, ◌<◌, Some}
use Rattle.cr_base.specs.declared.layout.Laid.{Laid}
use Rattle.cx_core.specs.Compatible.{AreCompatible}
use Rattle.cx_core.specs.declared.expr.Op2.{Op2}
use Rattle.cx_core.specs.Layouts.{extent, layouts_of}
use Rattle.cx_core.specs.Trees.{CTy, form_of_type, unqualified, CTypes, CProgram}
use Rattle.cx_core.specs.Typing.{PointAlike, IsBinaryOf}
use Rattle.cx_core.specs.ValidTypes.{IsComplete, AreTypes}
use Rattle.cx_mean.specs.Settings.{CSetting, extent_in, element_extent, setting_of}
use Rattle.cx_mean.specs.Values.{binary_value}
use Rattle.mem_bytes.specs.declared.value.Value.{Value}
use Rattle.mem_bytes.specs.Memory.{Blocks}

-- an object of a complete type has a byte or more: each structure and union has a named member, and each array an element
abbrev pub CompleteHasByte : Type 0
CompleteHasByte = (types : CTypes) (type : CTy) (laid : Laid) → AreTypes types → extent (layouts_of types) type ≡ Some laid → 0 < laid.size

pub record SamePointers : Type 0 where
  -- compatible types that are complete have one size and one alignment, whatever qualifies them
  pub extents : (program : CProgram) (first second : CTy) → AreTypes program.types →
      AreCompatible program.types (unqualified first) (unqualified second) → IsComplete program.types first →
      IsComplete program.types second → extent_in (setting_of program) first ≡ extent_in (setting_of program) second
  -- an operator gives the same for an operand of either of two types that point to elements of one size, if to any
  pub left : (setting : CSetting) (op : Op2) (type one other right : CTy) (blocks : Blocks) (first second : Value) →
      element_extent setting (form_of_type one) ≡ element_extent setting (form_of_type other) →
      binary_value setting op type blocks (record { type = one; value = first }) (record { type = right; value = second })
      ≡ binary_value setting op type blocks (record { type = other; value = first }) (record { type = right; value = second })
  pub right : (setting : CSetting) (op : Op2) (type left one other : CTy) (blocks : Blocks) (first second : Value) →
      element_extent setting (form_of_type one) ≡ element_extent setting (form_of_type other) →
      binary_value setting op type blocks (record { type = left; value = first }) (record { type = one; value = second })
      ≡ binary_value setting op type blocks (record { type = left; value = first }) (record { type = other; value = second })
  -- so either of two pointers of a typed node may be taken as one of the other's type
  pub operands : (program : CProgram) (op : Op2) (type left right : CTy) (blocks : Blocks) (first second : Value) →
      AreTypes program.types → IsBinaryOf program.types op type left right → PointAlike program.types left right →
      (binary_value (setting_of program) op type blocks (record { type = left; value = first }) (record { type = right; value = second })
      ≡ binary_value (setting_of program) op type blocks (record { type = left; value = first }) (record { type = left; value = second }))
      × (binary_value (setting_of program) op type blocks (record { type = left; value = first }) (record { type = right; value = second })
      ≡ binary_value (setting_of program) op type blocks (record { type = right; value = first }) (record { type = right; value = second }))
