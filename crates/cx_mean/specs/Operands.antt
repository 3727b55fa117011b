-- Finished operands, the objects in scope, and what may be wrong with a step.
use Rattle.std.specs.Prelude.{ℕ, ◌==◌, if◌then◌else◌, List, [], ◌∷◌, map, Option, Some, None, Result, Ok, Err}
use Rattle.cr_base.specs.declared.refusal.Place.{Place}
use Rattle.cr_base.specs.declared.rule.URule.{URule}
use Rattle.cr_base.specs.declared.rule.URule.TheVariants.{U1, U5, U6, U7, U8, U9, U10, U14, U15, U16}
use Rattle.cx_core.specs.Trees.{CTy}
use Rattle.cr_world.specs.Held.{HeldFault, access, through_null, not_allocated, overlapping, wrong_kind}
use Rattle.cr_world.specs.World.{Stop, wrong}
pub use Rattle.cx_numbers.specs.Numbers.{CWhy, breaks, stuck}
use Rattle.cx_mean.specs.Marks.{Marks, Range, no_marks, conflict, both, any_overlap}
use Rattle.mem_bytes.specs.Access.{and_then}
use Rattle.mem_bytes.specs.declared.cell.Cell.{Cell}
use Rattle.mem_bytes.specs.declared.fault.Fault.{Fault}
use Rattle.mem_bytes.specs.declared.fault.Fault.TheVariants.{Dead, Outside, Misaligned, Unset, BadBool, MixedPointer}
use Rattle.mem_bytes.specs.declared.pointer.PointerFault.{PointerFault}
use Rattle.mem_bytes.specs.declared.pointer.PointerFault.TheVariants.{ToDead, LeavesObject, NotWithinOne, NoPointer}
use Rattle.mem_bytes.specs.declared.value.Ptr.{Ptr}
use Rattle.mem_bytes.specs.declared.value.Value.{Value}
use Rattle.mem_bytes.specs.declared.value.Value.TheVariants.{Object}

-- ---- what may be wrong

-- a step that has no meaning, with the place of its node
pub record CFault : Type 0 where
  pub why : CWhy
  pub place : Place

abbrev pub CStop : Type 0
CStop = Stop CFault

abbrev pub stops : CWhy → Place → CStop
stops why place = wrong (record { why = why; place = place })

-- what a typed program has
abbrev pub needed : {A : Type 0} → Option A → Result A CWhy
needed None = Err stuck
needed (Some found) = Ok found

-- the rule by which an access to memory with a fault is undefined
abbrev pub rule_of : Fault → URule
rule_of Dead = U5
rule_of Outside = U6
rule_of Misaligned = U10
rule_of Unset = U7
rule_of BadBool = U8
rule_of MixedPointer = U9

-- the outcome of an access to memory
abbrev pub accessed : {A : Type 0} → Result A Fault → Result A CWhy
accessed (Ok value) = Ok value
accessed (Err fault) = Err (breaks (rule_of fault))

-- what is wrong with what a known function does, or with the text that an opaque one is given
abbrev pub why_held : HeldFault → CWhy
why_held (access fault) = breaks (rule_of fault)
why_held through_null = breaks U6
why_held not_allocated = breaks U15
why_held overlapping = breaks U16
why_held wrong_kind = stuck

abbrev pub why_pointer : URule → PointerFault → CWhy
why_pointer rule ToDead = breaks U5
why_pointer rule LeavesObject = breaks rule
why_pointer rule NotWithinOne = breaks rule
why_pointer rule NoPointer = stuck

-- the outcome of an operation on pointers: beside pointers to dead objects, what is wrong breaks a rule
abbrev pub by_pointers : {A : Type 0} → URule → Result A PointerFault → Result A CWhy
by_pointers rule (Ok value) = Ok value
by_pointers rule (Err fault) = Err (why_pointer rule fault)

-- ---- operands

-- what an operand gives
pub data CValue : Type 0 where
  -- a value of a scalar type (6.2.5p21)
  scalar : Value → CValue
  -- a value of a structure or union type: its cells, and the object from which they were read, if they were
  cells : List Cell → (from : Option Ptr) → CValue
  -- an lvalue (6.3.2.1p1): the object in scope with a number; what a pointer points to; a bit-field at a place, with the bit at
  -- which it begins and its width
  names : (object : ℕ) → CValue
  designates : Value → CValue
  designates_bits : Ptr → (bit width : ℕ) → CValue
  -- no value, as of a call whose result is `void` (6.3.2.2), or that ended without one (6.9.1p12)
  missing : CValue

-- a finished operand: its type, what it gives, and its accesses
pub record COperand : Type 0 where
  pub type : CTy
  pub value : CValue
  pub marks : Marks

-- an operand that is one at once, without a step
abbrev pub at_once : CTy → CValue → COperand
at_once type value = record { type = type; value = value; marks = no_marks }

abbrev pub with_marks : Marks → COperand → COperand
with_marks marks operand = record operand { marks = marks }

-- the accesses of unsequenced operands together, or U1 where two of them conflict (6.5p2)
abbrev pub united : List Marks → Result Marks CWhy
united [] = Ok no_marks
united (first ∷ others) =
    and_then (united others) (λ rest. if conflict first rest then Err (breaks U1) else Ok (both first rest))

abbrev pub united_operands : List COperand → Result Marks CWhy
united_operands operands = united (map (λ one. one.marks) operands)

-- an access of a node itself is U1 where it overlaps what its operands wrote since their last sequence
-- points
abbrev pub sequenced_after : Marks → Range → Result Range CWhy
sequenced_after marks range = if any_overlap marks.still (range ∷ []) then Err (breaks U1) else Ok range

-- ---- objects in scope

-- an object, by its number, with the block in which it lives
pub record Slot : Type 0 where
  pub object : ℕ
  pub block : ℕ

abbrev pub Frame : Type 0
Frame = List Slot

-- the place of an object; none where it isn't in scope
abbrev pub slot_of : Frame → ℕ → Option Ptr
slot_of [] number = None
slot_of (slot ∷ others) number =
    if slot.object == number then Some (record { block = slot.block; offset = 0 }) else slot_of others number

abbrev pub object_value : Option Ptr → Result Value CWhy
object_value None = Err stuck
object_value (Some at) = Ok (Object at)

-- the pointer to what an lvalue that isn't a bit-field designates; it may be null, to a dead object, or past an end
abbrev pub place_in : Frame → CValue → Result Value CWhy
place_in frame (names number) = object_value (slot_of frame number)
place_in frame (designates to) = Ok to
place_in frame (designates_bits at bit width) = Err stuck
place_in frame (scalar value) = Err stuck
place_in frame (cells held from) = Err stuck
place_in frame missing = Err stuck

-- the scalar value that an operand gives; U14 where it gives none
abbrev pub scalar_value : CValue → Result Value CWhy
scalar_value (scalar value) = Ok value
scalar_value missing = Err (breaks U14)
scalar_value (cells held from) = Err stuck
scalar_value (names number) = Err stuck
scalar_value (designates to) = Err stuck
scalar_value (designates_bits at bit width) = Err stuck
