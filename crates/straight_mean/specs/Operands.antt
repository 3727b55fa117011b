-- Finished operands, and the world that steps of a program change.
use Rattle.std.specs.Prelude.{ℕ, ℤ, List, [], ◌∷◌, ◌==◌, if◌then◌else◌}
use Rattle.cr_base.specs.declared.refusal.Place.{Place}
use Rattle.cr_base.specs.declared.rule.URule.{URule}
use Rattle.cr_base.specs.declared.rule.URule.TheVariants.{U5, U6, U7, U8, U9, U10}
use Rattle.straight_core.specs.Trees.{CTy}
use Rattle.straight_mean.specs.Marks.{Marks, no_marks}
use Rattle.ext_calls.specs.Outside.{Outside, Events}
use Rattle.mem_bytes.specs.declared.fault.Fault.{Fault}
use Rattle.mem_bytes.specs.declared.fault.Fault.TheVariants.{Dead, Outside as Leaves, Misaligned, Unset, BadBool, MixedPointer}
use Rattle.mem_bytes.specs.declared.value.Ptr.{Ptr}
use Rattle.mem_bytes.specs.declared.value.Value.{Value}
use Rattle.mem_bytes.specs.declared.value.Value.TheVariants.{Whole}
use Rattle.mem_bytes.specs.Memory.{Blocks}

-- what an operand gives
pub data CValue : Type 0 where
  -- a value of a scalar type (6.2.5p21)
  scalar : Value → CValue
  -- the object that an lvalue designates (6.3.2.1p1), by the place at which it begins
  designates : Ptr → CValue
  -- no value, as of a call whose result is `void` (6.3.2.2)
  missing : CValue

-- a finished operand: its type, what it gives, and its accesses
pub record COperand : Type 0 where
  pub type : CTy
  pub value : CValue
  pub marks : Marks

-- an object in scope, by its number, with the block in which it lives
pub record Slot : Type 0 where
  pub object : ℕ
  pub block : ℕ

-- the objects in scope
abbrev pub Frame : Type 0
Frame = List Slot

-- what an object's name gives: its place; nothing where it isn't in scope
abbrev pub designated : Frame → ℕ → CValue
designated [] object = missing
designated (slot ∷ more) object =
    if slot.object == object
    then designates (record { block = slot.block; offset = 0 })
    else designated more object

-- an operand that is a value at once, without a step: a constant, or the place of an object
abbrev pub constant : CTy → ℤ → COperand
constant type value = record { type = type; value = scalar (Whole value); marks = no_marks }

abbrev pub lvalue : Frame → CTy → ℕ → COperand
lvalue frame type object = record { type = type; value = designated frame object; marks = no_marks }

-- what steps of a program change beside its place: the memory, the calls of external functions that were
-- made so far, and the answers that are left
pub record CWorld : Type 0 where
  pub memory : Blocks
  pub events : Events
  pub answers : Outside

-- a step that is undefined: the rule that it breaks, and the place of the node
pub record CFault : Type 0 where
  pub rule : URule
  pub place : Place

-- the rule by which an access to memory with a fault is undefined
abbrev pub rule_of : Fault → URule
rule_of Dead = U5
rule_of Leaves = U6
rule_of Misaligned = U10
rule_of Unset = U7
rule_of BadBool = U8
rule_of MixedPointer = U9
