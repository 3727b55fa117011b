-- What evaluation leaves as it was: an expression without calls changes only what its marks say that it wrote. By this the rules
-- of conflicting accesses (ISO C99, 6.5p2), which speak of marks, speak of memory.
use Rattle.std.specs.Prelude.{◌≡◌, ℕ, true, false, List, [], ◌∷◌, Ok, Err}
use Rattle.cr_base.specs.declared.scalar.Scalar.{Scalar}
use Rattle.cr_runs.specs.Runs.{came}
use Rattle.cr_world.specs.World.{World, blocks_of, with_memory}
use Rattle.cx_core.specs.Trees.{CExpr}
use Rattle.cx_mean.specs.Leftmost.{CCalls, c_value}
use Rattle.cx_mean.specs.Marks.{Range, any_overlap, bits_of_bytes, bits_of_field}
use Rattle.cx_mean.specs.Operands.{COperand, Frame}
use Rattle.cx_mean.specs.Quiet.{calls_nothing}
use Rattle.cx_mean.specs.Settings.{CSetting}
use Rattle.cx_mean.specs.Steps.{did, asks_call, CStepped, step_at}
use Rattle.cx_mean.specs.Work.{CWork, finished, begun}
use Rattle.mem_bytes.specs.Access.{part_at, value_at, field_at, record_at}
use Rattle.mem_bytes.specs.Calls.{IsFieldPlace}
use Rattle.mem_bytes.specs.Coding.{scalar_size}
use Rattle.mem_bytes.specs.declared.value.Ptr.{Ptr}
use Rattle.mem_bytes.specs.Laws.{HoldsCells}
use Rattle.mem_bytes.specs.Memory.{Blocks}

-- no range of a list has a bit in common with another
abbrev pub Avoids : List Range → Range → Type 0
Avoids ranges range = any_overlap ranges (range ∷ []) ≡ false

-- what has no bit in common with ranges is in a later memory what it was in an earlier one
pub record KeepsBeside (ranges : List Range) (before after : Blocks) : Type 0 where
  -- any number of cells at a place
  pub cells : (at : Ptr) (count : ℕ) → Avoids ranges (bits_of_bytes at count) →
      part_at after at count ≡ part_at before at count
  -- what is loaded from a scalar, and from a structure or union
  pub values : (at : Ptr) (kind : Scalar) → Avoids ranges (bits_of_bytes at (scalar_size kind)) →
      value_at after at kind ≡ value_at before at kind
  pub records : (at : Ptr) (size align : ℕ) → Avoids ranges (bits_of_bytes at size) →
      record_at after at size align ≡ record_at before at size align
  -- a bit-field, also one beside another that was stored
  pub fields : (at : Ptr) (bit width : ℕ) → IsFieldPlace bit width → Avoids ranges (bits_of_field at bit width) →
      field_at after at bit width ≡ field_at before at bit width

-- where an expression without calls comes to its end
pub record Unwritten (operand : COperand) (before after : World) : Type 0 where
  -- what its marks don't say that it wrote is what it was
  pub stays : KeepsBeside operand.marks.writes (blocks_of before) (blocks_of after)
  -- each cell is still one that a machine holds
  pub held : HoldsCells (blocks_of after)
  -- and nothing but memory changed: no call was made, no answer taken, and no block allocated or freed
  pub memory_alone : after ≡ with_memory (blocks_of after) before

-- for every program, in every memory whose cells are those of a machine
abbrev pub UnwrittenStays : Type 0
UnwrittenStays =
    (setting : CSetting) (calls : CCalls) (frame : Frame) (e : CExpr) (before after : World) (operand : COperand) (steps left : ℕ) →
    calls_nothing e ≡ true → HoldsCells (blocks_of before) →
    c_value setting calls frame e before steps ≡ came operand after left →
    Unwritten operand before after

-- ---- under any order

-- what is left of an expression after some steps, each at any of its ready nodes
pub data Evaluates (setting : CSetting) (frame : Frame) (first : CWork) (before : Blocks) : CWork → Blocks → Type 0 where
  not_yet : Evaluates setting frame first before first before
  and_then_at : {work next : CWork} {now after : Blocks} (pick : ℕ) → Evaluates setting frame first before work now →
      step_at setting frame now pick work ≡ Ok (did next after) → Evaluates setting frame first before next after

-- a step calls no function
abbrev pub CallsNothing : CStepped → Type 0
CallsNothing (Ok (did work blocks)) = Unit {0}
CallsNothing (Ok (asks_call called work)) = ⊥
CallsNothing (Err fault) = Unit {0}

-- the same in whatever order an expression without calls is evaluated
pub record UnwrittenStaysInAnyOrder : Type 0 where
  -- what the marks of its operand don't say that it wrote is what it was
  pub stays : (setting : CSetting) (frame : Frame) (e : CExpr) (before after : Blocks) (operand : COperand) →
      calls_nothing e ≡ true → HoldsCells before → Evaluates setting frame (begun e) before (finished operand) after →
      KeepsBeside operand.marks.writes before after
  -- and no step of it calls
  pub calls_nothing : (setting : CSetting) (frame : Frame) (e : CExpr) (before now : Blocks) (work : CWork) (pick : ℕ) →
      calls_nothing e ≡ true → HoldsCells before → Evaluates setting frame (begun e) before work now →
      CallsNothing (step_at setting frame now pick work)
