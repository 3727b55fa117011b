-- What evaluation leaves as it was: an expression changes only what its marks say that it wrote. By this the rules of
-- conflicting accesses (ISO C99, 6.5p2), which speak of marks, speak of memory.
use Rattle.std.specs.Prelude.{◌≡◌, ℕ, ◌+◌, ◌*◌, false, List, [], ◌∷◌}
use Rattle.cr_base.specs.declared.scalar.Scalar.{Scalar}
use Rattle.cr_runs.specs.Runs.{came}
use Rattle.straight_core.specs.Linked.{IsLinked}
use Rattle.straight_core.specs.Trees.{CExpr, CProgram}
use Rattle.straight_core.specs.Typing.{IsTyped}
use Rattle.straight_mean.specs.Leftmost.{c_value}
use Rattle.straight_mean.specs.Marks.{Range, bits_at, any_overlap}
use Rattle.straight_mean.specs.Operands.{COperand, Frame, CWorld}
use Rattle.straight_mean.specs.Sound.{AreInScope}
use Rattle.mem_bytes.specs.Access.{part_at, value_at}
use Rattle.mem_bytes.specs.Memory.{Blocks}
use Rattle.mem_bytes.specs.declared.value.Ptr.{Ptr}

-- the bits of so many bytes at a place
abbrev pub bits_of_bytes : Ptr → ℕ → Range
bits_of_bytes at count = record {
  block = at.block;
  from = 8 * at.offset;
  to = 8 * at.offset + 8 * count;
}

-- no range of a list has a bit in common with another
abbrev pub Avoids : List Range → Range → Type 0
Avoids ranges range = any_overlap ranges (range ∷ []) ≡ false

-- what has no bit in common with ranges is in a later memory what it was in an earlier one
pub record KeepsBeside (ranges : List Range) (before after : Blocks) : Type 0 where
  -- any number of cells at a place
  pub cells : (at : Ptr) (count : ℕ) → Avoids ranges (bits_of_bytes at count) →
      part_at after at count ≡ part_at before at count
  -- and what is loaded from one
  pub values : (at : Ptr) (kind : Scalar) → Avoids ranges (bits_at at kind) →
      value_at after at kind ≡ value_at before at kind

-- where a typed expression comes to its end, what its marks don't say that it wrote is what it was
abbrev pub UnwrittenStays : Type 0
UnwrittenStays =
    (program : CProgram) (frame : Frame) (e : CExpr) (world after : CWorld) (operand : COperand) (steps left : ℕ) →
    IsLinked program → AreInScope program frame → IsTyped program e →
    c_value program frame e world steps ≡ came operand after left →
    KeepsBeside operand.marks.writes world.memory after.memory
