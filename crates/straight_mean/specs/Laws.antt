-- Laws of runs. Each is the contract of a function with an empty body, in src/laws.rt.
use Rattle.std.specs.Prelude.{◌≡◌, ℕ, suc, ◌+◌, ◌<◌, eqb, List, [], ◌∷◌, length, map, replicate, All, Some, IsSome, slice_get}
use Rattle.std.specs.List.{IsDistinct}
use Rattle.cr_runs.specs.Runs.{out}
use Rattle.straight_core.specs.Linked.{size_of_type}
use Rattle.straight_core.specs.Trees.{CObject, CProgram}
use Rattle.straight_mean.specs.Leftmost.{c_begins, c_puts, c_leftmost}
use Rattle.straight_mean.specs.Operands.{designates, designated, Frame, CWorld}
use Rattle.straight_mean.specs.Run.{CProgress, going, ended, undefined, c_run, leftmost}
use Rattle.straight_mean.specs.Sound.{AreInScope}
use Rattle.straight_mean.specs.State.{puts_in, statics_in, zeroed}
use Rattle.ext_calls.specs.Outside.{Outside}
use Rattle.mem_bytes.specs.Memory.{Blocks, byte_cell, live_block}

-- after any number of steps under the empty order, a run shows what the leftmost run as a function of the
-- program's trees shows
abbrev pub LeftmostIsRun : Type 0
LeftmostIsRun =
    (program : CProgram) (answers : Outside) (steps : ℕ) →
    c_run program leftmost answers steps ≡ c_leftmost program answers steps

-- a run has come to its end, or to an undefined step
abbrev pub IsEnd : CProgress → Type 0
IsEnd going = ⊥
IsEnd (ended status) = Unit {0}
IsEnd (undefined rule unit line) = Unit {0}

-- from then on it shows the same
abbrev pub EndedRunsStay : Type 0
EndedRunsStay =
    (program : CProgram) (order : List ℕ) (answers : Outside) (steps more : ℕ) →
    IsEnd (c_run program order answers steps).progress →
    c_run program order answers (steps + more) ≡ c_run program order answers steps

-- ---- static objects

-- the objects of a list in scope, each in the block with its number, from a number on
abbrev pub in_blocks_from : ℕ → List CObject → Frame
in_blocks_from number [] = []
in_blocks_from number (one ∷ more) = record { object = one.object; block = number } ∷ in_blocks_from (suc number) more

-- the blocks of static objects at their beginning
abbrev pub zeroed_blocks : List CObject → Blocks
zeroed_blocks objects = map (λ one. Some (zeroed one.type)) objects

-- a world with these blocks and no event
abbrev pub world_of : Blocks → Outside → CWorld
world_of memory answers = record { memory = memory; events = []; answers = answers }

-- the objects of a list begin in their order, one a step
pub record StaticsBegin : Type 0 where
  -- after as many steps, the objects are in scope, the first in block 0, and their values are stored next
  pub after : (program : CProgram) (objects : List CObject) (answers : Outside) (left : ℕ) →
      c_begins program [] objects (world_of [] answers) (length objects + left)
      ≡ c_puts program (in_blocks_from 0 objects) (puts_in program.objects) (world_of (zeroed_blocks objects) answers) left
  -- before, nothing is seen
  pub before : (program : CProgram) (objects : List CObject) (answers : Outside) (steps : ℕ) →
      steps < length objects → (memory : Blocks) × (c_begins program [] objects (world_of [] answers) steps ≡ out (world_of memory answers))
  -- an object's name designates the block with the object's number in the list
  pub designated_is : (objects : List CObject) (number : ℕ) (one : CObject) →
      IsDistinct eqb (map (λ object. object.object) objects) → slice_get objects number ≡ Some one →
      designated (in_blocks_from 0 objects) one.object ≡ designates (record { block = number; offset = 0 })
  -- that block is live, and its bytes are 0
  pub block_is : (objects : List CObject) (number : ℕ) (one : CObject) → slice_get objects number ≡ Some one →
      live_block (zeroed_blocks objects) number
      ≡ Some (record { align = size_of_type one.type; cells = replicate (size_of_type one.type) (byte_cell 0) })
  -- each object that a program defines is in scope once its statics have begun
  pub in_scope : (program : CProgram) → AreInScope program (in_blocks_from 0 (statics_in program.objects))
  -- where all objects of a list are static, they are its statics
  pub all_static : (objects : List CObject) → All (λ one. IsSome one.puts) objects → statics_in objects ≡ objects
