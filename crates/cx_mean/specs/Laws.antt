-- Laws of runs.
use Rattle.std.specs.Prelude.{◌≡◌, ◌↔◌, IsTrue, ℕ, suc, ◌+◌, ◌<◌, ℤ, eqb, List, [], ◌∷◌, ◌++◌, length, map, Option, Some, None, IsSome, slice_get}
use Rattle.std.specs.List.{IsDistinct}
use Rattle.cr_base.specs.declared.layout.Laid.{Laid}
use Rattle.cr_runs.specs.Runs.{out}
use Rattle.cx_core.specs.Compatible.{AreCompatible}
use Rattle.cx_core.specs.Trees.{CTy, CObject, CProgram}
use Rattle.ext_calls.specs.declared.call.Call.{Call}
use Rattle.cr_world.specs.World.{World, Outside, Terms, open_ended, trail_of}
use Rattle.cr_world.specs.Held.{zero_block}
use Rattle.cx_mean.specs.Settings.{CSetting, are_compatible, extent_in, setting_of}
use Rattle.mem_bytes.specs.Counted.{Limit}
use Rattle.mem_bytes.specs.Memory.{Block, Blocks, live_block}
use Rattle.cx_mean.specs.Leftmost.{c_begins, c_leftmost_on}
use Rattle.cx_mean.specs.Operands.{Frame, slot_of}
use Rattle.cx_mean.specs.Run.{CProgress, going, ended, undefined, is_stuck, is_full, asks_for, is_astray, c_run_on, leftmost}

-- after any number of steps under the empty order, a run shows what the leftmost run as a function of the program's trees
-- shows, on any terms, for every program
abbrev pub LeftmostIsRun : Type 0
LeftmostIsRun =
    (program : CProgram) (terms : Terms) (outside : Outside) (steps : ℕ) →
    c_run_on program leftmost terms outside steps ≡ c_leftmost_on program terms outside steps

-- a run has come to its end, or goes no further
abbrev pub IsEnd : CProgress → Type 0
IsEnd going = ⊥
IsEnd (ended status) = Unit {0}
IsEnd (undefined rule unit line) = Unit {0}
IsEnd (is_stuck unit line) = Unit {0}
IsEnd (is_full need left) = Unit {0}
IsEnd (asks_for call) = Unit {0}
IsEnd is_astray = Unit {0}

-- from then on it shows the same
abbrev pub EndedRunsStay : Type 0
EndedRunsStay =
    (program : CProgram) (order : List ℕ) (terms : Terms) (outside : Outside) (steps more : ℕ) →
    IsEnd (c_run_on program order terms outside steps).progress →
    c_run_on program order terms outside (steps + more) ≡ c_run_on program order terms outside steps

-- the events of a run so many steps on are those before, and others behind them
pub record Grown (before after : List Call) : Type 0 where
  pub others : List Call
  pub are : after ≡ before ++ others

abbrev pub EventsOnlyGrow : Type 0
EventsOnlyGrow =
    (program : CProgram) (order : List ℕ) (terms : Terms) (outside : Outside) (steps more : ℕ) →
    Grown (c_run_on program order terms outside steps).events (c_run_on program order terms outside (steps + more)).events

-- a run has stopped for its trail or its store
abbrev pub IsOfTrail : CProgress → Type 0
IsOfTrail going = ⊥
IsOfTrail (ended status) = ⊥
IsOfTrail (undefined rule unit line) = ⊥
IsOfTrail (is_stuck unit line) = ⊥
IsOfTrail (is_full need left) = Unit {0}
IsOfTrail (asks_for call) = Unit {0}
IsOfTrail is_astray = Unit {0}

-- unless it has, a run under a trail, over a store with or without a limit, shows what the run shows to which the outside gives
-- the answers of the trail
abbrev pub TrailIsOutside : Type 0
TrailIsOutside =
    (program : CProgram) (order : List ℕ) (limit : Option Limit) (outside : Outside) (steps : ℕ) →
    ¬ IsOfTrail (c_run_on program order (trail_of limit) outside steps).progress →
    c_run_on program order (trail_of limit) outside steps ≡ c_run_on program order open_ended outside steps

-- ---- static objects (6.2.4p3, 6.7.8p10)

-- the objects of a list in scope, each in the block with its number, from a number on
abbrev pub in_blocks_from : ℕ → List CObject → Frame
in_blocks_from number [] = []
in_blocks_from number (one ∷ others) = record { object = one.object; block = number } ∷ in_blocks_from (suc number) others

abbrev pub zeroed_as : Option Laid → Block
zeroed_as None = zero_block 0 1
zeroed_as (Some laid) = zero_block laid.size laid.align

-- the block of a static object at its beginning
abbrev pub zeroed : CSetting → CObject → Block
zeroed setting one = zeroed_as (extent_in setting one.type)

abbrev pub zeroed_blocks : CSetting → List CObject → Blocks
zeroed_blocks setting objects = map (λ one. Some (zeroed setting one)) objects

-- a world with these blocks and no event, on open terms
abbrev pub world_of : Blocks → List ℤ → World
world_of blocks answers = record { held = record { blocks = blocks; heap = [] }; made = []; answers = answers; terms = open_ended }

-- the types of objects are complete
abbrev pub AreComplete : CSetting → List CObject → Type 0
AreComplete setting [] = Unit {0}
AreComplete setting (one ∷ others) = IsSome (extent_in setting one.type) × AreComplete setting others

-- the objects of a list begin in their order, one a step
pub record StaticsBegin : Type 0 where
  -- after as many steps, the objects are in scope, the first in block 0, each zeroed, and what follows is next
  pub after : (setting : CSetting) (fuel : ℕ) (objects : List CObject) (answers : List ℤ) (left : ℕ) → AreComplete setting objects →
      c_begins setting fuel objects [] (world_of [] answers) (length objects + left)
      ≡ c_begins setting fuel [] (in_blocks_from 0 objects) (world_of (zeroed_blocks setting objects) answers) left
  -- before, nothing is seen
  pub before : (setting : CSetting) (fuel : ℕ) (objects : List CObject) (answers : List ℤ) (steps : ℕ) → AreComplete setting objects →
      steps < length objects → (blocks : Blocks) × (c_begins setting fuel objects [] (world_of [] answers) steps ≡ out (world_of blocks answers))
  -- an object's name leads to the block with the object's number in the list
  pub slot_is : (objects : List CObject) (number : ℕ) (one : CObject) →
      IsDistinct eqb (map (λ object. object.object) objects) → slice_get objects number ≡ Some one →
      slot_of (in_blocks_from 0 objects) one.object ≡ Some (record { block = number; offset = 0 })
  -- that block is live, and its bytes are 0
  pub block_is : (setting : CSetting) (objects : List CObject) (number : ℕ) (one : CObject) → slice_get objects number ≡ Some one →
      live_block (zeroed_blocks setting objects) number ≡ Some (zeroed setting one)

-- the test of a run for compatible types is what compatible types are (6.2.7): the pairs of records that a setting holds are
-- the largest good set
abbrev pub CompatibleTypesAreFound : Type 0
CompatibleTypesAreFound =
    (program : CProgram) (first second : CTy) →
    IsTrue (are_compatible (setting_of program) first second) ↔ AreCompatible program.types first second
