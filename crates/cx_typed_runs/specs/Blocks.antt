-- The blocks that a run of a linked program makes are ones that a store makes (ISO C99, 5.2.4.1, 6.2.4 and 7.20.3): none is larger than the
-- largest object of the profile, each has an alignment that a store knows, and a step makes one block at the most.
use Rattle.std.specs.Prelude.{◌≡◌, ℕ, ◌≤◌, Bool, List, length, Some}
use Rattle.std.specs.List.{Contains}
use Rattle.cr_base.specs.declared.layout.Laid.{Laid}
use Rattle.cr_world.specs.Held.{Held, heap_align}
use Rattle.cr_world.specs.Known.{Known, wants_block, effect}
use Rattle.cr_world.specs.World.{Outside, Terms, blocks_of}
use Rattle.cx_core.specs.Linked.{IsLinked}
use Rattle.cx_core.specs.Trees.{CObject, CProgram}
use Rattle.cx_mean.specs.Run.{c_start, c_after}
use Rattle.cx_mean.specs.Settings.{setting_of, extent_in}
use Rattle.cx_mean.specs.State.{CState}
use Rattle.mem_bytes.specs.Calls.{IsAlignment, IsBlockSize}
use Rattle.mem_bytes.specs.declared.value.Value.{Value}
use Rattle.mem_bytes.specs.Memory.{Block, Blocks, live_block, size_of}

-- a block of so many bytes, with this alignment, is one that a store makes, unless it goes past the store's limit
pub record FitsStore (size align : ℕ) : Type 0 where
  pub size_fits : IsBlockSize size
  pub align_fits : IsAlignment align

-- Law: each object of a linked program whose extent is told fits a store, so also one for which a limited store has no room (5.2.4.1, 6.2.4)
abbrev pub ObjectsFitStores : Type 0
ObjectsFitStores = (program : CProgram) (one : CObject) (laid : Laid) → IsLinked program → Contains program.objects one
    → extent_in (setting_of program) one.type ≡ Some laid → FitsStore laid.size laid.align

-- Law: what a known function allocates fits a store, so also where a limited store has no room for it (7.20.3)
abbrev pub AllocationsFitStores : Type 0
AllocationsFitStores = (does : Known) (args : List Value) (held : Held) (is_zero : Bool) (size : ℕ) → effect does args held ≡ wants_block is_zero size
    → FitsStore size heap_align

-- a run of a program after so many steps
abbrev pub run_after : CProgram → List ℕ → Terms → Outside → (steps : ℕ) → CState
run_after program order terms outside steps = c_after (setting_of program) steps (c_start program order terms outside)

-- Law: a run of any program makes no more blocks than it takes steps, those that have died counted too
abbrev pub RunsMakeFewBlocks : Type 0
RunsMakeFewBlocks = (program : CProgram) (order : List ℕ) (terms : Terms) (outside : Outside) (steps : ℕ)
    → length (blocks_of (run_after program order terms outside steps).world) ≤ steps

-- every live block of a memory fits a store
abbrev pub AreFit : Blocks → Type 0
AreFit blocks = (number : ℕ) (block : Block) → live_block blocks number ≡ Some block → FitsStore (size_of block) block.align

-- Law: in a run of a linked program, after however many steps, under whatever order, terms and outside, every live block fits a store: those
-- of objects, and those that allocations gave (6.2.4, 7.20.3p1)
abbrev pub RunsHoldFitBlocks : Type 0
RunsHoldFitBlocks = (program : CProgram) (order : List ℕ) (terms : Terms) (outside : Outside) (steps : ℕ) → IsLinked program
    → AreFit (blocks_of (run_after program order terms outside steps).world)
