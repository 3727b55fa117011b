-- Laws of what both languages share. Each is the contract of a function with an empty body, in src/laws.rt.
use Rattle.std.specs.Prelude.{◌≡◌, ℕ, ℤ, ◌<◌, Bool, false, pos, List, [], ◌∷◌, ◌++◌, map, All, Some, None, slice_set, Ok}
use Rattle.mem_bytes.specs.declared.cell.Cell.{Cell}
use Rattle.mem_bytes.specs.declared.value.Ptr.{Ptr}
use Rattle.mem_bytes.specs.declared.value.Value.{Value}
use Rattle.mem_bytes.specs.declared.value.Value.TheVariants.{Whole, Object}
use Rattle.mem_bytes.specs.Access.{part_at}
use Rattle.mem_bytes.specs.Laws.{Writes}
use Rattle.mem_bytes.specs.Memory.{Block, Blocks, live_block, byte_cell}
use Rattle.cr_world.specs.Held.{Held, is_listed, without_entry}
use Rattle.cr_world.specs.Known.{Known, frees, copies, fills, gives, gives_nothing, effect, allocated}
use Rattle.cr_world.specs.Texts.{text_in}

-- ---- texts (7.1.1p1)

-- cells that begin with a text: its bytes, none of which is zero, and a zero byte behind them
pub record Begins (cells : List Cell) (text : List ℕ) : Type 0 where
  pub others : List Cell
  pub stand : cells ≡ map byte_cell text ++ byte_cell 0 ∷ others
  pub not_zero : All (λ byte. 0 < byte) text

-- the text of cells is the one that they begin with
pub record ReadsTexts : Type 0 where
  pub read : (cells : List Cell) (text : List ℕ) → text_in cells ≡ Ok text → Begins cells text
  pub found : (cells : List Cell) (text : List ℕ) → Begins cells text → text_in cells ≡ Ok text

-- ---- known functions

-- what a copy or a fill changes are the bytes at its first argument, which is its value; what `free` changes is that
-- its block is dead (7.20.3.2, 7.21.2 and 7.21.6.1)
pub record KnownWriteTheirOwn : Type 0 where
  pub copy : (may_overlap : Bool) (to from : Ptr) (count : ℕ) (value : Value) (before after : Held) → 0 < count →
      effect (copies may_overlap) (Object to ∷ Object from ∷ Whole (pos count) ∷ []) before ≡ gives value after →
      Writes before.blocks to count after.blocks × (value ≡ Object to) × (after.heap ≡ before.heap)
      × (part_at after.blocks to count ≡ part_at before.blocks from count)
  pub fill : (at : Ptr) (byte : ℤ) (count : ℕ) (value : Value) (before after : Held) →
      effect fills (Object at ∷ Whole byte ∷ Whole (pos count) ∷ []) before ≡ gives value after →
      Writes before.blocks at count after.blocks × (value ≡ Object at) × (after.heap ≡ before.heap)
  pub free : (at : Ptr) (before after : Held) → effect frees (Object at ∷ []) before ≡ gives_nothing after →
      (at.offset ≡ 0) × (after.blocks ≡ slice_set before.blocks at.block None)
      × (after.heap ≡ without_entry at.block before.heap)

-- ---- allocated blocks (7.20.3p1)

-- the blocks of a list live, and none stands in it twice
abbrev pub AreAllocated : Blocks → List ℕ → Type 0
AreAllocated blocks [] = Unit {0}
AreAllocated blocks (number ∷ others) =
    ((block : Block) × (live_block blocks number ≡ Some block)) × (is_listed number others ≡ false) × AreAllocated blocks others

-- what a program holds lists allocated blocks that live
abbrev pub HeapLives : Held → Type 0
HeapLives held = AreAllocated held.blocks held.heap

-- the known functions keep it
pub record KeepsAllocated : Type 0 where
  pub allocated : (is_given is_zero : Bool) (size : ℕ) (held : Held) → HeapLives held → HeapLives (allocated is_given is_zero size held).held
  pub gives : (does : Known) (args : List Value) (value : Value) (before after : Held) → HeapLives before →
      effect does args before ≡ gives value after → HeapLives after
  pub gives_nothing : (does : Known) (args : List Value) (before after : Held) → HeapLives before →
      effect does args before ≡ gives_nothing after → HeapLives after
