-- Where expressions of a linked program are evaluated: the objects that they may name live, each in a block of its own size and
-- alignment (ISO C99, 6.2.4).
use Rattle.std.specs.Prelude.{◌≡◌, ℕ, ◌≤◌, Option, Some, None, IfSome, IsSome, All}
use Rattle.std.specs.List.{Contains}
use Rattle.cr_base.specs.declared.layout.Laid.{Laid}
use Rattle.cx_core.specs.Linked.{IsLinked}
use Rattle.cx_core.specs.Trees.{CObject, CProgram}
use Rattle.cx_core.specs.Typing.{CHome, object_with, function_with}
use Rattle.cx_mean.specs.Operands.{Frame, slot_of}
use Rattle.cx_mean.specs.Settings.{setting_of, extent_in}
use Rattle.mem_bytes.specs.Calls.{IsCell}
use Rattle.mem_bytes.specs.declared.cell.Cell.{Cell}
use Rattle.mem_bytes.specs.declared.cell.Cell.TheVariants.{Bits, PtrByte}
use Rattle.mem_bytes.specs.declared.value.Ptr.{Ptr}
use Rattle.mem_bytes.specs.declared.value.Value.{Value}
use Rattle.mem_bytes.specs.declared.value.Value.TheVariants.{Whole as Number, Null, Object as Pointer, Code as Function}
use Rattle.mem_bytes.specs.Memory.{Block, Blocks, live_block, size_of}
use Rattle.cx_typed_values.specs.Values.{AreObjects, most_bytes}

-- an object lives: its slot is in the frame, and leads to a live block, as large and as aligned as its type (6.2.4p2)
pub record IsAlive (program : CProgram) (frame : Frame) (blocks : Blocks) (one : CObject) : Type 0 where
  pub at : Ptr
  pub at_is : slot_of frame one.object ≡ Some at
  pub laid : Laid
  pub laid_is : extent_in (setting_of program) one.type ≡ Some laid
  pub block : Block
  pub live : live_block blocks at.block ≡ Some block
  pub size : size_of block ≡ laid.size
  pub align : block.align ≡ laid.align

-- the static objects of a program that are defined, and the objects whose block holds an expression, live
pub record AreAlive (home : CHome) (frame : Frame) (blocks : Blocks) : Type 0 where
  pub statics : (one : CObject) → Contains home.program.objects one → IsSome one.puts → IsAlive home.program frame blocks one
  pub in_scope : (number : ℕ) → Contains home.scope number
      → IfSome (object_with number home.program.objects) (IsAlive home.program frame blocks)

-- a pointer leads no further than the largest object reaches, and one to a function to a function of the program (6.3.2.3, 6.5.6p8)
abbrev pub IsLeading : CProgram → Value → Type 0
IsLeading program (Pointer at) = at.offset ≤ most_bytes
IsLeading program Null = Unit {0}
IsLeading program (Number number) = Unit {0}
IsLeading program (Function number) = IsSome (function_with number program.functions)

-- a cell holds bits, or a byte of a pointer that leads somewhere
abbrev pub IsTypedCell : CProgram → Cell → Type 0
IsTypedCell program (Bits value set) = Unit {0}
IsTypedCell program (PtrByte of index) = IsCell (PtrByte of index) × IsLeading program of

-- a memory of a typed program: no object is larger than the profile allows, and each cell is typed
pub record IsTypedMemory (program : CProgram) (blocks : Blocks) : Type 0 where
  pub objects : AreObjects blocks
  pub cells : (number : ℕ) (block : Block) → live_block blocks number ≡ Some block → All (IsTypedCell program) block.cells

-- a full expression of a linked program is evaluated there
pub record IsScene (home : CHome) (frame : Frame) (blocks : Blocks) : Type 0 where
  pub linked : IsLinked home.program
  pub whole : home.mentions ≡ None
  pub memory : IsTypedMemory home.program blocks
  pub alive : AreAlive home frame blocks

-- two blocks live, with one size and alignment, or neither does
pub record IsSameShape (before after : Option Block) : Type 0 where
  pub size : IfSome before (λ one. IfSome after (λ other. size_of one ≡ size_of other))
  pub align : IfSome before (λ one. IfSome after (λ other. one.align ≡ other.align))
  pub lives : IsSome before → IsSome after
  pub lived : IsSome after → IsSome before

-- two memories have the same live blocks, each of the same size and alignment
pub record AreSameShapes (before after : Blocks) : Type 0 where
  pub each : (number : ℕ) → IsSameShape (live_block before number) (live_block after number)
