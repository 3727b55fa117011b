-- When the world and the frame of a crate's run agree with those of its program's run, and what is to hold behind the
-- statements of an expression.
use Rattle.std.specs.Prelude.{◌≡◌, ◌≢◌, ℕ, ◌+◌, ◌<◌, ◌≤◌, ℤ, Bool, true, false, List, [], map, length, Option, Some, None, slice_get, Ok}
use Rattle.cr_base.specs.declared.scalar.Scalar.{Scalar}
use Rattle.cr_base.specs.declared.scalar.Scalar.TheVariants.{Whole}
use Rattle.straight_core.specs.Trees.{CExpr, expr, CForm, whole, object, load, convert, unary, binary, assign, call, CExprs, no_exprs, more_exprs, CStmt, stmt, CStmtForm, block, expression, returns, CStmts, no_stmts, more_stmts, CTy, CTyForm, void, int, function, CParams, unlisted, listed, types_in, form_of_type, COuter, CProgram}
use Rattle.straight_core.specs.Typing.{outer_with}
use Rattle.cr_runs.specs.Runs.{came, halted, bad, out}
use Rattle.straight_mean.specs.Leftmost.{CRan, CFlow, goes_on, goes_out, gave}
use Rattle.straight_mean.specs.Marks.{Range, any_overlap}
use Rattle.straight_mean.specs.Operands.{CValue, scalar, designates, missing, designated, COperand, Frame as CFrame, CWorld}
use Rattle.straight_mean.specs.Sound.{AreInScope, IsOperandOf}
use Rattle.straight_mean.specs.Unwritten.{KeepsBeside}
use Rattle.straight_lift.specs.declared.atom.Atom.TheVariants.{Fixed, Temporary}
use Rattle.straight_lift.specs.declared.atom.Atom.{Atom}
use Rattle.straight_lift.specs.Lifted.{Names}
use Rattle.straight_lift.specs.StandsFor.{Images, StandsFor}
use Rattle.mem_bytes.specs.Access.{value_at}
use Rattle.mem_bytes.specs.Memory.{Block, Blocks, live_block}
use Rattle.mem_bytes.specs.declared.value.Ptr.{Ptr}
use Rattle.mem_bytes.specs.declared.value.Value.{Value}
use Rattle.mem_bytes.specs.declared.value.Value.TheVariants.{Whole as Number}
use Rattle.straight_rust_mean.specs.Items.{outer, callee_at, local_spot}
use Rattle.straight_rust_mean.specs.Run.{Frame, spot_of, Flow, normal, returned}
use Rattle.straight_rust_mean.specs.Typing.{symbol_of}
use Rattle.straight_rust_mean.specs.World.{World}
use Rattle.straight_rust_tree.specs.Tree.{Ty, i32, static_at, OuterTree}

abbrev pub int_scalar : Scalar
int_scalar = Whole 32 true

-- ---- worlds

-- the memories stand for each other, and events and answers are the same
pub record WorldsAgree (images : Images) (c_world : CWorld) (world : World) : Type 0 where
  pub memories : StandsFor images c_world.memory world.memory
  pub events : c_world.events ≡ world.events
  pub answers : c_world.answers ≡ world.answers

-- the block of a temporary
abbrev pub block_of_temporary : Frame → ℕ → ℕ
block_of_temporary frame number = frame.first + number

-- the block of a temporary is live, and has the size and alignment of an `i32`
pub record IsTemporary (memory : Blocks) (number : ℕ) : Type 0 where
  pub block : Block
  pub live : live_block memory number ≡ Some block
  pub align : block.align ≡ 4
  pub size : length block.cells ≡ 4

-- those of all temporaries below a number are
abbrev pub HasTemporaries : Frame → ℕ → World → Type 0
HasTemporaries frame limit world = (number : ℕ) → number < limit → IsTemporary world.memory (block_of_temporary frame number)

-- ---- frames

-- the types of parameters and of a result
abbrev pub param_types : CParams → List Ty
param_types unlisted = []
param_types (listed types) = map (λ type. i32) (types_in types)

abbrev pub result_type : CTyForm → Option Ty
result_type void = None
result_type int = Some i32
result_type (function result params variadic) = None

-- an external function of a crate is that of a program, with a type
abbrev pub IsOuterOf : COuter → CTyForm → OuterTree → Type 0
IsOuterOf one (function result params variadic) other =
    (symbol_of other ≡ one.name)
    × (other.params ≡ param_types params)
    × (other.variadic ≡ variadic)
    × (other.result ≡ result_type (form_of_type result))
IsOuterOf one void other = ⊥
IsOuterOf one int other = ⊥

-- an object in scope has an image, which is the block that its Rust name names
pub record NamesObject (names : Names) (images : Images) (frame : Frame) (object : ℕ) (at : Ptr) : Type 0 where
  pub image : ℕ
  pub mapped : slice_get images.blocks at.block ≡ Some image
  pub at_start : at.offset ≡ 0
  pub spot : spot_of frame (static_at names.home (names.objects object)) ≡ Some (record { block = image; ty = i32 })

-- a function of a program is the one that its Rust name names
pub record NamesFunction (names : Names) (frame : Frame) (callee : ℕ) (one : COuter) : Type 0 where
  pub other : OuterTree
  pub found : callee_at frame.whole names.home (names.functions callee) ≡ Some (outer other)
  pub is : IsOuterOf one (form_of_type one.type) other

-- the two frames agree, with so many temporaries, and with the functions that are declared
pub record FramesAgree (program : CProgram) (names : Names) (images : Images) (c_frame : CFrame) (frame : Frame) (limit : ℕ) (declared : ℕ → Bool) : Type 0 where
  pub in_scope : AreInScope program c_frame
  pub objects : (object : ℕ) (at : Ptr) → designated c_frame object ≡ designates at → NamesObject names images frame object at
  pub functions : (callee : ℕ) (one : COuter) → declared callee ≡ true → outer_with callee program.externals ≡ Some one → NamesFunction names frame callee one
  pub temporaries : (number : ℕ) → number < limit →
      local_spot frame.first (names.temporaries number) frame.locals ≡ Some (record { block = block_of_temporary frame number; ty = i32 })
  -- no image is the block of a temporary
  pub apart : (block number : ℕ) → number < limit → slice_get images.blocks block ≢ Some (block_of_temporary frame number)

-- ---- called functions

abbrev mutual
  -- an expression calls only functions that are declared
  pub CallsOnly : (ℕ → Bool) → CExpr → Type 0
  CallsOnly declared (expr type place form) = FormCallsOnly declared form

  pub FormCallsOnly : (ℕ → Bool) → CForm → Type 0
  FormCallsOnly declared (whole value) = Unit {0}
  FormCallsOnly declared (object number) = Unit {0}
  FormCallsOnly declared (load from) = CallsOnly declared from
  FormCallsOnly declared (convert value) = CallsOnly declared value
  FormCallsOnly declared (unary op value) = CallsOnly declared value
  FormCallsOnly declared (binary op left right) = CallsOnly declared left × CallsOnly declared right
  FormCallsOnly declared (assign target value) = CallsOnly declared target × CallsOnly declared value
  FormCallsOnly declared (call callee args) = (declared callee ≡ true) × ArgsCallOnly declared args

  pub ArgsCallOnly : (ℕ → Bool) → CExprs → Type 0
  ArgsCallOnly declared no_exprs = Unit {0}
  ArgsCallOnly declared (more_exprs first others) = CallsOnly declared first × ArgsCallOnly declared others

abbrev pub ReturnCallsOnly : (ℕ → Bool) → Option CExpr → Type 0
ReturnCallsOnly declared None = Unit {0}
ReturnCallsOnly declared (Some value) = CallsOnly declared value

abbrev mutual
  -- and so does a statement
  pub StmtCallsOnly : (ℕ → Bool) → CStmt → Type 0
  StmtCallsOnly declared (stmt place objects form) = StmtFormCallsOnly declared form

  pub StmtFormCallsOnly : (ℕ → Bool) → CStmtForm → Type 0
  StmtFormCallsOnly declared (block list) = StmtsCallOnly declared list
  StmtFormCallsOnly declared (expression value) = CallsOnly declared value
  StmtFormCallsOnly declared (returns value) = ReturnCallsOnly declared value

  pub StmtsCallOnly : (ℕ → Bool) → CStmts → Type 0
  StmtsCallOnly declared no_stmts = Unit {0}
  StmtsCallOnly declared (more_stmts first others) = StmtCallsOnly declared first × StmtsCallOnly declared others

-- ---- behind an expression

-- the pointer to a temporary
abbrev pub at_temporary : Frame → ℕ → Ptr
at_temporary frame number = record { block = block_of_temporary frame number; offset = 0 }

-- an atom has a value in a world; a temporary that holds one is below a number
abbrev pub Holds : Frame → ℕ → World → Option Atom → Value → Type 0
Holds frame next world None value = ⊥
Holds frame next world (Some (Fixed number)) value = value ≡ Number number
Holds frame next world (Some (Temporary number)) value =
    (number < next) × (value_at world.memory (at_temporary frame number) int_scalar ≡ Ok value)

-- an atom stands for what an operand gives; anything stands for a missing value
abbrev pub Gives : Frame → ℕ → World → Option Atom → CValue → Type 0
Gives frame next world atom (scalar value) = Holds frame next world atom value
Gives frame next world atom (designates at) = ⊥
Gives frame next world atom missing = Unit {0}

-- a block of a crate is no image, and no temporary from a number on
pub record IsBeside (images : Images) (frame : Frame) (from number : ℕ) : Type 0 where
  pub no_image : (block : ℕ) → slice_get images.blocks block ≢ Some number
  pub no_temporary : (other : ℕ) → from ≤ other → number ≢ block_of_temporary frame other

-- each block that was live stays as it was, but for images and temporaries from a number on
abbrev pub Keeps : Images → Frame → ℕ → World → World → Type 0
Keeps images frame from before after =
    (number : ℕ) (block : Block) → IsBeside images frame from number →
    live_block before.memory number ≡ Some block → live_block after.memory number ≡ Some block

-- what holds where the program has evaluated an expression of a type, and the crate has run the statements that are
-- written for it, which take temporaries from one number on and below another
pub record Meets (images : Images) (frame : Frame) (limit from next : ℕ) (atom : Option Atom) (type : CTy) (before : World)
    (operand : COperand) (c_world : CWorld) (flow : Flow) (world : World) : Type 0 where
  pub goes_on : flow ≡ normal
  pub worlds : WorldsAgree images c_world world
  pub temporaries : HasTemporaries frame limit world
  pub typed : IsOperandOf type operand
  pub gives : Gives frame next world atom operand.value
  pub keeps : Keeps images frame from before world

-- a later pair of worlds that agree: nothing that was read is written, and temporaries below a number stay
pub record IsLater (images : Images) (frame : Frame) (next : ℕ) (reads : List Range) (c_world : CWorld) (world : World) (c_later : CWorld) (later : World) : Type 0 where
  pub worlds : WorldsAgree images c_later later
  pub writes : List Range
  pub beside : KeepsBeside writes c_world.memory c_later.memory
  pub unread : any_overlap reads writes ≡ false
  pub temporaries : (number : ℕ) → number < next →
      live_block later.memory (block_of_temporary frame number) ≡ live_block world.memory (block_of_temporary frame number)

-- the same by the marks of the operand: what they don't say that it wrote is in the program's memory what it was, and
-- what is written for its value gives it also later, where nothing that it read is written
pub record IsLifted (images : Images) (frame : Frame) (limit from next : ℕ) (atom : Option Atom) (type : CTy) (c_before : CWorld) (before : World)
    (operand : COperand) (c_world : CWorld) (flow : Flow) (world : World) : Type 0 where
  pub meets : Meets images frame limit from next atom type before operand c_world flow world
  pub unwritten : KeepsBeside operand.marks.writes c_before.memory c_world.memory
  pub lasts : (c_later : CWorld) (later : World) → IsLater images frame next operand.marks.reads c_world world c_later later →
      Gives frame next later atom operand.value

-- ---- behind statements

-- how the flow of a crate stands to that of its program: both go on, or both gave back the same number, or neither
-- gave one
abbrev pub FlowsMeet : CFlow → Flow → Type 0
FlowsMeet goes_on flow = flow ≡ normal
FlowsMeet goes_out flow = flow ≡ returned None
FlowsMeet (gave operand) flow =
    (number : ℤ) × (operand.value ≡ scalar (Number number)) × (flow ≡ returned (Some (record { ty = i32; value = Number number })))

-- what holds behind statements, which take temporaries from a number on
pub record StmtsMeet (images : Images) (frame : Frame) (limit from : ℕ) (before : World) (c_flow : CFlow) (c_world : CWorld) (flow : Flow) (world : World) : Type 0 where
  pub flows : FlowsMeet c_flow flow
  pub worlds : WorldsAgree images c_world world
  pub temporaries : HasTemporaries frame limit world
  pub keeps : Keeps images frame from before world

-- ---- returns

abbrev mutual
  -- a statement ends with a `return` of a value
  pub EndsWithReturn : CStmt → Type 0
  EndsWithReturn (stmt place objects form) = FormEndsWithReturn form

  pub FormEndsWithReturn : CStmtForm → Type 0
  FormEndsWithReturn (block list) = ListEndsWithReturn list
  FormEndsWithReturn (expression value) = ⊥
  FormEndsWithReturn (returns None) = ⊥
  FormEndsWithReturn (returns (Some value)) = Unit {0}

  pub ListEndsWithReturn : CStmts → Type 0
  ListEndsWithReturn no_stmts = ⊥
  ListEndsWithReturn (more_stmts first no_stmts) = EndsWithReturn first
  ListEndsWithReturn (more_stmts first (more_stmts second others)) = ListEndsWithReturn (more_stmts second others)

abbrev pub IsGave : CFlow → Type 0
IsGave goes_on = ⊥
IsGave goes_out = ⊥
IsGave (gave operand) = Unit {0}

-- where a piece comes to its end, the function gave back a value
abbrev pub GivesBack : CRan CFlow → Type 0
GivesBack (came flow world left) = IsGave flow
GivesBack (halted status world) = Unit {0}
GivesBack (bad fault world) = Unit {0}
GivesBack (out world) = Unit {0}
