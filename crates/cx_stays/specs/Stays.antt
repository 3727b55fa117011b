-- What stays (ISO C99, 6.2.4 and 6.5p2): an expression whose calls store in no object and end no object's life changes only what its
-- marks say that it wrote, in whatever order it is evaluated; and a block that has died stays dead, whatever is called.
use Rattle.std.specs.Prelude.{◌≡◌, ℕ, ◌<◌, ◌≤◌, Bool, true, false, ◌&&◌, ℤ, List, Option, Some, None, length, Result, Ok, Err}
use Rattle.cr_base.specs.declared.scalar.Scalar.{Scalar}
use Rattle.cr_world.specs.Known.{Known, allocates, frees, copies, fills, exits, aborts, KnownFunction, known_named}
use Rattle.cr_world.specs.World.{Outside, Terms, World, blocks_of, with_memory}
use Rattle.cx_core.specs.Trees.{CExpr, expr, CForm, whole, null, object, code, load, deref, member, address, convert, unary, binary, and, or, cond, assign, assign_by, step, call, call_by, comma, literal, CExprs, no_exprs, more_exprs, CPut, put, CPuts, no_puts, more_puts, CFun, COuter, CProgram}
use Rattle.cx_core.specs.Typing.{function_with, outer_with}
use Rattle.cx_mean.specs.Calls.{CCallee, defined, external, CCalled, returns_value, external_call}
use Rattle.cx_mean.specs.Marks.{Range, bits_of_bytes, bits_of_field}
use Rattle.cx_mean.specs.Moves.{CPurpose}
use Rattle.cx_mean.specs.Operands.{CStop, CValue, COperand, Frame}
use Rattle.cx_mean.specs.Quiet.{calls_nothing}
use Rattle.cx_mean.specs.Run.{c_start, c_after}
use Rattle.cx_mean.specs.Settings.{CSetting, setting_of}
use Rattle.cx_mean.specs.State.{CState, c_step, at_control, has_ended, stopped, frame_for, going_on, expression_step}
use Rattle.cx_mean.specs.Steps.{did, asks_call, CStepped, step_at}
use Rattle.cx_mean.specs.Unwritten.{Avoids}
use Rattle.cx_mean.specs.Work.{CWork, finished, begun, resumed}
use Rattle.mem_bytes.specs.Access.{part_at, value_at, field_at, record_at}
use Rattle.mem_bytes.specs.Calls.{IsFieldPlace}
use Rattle.mem_bytes.specs.Coding.{scalar_size}
use Rattle.mem_bytes.specs.declared.value.Ptr.{Ptr}
use Rattle.mem_bytes.specs.Laws.{HoldsCells}
use Rattle.mem_bytes.specs.Memory.{Block, Blocks, live_block, size_of}

-- ---- quiet calls (6.5.2.2)

-- a known function that stores in no object and ends no object's life (7.20.3, 7.20.4 and 7.21): what an allocation gives is a new object
abbrev pub is_quiet : Known → Bool
is_quiet (allocates is_zero) = true
is_quiet frees = false
is_quiet (copies may_overlap) = false
is_quiet fills = false
is_quiet exits = true
is_quiet aborts = true

-- a function whose effect isn't known only answers
abbrev pub is_quiet_if_known : Option KnownFunction → Bool
is_quiet_if_known None = true
is_quiet_if_known (Some one) = is_quiet one.does

abbrev pub is_quiet_external : COuter → Bool
is_quiet_external one = is_quiet_if_known (known_named one.name)

-- a function that a unit defines isn't taken for quiet, whatever it does
abbrev pub is_quiet_function : Option CFun → Option COuter → Bool
is_quiet_function (Some one) outer = false
is_quiet_function None None = false
is_quiet_function None (Some outer) = is_quiet_external outer

abbrev pub calls_quietly : CProgram → ℕ → Bool
calls_quietly program number = is_quiet_function (function_with number program.functions) (outer_with number program.externals)

abbrev mutual
  -- each call in an expression is one of a quiet function by its name
  pub calls_only_quiet : CProgram → CExpr → Bool
  calls_only_quiet program (expr type place form) = form_calls_only_quiet program form

  pub form_calls_only_quiet : CProgram → CForm → Bool
  form_calls_only_quiet program (whole value) = true
  form_calls_only_quiet program null = true
  form_calls_only_quiet program (object number) = true
  form_calls_only_quiet program (code number) = true
  form_calls_only_quiet program (load from) = calls_only_quiet program from
  form_calls_only_quiet program (deref from) = calls_only_quiet program from
  form_calls_only_quiet program (member of spot) = calls_only_quiet program of
  form_calls_only_quiet program (address of) = calls_only_quiet program of
  form_calls_only_quiet program (convert value) = calls_only_quiet program value
  form_calls_only_quiet program (unary op value) = calls_only_quiet program value
  form_calls_only_quiet program (binary op left right) = calls_only_quiet program left && calls_only_quiet program right
  form_calls_only_quiet program (and left right) = calls_only_quiet program left && calls_only_quiet program right
  form_calls_only_quiet program (or left right) = calls_only_quiet program left && calls_only_quiet program right
  form_calls_only_quiet program (cond test first second) =
      calls_only_quiet program test && calls_only_quiet program first && calls_only_quiet program second
  form_calls_only_quiet program (assign target value) = calls_only_quiet program target && calls_only_quiet program value
  form_calls_only_quiet program (assign_by op computes target value) =
      calls_only_quiet program target && calls_only_quiet program value
  form_calls_only_quiet program (step up post on) = calls_only_quiet program on
  form_calls_only_quiet program (call callee args) = calls_quietly program callee && args_call_only_quiet program args
  form_calls_only_quiet program (call_by callee args) = false
  form_calls_only_quiet program (comma first second) = calls_only_quiet program first && calls_only_quiet program second
  form_calls_only_quiet program (literal number puts) = puts_call_only_quiet program puts

  pub args_call_only_quiet : CProgram → CExprs → Bool
  args_call_only_quiet program no_exprs = true
  args_call_only_quiet program (more_exprs first others) =
      calls_only_quiet program first && args_call_only_quiet program others

  pub puts_call_only_quiet : CProgram → CPuts → Bool
  puts_call_only_quiet program no_puts = true
  puts_call_only_quiet program (more_puts first others) =
      put_calls_only_quiet program first && puts_call_only_quiet program others

  pub put_calls_only_quiet : CProgram → CPut → Bool
  put_calls_only_quiet program (put spot type value) = calls_only_quiet program value

-- ---- evaluation in a world

-- what is left of an expression after some steps, each at any of its ready nodes. A call of a function that no unit defines is
-- answered at once.
pub data EvaluatesIn (setting : CSetting) (frame : Frame) (first : CWork) (before : World) : CWork → World → Type 0 where
  not_yet : EvaluatesIn setting frame first before first before
  and_then_at : {work next : CWork} {now : World} {after : Blocks} (pick : ℕ) → EvaluatesIn setting frame first before work now →
      step_at setting frame (blocks_of now) pick work ≡ Ok (did next after) →
      EvaluatesIn setting frame first before next (with_memory after now)
  and_then_called : {work next : CWork} {now after : World} {called : CCalled} {callee : COuter} {value : CValue} (pick : ℕ) →
      EvaluatesIn setting frame first before work now →
      step_at setting frame (blocks_of now) pick work ≡ Ok (asks_call called next) → called.callee ≡ external callee →
      external_call setting called callee now ≡ Ok (returns_value value after) →
      EvaluatesIn setting frame first before (resumed value next) after

-- the next step of a run, where what began in an earlier world is evaluated: the evaluation goes on, or the program ends, or the run
-- goes no further
pub data GoesOnIn (setting : CSetting) (state : CState) (purpose : CPurpose) (first : CWork) (before : World) : CState → Type 0 where
  goes_on : {work : CWork} {world : World} (left : List ℕ) → EvaluatesIn setting (frame_for state purpose) first before work world →
      GoesOnIn setting state purpose first before (going_on (record state { order = left }) world work purpose)
  ends : (left : List ℕ) (world : World) (status : ℤ) →
      GoesOnIn setting state purpose first before (at_control (record state { order = left }) world (has_ended status))
  goes_no_further : (left : List ℕ) (stop : CStop) → GoesOnIn setting state purpose first before (stopped (record state { order = left }) stop)

-- what has no bit in common with ranges is in a later memory what it was in an earlier one, in each block that was made by then
pub record KeepsMadeBeside (ranges : List Range) (before after : Blocks) : Type 0 where
  -- any number of cells at a place
  pub cells : (at : Ptr) (count : ℕ) → at.block < length before → Avoids ranges (bits_of_bytes at count) →
      part_at after at count ≡ part_at before at count
  -- what is loaded from a scalar, and from a structure or union
  pub values : (at : Ptr) (kind : Scalar) → at.block < length before → Avoids ranges (bits_of_bytes at (scalar_size kind)) →
      value_at after at kind ≡ value_at before at kind
  pub records : (at : Ptr) (size align : ℕ) → at.block < length before → Avoids ranges (bits_of_bytes at size) →
      record_at after at size align ≡ record_at before at size align
  -- a bit-field, also one beside another that was stored
  pub fields : (at : Ptr) (bit width : ℕ) → at.block < length before → IsFieldPlace bit width → Avoids ranges (bits_of_field at bit width) →
      field_at after at bit width ≡ field_at before at bit width

abbrev pub IsQuietCallee : CCallee → Type 0
IsQuietCallee (defined one) = ⊥
IsQuietCallee (external one) = is_quiet_external one ≡ true

-- a step calls no function that isn't quiet
abbrev pub CallsQuietly : CStepped → Type 0
CallsQuietly (Ok (did work blocks)) = Unit {0}
CallsQuietly (Ok (asks_call called work)) = IsQuietCallee called.callee
CallsQuietly (Err fault) = Unit {0}

-- an expression whose calls are quiet, in whatever order it is evaluated
pub record QuietCallsLeaveRest : Type 0 where
  -- one without calls is such an expression
  pub without_calls : (program : CProgram) (e : CExpr) → calls_nothing e ≡ true → calls_only_quiet program e ≡ true
  -- what the marks of its operand don't say that it wrote is what it was
  pub stays : (setting : CSetting) (frame : Frame) (e : CExpr) (before after : World) (operand : COperand) →
      calls_only_quiet setting.program e ≡ true → HoldsCells (blocks_of before) →
      EvaluatesIn setting frame (begun e) before (finished operand) after →
      KeepsMadeBeside operand.marks.writes (blocks_of before) (blocks_of after)
  -- and each cell of a live block is one that a machine holds still, at every point of it
  pub holds : (setting : CSetting) (frame : Frame) (e : CExpr) (before now : World) (work : CWork) →
      calls_only_quiet setting.program e ≡ true → HoldsCells (blocks_of before) →
      EvaluatesIn setting frame (begun e) before work now → HoldsCells (blocks_of now)
  -- each function that a step of it calls is a quiet one
  pub calls : (setting : CSetting) (frame : Frame) (e : CExpr) (before now : World) (work : CWork) (pick : ℕ) →
      calls_only_quiet setting.program e ≡ true → HoldsCells (blocks_of before) →
      EvaluatesIn setting frame (begun e) before work now → CallsQuietly (step_at setting frame (blocks_of now) pick work)
  -- so each step of a run that evaluates it is one of such an evaluation
  pub runs : (setting : CSetting) (state : CState) (e : CExpr) (before : World) (work : CWork) (purpose : CPurpose) →
      calls_only_quiet setting.program e ≡ true → HoldsCells (blocks_of before) →
      EvaluatesIn setting (frame_for state purpose) (begun e) before work state.world →
      GoesOnIn setting state purpose (begun e) before (expression_step setting state work purpose)

-- ---- dead blocks (6.2.4p2)

-- an access that goes wrong
abbrev pub IsFault : {A E : Type 0} → Result A E → Type 0
IsFault (Ok value) = ⊥
IsFault (Err fault) = Unit {0}

-- what no step undoes of the lives of blocks
pub record LivesAgree (before after : Blocks) : Type 0 where
  -- no number is given up
  pub grows : length before ≤ length after
  -- a block that has died stays dead
  pub dead : (number : ℕ) → number < length before → live_block before number ≡ None → live_block after number ≡ None
  -- one that lives on keeps its size and its alignment
  pub sizes : (number : ℕ) (block later : Block) → live_block before number ≡ Some block → live_block after number ≡ Some later →
      size_of later ≡ size_of block
  pub aligns : (number : ℕ) (block later : Block) → live_block before number ≡ Some block → live_block after number ≡ Some later →
      later.align ≡ block.align

-- so it is with the steps of a program, whatever is called, and a place outside of every live block stays outside
pub record DeadStaysDead : Type 0 where
  pub step : (setting : CSetting) (state : CState) → LivesAgree (blocks_of state.world) (blocks_of (c_step setting state).world)
  pub steps : (setting : CSetting) (state : CState) (many : ℕ) →
      LivesAgree (blocks_of state.world) (blocks_of (c_after setting many state).world)
  pub outside : (setting : CSetting) (state : CState) (many : ℕ) (at : Ptr) (count : ℕ) → at.block < length (blocks_of state.world) →
      IsFault (part_at (blocks_of state.world) at count) → IsFault (part_at (blocks_of (c_after setting many state).world) at count)

-- ---- cells (6.2.6.1)

-- in every run of a program each cell of a live block is one that a machine holds, which the above asks for
abbrev pub RunsHoldCells : Type 0
RunsHoldCells = (program : CProgram) (order : List ℕ) (terms : Terms) (outside : Outside) (steps : ℕ) →
    HoldsCells (blocks_of (c_after (setting_of program) steps (c_start program order terms outside)).world)
