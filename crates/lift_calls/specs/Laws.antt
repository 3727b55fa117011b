-- Laws of calls: what is owed below bounds is owed below smaller ones, and so each call of a
-- program owes it, by an induction over both bounds; what is inside of a function stays so over a
-- call; and where a body has returned the call has come to where that of C has.
use Rattle.std.specs.Prelude.{◌≡◌, ◌≢◌, ℕ, ◌<◌, ◌≤◌, Bool, true, List, length, Option, Some, ◌++◌}
use Rattle.std.specs.List.{Contains}
use Rattle.cr_runs.specs.Owes.{Owes}
use Rattle.cr_runs.specs.Runs.{tick}
use Rattle.cr_world.specs.Held.{Held}
use Rattle.cr_world.specs.World.{World, blocks_of, with_memory, events_of}
use Rattle.cx_core.specs.Trees.{CFun}
use Rattle.cx_mean.specs.Operands.{CValue, Frame as CFrame}
use Rattle.lift_stands.specs.Keeps.{KeepsOthers}
use Rattle.lift_stands.specs.Stands.{Images, Extends}
use Rattle.lift_stands.specs.Worlds.{WorldsStand}
use Rattle.lift_stands_values.specs.Given.{align_or}
use Rattle.mem_bytes.specs.declared.value.Ptr.{Ptr}
use Rattle.rs_mean.specs.Calls.{accepts, without_blocks}
use Rattle.rs_mean.specs.Lookups.{LocalBlock, own as own_callee, own_signature}
use Rattle.rs_mean.specs.Run.{Frame, Flow, given_by, call_found}
use Rattle.rs_mean.specs.Values.{Typed}
use Rattle.rs_text.specs.Tree.{Ty, FunctionTree}
use Rattle.lift_calls.specs.Bodies.{Inside, Returned}
use Rattle.lift_calls.specs.Calls.{result_laid, is_place, CallMeets, CallStands, CallsOwe, Promise}
use Rattle.lift_calls.specs.Entries.{ProgramMeets}
use Rattle.lift_calls.specs.Frames.{KeptTemporary, FunctionNames, IsLocal, FramesAgree}
use Rattle.lift_calls.specs.Programs.{Setting, c_calls, crate_bodies, ProgramAgrees, IsTypedScope}

-- ---- bounds

pub record PromisesShrink : Type 0 where
  pub calls : (s : Setting) (units steps fewer less : ℕ) → fewer ≤ units → less ≤ steps → CallsOwe s units steps → CallsOwe s fewer less
  pub promise : (s : Setting) (units steps fewer less : ℕ) → fewer ≤ units → less ≤ steps → Promise s units steps → Promise s fewer less

-- the induction: each call of a program owes what it does, below all bounds, where each function is entered and its body owes that
abbrev pub AllCallsOwe : Type 0
AllCallsOwe = (s : Setting) → ProgramMeets s → (units steps : ℕ) → CallsOwe s units steps

-- ---- at a call

-- where a call is reached there are a step of C and a unit of the crate, and then both functions run
abbrev pub CallNodesOwe : Type 0
CallNodesOwe =
    (s : Setting) (units steps : ℕ) (images : Images) (place : Option Ptr) (one : CFun) (tree : FunctionTree) (args : List CValue) (given : List Typed)
    (c_world world : World) → Promise s units steps → CallStands s images place one tree args given c_world world →
    accepts (own_signature tree).params (own_signature tree).variadic given ≡ true →
    Owes events_of events_of (CallMeets images place (align_or (result_laid s one)) tree.result c_world world) units steps
    (tick c_world (c_calls s one args c_world)) (call_found (crate_bodies s) given (Some (own_callee tree)) world)

-- ---- over a call

-- the place of the result of a called function is one of the locals of the function that calls, and neither that which points to its own result nor one of zero bytes
pub record PlaceInside (names : FunctionNames) (frame : Frame) (before : World) (inner : Option Ptr) : Type 0 where
  pub since : (at : Ptr) → inner ≡ Some at → length (blocks_of before) ≤ at.block
  pub no_result : (at : Ptr) (name : List ℕ) (local : LocalBlock) → inner ≡ Some at → names.result ≡ Some name → IsLocal frame name local →
      local.block ≢ at.block
  pub no_zeros : (at : Ptr) (number : ℕ) (zero : KeptTemporary) (local : LocalBlock) → inner ≡ Some at → names.zeros number ≡ Some zero → IsLocal frame zero.name local →
      local.block ≢ at.block

pub record CallsKeep : Type 0 where
  -- functions and static objects agree under more images
  pub program : (s : Setting) (images later : Images) → Extends images later → ProgramAgrees s images → ProgramAgrees s later
  -- a piece that keeps what isn't its own keeps as much from fewer blocks on, where what more it may write was made behind them
  pub others : (base lower : ℕ) (own more : ℕ → Bool) (images later : Images) (held after other beyond : Held) → lower ≤ base →
      ((number : ℕ) → number < lower → own number ≡ true → more number ≡ true) → KeepsOthers base own images later held after other beyond →
      KeepsOthers lower more images later held after other beyond
  pub frames : (s : Setting) (names : FunctionNames) (images later : Images) (own : ℕ → Bool) (c_frame : CFrame) (frame : Frame)
      (c_world c_end world end : World) → WorldsStand images c_world world → FramesAgree s names images c_frame frame c_world world →
      KeepsOthers (length (blocks_of world)) own images later c_world.held c_end.held world.held end.held →
      FramesAgree s names later c_frame frame c_end end
  pub inside : (s : Setting) (one : CFun) (names : FunctionNames) (images later last : Images) (place inner : Option Ptr) (c_before before : World)
      (c_frame : CFrame) (frame : Frame) (c_world c_end world end : World) → WorldsStand images c_before before →
      Inside s one names images later place c_before before c_frame frame c_world world → PlaceInside names frame before inner →
      KeepsOthers (length (blocks_of world)) (is_place inner) later last c_world.held c_end.held world.held end.held → WorldsStand last c_end end →
      IsTypedScope s.program (c_frame ++ s.statics) c_end → Inside s one names images last place c_before before c_frame frame c_end end

-- ---- at a return

-- the locals of the function end
abbrev pub ReturnsMeet : Type 0
ReturnsMeet =
    (images : Images) (place : Option Ptr) (align : ℕ) (result : Option Ty) (c_before before : World) (frame : Frame) (value : CValue) (c_world : World)
    (flow : Flow) (world : World) → WorldsStand images c_before before → ((at : Ptr) → place ≡ Some at → at.block < length (blocks_of before)) →
    ((local : LocalBlock) → Contains frame.locals local → length (blocks_of before) ≤ local.block) →
    Returned images place align result c_before before frame value c_world flow world →
    CallMeets images place align result c_before before value c_world (given_by result flow) (with_memory (without_blocks frame.locals (blocks_of world)) world)
