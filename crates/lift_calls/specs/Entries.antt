-- How a function of C and that of the crate are entered (ISO C99, 6.5.2.2p4 and 6.9.1p10), and what a crate that is written for a program meets: each of its
-- functions is entered beside that of C, and its body owes what that of C does.
use Rattle.std.specs.Prelude.{◌≡◌, ℕ, List, [], ◌∷◌, ◌++◌, map, Option}
use Rattle.cr_runs.specs.Owes.{Owes}
use Rattle.cr_runs.specs.Runs.{came, bad, tick}
use Rattle.cr_world.specs.World.{World, events_of}
use Rattle.cx_core.specs.Trees.{CFun}
use Rattle.cx_mean.specs.Leftmost.{CPiece, or_stop}
use Rattle.cx_mean.specs.Operands.{stuck, stops, CValue, Frame as CFrame}
use Rattle.cx_mean.specs.Settings.{CSetting}
use Rattle.cx_mean.specs.State.{slot, param_begins, place_of_body}
use Rattle.lift_stands.specs.Stands.{Images}
use Rattle.mem_bytes.specs.declared.value.Ptr.{Ptr}
use Rattle.rs_mean.specs.Calls.{begin_params, begin_locals}
use Rattle.rs_mean.specs.Laws.{behind}
use Rattle.rs_mean.specs.Lookups.{LocalBlock}
use Rattle.rs_mean.specs.Run.{Frame, Flow, normal, run_stmts}
use Rattle.rs_mean.specs.Values.{Typed}
use Rattle.rs_mean.specs.World.{Run, pure, seq}
use Rattle.rs_text.specs.Tree.{Stmts, FunctionTree}
use Rattle.lift_calls.specs.Bodies.{Inside, BodyOwes}
use Rattle.lift_calls.specs.Calls.{CallStands, Promise}
use Rattle.lift_calls.specs.Frames.{FunctionNames}
use Rattle.lift_calls.specs.Programs.{Setting, setting_in, crate_bodies, IsWritten}

-- ---- entries

-- in C the parameters begin, each with its argument
abbrev pub c_entered : CSetting → CFun → List ℕ → List CValue → CFrame → CPiece CFrame
c_entered setting callee [] args frame world left = came frame world left
c_entered setting callee (number ∷ params) [] frame world left =
    tick world (λ more. bad (stops stuck (place_of_body callee.body)) world) left
c_entered setting callee (number ∷ params) (value ∷ args) frame world left =
    tick world (or_stop (param_begins setting (place_of_body callee.body) number value world) (λ got after more.
    c_entered setting callee params args (frame ++ slot number got.value ∷ []) got.world more) world) left

-- in the crate parameters and locals begin, and then structures and unions that are passed are copied to locals of their own
pub record Entered : Type 0 where
  pub locals : List LocalBlock
  pub flow : Flow

abbrev pub frame_in : Setting → List LocalBlock → Frame
frame_in s locals = record { modules = s.modules; locals = locals; bodies = crate_bodies s }

abbrev pub copied_to : Setting → Stmts → List LocalBlock → Run Entered
copied_to s copies locals = seq (run_stmts (frame_in s locals) copies) (λ flow. pure (record { locals = locals; flow = flow }))

abbrev pub crate_entered : Setting → FunctionTree → (copies : Stmts) → List Typed → Run Entered
crate_entered s tree copies args =
    seq (begin_params s.modules tree.params args) (λ params.
    seq (begin_locals s.modules tree.locals) (λ locals. copied_to s copies (params ++ locals)))

-- both stand before their bodies
pub record EntryMeets (s : Setting) (one : CFun) (names : FunctionNames) (images : Images) (place : Option Ptr) (c_before before : World) (c_frame : CFrame)
    (c_world : World) (entered : Entered) (world : World) : Type 0 where
  pub later : Images
  pub flow_is : entered.flow ≡ normal
  pub params_are : map (λ one_slot. one_slot.object) c_frame ≡ one.params
  pub inside : Inside s one names images later place c_before before c_frame (frame_in s entered.locals) c_world world

abbrev pub EntryOwes : Setting → CFun → FunctionTree → FunctionNames → (copies : Stmts) → (units steps : ℕ) → Type 0
EntryOwes s one tree names copies units steps =
    (images : Images) (place : Option Ptr) (args : List CValue) (given : List Typed) (c_world world : World) →
    CallStands s images place one tree args given c_world world →
    Owes events_of events_of (EntryMeets s one names images place c_world world) units steps
    (c_entered (setting_in s) one one.params args [] c_world) (crate_entered s tree copies given world)

-- ---- programs

-- a function of the crate is written for one of C: its body is copies of what is passed, and then statements that owe what C's body does where called
-- functions owe it below smaller bounds
pub record FunctionMeets (s : Setting) (one : CFun) (tree : FunctionTree) : Type 0 where
  pub names : FunctionNames
  pub copies : Stmts
  pub body : Stmts
  pub body_is : tree.body ≡ behind copies body
  pub enters : (units steps : ℕ) → EntryOwes s one tree names copies units steps
  pub owes : (units steps : ℕ) → Promise s units steps → BodyOwes s one tree names body units steps

abbrev pub ProgramMeets : Setting → Type 0
ProgramMeets s = (one : CFun) (tree : FunctionTree) → IsWritten s one tree → FunctionMeets s one tree
