-- What the statements that are written for an expression do, beside its evaluation in the leftmost order (ISO C99, 6.5; the Rust Reference, "Statements").
use Rattle.std.specs.Prelude.{◌≡◌, ◌⊎◌, ℕ, ◌<◌, ◌≤◌, Bool, true, false, ◌||◌, ◌++◌, length, Some}
use Rattle.cr_runs.specs.Owes.{Owes}
use Rattle.cr_world.specs.World.{World, blocks_of, events_of}
use Rattle.cx_core.specs.Trees.{CExpr, type_of}
use Rattle.cx_core.specs.Typing.{CHome, IsTyped, IsLvalue}
use Rattle.cx_mean.specs.Leftmost.{c_value}
use Rattle.cx_mean.specs.Operands.{COperand, Frame as CFrame}
use Rattle.cx_typed_leftmost.specs.Laws.{CallsAreTyped}
use Rattle.lift_calls.specs.Calls.{Promise}
use Rattle.lift_calls.specs.Frames.{FunctionNames, NamesApart, KeptTemporary, IsLocal}
use Rattle.lift_calls.specs.Programs.{Setting, setting_in, c_calls}
use Rattle.lift_does.specs.Agree.{NamesMean, AreKeptFrom}
use Rattle.lift_does.specs.Calls.{CallsMean}
use Rattle.lift_does.specs.Gives.{GivesWhere}
use Rattle.lift_does.specs.Here.{Here}
use Rattle.lift_does.specs.Later.{IsLater}
use Rattle.lift_exprs.specs.Lifted.{lifted}
use Rattle.lift_exprs.specs.Names.{Names}
use Rattle.lift_exprs.specs.Written.{Written}
use Rattle.lift_held.specs.Held.{is_void, is_steady}
use Rattle.lift_held.specs.declared.asked.Asked.{Asked}
use Rattle.lift_stands.specs.Keeps.{KeepsOthers}
use Rattle.lift_stands.specs.Stands.{Images}
use Rattle.lift_stands.specs.Worlds.{WorldsStand}
use Rattle.rs_mean.specs.Lookups.{LocalBlock}
use Rattle.rs_mean.specs.Run.{Frame, Flow, normal, run_stmts}
use Rattle.rs_text.specs.Tree.{stmts}

-- ---- where it ends

-- the blocks that a piece may write: those of the temporaries from a number on and below another. A number tells whether it is one.
pub record IsOwn (kept : FunctionNames) (frame : Frame) (from to block : ℕ) : Type 0 where
  pub number : ℕ
  pub from_is : from ≤ number
  pub below : number < to
  pub one : KeptTemporary
  pub kept_is : kept.temporaries number ≡ Some one
  pub local : LocalBlock
  pub is_local : IsLocal frame one.name local
  pub block_is : local.block ≡ block

abbrev pub AreOwn : FunctionNames → Frame → (from to : ℕ) → (own : ℕ → Bool) → Type 0
AreOwn kept frame from to own = (block : ℕ) → own block ≡ true → IsOwn kept frame from to block

-- an operand that is held, or the same whatever is stored
abbrev pub is_fixed : Asked → CExpr → Bool
is_fixed asked e = asked.pinned || is_steady e

-- what was written for an expression has done what that does: its value is given, where it is used, in this pair of worlds and in later ones
pub record DidAs (s : Setting) (home : CHome) (names : Names) (kept : FunctionNames) (used fixed : Bool) (e : CExpr) (written : Written) (from : ℕ) (images : Images) (c_frame : CFrame) (frame : Frame)
    (c_before before : World) (operand : COperand) (c_world : World) (flow : Flow) (world : World) : Type 0 where
  pub flow_is : flow ≡ normal
  pub later : Images
  pub own : ℕ → Bool
  pub are_own : AreOwn kept frame from written.next own
  pub keeps : KeepsOthers (length (blocks_of before)) own images later c_before.held c_world.held before.held world.held
  pub worlds : WorldsStand later c_world world
  pub gives : (last : Images) (c_later after : World) → IsLater s home kept later last c_frame frame written.next fixed operand.marks.reads c_world world c_later after →
      GivesWhere used s names last c_frame frame after e written.given operand.value

-- what surrounds an expression may ask it for a value only where it has one, and the structure or union of a bit-field is used
pub record IsAsked (asked : Asked) (e : CExpr) : Type 0 where
  pub used : asked.used ≡ true → is_void (type_of e) ≡ false
  pub base : asked.is_base ≡ true → asked.used ≡ true

-- ---- the law

abbrev pub Did : Setting → CHome → Names → FunctionNames → Asked → CExpr → (from : ℕ) → Images → CFrame → Frame → (c_before before : World) → COperand → World → Flow → World → Type 0
Did s home names kept asked e from images c_frame frame c_before before =
    DidAs s home names kept asked.used (is_fixed asked e) e (lifted names asked e from) from images c_frame frame c_before before

abbrev pub Does : Setting → Names → FunctionNames → CHome → Asked → CExpr → (from units steps : ℕ) → Type 0
Does s names kept home asked e from units steps =
    (images : Images) (c_frame : CFrame) (frame : Frame) (c_world world : World) → Here s home kept images c_frame frame c_world world →
    Owes events_of events_of (Did s home names kept asked e from images c_frame frame c_world world) units steps
    (c_value (setting_in s) (c_calls s) (c_frame ++ s.statics) e c_world) (run_stmts frame (stmts (lifted names asked e from).body) world)

-- every expression, a value or an lvalue, whose calls can be written
abbrev pub LiftingDoes : Type 0
LiftingDoes =
    (s : Setting) (names : Names) (kept : FunctionNames) (home : CHome) (asked : Asked) (e : CExpr) (from units steps : ℕ) →
    NamesMean s home names kept → NamesApart kept → IsAsked asked e → AreKeptFrom names kept from (lifted names asked e from).temporaries → IsTyped home e ⊎ IsLvalue home e → CallsMean s names e →
    CallsAreTyped s.program s.statics (c_calls s) → Promise s units steps → Does s names kept home asked e from units steps
