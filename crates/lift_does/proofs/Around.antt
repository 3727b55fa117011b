-- What surrounds an expression: its program and its crate, their names, and what called functions owe.
use Rattle.std.proofs.Common.{ℕ, Bool, List, ◌++◌, length}
use Rattle.cr_runs.specs.Owes.{Owes}
use Rattle.cr_world.specs.World.{World, blocks_of, events_of}
use Rattle.cx_core.specs.Trees.{CExpr}
use Rattle.cx_core.specs.Typing.{CHome}
use Rattle.cx_mean.specs.Leftmost.{CRan, c_value}
use Rattle.cx_mean.specs.Marks.{Range}
use Rattle.cx_mean.specs.Operands.{COperand, Frame as CFrame}
use Rattle.cx_typed_leftmost.specs.Laws.{CallsAreTyped}
use Rattle.lift_calls.specs.Calls.{Promise}
use Rattle.lift_calls.specs.Frames.{FunctionNames, NamesApart}
use Rattle.lift_calls.specs.Programs.{Setting, setting_in, c_calls}
use Rattle.lift_does.specs.Agree.{NamesMean}
use Rattle.lift_does.specs.Does.{AreOwn, DidAs}
use Rattle.lift_does.specs.Gives.{GivesOperand}
use Rattle.lift_does.specs.Here.{Here}
use Rattle.lift_does.specs.Later.{IsLater}
use Rattle.lift_exprs.specs.Names.{Names}
use Rattle.lift_exprs.specs.Written.{Written}
use Rattle.lift_forms.specs.Given.{Given}
use Rattle.lift_stands.specs.Keeps.{KeepsOthers}
use Rattle.lift_stands.specs.Stands.{Images}
use Rattle.rs_mean.specs.Run.{Frame, Flow, run_stmts}
use Rattle.rs_mean.specs.World.{Run}
use Rattle.rs_mean_frames.specs.Behave.{BodiesBehave}
use Rattle.rs_text.specs.Tree.{Stmt, stmts}

pub record Around : Type 0 where
  pub s : Setting
  pub names : Names
  pub kept : FunctionNames
  pub home : CHome
  pub c_frame : CFrame
  pub frame : Frame
  pub means : NamesMean s home names kept
  pub apart : NamesApart kept
  pub bodies : BodiesBehave frame.bodies
  pub typed_calls : CallsAreTyped s.program s.statics (c_calls s)
  pub units : ℕ
  pub steps : ℕ
  pub promise : Promise s units steps

-- the objects in scope
abbrev pub scope : Around → CFrame
scope x = x.c_frame ++ x.s.statics

-- a pair of worlds that stand for each other
abbrev pub At : Around → Images → (c_world world : World) → Type 0
At x images c_world world = Here x.s x.home x.kept images x.c_frame x.frame c_world world

abbrev pub LaterAt : Around → (images last : Images) → (below : ℕ) → (fixed : Bool) → List Range → (c_world world c_later later : World) → Type 0
LaterAt x images last below fixed reads c_world world c_later later = IsLater x.s x.home x.kept images last x.c_frame x.frame below fixed reads c_world world c_later later

abbrev pub GivesAs : Around → Images → World → CExpr → Given → COperand → Type 0
GivesAs x images world e given operand = GivesOperand x.s x.names images x.c_frame x.frame world e given operand.value

abbrev pub DidOf : Around → (used fixed : Bool) → CExpr → Written → (from : ℕ) → Images → (c_before before : World) → COperand → World → Flow → World → Type 0
DidOf x used fixed e written from images c_before before operand c_world flow world =
    DidAs x.s x.home x.names x.kept used fixed e written from images x.c_frame x.frame c_before before operand c_world flow world

-- statements run
abbrev pub runs : Around → List Stmt → Run Flow
runs x list = run_stmts x.frame (stmts list)

-- C's evaluation
abbrev pub value_in : Around → CExpr → World → ℕ → CRan COperand
value_in x e world = c_value (setting_in x.s) (c_calls x.s) (scope x) e world

-- what statements owe a piece of C
abbrev pub OweAs : {A : Type 0} → Around → (A → World → Flow → World → Type 0) → (ℕ → CRan A) → List Stmt → World → Type 0
OweAs x Good source list world = Owes events_of events_of Good x.units x.steps source (runs x list world)

-- a piece has come from one pair of worlds to another, and has written the temporaries from a number on and below another
pub record Reached (x : Around) (from to : ℕ) (images later : Images) (c_before before c_world world : World) : Type 0 where
  pub own : ℕ → Bool
  pub are_own : AreOwn x.kept x.frame from to own
  pub keeps : KeepsOthers (length (blocks_of before)) own images later c_before.held c_world.held before.held world.held
  pub at : At x later c_world world
