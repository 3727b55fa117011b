-- Laws of the runs of all pieces in any frame whose called bodies behave, and of the bodies of a crate's functions.
use Rattle.std.specs.Prelude.{◌≡◌, ℕ, suc, ◌<◌, List, Option}
use Rattle.cr_world.specs.World.{World}
use Rattle.rs_text.specs.Tree.{Place, Expr, Exprs, Loop, Stmt, Stmts, FunctionTree, ModuleTree, CrateTree}
use Rattle.rs_mean.specs.Calls.{Spot}
use Rattle.rs_mean.specs.Laws.{bodies_of}
use Rattle.rs_mean.specs.Run.{Bodies, Frame, run_place, run_expr, run_exprs, Flow, run_dropped, run_stmt, run_stmts, after_turn, run_function, bodies_within, run_main, ran}
use Rattle.rs_mean.specs.Values.{Typed}
use Rattle.rs_mean.specs.World.{Run, seq, takes_unit, Round, next_turn, rounds}
use Rattle.rs_mean_frames.specs.Behave.{Behaves, BodiesBehave}

-- each piece of a frame whose called bodies behave behaves, and so does a function that calls them
pub record PiecesBehave : Type 0 where
  pub place : (frame : Frame) → BodiesBehave frame.bodies → (p : Place) → Behaves Spot (run_place frame p)
  pub expr : (frame : Frame) → BodiesBehave frame.bodies → (e : Expr) → Behaves Typed (run_expr frame e)
  pub exprs : (frame : Frame) → BodiesBehave frame.bodies → (es : Exprs) → Behaves (List Typed) (run_exprs frame es)
  pub dropped : (frame : Frame) → BodiesBehave frame.bodies → (e : Expr) → Behaves Flow (run_dropped frame e)
  pub stmt : (frame : Frame) → BodiesBehave frame.bodies → (s : Stmt) → Behaves Flow (run_stmt frame s)
  pub stmts : (frame : Frame) → BodiesBehave frame.bodies → (ss : Stmts) → Behaves Flow (run_stmts frame ss)
  pub function : (modules : List ModuleTree) (bodies : Bodies) → BodiesBehave bodies → (fun : FunctionTree) (args : List Typed) →
      Behaves (Option Typed) (run_function modules bodies fun args)

-- the bodies of a crate's functions behave, at any depth of nested calls
pub record ProgramsBehave : Type 0 where
  pub within : (modules : List ModuleTree) (depth : ℕ) → BodiesBehave (bodies_within modules depth)
  pub all : (modules : List ModuleTree) → BodiesBehave (bodies_of modules)
  pub main : (whole : CrateTree) (bodies : Bodies) → BodiesBehave bodies → Behaves (Unit {0}) (run_main whole bodies)

-- turns unfold where each leaves no more units than it had: a unit is taken, then a turn, and then what it says
abbrev pub RoundsUnfold : (S A : Type 0) → Type 0
RoundsUnfold S A =
    (turn : S → Run (Round S A)) → ((state : S) → Behaves (Round S A) (turn state)) → (state : S) (world : World) (units : ℕ) →
    rounds turn state world units ≡ takes_unit (seq (turn state) (next_turn (rounds turn))) world units

-- a loop unfolds in any frame whose called bodies behave
abbrev pub LoopsUnfold : Type 0
LoopsUnfold =
    (frame : Frame) → BodiesBehave frame.bodies → (label : Option (List ℕ)) (body : Stmts) (world : World) (units : ℕ) →
    run_stmt frame (Loop label body) world units
    ≡ takes_unit (seq (seq (run_stmts frame body) (after_turn label)) (next_turn (λ _. run_stmt frame (Loop label body)))) world units

-- `main.rs`, and the body of a function, run the same at any depth of nested calls that isn't less than the units
pub record MainUnfolds : Type 0 where
  pub main : (whole : CrateTree) (depth : ℕ) (world : World) (units : ℕ) → units < suc depth →
      run_main whole (bodies_within whole.modules depth) world units ≡ run_main whole (bodies_of whole.modules) world units
  pub body : (modules : List ModuleTree) (fun : FunctionTree) (args : List Typed) (depth : ℕ) (world : World) (units : ℕ) → units < depth →
      bodies_within modules depth fun args world units ≡ bodies_of modules fun args world units
  pub program : (whole : CrateTree) (world : World) (units : ℕ) → ran whole world units ≡ run_main whole (bodies_of whole.modules) world units
