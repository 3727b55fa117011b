-- Pieces of any frame whose called bodies behave, and the bodies of a crate's functions.
use Rattle.std.proofs.Common.{◌≡◌, ℕ, zero, suc, ◌+◌, Bool, true, false, List, Option, refl, subst, arith}
use Rattle.cr_runs.specs.Runs.{Ran, out}
use Rattle.cr_world.specs.World.{World, Stop, events_of}
use Rattle.rs_text.specs.Tree.{Eval, FunctionTree, ModuleTree, CrateTree}
use Rattle.rs_mean.specs.declared.cause.Cause.{Cause}
use Rattle.rs_mean.specs.Laws.{bodies_of}
use Rattle.rs_mean.specs.Run.{Bodies, Flow, normal, breaks, continues, returned, run_stmts, after_turn, bodies_within, run_main}
use Rattle.rs_mean.specs.Values.{Typed}
use Rattle.rs_mean.specs.World.{Run, pure, seq, either, Round, again, done}
use Rattle.rs_mean.proofs.Extended.{front_of_itself}
use Rattle.rs_mean.proofs.Pieces.{Related, on_place, on_expr, on_exprs, on_stmt, on_stmts, on_body, on_main}
use Rattle.rs_mean.proofs.Unfolded.{rounds_unfold}
use Rattle.rs_mean_frames.specs.Behave.{TakesJust, Behaves, BodiesBehave}
use Rattle.rs_mean_frames.specs.Laws as law
use Rattle.rs_mean_frames.proofs.Behaving.{Behaving, behaves_pure, behaves_fails, behaves_ends, behaves_local, behaves_begins, behaves_outer, behaves_unit, seq_behaves, rounds_behave}
use Rattle.rs_mean_frames.proofs.Deep.{bodies_same_at, main_at, depth_agree}

abbrev Behind : Bodies → Bodies → Type 0
Behind = Related Behaving behaves_pure behaves_fails behaves_ends behaves_local behaves_begins behaves_outer seq_behaves rounds_behave

behind : (bodies : Bodies) → BodiesBehave bodies → Behind bodies bodies
behind bodies behave = λ fun args. behaves_unit (Option Typed) (bodies fun args) (behave.body fun args)

pub pieces_behave : law.PiecesBehave
pieces_behave = record {
  place = λ frame behave p.
      on_place Behaving behaves_pure behaves_fails behaves_ends behaves_local behaves_begins behaves_outer seq_behaves rounds_behave
      frame.bodies frame.bodies (behind frame.bodies behave) frame.modules frame.locals p;
  expr = λ frame behave e.
      on_expr Behaving behaves_pure behaves_fails behaves_ends behaves_local behaves_begins behaves_outer seq_behaves rounds_behave
      frame.bodies frame.bodies (behind frame.bodies behave) frame.modules frame.locals e;
  exprs = λ frame behave es.
      on_exprs Behaving behaves_pure behaves_fails behaves_ends behaves_local behaves_begins behaves_outer seq_behaves rounds_behave
      frame.bodies frame.bodies (behind frame.bodies behave) frame.modules frame.locals es;
  dropped = λ frame behave e.
      on_stmt Behaving behaves_pure behaves_fails behaves_ends behaves_local behaves_begins behaves_outer seq_behaves rounds_behave
      frame.bodies frame.bodies (behind frame.bodies behave) frame.modules frame.locals (Eval e);
  stmt = λ frame behave s.
      on_stmt Behaving behaves_pure behaves_fails behaves_ends behaves_local behaves_begins behaves_outer seq_behaves rounds_behave
      frame.bodies frame.bodies (behind frame.bodies behave) frame.modules frame.locals s;
  stmts = λ frame behave ss.
      on_stmts Behaving behaves_pure behaves_fails behaves_ends behaves_local behaves_begins behaves_outer seq_behaves rounds_behave
      frame.bodies frame.bodies (behind frame.bodies behave) frame.modules frame.locals ss;
  function = λ modules bodies behave fun args.
      on_body Behaving behaves_pure behaves_fails behaves_ends behaves_local behaves_begins behaves_outer seq_behaves rounds_behave
      modules bodies bodies (behind bodies behave) fun args;
}

-- ---- the bodies of a crate's functions

none_within : (fun : FunctionTree) (args : List Typed) → Behaves (Option Typed) (λ world units. out world)
none_within fun args = record {
  leaves = λ world units. tt;
  rests = λ world. refl;
  adds = λ world units. front_of_itself (events_of world);
  takes = λ world units more. front_of_itself (events_of world);
}

pub within_behave : (modules : List ModuleTree) (depth : ℕ) → BodiesBehave (bodies_within modules depth)
within_behave modules zero = record { body = none_within }
within_behave modules (suc depth) = record {
  body = λ fun args. pieces_behave.function modules (bodies_within modules depth) (within_behave modules depth) fun args;
}

-- within more units the same body is as deep as the units go then
taken_by : {A : Type 0} (run later other : Ran (Stop Cause) World A) (more : ℕ) → later ≡ other → TakesJust run later more → TakesJust run other more
taken_by run later other more is takes = subst (λ (one : Ran (Stop Cause) World _). TakesJust run one more) is takes

all_take : (modules : List ModuleTree) (fun : FunctionTree) (args : List Typed) (world : World) (units more : ℕ) →
    TakesJust (bodies_of modules fun args world units) (bodies_of modules fun args world (units + more)) more
all_take modules fun args world units more =
    let deep : BodiesBehave (bodies_within modules (suc (units + more))) = within_behave modules (suc (units + more)) in
    subst (λ (run : Ran (Stop Cause) World (Option Typed)). TakesJust run (bodies_of modules fun args world (units + more)) more)
    (depth_agree modules (suc (units + more)) (suc units) fun args world units (omega arith) (omega arith))
    ((deep.body fun args).takes world units more)

pub all_behave : (modules : List ModuleTree) → BodiesBehave (bodies_of modules)
all_behave modules = record {
  body = λ fun args. record {
    leaves = λ world units. ((within_behave modules (suc units)).body fun args).leaves world units;
    rests = λ world. ((within_behave modules 1).body fun args).rests world;
    adds = λ world units. ((within_behave modules (suc units)).body fun args).adds world units;
    takes = all_take modules fun args;
  };
}

main_behaves : (whole : CrateTree) (bodies : Bodies) → BodiesBehave bodies → Behaves (Unit {0}) (run_main whole bodies)
main_behaves whole bodies behave =
    on_main Behaving behaves_pure behaves_fails behaves_ends behaves_local behaves_begins behaves_outer seq_behaves rounds_behave
    whole bodies bodies (behind bodies behave)

pub programs_behave : law.ProgramsBehave
programs_behave = record { within = within_behave; all = all_behave; main = main_behaves }

-- ---- turns and loops

pub turns_unfold : (S A : Type 0) → law.RoundsUnfold S A
turns_unfold S A turn behave state world units = rounds_unfold S A turn (λ one. (behave one).leaves) state world units

either_behaves : (A : Type 0) (test : Bool) (one other : Run A) → Behaves A one → Behaves A other → Behaves A (either test one other)
either_behaves A true one other h k = h
either_behaves A false one other h k = k

pub after_behaves : (name : Option (List ℕ)) (flow : Flow) → Behaves (Round (Unit {0}) Flow) (after_turn name flow)
after_behaves name normal = behaves_pure _ _
after_behaves name (breaks label) = either_behaves _ _ (pure (done normal)) (pure (done (breaks label))) (behaves_pure _ _) (behaves_pure _ _)
after_behaves name (continues label) = either_behaves _ _ (pure (again tt)) (pure (done (continues label))) (behaves_pure _ _) (behaves_pure _ _)
after_behaves name (returned value) = behaves_pure _ _

pub loops_unfold : law.LoopsUnfold
loops_unfold frame behave label body world units =
    let run : Run Flow = run_stmts frame body in
    turns_unfold (Unit {0}) Flow (λ _. seq run (after_turn label))
    (λ _. seq_behaves Flow (Round (Unit {0}) Flow) run run (after_turn label) (after_turn label) (pieces_behave.stmts frame behave body) (after_behaves label))
    tt world units

-- ---- depth of nested calls

pub main_unfolds : law.MainUnfolds
main_unfolds = record {
  main = λ whole depth world units less. main_at whole depth units world less;
  body = λ modules fun args depth world units less. bodies_same_at modules depth fun args world units less;
  program = λ whole world units. main_at whole (suc units) units world (omega arith);
}
