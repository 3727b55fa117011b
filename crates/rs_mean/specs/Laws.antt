-- Laws of the runs, which functions with empty bodies carry.
use Rattle.std.specs.Prelude.{◌≡◌, ℕ, suc, ◌+◌, ◌≤◌, ℤ, List, ◌++◌, Option}
use Rattle.cr_runs.specs.Runs.{Ran, came, halted, bad, out, state_of}
use Rattle.cr_world.specs.World.{World, Outside, Terms, open_ended, trail_of, Stop, wrong, full, asks, astray, events_of}
use Rattle.mem_bytes.specs.Counted.{Limit}
use Rattle.rs_text.specs.Tree.{Expr, Loop, Stmts, no_stmts, more_stmts, FunctionTree, ModuleTree, CrateTree}
use Rattle.rs_mean.specs.declared.cause.Cause.{Cause}
use Rattle.rs_mean.specs.Lookups.{LocalBlock}
use Rattle.rs_mean.specs.Run.{Bodies, Frame, run_expr, run_stmt, run_stmts, after_turn, then_on, run_function, bodies_within, RProgress, going, ended, stopped, rs_run_on}
use Rattle.rs_mean.specs.Values.{Typed}
use Rattle.rs_mean.specs.World.{seq, takes_unit, next_turn}

-- ---- budgets

-- one list is the front of another
abbrev pub IsFrontOf : {A : Type 0} → List A → List A → Type 0
IsFrontOf {A} front whole = (rest : List A) × (whole ≡ front ++ rest)

-- a run that goes on within its budget
abbrev pub IsGoing : RProgress → Type 0
IsGoing going = Unit {0}
IsGoing (ended status) = ⊥
IsGoing (stopped stop) = ⊥

-- a run that doesn't go on shows the same within every greater budget
abbrev pub MoreBudgetContinues : Type 0
MoreBudgetContinues =
    (terms : Terms) (whole : CrateTree) (outside : Outside) (units more : ℕ) →
    ¬ IsGoing (rs_run_on terms whole outside units).progress →
    rs_run_on terms whole outside (units + more) ≡ rs_run_on terms whole outside units

-- within a greater budget the events begin with those within a smaller one
abbrev pub EventsGrow : Type 0
EventsGrow =
    (terms : Terms) (whole : CrateTree) (outside : Outside) (units more : ℕ) →
    IsFrontOf (rs_run_on terms whole outside units).events (rs_run_on terms whole outside (units + more)).events

-- a run that has ended stays ended, with its status
abbrev pub EndedStaysEnded : Type 0
EndedStaysEnded =
    (terms : Terms) (whole : CrateTree) (outside : Outside) (units more : ℕ) (status : ℤ) →
    (rs_run_on terms whole outside units).progress ≡ ended status →
    (rs_run_on terms whole outside (units + more)).progress ≡ ended status

-- ---- trails

-- what a run stops by isn't the end of a trail, a full store, or an answer of another store
abbrev pub IsOfRun : RProgress → Type 0
IsOfRun going = Unit {0}
IsOfRun (ended status) = Unit {0}
IsOfRun (stopped (wrong cause)) = Unit {0}
IsOfRun (stopped (full need left)) = ⊥
IsOfRun (stopped (asks call)) = ⊥
IsOfRun (stopped astray) = ⊥

-- a run under a trail, where that doesn't stop it, is the run under the outside of its answers
abbrev pub TrailIsOutside : Type 0
TrailIsOutside =
    (limit : Option Limit) (whole : CrateTree) (trail : Outside) (units : ℕ) →
    IsOfRun (rs_run_on (trail_of limit) whole trail units).progress →
    rs_run_on open_ended whole trail units ≡ rs_run_on (trail_of limit) whole trail units

-- ---- pieces

-- a frame of a body of a crate
abbrev pub frame_in : List ModuleTree → ℕ → List LocalBlock → Frame
frame_in modules depth locals = record { modules = modules; locals = locals; bodies = bodies_within modules depth }

-- a piece that came to its end left no more units than it had
abbrev pub LeavesWithin : {A : Type 0} → ℕ → Ran (Stop Cause) World A → Type 0
LeavesWithin units (came value world left) = left ≤ units
LeavesWithin units (halted status world) = Unit {0}
LeavesWithin units (bad stop world) = Unit {0}
LeavesWithin units (out world) = Unit {0}

pub record LeavesNoMore : Type 0 where
  pub expr : (modules : List ModuleTree) (depth : ℕ) (locals : List LocalBlock) (e : Expr) (world : World) (units : ℕ) →
      LeavesWithin units (run_expr (frame_in modules depth locals) e world units)
  pub stmts : (modules : List ModuleTree) (depth : ℕ) (locals : List LocalBlock) (ss : Stmts) (world : World) (units : ℕ) →
      LeavesWithin units (run_stmts (frame_in modules depth locals) ss world units)

-- nothing is shown without a unit: a piece that has none calls nothing outside
pub record ShowsNothing : Type 0 where
  pub expr : (modules : List ModuleTree) (depth : ℕ) (locals : List LocalBlock) (e : Expr) (world : World) →
      events_of (state_of (run_expr (frame_in modules depth locals) e world 0)) ≡ events_of world
  pub stmts : (modules : List ModuleTree) (depth : ℕ) (locals : List LocalBlock) (ss : Stmts) (world : World) →
      events_of (state_of (run_stmts (frame_in modules depth locals) ss world 0)) ≡ events_of world

-- statements behind others
abbrev pub behind : Stmts → Stmts → Stmts
behind no_stmts others = others
behind (more_stmts s ss) others = more_stmts s (behind ss others)

-- a list of statements behind another runs where control goes on behind that
abbrev pub ListsFollow : Type 0
ListsFollow =
    (frame : Frame) (first others : Stmts) (world : World) (units : ℕ) →
    run_stmts frame (behind first others) world units ≡ seq (run_stmts frame first) (then_on (run_stmts frame others)) world units

-- a loop unfolds: a unit is taken, then its body runs, then what that says
abbrev pub LoopsUnfold : Type 0
LoopsUnfold =
    (modules : List ModuleTree) (depth : ℕ) (locals : List LocalBlock) (label : Option (List ℕ)) (body : Stmts) (world : World) (units : ℕ) →
    run_stmt (frame_in modules depth locals) (Loop label body) world units
    ≡ takes_unit (seq (seq (run_stmts (frame_in modules depth locals) body) (after_turn label))
    (next_turn (λ _. run_stmt (frame_in modules depth locals) (Loop label body)))) world units

-- the bodies of called functions, as deep as the units go
abbrev pub bodies_of : List ModuleTree → Bodies
bodies_of modules fun args = λ world units. bodies_within modules (suc units) fun args world units

-- bodies unfold: how deep calls may be nested plays no part
abbrev pub BodiesUnfold : Type 0
BodiesUnfold =
    (modules : List ModuleTree) (fun : FunctionTree) (args : List Typed) (world : World) (units : ℕ) →
    bodies_of modules fun args world units ≡ run_function modules (bodies_of modules) fun args world units
