-- What both runs are to each other behind a part of a body: steps of C alone, parts that are done, and what follows them.
use Rattle.std.proofs.Common.{◌≡◌, ◌∙◌, ℕ, suc, pred, ◌+◌, ◌≤◌, Bool, true, false, List, [], ◌∷◌, ◌++◌, Option, Some, None, Result, Ok, Err, if◌then◌else◌, arith, refl, sym, ap, subst}
use Rattle.cr_base.specs.declared.refusal.Place.{Place}
use Rattle.cr_runs.specs.Owes.{Owes, Rests}
use Rattle.cr_runs.specs.Runs.{Ran, came, halted, bad, out, bind, tick}
use Rattle.cr_runs.proofs.Rules.{pieces, renamed, below, no_meaning, bind_bind}
use Rattle.cr_runs_rules.proofs.Rules.{alone, pieces_taken}
use Rattle.cr_runs_rules.specs.Steps.{StepsTo, TakesAStep}
use Rattle.cr_world.specs.World.{World, Stop, events_of}
use Rattle.ext_calls.specs.declared.call.Call.{Call}
use Rattle.cx_mean.specs.BodyGraph.{at_end}
use Rattle.cx_mean.specs.Leftmost.{CRan, CPiece}
use Rattle.cx_mean.specs.Moves.{CMove}
use Rattle.cx_mean.specs.Operands.{CStop, CValue, Frame as CFrame}
use Rattle.build_flow_nodes.specs.Builder.{end_point}
use Rattle.build_flow_nodes.specs.Flows.{branch_places}
use Rattle.build_flow_nodes.specs.Points.{FlowPlace, at_part, PlacedBranch, goes, tests as tests_by, chooses, returns as gives_back, Point, jump, behind}
use Rattle.rs_mean.specs.declared.cause.Cause.{Cause}
use Rattle.rs_mean.specs.Laws.{behind as list_behind}
use Rattle.rs_mean.specs.Run.{Frame, Flow, normal, breaks, continues, returned, run_expr, run_stmts, then_on, tests}
use Rattle.rs_mean.specs.Values.{Typed, test_of}
use Rattle.rs_mean.specs.World.{Run, pure, fails, seq, or_fails}
use Rattle.rs_mean.proofs.Unfolded.{lists_follow}
use Rattle.rs_mean_frames.proofs.Behaving.{behaves_pure, behaves_fails, behaves_seq}
use Rattle.rs_mean_frames.proofs.Framed.{pieces_behave}
use Rattle.rs_mean_frames.specs.Behave.{Behaves, BodiesBehave}
use Rattle.rs_text.specs.Tree.{Expr, Stmt, Stmts, more_stmts, stmts}
use Rattle.build_flow_moves.specs.Coded.{AtPlace}
use Rattle.build_flow_moves.specs.Parts.{Stage, objects_in, AlwaysHere, RunsTo, PieceOwes}
use Rattle.build_flow_moves.specs.Runs.{place_chosen, run_given, run_last, then_run, run_point}

-- ---- lists of statements

stmts_joined : (first others : List Stmt) → stmts (first ++ others) ≡ list_behind (stmts first) (stmts others)
stmts_joined [] others = refl
stmts_joined (one ∷ first) others = ap (more_stmts one) (stmts_joined first others)

-- ---- what follows a point

pub record Course (a : Stage) : Type 1 where
  pub at : FlowPlace → Option Point
  pub end_there : at (at_part at_end) ≡ Some (end_point a.of)
  pub B : Type 0
  pub Good : CValue → World → B → World → Type 0
  -- what follows at each place, and where the function gives back a value
  pub next : FlowPlace → Run B
  pub back : Option Typed → Run B
  -- units, and the steps that are left behind the first
  pub n : ℕ
  pub most : ℕ
  pub few : n ≤ a.most_units
  pub little : most ≤ a.most_steps
  pub behave : BodiesBehave a.frame.bodies
  pub always : AlwaysHere a
  -- where control may go
  pub Allowed : FlowPlace → Type 0
  pub quiet : (place : FlowPlace) (world : World) → Rests events_of (events_of world) (next place world 0)
  pub back_quiet : (value : Option Typed) (world : World) → Rests events_of (events_of world) (back value world 0)
  pub go : (less : ℕ) (place : FlowPlace) (move : CMove) (slots : CFrame) (c_world world : World) → less ≤ most → AtPlace a at place move slots → a.Here slots c_world world →
      Allowed place → Owes events_of events_of Good n less (a.goes move c_world) (next place world)
  pub go_back : (less : ℕ) (value : CValue) (c_world : World) (given : Option Typed) (world : World) → less ≤ most → a.Back value c_world given world →
      Owes {F = CStop} events_of events_of Good n less (came value c_world) (back given world)

-- what is silent without a unit is so behind a piece that behaves
rests_then : {A B : Type 0} (world : World) (next : A → Run B) → ((value : A) (after : World) → Rests events_of (events_of after) (next value after 0)) → (run : Ran (Stop Cause) World A) →
    Rests events_of (events_of world) run → Rests events_of (events_of world) (bind run next)
rests_then world next silent (came value after left) is =
    subst (λ (events : List Call). Rests events_of events (next value after left)) is.1 (subst (λ (k : ℕ). Rests events_of (events_of after) (next value after k)) (sym is.0) (silent value after))
rests_then world next silent (halted status after) is = is
rests_then world next silent (bad why after) is = is
rests_then world next silent (out after) is = is

silent_seq : {A B : Type 0} (first : Run A) (next : A → Run B) → Behaves A first → ((value : A) (world : World) → Rests events_of (events_of world) (next value world 0)) → (world : World) →
    Rests events_of (events_of world) (seq first next world 0)
unfolding seq
silent_seq first next behaves silent world = rests_then world next silent (first world 0) (behaves.rests world)

or_fails_behaves : {A : Type 0} (outcome : Result A Cause) → Behaves A (or_fails outcome)
or_fails_behaves {A = A} (Ok value) = behaves_pure A value
or_fails_behaves {A = A} (Err why) = behaves_fails A why

module _ (a : Stage) (c : Course a) where
  abbrev pub Goes : CMove → World → ℕ → CRan CValue
  Goes = a.goes

  -- what is owed to a run of C
  abbrev pub OwedTo : ℕ → (ℕ → CRan CValue) → Run c.B → World → Type 0
  OwedTo m source run world = Owes events_of events_of c.Good c.n m source (run world)

  abbrev pub point_run : Point → Run c.B
  point_run point = run_point a.frame c.next c.back point

  abbrev pub last_run : Point → Run c.B
  last_run point = run_last a.frame c.next c.back point.last

  abbrev pub then_runs : Run c.B → Flow → Run c.B
  then_runs = then_run a.frame c.next c.back

  -- a branch goes where it may
  abbrev pub AllAimed : List FlowPlace → Type 0
  AllAimed [] = Unit {0}
  AllAimed (place ∷ others) = c.Allowed place × AllAimed others

  abbrev pub IsAimed : Point → Type 0
  IsAimed point = AllAimed (branch_places point.last)

  -- ---- silence

  abbrev IsSilent : Run c.B → Type 0
  IsSilent run = (world : World) → Rests events_of (events_of world) (run world 0)

  then_silent : (run : Run c.B) → IsSilent run → (flow : Flow) (world : World) → Rests events_of (events_of world) (then_runs run flow world 0)
  unfolding fails
  then_silent run silent normal world = silent world
  then_silent run silent (breaks label) world = refl
  then_silent run silent (continues label) world = refl
  then_silent run silent (returned value) world = c.back_quiet value world

  tests_behave : (operand : Typed) → Behaves Bool (tests operand)
  tests_behave operand = or_fails_behaves (test_of operand)

  given_behaves : (value : Option Expr) → Behaves (Option Typed) (run_given a.frame value)
  given_behaves None = behaves_pure (Option Typed) None
  given_behaves (Some e) =
      behaves_seq Typed (Option Typed) (run_expr a.frame e) (λ value. pure (Some value)) (pieces_behave.expr a.frame c.behave e) (λ value. behaves_pure (Option Typed) (Some value))

  pub last_silent : (branch : PlacedBranch) → IsSilent (run_last a.frame c.next c.back branch)
  last_silent (goes to) world = c.quiet to world
  last_silent (tests_by e if_true if_false) world =
      silent_seq (run_expr a.frame e) _ (pieces_behave.expr a.frame c.behave e)
      (λ value after. silent_seq (tests value) _ (tests_behave value) (λ holds later. c.quiet (if holds then if_true else if_false) later) after) world
  last_silent (chooses one) world =
      silent_seq (run_expr a.frame one.on) _ (pieces_behave.expr a.frame c.behave one.on) (λ operand after. c.quiet (place_chosen operand one.cases one.other) after) world
  last_silent (gives_back value) world = silent_seq (run_given a.frame value) c.back (given_behaves value) (λ given after. c.back_quiet given after) world

  pub point_silent : (point : Point) → IsSilent (point_run point)
  point_silent point world =
      silent_seq (run_stmts a.frame (stmts point.body)) (then_runs (last_run point)) (pieces_behave.stmts a.frame c.behave (stmts point.body))
      (λ flow after. then_silent (last_run point) (last_silent point.last) flow after) world

  -- ---- statements in front of a point

  then_then : (run : Run c.B) (rest : Run Flow) (flow : Flow) (world : World) (units : ℕ) → bind (then_on rest flow world units) (then_runs run) ≡ then_runs (seq rest (then_runs run)) flow world units
  unfolding seq pure
  then_then run rest normal world units = refl
  then_then run rest (breaks label) world units = refl
  then_then run rest (continues label) world units = refl
  then_then run rest (returned value) world units = refl

  bind_same : {A B : Type 0} (r : Ran (Stop Cause) World A) (go on : A → Run B) → ((value : A) (world : World) (units : ℕ) → go value world units ≡ on value world units) →
      bind r go ≡ bind r on
  bind_same (came value world left) go on same = same value world left
  bind_same (halted status world) go on same = refl
  bind_same (bad why world) go on same = refl
  bind_same (out world) go on same = refl

  pub behind_runs : (body : List Stmt) (point : Point) (world : World) (units : ℕ) →
      point_run (behind body point) world units ≡ seq (run_stmts a.frame (stmts body)) (then_runs (point_run point)) world units
  unfolding seq
  behind_runs body point world units =
      ap (λ (ss : Stmts). bind (run_stmts a.frame ss world units) (then_runs (last_run point))) (stmts_joined body point.body)
      ∙ ap (λ r. bind r (then_runs (last_run point))) (lists_follow a.frame (stmts body) (stmts point.body) world units)
      ∙ bind_bind (run_stmts a.frame (stmts body) world units) (then_on (run_stmts a.frame (stmts point.body))) (then_runs (last_run point))
      ∙ bind_same (run_stmts a.frame (stmts body) world units) (λ flow w k. bind (then_on (run_stmts a.frame (stmts point.body)) flow w k) (then_runs (last_run point)))
      (λ flow w k. then_runs (point_run point) flow w k) (λ flow w k. then_then (last_run point) (run_stmts a.frame (stmts point.body)) flow w k)

  pub jump_runs : (to : FlowPlace) (world : World) (units : ℕ) → point_run (jump to) world units ≡ c.next to world units
  unfolding seq pure
  jump_runs to world units = refl

  -- ---- what is owed

  pub owed_below : (m less : ℕ) (source : ℕ → CRan CValue) (run : Run c.B) (world : World) → less ≤ m → OwedTo m source run world → OwedTo less source run world
  owed_below m less source run world few owed = below events_of events_of c.Good c.n m c.n less source (run world) (omega arith) few owed

  -- to a run that is the same, by one that is
  pub owed_as : (m : ℕ) (source other : ℕ → CRan CValue) (run beside : Run c.B) (world start : World) → ((k : ℕ) → source k ≡ other k) → ((k : ℕ) → run world k ≡ beside start k) →
      OwedTo m other beside start → OwedTo m source run world
  owed_as m source other run beside world start same like owed =
      renamed events_of events_of c.Good c.n m other source (beside start) (run world) (λ k. sym (same k)) (λ k. sym (like k)) owed

  pub owed_by : (m : ℕ) (source : ℕ → CRan CValue) (run beside : Run c.B) (world start : World) → ((k : ℕ) → run world k ≡ beside start k) → OwedTo m source beside start → OwedTo m source run world
  owed_by m source run beside world start like owed = owed_as m source source run beside world start (λ k. refl) like owed

  -- where a run of C has no meaning
  pub nothing_owed : (m : ℕ) (stop : CStop) (c_world : World) (source : ℕ → CRan CValue) (run : Run c.B) (world : World) → ((k : ℕ) → source k ≡ bad stop c_world) → OwedTo m source run world
  nothing_owed m stop c_world source run world is =
      owed_as m source (λ k. bad stop c_world) run run world world is (λ k. refl) (no_meaning events_of events_of c.Good c.n m stop c_world (run world))

  -- a step of C alone
  pub stepped : (m : ℕ) (slots : CFrame) (c_world world : World) (source later : ℕ → CRan CValue) (run : Run c.B) → a.Here slots c_world world → IsSilent run → StepsTo source c_world later →
      OwedTo (pred m) later run world → OwedTo m source run world
  stepped m slots c_world world source later run here silent steps owed =
      alone events_of events_of c.Good c.n m c_world source later (run world) steps
      (subst (λ (events : List Call). Rests events_of events (run world 0)) (sym (c.always.same slots c_world world here)) (silent world)) owed

  -- ---- parts that are done

  module _ {A : Type 0} (scope : List ℕ) (piece : CFrame → CPiece A) (written : List Stmt) (Holds : CFrame → A → World → World → Type 0) (done : PieceOwes a scope piece written Holds)
      (slots : CFrame) (m : ℕ) (c_world world : World) (known : objects_in slots ≡ scope) (little : m ≤ a.most_steps) (here : a.Here slots c_world world)
      (go : A → CPiece CValue) (run : Run c.B) (silent : IsSilent run) where
    abbrev pub part_run : Run c.B
    part_run = seq (run_stmts a.frame (stmts written)) (then_runs run)

    abbrev IsDone : A → World → Flow → World → Type 0
    IsDone value c_after flow after = (flow ≡ normal) × Holds slots value c_after after

    in_order : (less : ℕ) → ((value : A) (c_after after : World) → Holds slots value c_after after → OwedTo less (go value c_after) run after) →
        (value : A) (c_after : World) (flow : Flow) (after : World) → IsDone value c_after flow after → OwedTo less (go value c_after) (then_runs run flow) after
    in_order less then_owed value c_after normal after is = then_owed value c_after after is.1
    in_order less then_owed value c_after (breaks label) after is = let no = is.0 in cc
    in_order less then_owed value c_after (continues label) after is = let no = is.0 in cc
    in_order less then_owed value c_after (returned given) after is = let no = is.0 in cc

    pub part_owed : ((value : A) (c_after after : World) → Holds slots value c_after after → OwedTo m (go value c_after) run after) →
        OwedTo m (λ k. bind (piece slots c_world k) go) part_run world
    unfolding seq
    part_owed then_owed =
        pieces events_of events_of IsDone c.Good (piece slots c_world) (run_stmts a.frame (stmts written) world) go (λ flow. then_runs run flow) c.n m
        (done slots c_world world c.n m c.few little known here) (λ flow after. then_silent run silent flow after) (λ value c_after flow after is. in_order m then_owed value c_after flow after is)

    pub part_taken : TakesAStep (piece slots c_world) → ((value : A) (c_after after : World) → Holds slots value c_after after → OwedTo (pred m) (go value c_after) run after) →
        OwedTo m (λ k. bind (piece slots c_world k) go) part_run world
    unfolding seq
    part_taken takes then_owed =
        pieces_taken events_of events_of IsDone c.Good (piece slots c_world) (run_stmts a.frame (stmts written) world) go (λ flow. then_runs run flow) c.n m takes
        (done slots c_world world c.n m c.few little known here) (λ flow after. then_silent run silent flow after) (λ value c_after flow after is. in_order (pred m) then_owed value c_after flow after is)

  -- ---- statements that run to their end

  pub ran_owed : (m : ℕ) (source : ℕ → CRan CValue) (written : List Stmt) (point : Point) (world after : World) → RunsTo a.frame written world after → OwedTo m source (point_run point) after →
      OwedTo m source (point_run (behind written point)) world
  unfolding seq
  ran_owed m source written point world after runs owed =
      owed_by m source (point_run (behind written point)) (point_run point) world after
      (λ k. behind_runs written point world k ∙ ap (λ r. bind r (then_runs (point_run point))) (runs.runs k)) owed
