-- Full expressions, choices, returns, puts and lives, each with what follows it.
use Rattle.std.proofs.Common.{◌≡◌, ◌∙◌, ℕ, zero, suc, pred, ◌+◌, ◌<◌, ◌≤◌, ℤ, Bool, true, false, List, [], ◌∷◌, ◌++◌, Option, Some, None, Result, Ok, Err, if◌then◌else◌, refl, sym, ap, subst, arith, append_assoc}
use Rattle.build_flow_nodes.specs.Builder.{test_point}
use Rattle.build_flow_nodes.specs.Parts.{begun, effect, condition, operand_of}
use Rattle.build_flow_nodes.specs.Points.{FlowPlace, Point, behind}
use Rattle.cr_base.specs.declared.refusal.Place.{Place}
use Rattle.cr_runs.proofs.Rules.{bind_bind}
use Rattle.cr_runs.specs.Runs.{Ran, came, halted, bad, out, bind, tick}
use Rattle.cr_runs_rules.specs.Steps.{StepsTo, LeavesBelow, TakesAStep}
use Rattle.cr_world.specs.World.{World, Got, blocks_of, with_memory}
use Rattle.cx_core.specs.Trees.{CExpr, place_of, put, CPut, CPuts, no_puts, more_puts, CStmt, CStmtForm}
use Rattle.cx_mean.specs.Leftmost.{CRan, CPiece, one_step, or_bad, c_use, c_dropped, c_stand}
use Rattle.cx_mean.specs.Moves.{CMove, CPurpose, chooses_by, values, CStand, slots_in, next_in, is_switch, choosing, switching}
use Rattle.cx_mean.specs.Nodes.{truth_of_value}
use Rattle.cx_mean.specs.Operands.{CWhy, CValue, COperand, stops, Frame as CFrame, scalar_value}
use Rattle.cx_mean.specs.Paths.{CLevel, site_at}
use Rattle.cx_mean.specs.State.{choice_made}
use Rattle.cx_mean.specs.Values.{number_in}
use Rattle.cx_mean.specs.Work.{is_finished, begun as begun_work}
use Rattle.cx_mean_laws.proofs.Unfolded.{leaves_no_more, unfinished_takes}
use Rattle.cx_mean_laws.specs.Laws.{Takes}
use Rattle.mem_bytes.specs.Access.{and_then}
use Rattle.mem_bytes.specs.Memory.{Blocks}
use Rattle.mem_bytes.specs.declared.value.Value.{Value}
use Rattle.rs_mean.specs.Run.{Frame, run_expr, run_stmts, tests}
use Rattle.rs_mean.specs.World.{Run, seq}
use Rattle.rs_text.specs.Tree.{Expr, Stmt, stmts}
use Rattle.build_flow_moves.specs.Parts.{Stage, objects_in, in_scope, value_in, EffectDone, TestsAs, Tested, TestDone}
use Rattle.build_flow_moves.proofs.Course.{Course, Goes, OwedTo, IsAimed, point_run, last_run, then_runs, point_silent, last_silent, behind_runs, owed_as, owed_by, owed_below, nothing_owed, stepped, part_owed, part_taken}

takes_one : {A : Type 0} (bound : ℕ) (piece : CRan A) → Takes 1 bound piece → LeavesBelow bound piece
takes_one bound (came value world left) takes = omega (arith, takes)
takes_one bound (halted status world) takes = tt
takes_one bound (bad stop world) takes = tt
takes_one bound (out world) takes = tt

module _ (a : Stage) (c : Course a) where
  -- the bound of what is behind a step at least is one within which all that follows is owed
  pub record Within (m : ℕ) : Type 0 where
    pub behind : pred m ≤ c.most
    pub little : m ≤ a.most_steps

  pub within : (m : ℕ) → m ≤ c.most → Within m
  within m few = record { behind = omega (arith, few); little = let most = c.little in omega (arith, few, most) }

  -- what follows in open statements is owed by a point
  abbrev pub NextOwed : List CLevel → Point → Type 0
  NextOwed levels point =
      (less : ℕ) → less ≤ c.most → (c_world world : World) → a.Here (slots_in levels) c_world world → IsAimed a c point →
      OwedTo a c less (c_stand a.goes (next_in levels a.bottom (blocks_of c_world)) c_world) (point_run a c point) world

  -- ---- expressions whose values are dropped

  unfinished_steps : (slots : CFrame) (e : CExpr) (c_world : World) → is_finished (begun_work e) ≡ false → TakesAStep (value_in a slots e c_world)
  unfinished_steps slots e c_world is bound =
      takes_one bound (value_in a slots e c_world bound) (unfinished_takes a.setting _ (in_scope a slots) e c_world bound a.bounded is)

  module _ (e : CExpr) (number : ℕ) (slots : CFrame) (done : EffectDone a (objects_in slots) e number) (m : ℕ) (near : Within m) (c_world world : World) (here : a.Here slots c_world world)
      (purpose : CPurpose) (after : Blocks → CStand) (point : Point)
      (goes_as : (k : ℕ) → a.goes (values e purpose) c_world k
      ≡ bind (value_in a slots e c_world k) (λ operand later. c_dropped a.goes (is_finished (begun_work e)) (after (blocks_of later)) later))
      (owed : (less : ℕ) → less ≤ c.most → (c_end end : World) → a.Here slots c_end end → OwedTo a c less (c_stand a.goes (after (blocks_of c_end)) c_end) (point_run a c point) end) where
    abbrev drop_run : Bool → COperand → CPiece CValue
    drop_run finished operand later = c_dropped a.goes finished (after (blocks_of later)) later

    dropped_by : (finished : Bool) → is_finished (begun_work e) ≡ finished →
        OwedTo a c m (λ k. bind (value_in a slots e c_world k) (drop_run finished)) (seq (run_stmts a.frame (stmts (effect a.of e number))) (then_runs a c (point_run a c point))) world
    dropped_by true is =
        part_owed a c (objects_in slots) (λ some. value_in a some e) (effect a.of e number) (λ some operand c_after later. a.Here some c_after later) done slots m c_world world refl near.little here
        (drop_run true) (point_run a c point) (point_silent a c point)
        (λ operand c_after later there.
        stepped a c m slots c_after later (drop_run true operand c_after) (c_stand a.goes (after (blocks_of c_after)) c_after) (point_run a c point) there (point_silent a c point) (λ k. refl)
        (owed (pred m) near.behind c_after later there))
    dropped_by false is =
        part_taken a c (objects_in slots) (λ some. value_in a some e) (effect a.of e number) (λ some operand c_after later. a.Here some c_after later) done slots m c_world world refl near.little here
        (drop_run false) (point_run a c point) (point_silent a c point) (unfinished_steps slots e c_world is)
        (λ operand c_after later there. owed (pred m) near.behind c_after later there)

    pub dropped_owed : OwedTo a c m (a.goes (values e purpose) c_world) (point_run a c (behind (effect a.of e number) point)) world
    dropped_owed =
        owed_as a c m (a.goes (values e purpose) c_world) (λ k. bind (value_in a slots e c_world k) (drop_run (is_finished (begun_work e))))
        (point_run a c (behind (effect a.of e number) point)) (seq (run_stmts a.frame (stmts (effect a.of e number))) (then_runs a c (point_run a c point))) world world
        goes_as (behind_runs a c (effect a.of e number) point world) (dropped_by (is_finished (begun_work e)) refl)

  -- ---- conditions

  module _ (e : CExpr) (number : ℕ) (level : CLevel) (outer : List CLevel) (plain : is_switch level.form ≡ false)
      (done : TestDone a (objects_in (slots_in (level ∷ outer))) e number) (if_true if_false : FlowPlace) (m : ℕ) (near : Within m) (c_world world : World) (here : a.Here (slots_in (level ∷ outer)) c_world world)
      (owed : (holds : Bool) (less : ℕ) → less ≤ c.most → (c_end end : World) → a.Here (slots_in (level ∷ outer)) c_end end →
      OwedTo a c less (c_stand a.goes (choosing level.form holds level outer a.bottom (blocks_of c_end)) c_end) (c.next (if holds then if_true else if_false)) end) where
    abbrev tested : Point
    tested = test_point (condition a.of e number) if_true if_false

    abbrev test : Expr
    test = (condition a.of e number).test

    abbrev choice_of : Bool → COperand → World → Result CStand CWhy
    choice_of is_it operand later = choice_made is_it (blocks_of later) operand.value level outer a.bottom

    abbrev chosen_run : COperand → CPiece CValue
    chosen_run operand later = one_step (place_of e) (choice_of (is_switch level.form) operand later) (c_stand a.goes) later

    test_runs : (later : World) (holds : Bool) → TestsAs a test later holds → (k : ℕ) → last_run a c tested later k ≡ c.next (if holds then if_true else if_false) later k
    unfolding seq
    test_runs later holds told k =
        sym (bind_bind (run_expr a.frame test later k) tests (λ is. c.next (if is then if_true else if_false))) ∙ ap (λ r. bind r (λ is. c.next (if is then if_true else if_false))) (told.runs k)

    by_truth : (operand : COperand) (c_after later : World) → Tested a (slots_in (level ∷ outer)) test operand c_after later → (truth : Result Bool CWhy) → truth_of_value (blocks_of c_after) operand.value ≡ truth →
        OwedTo a c (pred m) (λ k. or_bad (place_of e) (and_then truth (λ holds. Ok (choosing level.form holds level outer a.bottom (blocks_of c_after)))) (c_stand a.goes) c_after k) (last_run a c tested) later
    by_truth operand c_after later there (Ok holds) is =
        owed_by a c (pred m) _ (last_run a c tested) (c.next (if holds then if_true else if_false)) later later (test_runs later holds (there.tests holds is))
        (owed holds (pred m) near.behind c_after later there.here)
    by_truth operand c_after later there (Err why) is = nothing_owed a c (pred m) (stops why (place_of e)) c_after _ (last_run a c tested) later (λ k. refl)

    by_form : (operand : COperand) (c_after later : World) → Tested a (slots_in (level ∷ outer)) test operand c_after later → (is_it : Bool) → is_it ≡ false →
        OwedTo a c (pred m) (λ k. or_bad (place_of e) (choice_of is_it operand c_after) (c_stand a.goes) c_after k) (last_run a c tested) later
    by_form operand c_after later there true is = absurd cc
    by_form operand c_after later there false is = by_truth operand c_after later there (truth_of_value (blocks_of c_after) operand.value) refl

    pub test_owed : OwedTo a c m (a.goes (values e (chooses_by (place_of e) (site_at (level ∷ outer) a.bottom))) c_world) (point_run a c tested) world
    test_owed =
        owed_as a c m _ (λ k. bind (value_in a (slots_in (level ∷ outer)) e c_world k) chosen_run) (point_run a c tested)
        (seq (run_stmts a.frame (stmts (condition a.of e number).written.body)) (then_runs a c (last_run a c tested))) world world
        (λ k. a.unfolds (values e (chooses_by (place_of e) (site_at (level ∷ outer) a.bottom))) c_world k) (λ k. refl)
        (part_owed a c (objects_in (slots_in (level ∷ outer))) (λ some. value_in a some e) (condition a.of e number).written.body (λ some operand c_after later. Tested a some test operand c_after later) done
        (slots_in (level ∷ outer)) m c_world world refl near.little here chosen_run (last_run a c tested) (last_silent a c tested.last)
        (λ operand c_after later there.
        stepped a c m (slots_in (level ∷ outer)) c_after later (chosen_run operand c_after)
        (λ k. or_bad (place_of e) (choice_of (is_switch level.form) operand c_after) (c_stand a.goes) c_after k) (last_run a c tested) there.here (last_silent a c tested.last) (λ k. refl)
        (by_form operand c_after later there (is_switch level.form) plain)))
