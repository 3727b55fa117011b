-- The operand of a `switch`, returns, puts and the lives of objects, each with what follows it.
use Rattle.std.proofs.Common.{◌≡◌, ◌∙◌, ℕ, zero, suc, pred, ◌+◌, ◌<◌, ◌≤◌, ℤ, Bool, true, false, List, [], ◌∷◌, ◌++◌, map, Option, Some, None, Result, Ok, Err, if◌then◌else◌, refl, sym, ap, subst, arith, append_assoc}
use Rattle.std.proofs.lemmas.List.{append-nil}
use Rattle.build_flow_nodes.specs.Builder.{return_point}
use Rattle.build_flow_nodes.specs.Parts.{BodyNames, cleared, all_cleared, begun, operand_of, given}
use Rattle.build_flow_nodes.specs.Points.{FlowPlace, PlacedCase, PlacedSwitch, chooses, returns as gives_back, Point, behind}
use Rattle.cr_base.specs.declared.refusal.Place.{Place}
use Rattle.cr_runs.proofs.Rules.{bind_bind}
use Rattle.cr_runs.specs.Runs.{Ran, came, halted, bad, out, bind, tick}
use Rattle.cr_runs_rules.specs.Steps.{StepsTo, LeavesBelow, TakesAStep}
use Rattle.cr_world.specs.World.{World, Got, blocks_of, with_memory}
use Rattle.cx_core.specs.Trees.{CExpr, place_of, put, CPut, CPuts, no_puts, more_puts, CStmtForm}
use Rattle.cx_mean.specs.Accesses.{CStored}
use Rattle.cx_mean.specs.Initialisers.{put_stored}
use Rattle.cx_mean.specs.Leftmost.{CRan, CPiece, one_step, or_bad, or_stop, c_use, c_stand}
use Rattle.cx_mean.specs.Marks.{no_marks}
use Rattle.cx_mean.specs.Moves.{CBehind, in_body, CPurpose, puts_it, gives_it, chooses_by, CGoal, does_form, follows, CBeginning, CMove, values, begins, leaves, CStand, stand, slots_in, next_in, is_switch, switching, putting, beginning, opened_to}
use Rattle.cx_mean.specs.Operands.{CWhy, CStop, CValue, missing, COperand, with_marks, stops, Slot, Frame as CFrame, scalar_value}
use Rattle.cx_mean.specs.Paths.{CRest, CLevel, CSite, site_at}
use Rattle.cx_mean.specs.State.{choice_made, given_back, value_given, slot, with_slot, object_begins, no_place, after_return}
use Rattle.cx_mean.specs.Values.{number_in}
use Rattle.cx_mean_laws.proofs.Unfolded.{leaves_no_more}
use Rattle.cx_mean_laws.specs.Laws.{Takes}
use Rattle.lift_exprs.specs.Lifted.{lifted_puts}
use Rattle.lift_exprs.specs.Objects.{object_at}
use Rattle.mem_bytes.specs.Access.{and_then}
use Rattle.mem_bytes.specs.declared.value.Ptr.{Ptr}
use Rattle.mem_bytes.specs.declared.value.Value.{Value}
use Rattle.mem_bytes.specs.declared.value.Value.TheVariants.{Whole}
use Rattle.rs_mean.specs.Run.{Frame, normal, run_expr, run_stmts, is_arm}
use Rattle.rs_mean.specs.Values.{Typed}
use Rattle.rs_mean.specs.World.{Run, pure, seq}
use Rattle.rs_text.specs.Tree.{Expr, Stmt, stmts}
use Rattle.build_flow_moves.specs.Parts.{Stage, objects_in, in_scope, value_in, all_dead, RunsTo, GivesNumber, Chosen, ChoiceDone, GivenBack, return_piece, ReturnDone, BeginDone, BeginsDone, put_piece, put_written, PutDone, PutsDone}
use Rattle.build_flow_moves.specs.Runs.{place_chosen, run_given}
use Rattle.build_flow_moves.proofs.Course.{Course, Goes, OwedTo, IsAimed, AllAimed, point_run, last_run, then_runs, point_silent, last_silent, behind_runs, owed_as, owed_by, owed_below, nothing_owed, stepped, part_owed, part_taken, ran_owed}
use Rattle.build_flow_moves.proofs.Going.{level_of}
use Rattle.build_flow_moves.proofs.Steps.{Within, within, NextOwed}

-- ---- pieces that take a step

below_more : {A : Type 0} (less bound : ℕ) (piece : CRan A) → less ≤ bound → LeavesBelow less piece → LeavesBelow bound piece
below_more less bound (came value world left) few is = omega (arith, few, is)
below_more less bound (halted status world) few is = tt
below_more less bound (bad stop world) few is = tt
below_more less bound (out world) few is = tt

one_step_takes : {A B : Type 0} (place : Place) (outcome : Result A CWhy) (value : A → World → B) (after : A → World → World) (world : World) →
    TakesAStep (one_step place outcome (λ one later. came (value one later) (after one later)) world)
one_step_takes place outcome value after world zero = tt
one_step_takes place (Ok one) value after world (suc left) = omega arith
one_step_takes place (Err why) value after world (suc left) = tt

step_behind : {A B : Type 0} (first : ℕ → CRan A) (go : A → CPiece B) → ((bound : ℕ) → Takes 0 bound (first bound)) → ((value : A) (world : World) → TakesAStep (go value world)) →
    TakesAStep (λ k. bind (first k) go)
step_behind first go within takes bound = by_end (first bound) (within bound)
  where
    by_end : (piece : CRan _) → Takes 0 bound piece → LeavesBelow bound (bind piece go)
    by_end (came value world left) is = below_more left bound (go value world left) (omega (arith, is)) (takes value world left)
    by_end (halted status world) is = tt
    by_end (bad stop world) is = tt
    by_end (out world) is = tt

-- what follows a step
step_then : {A B C : Type 0} (place : Place) (outcome : Result A CWhy) (on : A → CPiece B) (go : B → CPiece C) (world : World) (left : ℕ) →
    bind (one_step place outcome on world left) go ≡ one_step place outcome (λ one after k. bind (on one after k) go) world left
step_then place outcome on go world zero = refl
step_then place (Ok one) on go world (suc left) = refl
step_then place (Err why) on go world (suc left) = refl

binds_same : {A B : Type 0} (piece : CRan A) (go on : A → CPiece B) → ((value : A) (world : World) (left : ℕ) → go value world left ≡ on value world left) → bind piece go ≡ bind piece on
binds_same (came value world left) go on same = same value world left
binds_same (halted status world) go on same = refl
binds_same (bad stop world) go on same = refl
binds_same (out world) go on same = refl

-- statements in front of others
pub behind_behind : (first others : List Stmt) (point : Point) → behind (first ++ others) point ≡ behind first (behind others point)
behind_behind first others point = ap (λ (body : List Stmt). record point { body = body }) (append_assoc first others point.body)

pub begun_none : (of : BodyNames) → begun of [] ≡ []
begun_none of = by_bits of.names.has_bits
  where
    by_bits : (bits : Bool) → (if bits then all_cleared of [] else []) ≡ []
    by_bits true = refl
    by_bits false = refl

begun_more : (of : BodyNames) (first : ℕ) (others : List ℕ) → begun of (first ∷ others) ≡ begun of (first ∷ []) ++ begun of others
begun_more of first others = by_bits of.names.has_bits
  where
    by_bits : (bits : Bool) → (if bits then all_cleared of (first ∷ others) else []) ≡ (if bits then all_cleared of (first ∷ []) else []) ++ (if bits then all_cleared of others else [])
    by_bits true = ap (λ (ss : List Stmt). ss ++ all_cleared of others) (sym (append-nil (cleared of first)))
    by_bits false = refl

module _ (a : Stage) (c : Course a) where
  -- ---- the operand of a `switch`

  module _ (e : CExpr) (number : ℕ) (level : CLevel) (outer : List CLevel) (plain : is_switch level.form ≡ true)
      (done : ChoiceDone a (objects_in (slots_in (level ∷ outer))) e number) (cases : List PlacedCase) (other : FlowPlace) (m : ℕ) (near : Within a c m) (c_world world : World)
      (here : a.Here (slots_in (level ∷ outer)) c_world world)
      (owed : (value : ℤ) (typed : Typed) → typed.value ≡ Whole value → (less : ℕ) → less ≤ c.most → (c_end end : World) → a.Here (slots_in (level ∷ outer)) c_end end →
      OwedTo a c less (c_stand a.goes (switching level.form value level outer a.bottom (blocks_of c_end)) c_end) (c.next (place_chosen typed cases other)) end) where
    abbrev choosing_point : Point
    choosing_point = record {
      body = (operand_of a.of e number).body;
      last = chooses (record { on = (operand_of a.of e number).value; by = (operand_of a.of e number).by; cases = cases; other = other });
    }

    abbrev on : Expr
    on = (operand_of a.of e number).value

    abbrev choice_of : Bool → COperand → World → Result CStand CWhy
    choice_of is_it operand later = choice_made is_it (blocks_of later) operand.value level outer a.bottom

    abbrev chosen_run : COperand → CPiece CValue
    chosen_run operand later = one_step (place_of e) (choice_of (is_switch level.form) operand later) (c_stand a.goes) later

    choice_runs : (later : World) (value : ℤ) → (told : GivesNumber a on later value) → (k : ℕ) → last_run a c choosing_point later k ≡ c.next (place_chosen told.typed cases other) later k
    unfolding seq
    choice_runs later value told k = ap (λ r. bind r (λ operand. c.next (place_chosen operand cases other))) (told.runs k)

    by_number : (operand : COperand) (c_after later : World) → Chosen a (slots_in (level ∷ outer)) on operand c_after later → (value : Value) → scalar_value operand.value ≡ Ok value →
        (read : Result ℤ CWhy) → number_in value ≡ read →
        OwedTo a c (pred m) (λ k. or_bad (place_of e) (and_then read (λ one. Ok (switching level.form one level outer a.bottom (blocks_of c_after)))) (c_stand a.goes) c_after k) (last_run a c choosing_point) later
    by_number operand c_after later there value found (Ok one) is =
        let told = there.gives value one found is in
        owed_by a c (pred m) _ (last_run a c choosing_point) (c.next (place_chosen told.typed cases other)) later later (choice_runs later one told)
        (owed one told.typed told.is (pred m) near.behind c_after later there.here)
    by_number operand c_after later there value found (Err why) is = nothing_owed a c (pred m) (stops why (place_of e)) c_after _ (last_run a c choosing_point) later (λ k. refl)

    by_value : (operand : COperand) (c_after later : World) → Chosen a (slots_in (level ∷ outer)) on operand c_after later → (read : Result Value CWhy) → scalar_value operand.value ≡ read →
        OwedTo a c (pred m)
        (λ k. or_bad (place_of e) (and_then read (λ value. and_then (number_in value) (λ one. Ok (switching level.form one level outer a.bottom (blocks_of c_after))))) (c_stand a.goes) c_after k)
        (last_run a c choosing_point) later
    by_value operand c_after later there (Ok value) is = by_number operand c_after later there value is (number_in value) refl
    by_value operand c_after later there (Err why) is = nothing_owed a c (pred m) (stops why (place_of e)) c_after _ (last_run a c choosing_point) later (λ k. refl)

    by_form : (operand : COperand) (c_after later : World) → Chosen a (slots_in (level ∷ outer)) on operand c_after later → (is_it : Bool) → is_it ≡ true →
        OwedTo a c (pred m) (λ k. or_bad (place_of e) (choice_of is_it operand c_after) (c_stand a.goes) c_after k) (last_run a c choosing_point) later
    by_form operand c_after later there true is = by_value operand c_after later there (scalar_value operand.value) refl
    by_form operand c_after later there false is = absurd cc

    pub choice_owed : OwedTo a c m (a.goes (values e (chooses_by (place_of e) (site_at (level ∷ outer) a.bottom))) c_world) (point_run a c choosing_point) world
    choice_owed =
        owed_as a c m _ (λ k. bind (value_in a (slots_in (level ∷ outer)) e c_world k) chosen_run) (point_run a c choosing_point)
        (seq (run_stmts a.frame (stmts (operand_of a.of e number).body)) (then_runs a c (last_run a c choosing_point))) world world
        (λ k. a.unfolds (values e (chooses_by (place_of e) (site_at (level ∷ outer) a.bottom))) c_world k) (λ k. refl)
        (part_owed a c (objects_in (slots_in (level ∷ outer))) (λ some. value_in a some e) (operand_of a.of e number).body (λ some operand c_after later. Chosen a some on operand c_after later) done
        (slots_in (level ∷ outer)) m c_world world refl near.little here chosen_run (last_run a c choosing_point) (last_silent a c choosing_point.last)
        (λ operand c_after later there.
        stepped a c m (slots_in (level ∷ outer)) c_after later (chosen_run operand c_after)
        (λ k. or_bad (place_of e) (choice_of (is_switch level.form) operand c_after) (c_stand a.goes) c_after k) (last_run a c choosing_point) there.here (last_silent a c choosing_point.last) (λ k. refl)
        (by_form operand c_after later there (is_switch level.form) plain)))

  -- ---- returns

  value_within : (slots : CFrame) (e : CExpr) (c_world : World) (bound : ℕ) → Takes 0 bound (value_in a slots e c_world bound)
  value_within slots e c_world bound = leaves_no_more.value a.setting _ (in_scope a slots) e c_world bound a.bounded

  given_runs : (written : Option Expr) (given : Option Typed) (after : World) → ((k : ℕ) → run_given a.frame written after k ≡ came given after k) → (k : ℕ) →
      seq (run_given a.frame written) c.back after k ≡ c.back given after k
  unfolding seq
  given_runs written given after runs k = ap (λ r. bind r c.back) (runs k)

  -- all of the function's objects die
  abbrev ended_in : List CLevel → CValue → CPiece CValue
  ended_in levels value after = came (given_back value) (after_return (site_at levels a.bottom) after)

  pub return_owed : (place : Place) (e : CExpr) (number : ℕ) (levels : List CLevel) (done : ReturnDone a (objects_in (slots_in levels)) e number) (m : ℕ) → Within a c m → (c_world world : World) →
      a.Here (slots_in levels) c_world world → OwedTo a c m (a.goes (values e (gives_it place (site_at levels a.bottom))) c_world) (point_run a c (return_point (given a.of (Some e) number))) world
  return_owed place e number levels done m near c_world world here =
      let point = return_point (given a.of (Some e) number) in
      owed_as a c m _ (λ k. bind (return_piece a place e (slots_in levels) c_world k) (ended_in levels)) (point_run a c point)
      (seq (run_stmts a.frame (stmts point.body)) (then_runs a c (last_run a c point))) world world
      (λ k. a.unfolds (values e (gives_it place (site_at levels a.bottom))) c_world k
      ∙ binds_same (value_in a (slots_in levels) e c_world k) _ _ (λ operand after left. sym (step_then place (value_given operand.value) came (ended_in levels) after left))
      ∙ sym (bind_bind (value_in a (slots_in levels) e c_world k) (λ operand. one_step place (value_given operand.value) came) (ended_in levels)))
      (λ k. refl)
      (part_taken a c (objects_in (slots_in levels)) (return_piece a place e) point.body (λ slots value c_after after. GivenBack a slots (given a.of (Some e) number).value value c_after after) (done place)
      (slots_in levels) m c_world world refl near.little here (ended_in levels) (last_run a c point) (last_silent a c point.last)
      (step_behind (value_in a (slots_in levels) e c_world) (λ operand. one_step place (value_given operand.value) came) (value_within (slots_in levels) e c_world)
      (λ operand after. one_step_takes place (value_given operand.value) (λ value later. value) (λ value later. later) after))
      (λ value c_after after back.
      owed_by a c (pred m) (ended_in levels value c_after) (last_run a c point) (c.back back.given) after after (given_runs (given a.of (Some e) number).value back.given after back.runs)
      (c.go_back (pred m) (given_back value) (all_dead a (slots_in levels) c_after) back.given after near.behind back.back)))

  -- without an expression
  pub leave_owed : (value : CValue) (written : Option Expr) (levels : List CLevel) (m : ℕ) → Within a c m → (c_world world : World) → a.Here (slots_in levels) c_world world →
      GivenBack a (slots_in levels) written value c_world world →
      OwedTo a c m (a.goes (leaves value (site_at levels a.bottom)) c_world) (point_run a c (record { body = []; last = gives_back written })) world
  unfolding seq pure
  leave_owed value written levels m near c_world world here back =
      stepped a c m (slots_in levels) c_world world (a.goes (leaves value (site_at levels a.bottom)) c_world) (λ k. came (given_back value) (all_dead a (slots_in levels) c_world) k)
      (point_run a c (record { body = []; last = gives_back written })) here (point_silent a c (record { body = []; last = gives_back written })) (λ k. a.unfolds (leaves value (site_at levels a.bottom)) c_world k)
      (owed_by a c (pred m) _ (point_run a c (record { body = []; last = gives_back written })) (c.back back.given) world world (given_runs written back.given world back.runs)
      (c.go_back (pred m) (given_back value) (all_dead a (slots_in levels) c_world) back.given world near.behind back.back))

  -- ---- puts

  abbrev pub puts_written : ℕ → CPuts → ℕ → List Stmt
  puts_written object puts number = (lifted_puts a.of.names (a.of.type_of_object object) (object_at a.of.names (a.of.type_of_object object) object) puts number).body

  module _ (object : ℕ) (levels : List CLevel) (point : Point) (owed : NextOwed a c levels point) (ok : IsAimed a c point) where
    abbrev behind_it : CBehind
    behind_it = in_body (site_at levels a.bottom)

    abbrev PutsOwed : CPuts → ℕ → Type 0
    PutsOwed puts number =
        (less : ℕ) → less ≤ c.most → (c_world world : World) → a.Here (slots_in levels) c_world world →
        OwedTo a c less (c_stand a.goes (putting object puts behind_it (blocks_of c_world)) c_world) (point_run a c (behind (puts_written object puts number) point)) world

    -- the store of a value is one piece, and what follows another
    put_goes : (one : CPut) (others : CPuts) (c_world : World) (k : ℕ) →
        c_stand a.goes (putting object (more_puts one others) behind_it (blocks_of c_world)) c_world k
        ≡ bind (put_piece a object one (slots_in levels) c_world k) (λ nothing after. c_stand a.goes (putting object others behind_it (blocks_of after)) after)
    put_goes (put spot type value) others c_world k =
        a.unfolds (values value (puts_it (place_of value) (record { object = object; spot = spot; type = type; others = others; behind = behind_it }))) c_world k
        ∙ binds_same (value_in a (slots_in levels) value c_world k) _ _
        (λ operand after left.
        sym (step_then (place_of value) (put_stored a.setting (in_scope a (slots_in levels)) (blocks_of after) object spot type (with_marks no_marks operand))
        (λ done later. came tt (with_memory done.blocks later)) (λ nothing later. c_stand a.goes (putting object others behind_it (blocks_of later)) later) after left))
        ∙ sym (bind_bind (value_in a (slots_in levels) value c_world k) _ _)

    put_takes : (one : CPut) (c_world : World) → TakesAStep (put_piece a object one (slots_in levels) c_world)
    put_takes (put spot type value) c_world =
        step_behind (value_in a (slots_in levels) value c_world) _ (value_within (slots_in levels) value c_world)
        (λ operand after. one_step_takes (place_of value) (put_stored a.setting (in_scope a (slots_in levels)) (blocks_of after) object spot type (with_marks no_marks operand))
        (λ done later. tt) (λ done later. with_memory done.blocks later) after)

    pub puts_owed : (puts : CPuts) (number : ℕ) → PutsDone a (objects_in (slots_in levels)) object puts number → PutsOwed puts number
    puts_owed no_puts number done less few c_world world here = owed less few c_world world here ok
    puts_owed (more_puts one others) number done less few c_world world here =
        let near = within a c less few in
        let rest = behind (puts_written object others (put_written a object one number).next) point in
        owed_as a c less _ (λ k. bind (put_piece a object one (slots_in levels) c_world k) (λ nothing after. c_stand a.goes (putting object others behind_it (blocks_of after)) after))
        (point_run a c (behind (puts_written object (more_puts one others) number) point))
        (seq (run_stmts a.frame (stmts (put_written a object one number).body)) (then_runs a c (point_run a c rest))) world world
        (put_goes one others c_world)
        (λ k. ap (λ (it : Point). point_run a c it world k) (behind_behind (put_written a object one number).body (puts_written object others (put_written a object one number).next) point)
        ∙ behind_runs a c (put_written a object one number).body rest world k)
        (part_taken a c (objects_in (slots_in levels)) (put_piece a object one) (put_written a object one number).body (λ slots nothing c_after after. a.Here slots c_after after) done.0
        (slots_in levels) less c_world world refl near.little here (λ nothing after. c_stand a.goes (putting object others behind_it (blocks_of after)) after) (point_run a c rest) (point_silent a c rest)
        (put_takes one c_world)
        (λ nothing c_after after there. puts_owed others (put_written a object one number).next done.1 (pred less) near.behind c_after after there))

  -- ---- objects begin

  module _ (goal : CGoal) (form : CStmtForm) (rest : CRest) (levels : List CLevel) (point : Point) where
    abbrev site : CSite
    site = site_at levels a.bottom

    abbrev beginning_of : CFrame → List ℕ → World → CStand
    beginning_of inner objects c_world = beginning a.setting objects goal (level_of inner form rest) site (blocks_of c_world)

    -- once all have begun, this is owed
    abbrev pub OpenOwed : List ℕ → Type 0
    OpenOwed objects =
        (slots : CFrame) → objects_in slots ≡ objects → (less : ℕ) → less ≤ c.most → (c_world world : World) → a.Here (slots ++ slots_in levels) c_world world →
        OwedTo a c less (c_stand a.goes (opened_to a.setting goal (level_of slots form rest) site (blocks_of c_world)) c_world) (point_run a c point) world

    abbrev BeginOwed : ℕ → CFrame → List ℕ → Type 0
    BeginOwed m inner objects =
        (c_world world : World) → a.Here (inner ++ slots_in levels) c_world world →
        OwedTo a c m (c_stand a.goes (beginning_of inner objects c_world) c_world) (point_run a c (behind (begun a.of objects) point)) world

    abbrev begins_one : (inner : CFrame) (first : ℕ) (others : List ℕ) → CBeginning
    begins_one inner first others = record { object = first; others = others; level = level_of inner form rest; outer = site; goal = goal }

    -- the first of them
    abbrev after_first : CFrame → ℕ → List ℕ → World → CPiece CValue
    after_first inner first others c_world world left =
        or_stop (object_begins a.setting no_place first c_world) (λ got after. c_stand a.goes (beginning_of (inner ++ slot first got.value ∷ []) others got.world) got.world) world left

    begin_by : (m : ℕ) (inner : CFrame) (first : ℕ) (others : List ℕ) → BeginDone a (objects_in inner) first (objects_in (slots_in levels)) → (c_world world : World) → a.Here (inner ++ slots_in levels) c_world world →
        ((got : Got Ptr) → BeginOwed m (inner ++ slot first got.value ∷ []) others) → (begins_so : Result (Got Ptr) CStop) → object_begins a.setting no_place first c_world ≡ begins_so →
        OwedTo a c m (λ k. or_stop begins_so (λ got after. c_stand a.goes (beginning_of (inner ++ slot first got.value ∷ []) others got.world) got.world) c_world k)
        (point_run a c (behind (begun a.of (first ∷ others)) point)) world
    begin_by m inner first others done c_world world here owed (Ok got) is =
        let there = done inner (slots_in levels) c_world world got refl refl here is in
        owed_by a c m _ (point_run a c (behind (begun a.of (first ∷ others)) point)) (point_run a c (behind (begun a.of (first ∷ [])) (behind (begun a.of others) point))) world world
        (λ k. ap (λ (ss : List Stmt). point_run a c (behind ss point) world k) (begun_more a.of first others)
        ∙ ap (λ (it : Point). point_run a c it world k) (behind_behind (begun a.of (first ∷ [])) (begun a.of others) point))
        (ran_owed a c m _ (begun a.of (first ∷ [])) (behind (begun a.of others) point) world there.after there.runs (owed got got.world there.after there.here))
    begin_by m inner first others done c_world world here owed (Err stop) is = nothing_owed a c m stop c_world _ (point_run a c (behind (begun a.of (first ∷ others)) point)) world (λ k. refl)

    first_owed : (m : ℕ) → Within a c m → (inner : CFrame) (first : ℕ) (others : List ℕ) → BeginDone a (objects_in inner) first (objects_in (slots_in levels)) →
        ((got : Got Ptr) → BeginOwed (pred m) (inner ++ slot first got.value ∷ []) others) → BeginOwed m inner (first ∷ others)
    first_owed m near inner first others done owed c_world world here =
        stepped a c m (inner ++ slots_in levels) c_world world (c_stand a.goes (beginning_of inner (first ∷ others) c_world) c_world) (after_first inner first others c_world c_world)
        (point_run a c (behind (begun a.of (first ∷ others)) point)) here (point_silent a c (behind (begun a.of (first ∷ others)) point)) (λ k. a.unfolds (begins (begins_one inner first others)) c_world k)
        (begin_by (pred m) inner first others done c_world world here owed (object_begins a.setting no_place first c_world) refl)

    objects_more : (inner : CFrame) (first : ℕ) (got : Got Ptr) → objects_in (inner ++ slot first got.value ∷ []) ≡ objects_in inner ++ first ∷ []
    objects_more [] first got = refl
    objects_more (one ∷ inner) first got = ap (λ (xs : List ℕ). one.object ∷ xs) (objects_more inner first got)

    pub begin_owed : (objects : List ℕ) (m : ℕ) → m ≤ c.most → (inner : CFrame) → BeginsDone a (objects_in inner) objects (objects_in (slots_in levels)) → OpenOwed (objects_in inner ++ objects) →
        BeginOwed m inner objects
    begin_owed [] m few inner done owed c_world world here =
        owed_by a c m _ (point_run a c (behind (begun a.of []) point)) (point_run a c point) world world
        (λ k. ap (λ (ss : List Stmt). point_run a c (behind ss point) world k) (begun_none a.of))
        (owed inner (sym (append-nil (objects_in inner))) m few c_world world here)
    begin_owed (first ∷ others) m few inner done owed c_world world here =
        let near = within a c m few in
        first_owed m near inner first others done.0
        (λ got. begin_owed others (pred m) near.behind (inner ++ slot first got.value ∷ [])
        (subst (λ (xs : List ℕ). BeginsDone a xs others (objects_in (slots_in levels))) (sym (objects_more inner first got)) done.1)
        (subst OpenOwed (sym (ap (λ (xs : List ℕ). xs ++ others) (objects_more inner first got) ∙ append_assoc (objects_in inner) (first ∷ []) others)) owed)) c_world world here

    -- of one at least
    pub begins_owed : (first : ℕ) (others : List ℕ) (m : ℕ) → Within a c m → BeginsDone a [] (first ∷ others) (objects_in (slots_in levels)) → OpenOwed (first ∷ others) → BeginOwed m [] (first ∷ others)
    begins_owed first others m near done owed =
        first_owed m near [] first others done.0 (λ got. begin_owed others (pred m) near.behind (slot first got.value ∷ []) done.1 owed)
