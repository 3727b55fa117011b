-- Lists of statements beside pieces of C: one list behind another, and steps of C for which nothing is written.
use Rattle.std.proofs.Common.{◌≡◌, ℕ, pred, List, [], ◌∷◌, ◌++◌, map, Result, Ok, Err, refl, sym, ap, subst, ◌∙◌, arith}
use Rattle.cr_base.specs.declared.refusal.Place.{Place}
use Rattle.cr_runs.proofs.Rules.{values, no_meaning, pieces, renamed, below, weaker, known, bind_bind, bind_came}
use Rattle.cr_runs.specs.Owes.{AtEnd, Owes, Rests}
use Rattle.cr_runs.specs.Runs.{Ran, came, halted, bad, out, bind, tick}
use Rattle.cr_runs_rules.proofs.Rules.{alone}
use Rattle.cr_world.specs.World.{World, Stop, events_of}
use Rattle.cx_mean.specs.Leftmost.{CRan, CPiece, or_bad, one_step}
use Rattle.cx_mean.specs.Operands.{CWhy, stops}
use Rattle.lift_does.proofs.Around.{Around, OweAs, runs}
use Rattle.lift_stands.specs.Stands.{Images}
use Rattle.lift_stands.specs.Worlds.{WorldsStand}
use Rattle.rs_mean.specs.Run.{Frame, Flow, normal, breaks, continues, returned, run_stmt, run_stmts, then_on}
use Rattle.rs_mean.specs.World.{Run, pure, seq}
use Rattle.rs_mean.specs.declared.cause.Cause.{Cause}
use Rattle.rs_mean_frames.specs.Behave.{Behaves}
use Rattle.rs_mean_frames.proofs.Behaving.{behaves_pure}
use Rattle.rs_mean_frames.proofs.Framed.{pieces_behave}
use Rattle.rs_text.specs.Tree.{Stmt, stmts}

-- ---- lists of statements

bind_same : {F S A B : Type 0} (r : Ran F S A) (go on : A → S → ℕ → Ran F S B) → ((a : A) (s : S) (k : ℕ) → go a s k ≡ on a s k) → bind r go ≡ bind r on
bind_same (came value state left) go on same = same value state left
bind_same (halted status state) go on same = refl
bind_same (bad fault state) go on same = refl
bind_same (out state) go on same = refl

abbrev run_list : Frame → List Stmt → Run Flow
run_list frame list = run_stmts frame (stmts list)

then_same : (frame : Frame) (more second : List Stmt) →
    ((world : World) (units : ℕ) → run_list frame (more ++ second) world units ≡ bind (run_list frame more world units) (then_on (run_list frame second))) →
    (flow : Flow) (next : World) (left : ℕ) →
    then_on (run_list frame (more ++ second)) flow next left ≡ bind (then_on (run_list frame more) flow next left) (then_on (run_list frame second))
unfolding pure
then_same frame more second same normal next left = same next left
then_same frame more second same (breaks label) next left = refl
then_same frame more second same (continues label) next left = refl
then_same frame more second same (returned value) next left = refl

pub run_append : (frame : Frame) (first second : List Stmt) (world : World) (units : ℕ) →
    run_stmts frame (stmts (first ++ second)) world units ≡ bind (run_stmts frame (stmts first) world units) (then_on (run_stmts frame (stmts second)))
unfolding seq pure
run_append frame [] second world units = refl
run_append frame (one ∷ more) second world units =
    bind_same (run_stmt frame one world units) (then_on (run_list frame (more ++ second))) (λ flow next left. bind (then_on (run_list frame more) flow next left) (then_on (run_list frame second)))
    (then_same frame more second (run_append frame more second))
    ∙ sym (bind_bind (run_stmt frame one world units) (then_on (run_list frame more)) (then_on (run_list frame second)))

-- statements that come to their end, in front of others
pub run_behind : (frame : Frame) (first second : List Stmt) (world after : World) (units : ℕ) → run_stmts frame (stmts first) world units ≡ came normal after units →
    run_stmts frame (stmts (first ++ second)) world units ≡ run_stmts frame (stmts second) after units
run_behind frame first second world after units comes =
    run_append frame first second world units ∙ ap (λ (r : Ran (Stop Cause) World Flow). bind r (then_on (run_stmts frame (stmts second)))) comes

-- one statement
pub run_one : (frame : Frame) (one : Stmt) (world after : World) (units : ℕ) → run_stmt frame one world units ≡ came normal after units → run_stmts frame (stmts (one ∷ [])) world units ≡ came normal after units
unfolding seq pure
run_one frame one world after units comes = ap (λ (r : Ran (Stop Cause) World Flow). bind r (then_on (pure normal))) comes

-- ---- events

pub same_events : (images : Images) (c_world world : World) → WorldsStand images c_world world → events_of c_world ≡ events_of world
same_events images c_world world stands = ap (map (λ made. made.call)) (sym stands.made)

module _ (x : Around) where
  pub flow_behaves : (rest : List Stmt) (flow : Flow) → Behaves Flow (then_on (runs x rest) flow)
  flow_behaves rest normal = pieces_behave.stmts x.frame x.bodies (stmts rest)
  flow_behaves rest (breaks label) = behaves_pure Flow (breaks label)
  flow_behaves rest (continues label) = behaves_pure Flow (continues label)
  flow_behaves rest (returned value) = behaves_pure Flow (returned value)

  -- one list behind another
  pub join_owes : {A C : Type 0} (Good : A → World → Flow → World → Type 0) (After : C → World → Flow → World → Type 0) (source : ℕ → CRan A) (go : A → World → ℕ → CRan C) (first rest : List Stmt) (world : World) →
      ((a : A) (s : World) (b : Flow) (t : World) → Good a s b t → b ≡ normal) → OweAs x Good source first world →
      ((a : A) (s t : World) → Good a s normal t → OweAs x After (go a s) rest t) → OweAs x After (λ k. bind (source k) go) (first ++ rest) world
  join_owes Good After source go first rest world goes one all =
      renamed events_of events_of After x.units x.steps (λ k. bind (source k) go) (λ k. bind (source k) go)
      (λ k. bind (runs x first world k) (then_on (runs x rest))) (runs x (first ++ rest) world) (λ k. refl) (λ k. sym (run_append x.frame first rest world k))
      (pieces events_of events_of Good After source (runs x first world) go (then_on (runs x rest)) x.units x.steps one
      (λ flow t. (flow_behaves rest flow).rests t)
      (λ a s b t good.
      let normal_is : b ≡ normal = goes a s b t good in
      subst (λ (f : Flow). Owes events_of events_of After x.units x.steps (go a s) (then_on (runs x rest) f t)) (sym normal_is)
      (all a s t (subst (λ (f : Flow). Good a s f t) normal_is good))))

  -- a step of C alone
  pub step_owes : {A B : Type 0} (Good : B → World → Flow → World → Type 0) (place : Place) (outcome : Result A CWhy) (on : A → CPiece B) (list : List Stmt) (c_world world : World) → events_of c_world ≡ events_of world →
      ((one : A) → outcome ≡ Ok one → OweAs x Good (on one c_world) list world) → OweAs x Good (one_step place outcome on c_world) list world
  step_owes {A = A} Good place outcome on list c_world world same all =
      alone events_of events_of Good x.units x.steps c_world (one_step place outcome on c_world) (λ left. or_bad place outcome on c_world left) (runs x list world) (λ k. refl)
      (subst (λ events. Rests events_of events (runs x list world 0)) (sym same) ((pieces_behave.stmts x.frame x.bodies (stmts list)).rests world))
      (below events_of events_of Good x.units x.steps x.units (pred x.steps) (λ left. or_bad place outcome on c_world left) (runs x list world) (omega arith) (omega arith) (by outcome all))
    where
      by : (found : Result A CWhy) → ((one : A) → found ≡ Ok one → OweAs x Good (on one c_world) list world) → Owes events_of events_of Good x.units x.steps (λ left. or_bad place found on c_world left) (runs x list world)
      by (Ok one) every = every one refl
      by (Err why) every = no_meaning events_of events_of Good x.units x.steps (stops why place) c_world (runs x list world)

  -- a tick of C alone
  pub tick_owes : {B : Type 0} (Good : B → World → Flow → World → Type 0) (next : ℕ → CRan B) (list : List Stmt) (c_world world : World) → events_of c_world ≡ events_of world →
      OweAs x Good next list world → OweAs x Good (tick c_world next) list world
  tick_owes Good next list c_world world same owes =
      alone events_of events_of Good x.units x.steps c_world (tick c_world next) next (runs x list world) (λ k. refl)
      (subst (λ events. Rests events_of events (runs x list world 0)) (sym same) ((pieces_behave.stmts x.frame x.bodies (stmts list)).rests world))
      (below events_of events_of Good x.units x.steps x.units (pred x.steps) next (runs x list world) (omega arith) (omega arith) owes)

  -- C has come to its end, and so do the statements
  pub end_owes : {A : Type 0} (Good : A → World → Flow → World → Type 0) (a : A) (list : List Stmt) (c_world world after : World) → ((units : ℕ) → runs x list world units ≡ came normal after units) →
      Good a c_world normal after → OweAs x Good (came a c_world) list world
  end_owes Good a list c_world world after comes good =
      renamed events_of events_of Good x.units x.steps (came a c_world) (came a c_world) (came normal after) (runs x list world) (λ k. refl) (λ k. sym (comes k))
      (values events_of events_of Good x.units x.steps a c_world normal after good)

  pub weaker_owes : {A : Type 0} (Good Other : A → World → Flow → World → Type 0) (source : ℕ → CRan A) (list : List Stmt) (world : World) → ((a : A) (s : World) (b : Flow) (t : World) → Good a s b t → Other a s b t) →
      OweAs x Good source list world → OweAs x Other source list world
  weaker_owes Good Other source list world implied owes = weaker events_of events_of Good Other implied x.units x.steps source (runs x list world) owes

  pub known_owes : {A : Type 0} (Good : A → World → Flow → World → Type 0) (Known : A → World → Type 0) (source : ℕ → CRan A) (list : List Stmt) (world : World) → ((bound : ℕ) → AtEnd Known (source bound)) →
      OweAs x Good source list world → OweAs x (λ a s b t. Good a s b t × Known a s) source list world
  known_owes Good Known source list world ends owes = known events_of events_of Good Known x.units x.steps source (runs x list world) ends owes

  -- statements that C knows nothing of stand behind
  pub behind_owes : {A : Type 0} (Good After : A → World → Flow → World → Type 0) (source : ℕ → CRan A) (first rest : List Stmt) (world : World) → ((a : A) (s : World) (b : Flow) (t : World) → Good a s b t → b ≡ normal) →
      OweAs x Good source first world → ((a : A) (s t : World) → Good a s normal t → OweAs x After (came a s) rest t) → OweAs x After source (first ++ rest) world
  behind_owes Good After source first rest world goes one all =
      renamed events_of events_of After x.units x.steps (λ k. bind (source k) (λ a s left. came a s left)) source (runs x (first ++ rest) world) (runs x (first ++ rest) world) (λ k. bind_came (source k)) (λ k. refl)
      (join_owes Good After source (λ a s left. came a s left) first rest world goes one all)
