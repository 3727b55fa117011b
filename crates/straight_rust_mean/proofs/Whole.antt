-- The run of a crate under a greater budget.
use Rattle.std.proofs.Common.{◌≡◌, ℕ, ◌+◌, ℤ, List, [], ◌∷◌, Option, Some, None, codes, slice_get, refl}
use Rattle.cr_runs.specs.Runs.{Ran, came, halted, bad, out, state_of}
use Rattle.ext_calls.specs.Outside.{Outside}
use Rattle.straight_rust_mean.specs.declared.cause.Cause.{Cause}
use Rattle.straight_rust_mean.specs.Laws.{IsFrontOf, IsGoing, MoreBudgetContinues, EventsGrow, EndedStaysEnded}
use Rattle.straight_rust_mean.specs.Run.{Bodies, call_in, run_initialisers, run_entry, exits, status_of, run_main, bodies_within, world_before, seen_of, ended}
use Rattle.straight_rust_mean.specs.World.{World, Run, seq}
use Rattle.straight_rust_mean.proofs.Budget.{front_of_itself, Adds, adds_nothing, adds_seq, Later, Extends, extends_seq}
use Rattle.straight_rust_mean.proofs.Pieces.{BodiesAdd, BodiesExtend, adds_in, extends_in, adds_within, extends_within}
use Rattle.straight_rust_tree.specs.Tree.{ModuleTree, CrateTree}

-- ---- `main.rs`

adds_initialisers : (bodies : Bodies) → BodiesAdd bodies → (units : List ModuleTree) → Adds (run_initialisers bodies units)
adds_initialisers bodies adds [] = adds_nothing
adds_initialisers bodies adds (unit ∷ others) =
    adds_seq (call_in bodies unit (codes "run_static_initializers")) (λ _. run_initialisers bodies others)
    (adds_in bodies adds unit (codes "run_static_initializers")) (λ _. adds_initialisers bodies adds others)

extends_initialisers : (bodies later : Bodies) → BodiesExtend bodies later → BodiesAdd later → (units : List ModuleTree) →
    Extends (run_initialisers bodies units) (run_initialisers later units)
extends_initialisers bodies later extends adds [] = (λ world units more. refl)
extends_initialisers bodies later extends adds (unit ∷ others) =
    extends_seq (call_in bodies unit (codes "run_static_initializers")) (call_in later unit (codes "run_static_initializers"))
    (λ _. run_initialisers bodies others) (λ _. run_initialisers later others)
    (extends_in bodies later extends adds unit (codes "run_static_initializers"))
    (λ _. extends_initialisers bodies later extends adds others) (λ _. adds_initialisers later adds others)

adds_entry : (bodies : Bodies) → BodiesAdd bodies → (unit : Option ModuleTree) → Adds (run_entry bodies unit)
adds_entry bodies adds None = adds_nothing
adds_entry bodies adds (Some unit) = adds_in bodies adds unit (codes "main_0")

extends_entry : (bodies later : Bodies) → BodiesExtend bodies later → BodiesAdd later → (unit : Option ModuleTree) →
    Extends (run_entry bodies unit) (run_entry later unit)
extends_entry bodies later extends adds None = (λ world units more. refl)
extends_entry bodies later extends adds (Some unit) = extends_in bodies later extends adds unit (codes "main_0")

adds_exits : (status : Option ℤ) → Adds (exits status)
adds_exits None = adds_nothing
adds_exits (Some status) = λ world units. front_of_itself world.events

extends_exits : (status : Option ℤ) → Extends (exits status) (exits status)
extends_exits None = (λ world units more. refl)
extends_exits (Some status) = λ world units more. refl

abbrev ends : CrateTree → Bodies → Run (Unit {0})
ends whole bodies = seq (run_entry bodies (slice_get whole.modules whole.entry)) (λ given. exits (status_of given))

adds_ends : (whole : CrateTree) (bodies : Bodies) → BodiesAdd bodies → Adds (ends whole bodies)
adds_ends whole bodies adds =
    adds_seq (run_entry bodies (slice_get whole.modules whole.entry)) (λ given. exits (status_of given))
    (adds_entry bodies adds (slice_get whole.modules whole.entry)) (λ given. adds_exits (status_of given))

extends_ends : (whole : CrateTree) (bodies later : Bodies) → BodiesExtend bodies later → BodiesAdd later → Extends (ends whole bodies) (ends whole later)
extends_ends whole bodies later extends adds =
    extends_seq (run_entry bodies (slice_get whole.modules whole.entry)) (run_entry later (slice_get whole.modules whole.entry))
    (λ given. exits (status_of given)) (λ given. exits (status_of given))
    (extends_entry bodies later extends adds (slice_get whole.modules whole.entry))
    (λ given. extends_exits (status_of given)) (λ given. adds_exits (status_of given))

extends_main : (whole : CrateTree) (bodies later : Bodies) → BodiesExtend bodies later → BodiesAdd later → Extends (run_main whole bodies) (run_main whole later)
extends_main whole bodies later extends adds =
    extends_seq (run_initialisers bodies whole.modules) (run_initialisers later whole.modules) (λ _. ends whole bodies) (λ _. ends whole later)
    (extends_initialisers bodies later extends adds whole.modules)
    (λ _. extends_ends whole bodies later extends adds) (λ _. adds_ends whole later adds)

-- ---- what is seen

abbrev ran : CrateTree → Outside → ℕ → Ran Cause World (Unit {0})
ran whole answers units = run_main whole (bodies_within whole units) (world_before whole answers) units

later_ran : (whole : CrateTree) (answers : Outside) (units more : ℕ) → Later (ran whole answers units) (ran whole answers (units + more)) more
later_ran whole answers units more =
    extends_main whole (bodies_within whole units) (bodies_within whole (units + more))
    (extends_within whole units more) (adds_within whole (units + more)) (world_before whole answers) units more

same_seen : (first later : Ran Cause World (Unit {0})) (more : ℕ) → Later first later more → ¬ IsGoing (seen_of first).progress → seen_of later ≡ seen_of first
same_seen (came value state left) later more e goes = absurd (goes tt)
same_seen (halted status state) later more e goes = rw e refl
same_seen (bad why state) later more e goes = rw e refl
same_seen (out state) later more e goes = absurd (goes tt)

seen_events : (run : Ran Cause World (Unit {0})) → (seen_of run).events ≡ (state_of run).events
seen_events (came value state left) = refl
seen_events (halted status state) = refl
seen_events (bad why state) = refl
seen_events (out state) = refl

front_seen : (first later : Ran Cause World (Unit {0})) (more : ℕ) → Later first later more → IsFrontOf (seen_of first).events (seen_of later).events
front_seen (came value state left) later more e = rw e (front_of_itself state.events)
front_seen (halted status state) later more e = rw e (front_of_itself state.events)
front_seen (bad why state) later more e = rw e (front_of_itself state.events)
front_seen (out state) later more front = rw (seen_events later) front

stays_ended : (first later : Ran Cause World (Unit {0})) (more : ℕ) (status : ℤ) → Later first later more →
    (seen_of first).progress ≡ ended status → (seen_of later).progress ≡ ended status
stays_ended (came value state left) later more status e is = rw e is
stays_ended (halted given state) later more status e is = rw e is
stays_ended (bad why state) later more status e is = rw e is
stays_ended (out state) later more status e is = cc

-- ---- the laws

pub more_budget : MoreBudgetContinues
more_budget whole answers units more goes = same_seen (ran whole answers units) (ran whole answers (units + more)) more (later_ran whole answers units more) goes

pub events_grow : EventsGrow
events_grow whole answers units more = front_seen (ran whole answers units) (ran whole answers (units + more)) more (later_ran whole answers units more)

pub ended_stays : EndedStaysEnded
ended_stays whole answers units more status is = stays_ended (ran whole answers units) (ran whole answers (units + more)) more status (later_ran whole answers units more) is
