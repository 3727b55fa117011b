-- Pieces under a greater budget: a piece is the same where it doesn't ask for more, and its events begin alike.
use Rattle.mem_bytes.specs.declared.fault.StoreFault.TheVariants.{Full, Memory}
use Rattle.std.proofs.Common.{if◌then◌else◌, ◌≡◌, ◌∙◌, ℕ, zero, suc, ◌+◌, ℤ, Bool, true, false, List, [], ◌∷◌, ◌++◌, map, Option, Result, Ok, Err, refl, sym, ap, subst, append_assoc, append-nil, suc-add}
use Rattle.cr_runs.specs.Runs.{Ran, came, halted, bad, out, bind, state_of}
use Rattle.cr_world.specs.Held.{Held}
use Rattle.cr_world.specs.World.{World, Terms, open_ended, trail_of, Stop, astray, Got, answered, answer_from, answer_at_end, granted, granted_on, after_allocation, is_of_store, object_begun, begun_at, events_of, first_world}
use Rattle.ext_calls.specs.declared.call.Call.{Call}
use Rattle.mem_bytes.specs.declared.value.Ptr.{Ptr}
use Rattle.mem_bytes.specs.declared.value.Value.{Value}
use Rattle.rs_text.specs.Tree.{OuterTree, FunctionTree, ModuleTree, CrateTree}
use Rattle.rs_mean.specs.declared.cause.Cause.{Cause}
use Rattle.rs_mean.specs.Calls.{outer_call}
use Rattle.rs_mean.specs.Laws.{IsFrontOf, IsGoing, MoreBudgetContinues, EventsGrow, EndedStaysEnded}
use Rattle.rs_mean.specs.Run.{bodies_within, run_main, ran, seen_of, ended}
use Rattle.rs_mean.specs.Values.{Typed}
use Rattle.rs_mean.specs.World.{Run, pure, fails, ends, seq, takes_unit, Did, after_step, local, after_got, tells, grants, begins, Round, again, done, next_turn, turns_within, rounds}
use Rattle.rs_mean.proofs.Pieces.{outer_calls, on_body, on_main}

-- ---- fronts of lists

pub front_of_itself : {A : Type 0} (xs : List A) → IsFrontOf xs xs
front_of_itself xs = ([], sym (append-nil xs))

pub front_of_front : {A : Type 0} (xs ys zs : List A) → IsFrontOf xs ys → IsFrontOf ys zs → IsFrontOf xs zs
front_of_front xs ys zs front others =
    (front.0 ++ others.0, others.1 ∙ (ap (λ q. q ++ others.0) front.1 ∙ append_assoc xs front.0 others.0))

front_mapped : {A B : Type 0} (f : A → B) (xs : List A) (y : A) → IsFrontOf (map f xs) (map f (xs ++ y ∷ []))
front_mapped f [] y = (f y ∷ [], refl)
front_mapped f (x ∷ xs) y =
    let rest = front_mapped f xs y in
    (rest.0, ap (λ zs. f x ∷ zs) rest.1)

-- ---- what a piece adds

-- a piece only adds events
abbrev pub Adds : (A : Type 0) → Run A → Type 0
Adds A run = (world : World) (units : ℕ) → IsFrontOf (events_of world) (events_of (state_of (run world units)))

adds_bind : {A B : Type 0} (events : List Call) (first : Ran (Stop Cause) World A) (next : A → Run B) →
    IsFrontOf events (events_of (state_of first)) → ((value : A) → Adds B (next value)) → IsFrontOf events (events_of (state_of (bind first next)))
adds_bind events (came value state left) next front adds =
    front_of_front events (events_of state) (events_of (state_of (next value state left))) front (adds value state left)
adds_bind events (halted status state) next front adds = front
adds_bind events (bad why state) next front adds = front
adds_bind events (out state) next front adds = front

adds_step : {A : Type 0} (world : World) (units : ℕ) (found : Result (Did A) Cause) → IsFrontOf (events_of world) (events_of (state_of (after_step world units found)))
adds_step world units (Ok did) = front_of_itself (events_of world)
adds_step world units (Err why) = front_of_itself (events_of world)

-- ---- what a piece does under a greater budget

-- what is seen of a piece under a budget with so many units more
abbrev pub Later : {A : Type 0} → Ran (Stop Cause) World A → Ran (Stop Cause) World A → ℕ → Type 0
Later (came value state left) later more = later ≡ came value state (left + more)
Later (halted status state) later more = later ≡ halted status state
Later (bad why state) later more = later ≡ bad why state
Later (out state) later more = IsFrontOf (events_of state) (events_of (state_of later))

-- a piece does under a greater budget what another does under the smaller one, and that only adds events
pub record Extends (A : Type 0) (run later : Run A) : Type 0 where
  pub adds : Adds A later
  pub more : (world : World) (units more : ℕ) → Later (run world units) (later world (units + more)) more

pub later_bind : {A B : Type 0} (first later : Ran (Stop Cause) World A) (next other : A → Run B) (more : ℕ) →
    Later first later more → ((value : A) → Extends B (next value) (other value)) → Later (bind first next) (bind later other) more
later_bind (came value state left) later next other more e extends = rw e ((extends value).more state left more)
later_bind (halted status state) later next other more e extends = rw e refl
later_bind (bad why state) later next other more e extends = rw e refl
later_bind (out state) later next other more front extends = adds_bind (events_of state) later other front (λ value. (extends value).adds)

pub extends_pure : (A : Type 0) (value : A) → Extends A (pure value) (pure value)
unfolding pure
extends_pure A value = record { adds = λ world units. front_of_itself (events_of world); more = λ world units more. refl }

pub extends_fails : (A : Type 0) (why : Cause) → Extends A (fails why) (fails why)
unfolding fails
extends_fails A why = record { adds = λ world units. front_of_itself (events_of world); more = λ world units more. refl }

pub extends_ends : (A : Type 0) (status : ℤ) → Extends A (ends status) (ends status)
unfolding ends
extends_ends A status = record { adds = λ world units. front_of_itself (events_of world); more = λ world units more. refl }

later_step : {A : Type 0} (world : World) (units more : ℕ) (found : Result (Did A) Cause) → Later (after_step world units found) (after_step world (units + more) found) more
later_step world units more (Ok did) = refl
later_step world units more (Err why) = refl

pub extends_local : (A : Type 0) (step : Held → Result (Did A) Cause) → Extends A (local step) (local step)
unfolding local
extends_local A step = record {
  adds = λ world units. adds_step world units (step world.held);
  more = λ world units more. later_step world units more (step world.held);
}

later_got : {A : Type 0} (world : World) (units more : ℕ) (found : Result (Got A) (Stop Cause)) → Later (after_got units world found) (after_got (units + more) world found) more
later_got world units more (Ok got) = refl
later_got world units more (Err stop) = refl

adds_end : (terms : Terms) (call : Call) (world : World) (units : ℕ) → IsFrontOf (events_of world) (events_of (state_of (after_got units world (answer_at_end terms call world))))
adds_end open_ended call world units = front_mapped (λ one. one.call) world.made _
adds_end (trail_of limit) call world units = front_of_itself (events_of world)

adds_answer : (answers : List ℤ) (call : Call) (world : World) (units : ℕ) → IsFrontOf (events_of world) (events_of (state_of (after_got units world (answer_from answers call world))))
adds_answer [] call world units = adds_end world.terms call world units
adds_answer (answer ∷ left) call world units = front_mapped (λ one. one.call) world.made _

pub extends_tells : (call : Call) → Extends ℤ (tells call) (tells call)
unfolding tells
extends_tells call = record {
  adds = λ world units. adds_answer world.answers call world units;
  more = λ world units more. later_got world units more (answered call world);
}

-- a step of the world that makes no call
abbrev pub Silent : {A : Type 0} → World → Result (Got A) (Stop Cause) → Type 0
Silent world (Ok got) = events_of got.world ≡ events_of world
Silent world (Err stop) = Unit {0}

adds_silent : {A : Type 0} (world : World) (units : ℕ) (found : Result (Got A) (Stop Cause)) → Silent world found → IsFrontOf (events_of world) (events_of (state_of (after_got units world found)))
adds_silent world units (Ok got) h = subst (λ (events : List Call). IsFrontOf (events_of world) events) (sym h) (front_of_itself (events_of world))
adds_silent world units (Err stop) h = front_of_itself (events_of world)

silent_store : (refused same is_zero : Bool) (size : ℕ) (left : List ℤ) (world : World) →
    Silent world (if same then after_allocation refused is_zero size left world else Err astray)
silent_store refused true is_zero size left world = refl
silent_store refused false is_zero size left world = tt

silent_grant : (terms : Terms) (answers : List ℤ) (is_zero : Bool) (size : ℕ) (world : World) → Silent world (granted_on terms answers is_zero size world)
silent_grant open_ended [] is_zero size world = refl
silent_grant open_ended (answer ∷ left) is_zero size world = refl
silent_grant (trail_of limit) [] is_zero size world = tt
silent_grant (trail_of limit) (answer ∷ left) is_zero size world = silent_store _ (is_of_store _ answer) is_zero size left world

pub extends_grants : (is_zero : Bool) (size : ℕ) → Extends Value (grants is_zero size) (grants is_zero size)
unfolding grants
extends_grants is_zero size = record {
  adds = λ world units. adds_silent world units (granted is_zero size world) (silent_grant world.terms world.answers is_zero size world);
  more = λ world units more. later_got world units more (granted is_zero size world);
}

silent_begun : (is_zero : Bool) (size align : ℕ) (world : World) (found : _) → Silent world (begun_at is_zero size align world found)
silent_begun is_zero size align world (Ok blocks) = refl
silent_begun is_zero size align world (Err (Full need left)) = tt
silent_begun is_zero size align world (Err Memory) = tt

pub extends_begins : (size align : ℕ) → Extends Ptr (begins size align) (begins size align)
unfolding begins
extends_begins size align = record {
  adds = λ world units. adds_silent world units (object_begun true size align world) (silent_begun true size align world _);
  more = λ world units more. later_got world units more (object_begun true size align world);
}

pub extends_seq : (A B : Type 0) (first later : Run A) (next other : A → Run B) → Extends A first later → ((value : A) → Extends B (next value) (other value)) →
    Extends B (seq first next) (seq later other)
unfolding seq
extends_seq A B first later next other h extends = record {
  adds = λ world units. adds_bind (events_of world) (later world units) other (h.adds world units) (λ value. (extends value).adds);
  more = λ world units more. later_bind (first world units) (later world (units + more)) next other more (h.more world units more) extends;
}

adds_unit : (A : Type 0) (run : Run A) → Adds A run → Adds A (takes_unit run)
unfolding takes_unit
adds_unit A run h world zero = front_of_itself (events_of world)
adds_unit A run h world (suc units) = h world units

more_unit : (A : Type 0) (run later : Run A) → Extends A run later → (world : World) (units more : ℕ) → Later (takes_unit run world units) (takes_unit later world (units + more)) more
unfolding takes_unit
more_unit A run later h world zero more = adds_unit A later h.adds world (0 + more)
more_unit A run later h world (suc units) more = rw (suc-add units more) (h.more world units more)

pub extends_unit : (A : Type 0) (run later : Run A) → Extends A run later → Extends A (takes_unit run) (takes_unit later)
extends_unit A run later h = record { adds = adds_unit A later h.adds; more = more_unit A run later h }

extends_next : (S A : Type 0) (rest other : S → Run A) → ((state : S) → Extends A (rest state) (other state)) → (round : Round S A) → Extends A (next_turn rest round) (next_turn other round)
extends_next S A rest other h (again state) = h state
extends_next S A rest other h (done value) = extends_pure A value

adds_seq : (A B : Type 0) (first : Run A) (next : A → Run B) → Adds A first → ((value : A) → Adds B (next value)) → Adds B (seq first next)
unfolding seq
adds_seq A B first next h adds world units = adds_bind (events_of world) (first world units) next (h world units) adds

adds_pure : (A : Type 0) (value : A) → Adds A (pure value)
unfolding pure
adds_pure A value world units = front_of_itself (events_of world)

adds_next : (S A : Type 0) (rest : S → Run A) → ((state : S) → Adds A (rest state)) → (round : Round S A) → Adds A (next_turn rest round)
adds_next S A rest h (again state) = h state
adds_next S A rest h (done value) = adds_pure A value

module _ (S A : Type 0) (turn other : S → Run (Round S A)) (h : (state : S) → Extends (Round S A) (turn state) (other state)) where
  adds_turns : (most : ℕ) (state : S) → Adds A (turns_within most other state)
  adds_turns zero state = λ world units. front_of_itself (events_of world)
  adds_turns (suc most) state =
      adds_unit A (seq (other state) (next_turn (turns_within most other)))
      (adds_seq (Round S A) A (other state) (next_turn (turns_within most other)) (h state).adds (adds_next S A (turns_within most other) (adds_turns most)))

  extends_turns : (most more : ℕ) (state : S) → Extends A (turns_within most turn state) (turns_within (most + more) other state)
  extends_turns zero more state = record {
    adds = adds_turns (0 + more) state;
    more = λ world units extra. adds_turns (0 + more) state world (units + extra);
  }
  extends_turns (suc most) more state =
      subst (λ (k : ℕ). Extends A (turns_within (suc most) turn state) (turns_within k other state)) (sym (suc-add most more))
      (extends_unit A (seq (turn state) (next_turn (turns_within most turn))) (seq (other state) (next_turn (turns_within (most + more) other)))
      (extends_seq (Round S A) A (turn state) (other state) (next_turn (turns_within most turn)) (next_turn (turns_within (most + more) other)) (h state)
      (extends_next S A (turns_within most turn) (turns_within (most + more) other) (extends_turns most more))))

  more_rounds : (state : S) (world : World) (units more : ℕ) → Later (rounds turn state world units) (rounds other state world (units + more)) more
  unfolding rounds
  more_rounds state world units more =
      subst (λ (k : ℕ). Later (turns_within (suc units) turn state world units) (turns_within k other state world (units + more)) more) (suc-add units more)
      ((extends_turns (suc units) more state).more world units more)

  adds_rounds : (state : S) → Adds A (rounds other state)
  unfolding rounds
  adds_rounds state world units = adds_turns (suc units) state world units

  pub extends_rounds : (state : S) → Extends A (rounds turn state) (rounds other state)
  extends_rounds state = record { adds = adds_rounds state; more = more_rounds state }

extends_outer : (fun : OuterTree) (args : List Typed) → Extends (Option Typed) (takes_unit (outer_call fun args)) (takes_unit (outer_call fun args))
extends_outer fun args =
    extends_unit (Option Typed) (outer_call fun args) (outer_call fun args)
    (outer_calls Extends extends_pure extends_fails extends_ends extends_local extends_tells extends_grants extends_seq fun args)

-- ---- called bodies

bodies_same : (modules : List ModuleTree) (depth : ℕ) (fun : FunctionTree) (args : List Typed) →
    Extends (Option Typed) (bodies_within modules depth fun args) (bodies_within modules depth fun args)
bodies_same modules zero fun args = record {
  adds = λ world units. front_of_itself (events_of world);
  more = λ world units more. front_of_itself (events_of world);
}
bodies_same modules (suc depth) fun args =
    on_body Extends extends_pure extends_fails extends_ends extends_local extends_begins extends_outer extends_seq extends_rounds
    modules (bodies_within modules depth) (bodies_within modules depth)
    (λ one with_args. extends_unit (Option Typed) (bodies_within modules depth one with_args) (bodies_within modules depth one with_args) (bodies_same modules depth one with_args))
    fun args

bodies_extend : (modules : List ModuleTree) (depth more : ℕ) (fun : FunctionTree) (args : List Typed) →
    Extends (Option Typed) (bodies_within modules depth fun args) (bodies_within modules (depth + more) fun args)
bodies_extend modules zero more fun args =
    let adds = (bodies_same modules (0 + more) fun args).adds in
    record { adds = adds; more = λ world units extra. adds world (units + extra) }
bodies_extend modules (suc depth) more fun args =
    subst (λ (k : ℕ). Extends (Option Typed) (bodies_within modules (suc depth) fun args) (bodies_within modules k fun args)) (sym (suc-add depth more))
    (on_body Extends extends_pure extends_fails extends_ends extends_local extends_begins extends_outer extends_seq extends_rounds
    modules (bodies_within modules depth) (bodies_within modules (depth + more))
    (λ one with_args. extends_unit (Option Typed) (bodies_within modules depth one with_args) (bodies_within modules (depth + more) one with_args)
    (bodies_extend modules depth more one with_args)) fun args)

-- ---- the whole run

later_ran : (whole : CrateTree) (world : World) (units more : ℕ) → Later (ran whole world units) (ran whole world (units + more)) more
later_ran whole world units more =
    subst (λ (k : ℕ). Later (run_main whole (bodies_within whole.modules (suc units)) world units) (run_main whole (bodies_within whole.modules k) world (units + more)) more)
    (suc-add units more)
    ((on_main Extends extends_pure extends_fails extends_ends extends_local extends_begins extends_outer extends_seq extends_rounds
    whole (bodies_within whole.modules (suc units)) (bodies_within whole.modules (suc units + more))
    (λ one with_args. extends_unit (Option Typed) (bodies_within whole.modules (suc units) one with_args) (bodies_within whole.modules (suc units + more) one with_args)
    (bodies_extend whole.modules (suc units) more one with_args))).more world units more)

same_seen : (first later : Ran (Stop Cause) World (Unit {0})) (more : ℕ) → Later first later more → ¬ IsGoing (seen_of first).progress → seen_of later ≡ seen_of first
same_seen (came value state left) later more e goes = absurd (goes tt)
same_seen (halted status state) later more e goes = rw e refl
same_seen (bad why state) later more e goes = rw e refl
same_seen (out state) later more e goes = absurd (goes tt)

seen_events : (run : Ran (Stop Cause) World (Unit {0})) → (seen_of run).events ≡ events_of (state_of run)
seen_events (came value state left) = refl
seen_events (halted status state) = refl
seen_events (bad why state) = refl
seen_events (out state) = refl

front_seen : (first later : Ran (Stop Cause) World (Unit {0})) (more : ℕ) → Later first later more → IsFrontOf (seen_of first).events (seen_of later).events
front_seen (came value state left) later more e = rw e (front_of_itself (events_of state))
front_seen (halted status state) later more e = rw e (front_of_itself (events_of state))
front_seen (bad why state) later more e = rw e (front_of_itself (events_of state))
front_seen (out state) later more front = rw (seen_events later) front

stays_ended : (first later : Ran (Stop Cause) World (Unit {0})) (more : ℕ) (status : ℤ) → Later first later more →
    (seen_of first).progress ≡ ended status → (seen_of later).progress ≡ ended status
stays_ended (came value state left) later more status e is = rw e is
stays_ended (halted given state) later more status e is = rw e is
stays_ended (bad why state) later more status e is = rw e is
stays_ended (out state) later more status e is = cc

pub more_budget : MoreBudgetContinues
more_budget terms whole outside units more goes =
    same_seen (ran whole (first_world terms outside) units) (ran whole (first_world terms outside) (units + more)) more (later_ran whole (first_world terms outside) units more) goes

pub events_grow : EventsGrow
events_grow terms whole outside units more =
    front_seen (ran whole (first_world terms outside) units) (ran whole (first_world terms outside) (units + more)) more (later_ran whole (first_world terms outside) units more)

pub ended_stays : EndedStaysEnded
ended_stays terms whole outside units more status is =
    stays_ended (ran whole (first_world terms outside) units) (ran whole (first_world terms outside) (units + more)) more status (later_ran whole (first_world terms outside) units more) is
