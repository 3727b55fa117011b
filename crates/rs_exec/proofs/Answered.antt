-- What a run does behind a call that is answered: with one answer more than it took it is the same run, and where it asked for the answer of a call it
-- makes that call with this answer, and no other.
use Rattle.std.proofs.Common.{◌≡◌, ◌∙◌, ℕ, zero, suc, ℤ, Bool, true, false, if◌then◌else◌, not, List, [], ◌∷◌, ◌++◌, Option, Result, Ok, Err, refl, sym, ap, subst}
use Rattle.cr_runs.specs.Runs.{Ran, came, halted, bad, out, bind, state_of, tick}
use Rattle.cr_world.specs.Held.{Held}
use Rattle.cr_world.specs.World.{World, Terms, trail_of, Stop, wrong, full, asks, astray, answer_from, granted_on, granted_by_store, is_of_store, is_refused_by, begun_at, limit_of}
use Rattle.ext_calls.specs.declared.call.Call.{Call}
use Rattle.ext_calls.specs.declared.call.Made.{Made}
use Rattle.mem_bytes.specs.Counted.{Limit, after_alloc}
use Rattle.mem_bytes.specs.declared.fault.StoreFault.{StoreFault}
use Rattle.mem_bytes.specs.declared.fault.StoreFault.TheVariants.{Full, Memory}
use Rattle.mem_bytes.specs.declared.value.Ptr.{Ptr}
use Rattle.mem_bytes.specs.declared.value.Value.{Value}
use Rattle.mem_bytes.specs.Memory.{Blocks}
use Rattle.rs_text.specs.Tree.{OuterTree, FunctionTree, ModuleTree, CrateTree}
use Rattle.rs_mean.specs.declared.cause.Cause.{Cause}
use Rattle.rs_mean.specs.Calls.{outer_call}
use Rattle.rs_mean.specs.Laws.{bodies_of}
use Rattle.rs_mean.specs.Run.{bodies_within, run_main}
use Rattle.rs_mean.specs.Values.{Typed}
use Rattle.rs_mean.specs.World.{Run, pure, fails, ends, seq, takes_unit, Did, after_step, local, after_got, tells, grants, begins, Round, again, done, next_turn, turns_within, rounds}
use Rattle.rs_mean.proofs.Pieces.{outer_calls, on_body, on_main}

-- a world in which one more answer is ahead
abbrev pub more_ahead : ℤ → World → World
more_ahead answer world = record world { answers = world.answers ++ answer ∷ [] }

abbrev world_of : Held → List Made → List ℤ → Terms → World
world_of held made answers terms = record { held = held; made = made; answers = answers; terms = terms }

module _ (limit : Option Limit) where
  -- no answer is ahead, and these calls were made
  pub record Spent (made : List Made) (world : World) : Type 0 where
    pub made_is : world.made ≡ made
    pub answers_are : world.answers ≡ []
    pub terms_are : world.terms ≡ trail_of limit

  -- a run, beside the same with one more answer ahead
  abbrev pub Goes : {A : Type 0} → ℤ → Ran (Stop Cause) World A → Ran (Stop Cause) World A → Type 0
  Goes answer (came value world left) later = (later ≡ came value (more_ahead answer world) left) × (world.terms ≡ trail_of limit)
  Goes answer (halted status world) later = later ≡ halted status (more_ahead answer world)
  Goes answer (bad (wrong why) world) later = later ≡ bad (wrong why) (more_ahead answer world)
  Goes answer (bad (full need left) world) later = later ≡ bad (full need left) (more_ahead answer world)
  Goes answer (bad (asks call) world) later = Spent (world.made ++ record { call = call; answer = answer } ∷ []) (state_of later)
  Goes answer (bad astray world) later = Unit {0}
  Goes answer (out world) later = later ≡ out (more_ahead answer world)

  pub record Answers (A : Type 0) (run other : Run A) : Type 0 where
    -- without an answer ahead no call is made
    pub rests : (held : Held) (made : List Made) (units : ℕ) → Spent made (state_of (run (world_of held made [] (trail_of limit)) units))
    pub goes : (answer : ℤ) (held : Held) (made : List Made) (answers : List ℤ) (units : ℕ) →
        Goes answer (run (world_of held made answers (trail_of limit)) units) (run (world_of held made (answers ++ answer ∷ []) (trail_of limit)) units)

  -- the same of a world whose terms are these
  rests_at : (A : Type 0) (run other : Run A) → Answers A run other → (made : List Made) (world : World) (units : ℕ) → Spent made world → Spent made (state_of (run world units))
  rests_at A run other h made world units spent =
      subst (λ (one : World). Spent made (state_of (run one units)))
      (sym (ap (λ (calls : List Made). world_of world.held calls world.answers world.terms) spent.made_is
      ∙ ap (λ (answers : List ℤ). world_of world.held made answers world.terms) spent.answers_are
      ∙ ap (λ (terms : Terms). world_of world.held made [] terms) spent.terms_are))
      (h.rests world.held made units)

  goes_at : (A : Type 0) (run other : Run A) → Answers A run other → (answer : ℤ) (world : World) (units : ℕ) → world.terms ≡ trail_of limit →
      Goes answer (run world units) (run (more_ahead answer world) units)
  goes_at A run other h answer world units is =
      subst (λ (terms : Terms). Goes answer (run (world_of world.held world.made world.answers terms) units) (run (world_of world.held world.made (world.answers ++ answer ∷ []) terms) units)) (sym is)
      (h.goes answer world.held world.made world.answers units)

  spent : (held : Held) (made : List Made) → Spent made (world_of held made [] (trail_of limit))
  spent held made = record { made_is = refl; answers_are = refl; terms_are = refl }

  -- ---- pieces

  on_pure : (A : Type 0) (value : A) → Answers A (pure value) (pure value)
  unfolding pure
  on_pure A value = record { rests = λ held made units. spent held made; goes = λ answer held made answers units. (refl, refl) }

  on_fails : (A : Type 0) (why : Cause) → Answers A (fails why) (fails why)
  unfolding fails
  on_fails A why = record { rests = λ held made units. spent held made; goes = λ answer held made answers units. refl }

  on_ends : (A : Type 0) (status : ℤ) → Answers A (ends status) (ends status)
  unfolding ends
  on_ends A status = record { rests = λ held made units. spent held made; goes = λ answer held made answers units. refl }

  step_rests : {A : Type 0} (held : Held) (made : List Made) (units : ℕ) (found : Result (Did A) Cause) → Spent made (state_of (after_step (world_of held made [] (trail_of limit)) units found))
  step_rests held made units (Ok did) = spent did.held made
  step_rests held made units (Err why) = spent held made

  step_goes : {A : Type 0} (answer : ℤ) (held : Held) (made : List Made) (answers : List ℤ) (units : ℕ) (found : Result (Did A) Cause) →
      Goes answer (after_step (world_of held made answers (trail_of limit)) units found) (after_step (world_of held made (answers ++ answer ∷ []) (trail_of limit)) units found)
  step_goes answer held made answers units (Ok did) = (refl, refl)
  step_goes answer held made answers units (Err why) = refl

  on_local : (A : Type 0) (step : Held → Result (Did A) Cause) → Answers A (local step) (local step)
  unfolding local
  on_local A step = record {
    rests = λ held made units. step_rests held made units (step held);
    goes = λ answer held made answers units. step_goes answer held made answers units (step held);
  }

  begun_rests : (size align : ℕ) (held : Held) (made : List Made) (units : ℕ) (found : Result Blocks StoreFault) →
      Spent made (state_of (after_got {A = Ptr} units (world_of held made [] (trail_of limit)) (begun_at true size align (world_of held made [] (trail_of limit)) found)))
  begun_rests size align held made units (Ok blocks) = record { made_is = refl; answers_are = refl; terms_are = refl }
  begun_rests size align held made units (Err (Full need left)) = spent held made
  begun_rests size align held made units (Err Memory) = spent held made

  begun_goes : (size align : ℕ) (answer : ℤ) (held : Held) (made : List Made) (answers : List ℤ) (units : ℕ) (found : Result Blocks StoreFault) →
      Goes {A = Ptr} answer (after_got units (world_of held made answers (trail_of limit)) (begun_at true size align (world_of held made answers (trail_of limit)) found))
      (after_got units (world_of held made (answers ++ answer ∷ []) (trail_of limit)) (begun_at true size align (world_of held made (answers ++ answer ∷ []) (trail_of limit)) found))
  begun_goes size align answer held made answers units (Ok blocks) = (refl, refl)
  begun_goes size align answer held made answers units (Err (Full need left)) = refl
  begun_goes size align answer held made answers units (Err Memory) = tt

  on_begins : (size align : ℕ) → Answers Ptr (begins size align) (begins size align)
  unfolding begins
  on_begins size align = record {
    rests = λ held made units. begun_rests size align held made units (after_alloc limit held.blocks size align);
    goes = λ answer held made answers units. begun_goes size align answer held made answers units (after_alloc limit held.blocks size align);
  }

  on_tells : (call : Call) → Answers ℤ (tells call) (tells call)
  unfolding tells
  on_tells call = record { rests = λ held made units. spent held made; goes = told }
    where
      told : (answer : ℤ) (held : Held) (made : List Made) (answers : List ℤ) (units : ℕ) →
          Goes {A = ℤ} answer (after_got units (world_of held made answers (trail_of limit)) (answer_from answers call (world_of held made answers (trail_of limit))))
          (after_got units (world_of held made (answers ++ answer ∷ []) (trail_of limit)) (answer_from (answers ++ answer ∷ []) call (world_of held made (answers ++ answer ∷ []) (trail_of limit))))
      told answer held made [] units = record { made_is = refl; answers_are = refl; terms_are = refl }
      told answer held made (one ∷ left) units = (refl, refl)

  granted_goes : (answer : ℤ) (refused is_right : Bool) (is_zero : Bool) (size : ℕ) (one : ℤ) (held : Held) (made : List Made) (left : List ℤ) (units : ℕ) → is_of_store refused one ≡ is_right →
      Goes {A = Value} answer (after_got units (world_of held made (one ∷ left) (trail_of limit)) (granted_by_store refused one is_zero size left (world_of held made (one ∷ left) (trail_of limit))))
      (after_got units (world_of held made (one ∷ left ++ answer ∷ []) (trail_of limit)) (granted_by_store refused one is_zero size (left ++ answer ∷ []) (world_of held made (one ∷ left ++ answer ∷ []) (trail_of limit))))
  granted_goes answer refused true is_zero size one held made left units is = rw is (refl, refl)
  granted_goes answer refused false is_zero size one held made left units is = rw is tt

  on_grants : (is_zero : Bool) (size : ℕ) → Answers Value (grants is_zero size) (grants is_zero size)
  unfolding grants
  on_grants is_zero size = record { rests = λ held made units. spent held made; goes = granted }
    where
      granted : (answer : ℤ) (held : Held) (made : List Made) (answers : List ℤ) (units : ℕ) →
          Goes {A = Value} answer (after_got units (world_of held made answers (trail_of limit)) (granted_on (trail_of limit) answers is_zero size (world_of held made answers (trail_of limit))))
          (after_got units (world_of held made (answers ++ answer ∷ []) (trail_of limit)) (granted_on (trail_of limit) (answers ++ answer ∷ []) is_zero size (world_of held made (answers ++ answer ∷ []) (trail_of limit))))
      granted answer held made [] units = tt
      granted answer held made (one ∷ left) units =
          granted_goes answer (is_refused_by limit held.blocks size) (is_of_store (is_refused_by limit held.blocks size) one) is_zero size one held made left units refl

  -- ---- one piece behind another

  module _ (A B : Type 0) (next more : A → Run B) (answers_next : (value : A) → Answers B (next value) (more value)) where
    bind_rests : (made : List Made) (found : Ran (Stop Cause) World A) → Spent made (state_of found) → Spent made (state_of (bind found next))
    bind_rests made (came value world left) is = rests_at B (next value) (more value) (answers_next value) made world left is
    bind_rests made (halted status world) is = is
    bind_rests made (bad why world) is = is
    bind_rests made (out world) is = is

    bind_goes : (answer : ℤ) (found later : Ran (Stop Cause) World A) → Goes answer found later → Goes answer (bind found next) (bind later next)
    bind_goes answer (came value world left) later is =
        subst (λ (ran : Ran (Stop Cause) World A). Goes answer (next value world left) (bind ran next)) (sym is.0)
        (goes_at B (next value) (more value) (answers_next value) answer world left is.1)
    bind_goes answer (halted status world) later is = ap (λ (ran : Ran (Stop Cause) World A). bind ran next) is
    bind_goes answer (bad (wrong why) world) later is = ap (λ (ran : Ran (Stop Cause) World A). bind ran next) is
    bind_goes answer (bad (full need left) world) later is = ap (λ (ran : Ran (Stop Cause) World A). bind ran next) is
    bind_goes answer (bad (asks call) world) later is = bind_rests (world.made ++ record { call = call; answer = answer } ∷ []) later is
    bind_goes answer (bad astray world) later is = tt
    bind_goes answer (out world) later is = ap (λ (ran : Ran (Stop Cause) World A). bind ran next) is

  on_seq : (A B : Type 0) (first other : Run A) (next more : A → Run B) → Answers A first other → ((value : A) → Answers B (next value) (more value)) → Answers B (seq first next) (seq other more)
  unfolding seq
  on_seq A B first other next more h answers_next = record {
    rests = λ held made units. bind_rests A B next more answers_next made (first (world_of held made [] (trail_of limit)) units) (h.rests held made units);
    goes = λ answer held made answers units.
        bind_goes A B next more answers_next answer (first (world_of held made answers (trail_of limit)) units) (first (world_of held made (answers ++ answer ∷ []) (trail_of limit)) units)
        (h.goes answer held made answers units);
  }

  on_unit : (A : Type 0) (run other : Run A) → Answers A run other → Answers A (takes_unit run) (takes_unit other)
  unfolding takes_unit
  on_unit A run other h = record { rests = unit_rests; goes = unit_goes }
    where
      unit_rests : (held : Held) (made : List Made) (units : ℕ) → Spent made (state_of (tick (world_of held made [] (trail_of limit)) (run (world_of held made [] (trail_of limit))) units))
      unit_rests held made zero = spent held made
      unit_rests held made (suc units) = h.rests held made units

      unit_goes : (answer : ℤ) (held : Held) (made : List Made) (answers : List ℤ) (units : ℕ) →
          Goes answer (tick (world_of held made answers (trail_of limit)) (run (world_of held made answers (trail_of limit))) units)
          (tick (world_of held made (answers ++ answer ∷ []) (trail_of limit)) (run (world_of held made (answers ++ answer ∷ []) (trail_of limit))) units)
      unit_goes answer held made answers zero = refl
      unit_goes answer held made answers (suc units) = h.goes answer held made answers units

  on_outer : (fun : OuterTree) (args : List Typed) → Answers (Option Typed) (takes_unit (outer_call fun args)) (takes_unit (outer_call fun args))
  on_outer fun args =
      on_unit (Option Typed) (outer_call fun args) (outer_call fun args)
      (outer_calls Answers on_pure on_fails on_ends on_local on_tells on_grants on_seq fun args)

  -- ---- turns

  on_next : (S A : Type 0) (rest other : S → Run A) → ((state : S) → Answers A (rest state) (other state)) → (round : Round S A) → Answers A (next_turn rest round) (next_turn other round)
  on_next S A rest other h (again state) = h state
  on_next S A rest other h (done value) = on_pure A value

  on_turns : (S A : Type 0) (turn other : S → Run (Round S A)) → ((state : S) → Answers (Round S A) (turn state) (other state)) → (most : ℕ) (state : S) →
      Answers A (turns_within most turn state) (turns_within most other state)
  on_turns S A turn other h zero state = record { rests = λ held made units. spent held made; goes = λ answer held made answers units. refl }
  on_turns S A turn other h (suc most) state =
      on_unit A (seq (turn state) (next_turn (turns_within most turn))) (seq (other state) (next_turn (turns_within most other)))
      (on_seq (Round S A) A (turn state) (other state) (next_turn (turns_within most turn)) (next_turn (turns_within most other)) (h state)
      (on_next S A (turns_within most turn) (turns_within most other) (on_turns S A turn other h most)))

  on_rounds : (S A : Type 0) (turn other : S → Run (Round S A)) → ((state : S) → Answers (Round S A) (turn state) (other state)) → (state : S) →
      Answers A (rounds turn state) (rounds other state)
  unfolding rounds
  on_rounds S A turn other h state = record {
    rests = λ held made units. (on_turns S A turn other h (suc units) state).rests held made units;
    goes = λ answer held made answers units. (on_turns S A turn other h (suc units) state).goes answer held made answers units;
  }

  -- ---- functions and the program

  bodies_answer : (modules : List ModuleTree) (depth : ℕ) (fun : FunctionTree) (args : List Typed) → Answers (Option Typed) (bodies_within modules depth fun args) (bodies_within modules depth fun args)
  bodies_answer modules zero fun args = record { rests = λ held made units. spent held made; goes = λ answer held made answers units. refl }
  bodies_answer modules (suc depth) fun args =
      on_body Answers on_pure on_fails on_ends on_local on_begins on_outer on_seq on_rounds modules (bodies_within modules depth) (bodies_within modules depth)
      (λ one given. on_unit (Option Typed) (bodies_within modules depth one given) (bodies_within modules depth one given) (bodies_answer modules depth one given)) fun args

  all_answer : (modules : List ModuleTree) (fun : FunctionTree) (args : List Typed) → Answers (Option Typed) (bodies_of modules fun args) (bodies_of modules fun args)
  all_answer modules fun args = record {
    rests = λ held made units. (bodies_answer modules (suc units) fun args).rests held made units;
    goes = λ answer held made answers units. (bodies_answer modules (suc units) fun args).goes answer held made answers units;
  }

  pub main_answers : (whole : CrateTree) → Answers (Unit {0}) (run_main whole (bodies_of whole.modules)) (run_main whole (bodies_of whole.modules))
  main_answers whole =
      on_main Answers on_pure on_fails on_ends on_local on_begins on_outer on_seq on_rounds whole (bodies_of whole.modules) (bodies_of whole.modules)
      (λ fun args. on_unit (Option Typed) (bodies_of whole.modules fun args) (bodies_of whole.modules fun args) (all_answer whole.modules fun args))
