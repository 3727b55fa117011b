-- A run under a trail is the run under the outside of its answers.
use Rattle.std.proofs.Common.{◌≡◌, ℕ, zero, suc, ℤ, pos, negsuc, Bool, true, false, List, [], ◌∷◌, Option, Result, Ok, Err, refl}
use Rattle.cr_runs.specs.Runs.{Ran, came, halted, bad, out, bind}
use Rattle.cr_world.specs.Held.{Held}
use Rattle.cr_world.specs.World.{World, Terms, open_ended, trail_of, Stop, wrong, full, asks, astray, Got, answered, answer_from, answer_at_end, granted, granted_on, granted_by_store, after_allocation, is_refused_by, is_given, object_begun, begun_at, limit_of, first_world}
use Rattle.ext_calls.specs.declared.call.Call.{Call}
use Rattle.mem_bytes.specs.Counted.{Limit, after_alloc}
use Rattle.mem_bytes.specs.Memory.{Blocks}
use Rattle.mem_bytes.specs.declared.fault.StoreFault.{StoreFault}
use Rattle.mem_bytes.specs.declared.fault.StoreFault.TheVariants.{Full, Memory}
use Rattle.mem_bytes.specs.declared.value.Ptr.{Ptr}
use Rattle.mem_bytes.specs.declared.value.Value.{Value}
use Rattle.rs_text.specs.Tree.{OuterTree, FunctionTree, ModuleTree}
use Rattle.rs_mean.specs.declared.cause.Cause.{Cause}
use Rattle.rs_mean.specs.Calls.{outer_call}
use Rattle.rs_mean.specs.Laws.{IsOfRun, TrailIsOutside}
use Rattle.rs_mean.specs.Run.{bodies_within, ran, seen_of}
use Rattle.rs_mean.specs.Values.{Typed}
use Rattle.rs_mean.specs.World.{Run, pure, fails, ends, seq, takes_unit, Did, after_step, local, after_got, tells, grants, begins, Round, again, done, next_turn, turns_within, rounds}
use Rattle.rs_mean.proofs.Pieces.{outer_calls, on_body, on_main}

-- the same world on open terms
abbrev pub opened : World → World
opened world = record world { terms = open_ended }

-- what a piece gives on open terms, where the trail doesn't stop it
abbrev pub Opens : {A : Type 0} → Option Limit → Ran (Stop Cause) World A → Ran (Stop Cause) World A → Type 0
Opens limit (came value world left) other = (world.terms ≡ trail_of limit) × (other ≡ came value (opened world) left)
Opens limit (halted status world) other = other ≡ halted status (opened world)
Opens limit (bad (wrong why) world) other = other ≡ bad (wrong why) (opened world)
Opens limit (bad (full need left) world) other = Unit {0}
Opens limit (bad (asks call) world) other = Unit {0}
Opens limit (bad astray world) other = Unit {0}
Opens limit (out world) other = other ≡ out (opened world)

abbrev pub Trails : (A : Type 0) → Run A → Run A → Type 0
Trails A run other = (limit : Option Limit) (world : World) (units : ℕ) → world.terms ≡ trail_of limit → Opens limit (run world units) (other (opened world) units)

opens_bind : {A B : Type 0} (limit : Option Limit) (first other : Ran (Stop Cause) World A) (next more : A → Run B) → Opens limit first other → ((value : A) → Trails B (next value) (more value)) →
    Opens limit (bind first next) (bind other more)
opens_bind limit (came value world left) other next more h trails = rw h.1 (trails value limit world left h.0)
opens_bind limit (halted status world) other next more h trails = rw h refl
opens_bind limit (bad (wrong why) world) other next more h trails = rw h refl
opens_bind limit (bad (full need left) world) other next more h trails = tt
opens_bind limit (bad (asks call) world) other next more h trails = tt
opens_bind limit (bad astray world) other next more h trails = tt
opens_bind limit (out world) other next more h trails = rw h refl

trails_pure : (A : Type 0) (value : A) → Trails A (pure value) (pure value)
unfolding pure
trails_pure A value limit world units e = (e, refl)

trails_fails : (A : Type 0) (why : Cause) → Trails A (fails why) (fails why)
unfolding fails
trails_fails A why limit world units e = refl

trails_ends : (A : Type 0) (status : ℤ) → Trails A (ends status) (ends status)
unfolding ends
trails_ends A status limit world units e = refl

opens_step : {A : Type 0} (limit : Option Limit) (world : World) (units : ℕ) → world.terms ≡ trail_of limit → (found : Result (Did A) Cause) →
    Opens limit (after_step world units found) (after_step (opened world) units found)
opens_step limit world units e (Ok did) = (e, refl)
opens_step limit world units e (Err why) = refl

trails_local : (A : Type 0) (step : Held → Result (Did A) Cause) → Trails A (local step) (local step)
unfolding local
trails_local A step limit world units e = opens_step limit world units e (step world.held)

-- a step of the world, on a trail and on open terms
abbrev OpensGot : {A : Type 0} → Option Limit → Result (Got A) (Stop Cause) → Result (Got A) (Stop Cause) → Type 0
OpensGot limit (Ok got) other = (got.world.terms ≡ trail_of limit) × (other ≡ Ok (record { value = got.value; world = opened got.world }))
OpensGot limit (Err (wrong why)) other = other ≡ Err (wrong why)
OpensGot limit (Err (full need left)) other = Unit {0}
OpensGot limit (Err (asks call)) other = Unit {0}
OpensGot limit (Err astray) other = Unit {0}

opens_got : {A : Type 0} (limit : Option Limit) (world : World) (units : ℕ) (found other : Result (Got A) (Stop Cause)) → OpensGot limit found other →
    Opens limit (after_got units world found) (after_got units (opened world) other)
opens_got limit world units (Ok got) other h = rw h.1 (h.0, refl)
opens_got limit world units (Err (wrong why)) other h = rw h refl
opens_got limit world units (Err (full need left)) other h = tt
opens_got limit world units (Err (asks call)) other h = tt
opens_got limit world units (Err astray) other h = tt

opens_end : (limit : Option Limit) (call : Call) (world : World) (terms : Terms) → terms ≡ trail_of limit → (other : Result (Got ℤ) (Stop Cause)) → OpensGot limit (answer_at_end terms call world) other
opens_end limit call world open_ended e other = cc
opens_end limit call world (trail_of one) e other = tt

opens_answer : (limit : Option Limit) (call : Call) (world : World) → world.terms ≡ trail_of limit → (answers : List ℤ) →
    OpensGot limit (answer_from answers call world) (answer_from answers call (opened world))
opens_answer limit call world e [] = opens_end limit call world world.terms e (answer_from [] call (opened world))
opens_answer limit call world e (answer ∷ left) = (e, refl)

trails_tells : (call : Call) → Trails ℤ (tells call) (tells call)
unfolding tells
trails_tells call limit world units e =
    opens_got limit world units (answered call world) (answered call (opened world)) (opens_answer limit call world e world.answers)

-- an answer that the store's limit gives says the same on open terms
opens_store : (limit : Option Limit) (refused is_zero : Bool) (size : ℕ) (answer : ℤ) (left : List ℤ) (world : World) → world.terms ≡ trail_of limit →
    OpensGot limit (granted_by_store refused answer is_zero size left world) (after_allocation (is_given answer) is_zero size left (opened world))
opens_store limit true is_zero size (pos zero) left world e = (e, refl)
opens_store limit true is_zero size (pos (suc n)) left world e = tt
opens_store limit true is_zero size (negsuc n) left world e = tt
opens_store limit false is_zero size (pos zero) left world e = tt
opens_store limit false is_zero size (pos (suc zero)) left world e = (e, refl)
opens_store limit false is_zero size (pos (suc (suc n))) left world e = tt
opens_store limit false is_zero size (negsuc n) left world e = tt

opens_grant : (limit : Option Limit) (is_zero : Bool) (size : ℕ) (world : World) → world.terms ≡ trail_of limit → (terms : Terms) → terms ≡ trail_of limit → (answers : List ℤ) →
    OpensGot limit (granted_on terms answers is_zero size world) (granted_on open_ended answers is_zero size (opened world))
opens_grant limit is_zero size world e open_ended t answers = cc
opens_grant limit is_zero size world e (trail_of one) t [] = tt
opens_grant limit is_zero size world e (trail_of one) t (answer ∷ left) = opens_store limit (is_refused_by one world.held.blocks size) is_zero size answer left world e

trails_grants : (is_zero : Bool) (size : ℕ) → Trails Value (grants is_zero size) (grants is_zero size)
unfolding grants
trails_grants is_zero size limit world units e =
    opens_got limit world units (granted is_zero size world) (granted is_zero size (opened world)) (opens_grant limit is_zero size world e world.terms e world.answers)

opens_begun : (limit : Option Limit) (size align : ℕ) (world : World) → world.terms ≡ trail_of limit → (found : Result Blocks StoreFault) →
    OpensGot limit (begun_at true size align world found) (object_begun true size align (opened world))
opens_begun limit size align world e (Ok blocks) = (e, refl)
opens_begun limit size align world e (Err (Full need left)) = tt
opens_begun limit size align world e (Err Memory) = tt

trails_begins : (size align : ℕ) → Trails Ptr (begins size align) (begins size align)
unfolding begins
trails_begins size align limit world units e =
    opens_got limit world units (object_begun true size align world) (object_begun true size align (opened world))
    (opens_begun limit size align world e (after_alloc (limit_of world.terms) world.held.blocks size align))

trails_seq : (A B : Type 0) (first other : Run A) (next more : A → Run B) → Trails A first other → ((value : A) → Trails B (next value) (more value)) → Trails B (seq first next) (seq other more)
unfolding seq
trails_seq A B first other next more h trails limit world units e =
    opens_bind limit (first world units) (other (opened world) units) next more (h limit world units e) trails

trails_unit : (A : Type 0) (run other : Run A) → Trails A run other → Trails A (takes_unit run) (takes_unit other)
unfolding takes_unit
trails_unit A run other h limit world zero e = refl
trails_unit A run other h limit world (suc units) e = h limit world units e

trails_next : (S A : Type 0) (rest other : S → Run A) → ((state : S) → Trails A (rest state) (other state)) → (round : Round S A) → Trails A (next_turn rest round) (next_turn other round)
trails_next S A rest other h (again state) = h state
trails_next S A rest other h (done value) = trails_pure A value

trails_turns : (S A : Type 0) (turn other : S → Run (Round S A)) → ((state : S) → Trails (Round S A) (turn state) (other state)) → (most : ℕ) (state : S) →
    Trails A (turns_within most turn state) (turns_within most other state)
trails_turns S A turn other h zero state = λ limit world units e. refl
trails_turns S A turn other h (suc most) state =
    trails_unit A (seq (turn state) (next_turn (turns_within most turn))) (seq (other state) (next_turn (turns_within most other)))
    (trails_seq (Round S A) A (turn state) (other state) (next_turn (turns_within most turn)) (next_turn (turns_within most other)) (h state)
    (trails_next S A (turns_within most turn) (turns_within most other) (trails_turns S A turn other h most)))

trails_rounds : (S A : Type 0) (turn other : S → Run (Round S A)) → ((state : S) → Trails (Round S A) (turn state) (other state)) → (state : S) → Trails A (rounds turn state) (rounds other state)
unfolding rounds
trails_rounds S A turn other h state limit world units e = trails_turns S A turn other h (suc units) state limit world units e

trails_outer : (fun : OuterTree) (args : List Typed) → Trails (Option Typed) (takes_unit (outer_call fun args)) (takes_unit (outer_call fun args))
trails_outer fun args =
    trails_unit (Option Typed) (outer_call fun args) (outer_call fun args)
    (outer_calls Trails trails_pure trails_fails trails_ends trails_local trails_tells trails_grants trails_seq fun args)

trails_bodies : (modules : List ModuleTree) (depth : ℕ) (fun : FunctionTree) (args : List Typed) → Trails (Option Typed) (bodies_within modules depth fun args) (bodies_within modules depth fun args)
trails_bodies modules zero fun args = λ limit world units e. refl
trails_bodies modules (suc depth) fun args =
    on_body Trails trails_pure trails_fails trails_ends trails_local trails_begins trails_outer trails_seq trails_rounds
    modules (bodies_within modules depth) (bodies_within modules depth)
    (λ one given. trails_unit (Option Typed) (bodies_within modules depth one given) (bodies_within modules depth one given) (trails_bodies modules depth one given)) fun args

seen_alike : (limit : Option Limit) (first other : Ran (Stop Cause) World (Unit {0})) → Opens limit first other → IsOfRun (seen_of first).progress → seen_of other ≡ seen_of first
seen_alike limit (came value world left) other h is = rw h.1 refl
seen_alike limit (halted status world) other h is = rw h refl
seen_alike limit (bad (wrong why) world) other h is = rw h refl
seen_alike limit (bad (full need left) world) other h is = absurd is
seen_alike limit (bad (asks call) world) other h is = absurd is
seen_alike limit (bad astray world) other h is = absurd is
seen_alike limit (out world) other h is = rw h refl

pub trail_is_outside : TrailIsOutside
trail_is_outside limit whole trail units is =
    seen_alike limit (ran whole (first_world (trail_of limit) trail) units) (ran whole (first_world open_ended trail) units)
    (on_main Trails trails_pure trails_fails trails_ends trails_local trails_begins trails_outer trails_seq trails_rounds
    whole (bodies_within whole.modules (suc units)) (bodies_within whole.modules (suc units))
    (λ one given. trails_unit (Option Typed) (bodies_within whole.modules (suc units) one given) (bodies_within whole.modules (suc units) one given)
    (trails_bodies whole.modules (suc units) one given))
    limit (first_world (trail_of limit) trail) units refl) is
