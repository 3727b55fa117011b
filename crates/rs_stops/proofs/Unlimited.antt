-- A piece that begins on a trail without limit ends on one, and no object in it goes past a limit.
use Rattle.std.proofs.Common.{if◌then◌else◌, ◌≡◌, ℕ, zero, suc, ℤ, Bool, true, false, List, [], ◌∷◌, Option, Some, None, Result, Ok, Err, refl, ap}
use Rattle.cr_runs.specs.Runs.{Ran, came, halted, bad, out, bind}
use Rattle.cr_world.specs.Held.{Held}
use Rattle.cr_world.specs.World.{World, Terms, open_ended, trail_of, Stop, wrong, full, asks, astray, Got, answered, answer_from, answer_at_end, granted, granted_on, after_allocation, is_of_store, is_refused_by, object_begun, begun_at, limit_of, first_world}
use Rattle.ext_calls.specs.declared.call.Call.{Call}
use Rattle.mem_bytes.specs.Counted.{Limit, after_alloc}
use Rattle.mem_bytes.specs.declared.value.Ptr.{Ptr}
use Rattle.mem_bytes.specs.declared.value.Value.{Value}
use Rattle.rs_text.specs.Tree.{OuterTree, FunctionTree, ModuleTree}
use Rattle.rs_mean.specs.declared.cause.Cause.{Cause}
use Rattle.rs_mean.specs.Calls.{outer_call}
use Rattle.rs_mean.specs.Run.{bodies_within, ran, seen_of}
use Rattle.rs_mean.specs.Values.{Typed}
use Rattle.rs_mean.specs.World.{Run, pure, fails, ends, seq, takes_unit, Did, after_step, local, after_got, tells, grants, begins, Round, again, done, next_turn, turns_within, rounds}
use Rattle.rs_mean.proofs.Pieces.{outer_calls, on_body, on_main}
use Rattle.rs_stops.specs.Full.{HasRoom, UnlimitedRunsAreNeverFull}

-- the world's trail is one over a store without limit
abbrev pub IsUnlimited : World → Type 0
IsUnlimited world = world.terms ≡ trail_of None

-- why a piece goes no further isn't that an object has no room
abbrev pub IsNotFull : Stop Cause → Type 0
IsNotFull (full need left) = ⊥
IsNotFull (wrong why) = Unit {0}
IsNotFull (asks call) = Unit {0}
IsNotFull astray = Unit {0}

-- what a piece comes to: the world behind it is one without limit, and it isn't full
abbrev pub EndsUnlimited : {A : Type 0} → Ran (Stop Cause) World A → Type 0
EndsUnlimited (came value world left) = IsUnlimited world
EndsUnlimited (halted status world) = Unit {0}
EndsUnlimited (bad stop world) = IsNotFull stop
EndsUnlimited (out world) = Unit {0}

abbrev pub Unlimited : (A : Type 0) → Run A → Type 0
Unlimited A run = (world : World) (units : ℕ) → IsUnlimited world → EndsUnlimited (run world units)

-- the same of the first of two pieces
abbrev pub UnlimitedFirst : (A : Type 0) → Run A → Run A → Type 0
UnlimitedFirst A run other = Unlimited A run

-- ---- ends, and one piece behind another

unlimited_pure : (A : Type 0) (value : A) → Unlimited A (pure value)
unfolding pure
unlimited_pure A value world units e = e

unlimited_fails : (A : Type 0) (why : Cause) → Unlimited A (fails why)
unfolding fails
unlimited_fails A why world units e = tt

unlimited_ends : (A : Type 0) (status : ℤ) → Unlimited A (ends status)
unfolding ends
unlimited_ends A status world units e = tt

unlimited_bind : {A B : Type 0} (first : Ran (Stop Cause) World A) (next : A → Run B) → EndsUnlimited first → ((value : A) → Unlimited B (next value)) →
    EndsUnlimited (bind first next)
unlimited_bind (came value world left) next e unlimited = unlimited value world left e
unlimited_bind (halted status world) next e unlimited = tt
unlimited_bind (bad stop world) next e unlimited = e
unlimited_bind (out world) next e unlimited = tt

unlimited_seq : (A B : Type 0) (first other : Run A) (next more : A → Run B) → Unlimited A first → ((value : A) → Unlimited B (next value)) → Unlimited B (seq first next)
unfolding seq
unlimited_seq A B first other next more h unlimited world units e = unlimited_bind (first world units) next (h world units e) unlimited

unlimited_unit : (A : Type 0) (run : Run A) → Unlimited A run → Unlimited A (takes_unit run)
unfolding takes_unit
unlimited_unit A run h world zero e = tt
unlimited_unit A run h world (suc units) e = h world units e

-- ---- steps of what the program holds

ends_step : {A : Type 0} (world : World) (units : ℕ) → IsUnlimited world → (found : Result (Did A) Cause) → EndsUnlimited (after_step world units found)
ends_step world units e (Ok did) = e
ends_step world units e (Err why) = tt

unlimited_local : (A : Type 0) (step : Held → Result (Did A) Cause) → Unlimited A (local step)
unfolding local
unlimited_local A step world units e = ends_step world units e (step world.held)

-- ---- steps of the world

abbrev GotUnlimited : {A : Type 0} → Result (Got A) (Stop Cause) → Type 0
GotUnlimited (Ok got) = IsUnlimited got.world
GotUnlimited (Err stop) = IsNotFull stop

ends_got : {A : Type 0} (world : World) (units : ℕ) (found : Result (Got A) (Stop Cause)) → GotUnlimited found → EndsUnlimited (after_got units world found)
ends_got world units (Ok got) h = h
ends_got world units (Err stop) h = h

-- a call, whose answer is the first that is left; past the trail's end it has none
got_at_end : (call : Call) (world : World) → IsUnlimited world → (terms : Terms) → GotUnlimited (answer_at_end terms call world)
got_at_end call world e open_ended = e
got_at_end call world e (trail_of limit) = tt

got_answer : (call : Call) (world : World) → IsUnlimited world → (answers : List ℤ) → GotUnlimited (answer_from answers call world)
got_answer call world e [] = got_at_end call world e world.terms
got_answer call world e (answer ∷ left) = e

unlimited_tells : (call : Call) → Unlimited ℤ (tells call)
unfolding tells
unlimited_tells call world units e = ends_got world units (answered call world) (got_answer call world e world.answers)

-- an allocation, which a store may refuse, but which isn't full
got_from_store : (refused same is_zero : Bool) (size : ℕ) (left : List ℤ) (world : World) → IsUnlimited world →
    GotUnlimited (if same then after_allocation refused is_zero size left world else Err astray)
got_from_store refused true is_zero size left world e = e
got_from_store refused false is_zero size left world e = tt

got_grant : (is_zero : Bool) (size : ℕ) (world : World) → IsUnlimited world → (terms : Terms) (answers : List ℤ) → GotUnlimited (granted_on terms answers is_zero size world)
got_grant is_zero size world e open_ended [] = e
got_grant is_zero size world e open_ended (answer ∷ left) = e
got_grant is_zero size world e (trail_of limit) [] = tt
got_grant is_zero size world e (trail_of limit) (answer ∷ left) =
    got_from_store _ (is_of_store (is_refused_by limit world.held.blocks size) answer) is_zero size left world e

unlimited_grants : (is_zero : Bool) (size : ℕ) → Unlimited Value (grants is_zero size)
unfolding grants
unlimited_grants is_zero size world units e =
    ends_got world units (granted is_zero size world) (got_grant is_zero size world e world.terms world.answers)

-- an object, which a store without limit has room for
got_begun : (size align : ℕ) (world : World) → IsUnlimited world → (limit : Option Limit) → limit ≡ None →
    GotUnlimited (begun_at true size align world (after_alloc limit world.held.blocks size align))
got_begun size align world e None none = e
got_begun size align world e (Some limit) none = cc

unlimited_begins : (size align : ℕ) → Unlimited Ptr (begins size align)
unfolding begins
unlimited_begins size align world units e =
    ends_got world units (object_begun true size align world) (got_begun size align world e (limit_of world.terms) (ap limit_of e))

-- ---- turns

unlimited_next : (S A : Type 0) (rest : S → Run A) → ((state : S) → Unlimited A (rest state)) → (round : Round S A) → Unlimited A (next_turn rest round)
unlimited_next S A rest h (again state) = h state
unlimited_next S A rest h (done value) = unlimited_pure A value

unlimited_turns : (S A : Type 0) (turn : S → Run (Round S A)) → ((state : S) → Unlimited (Round S A) (turn state)) → (most : ℕ) (state : S) →
    Unlimited A (turns_within most turn state)
unlimited_turns S A turn h zero state = λ world units e. tt
unlimited_turns S A turn h (suc most) state =
    unlimited_unit A (seq (turn state) (next_turn (turns_within most turn)))
    (unlimited_seq (Round S A) A (turn state) (turn state) (next_turn (turns_within most turn)) (next_turn (turns_within most turn)) (h state)
    (unlimited_next S A (turns_within most turn) (unlimited_turns S A turn h most)))

unlimited_rounds : (S A : Type 0) (turn other : S → Run (Round S A)) → ((state : S) → Unlimited (Round S A) (turn state)) → (state : S) → Unlimited A (rounds turn state)
unfolding rounds
unlimited_rounds S A turn other h state world units e = unlimited_turns S A turn h (suc units) state world units e

-- ---- called bodies

unlimited_outer : (fun : OuterTree) (args : List Typed) → Unlimited (Option Typed) (takes_unit (outer_call fun args))
unlimited_outer fun args =
    unlimited_unit (Option Typed) (outer_call fun args)
    (outer_calls UnlimitedFirst unlimited_pure unlimited_fails unlimited_ends unlimited_local unlimited_tells unlimited_grants unlimited_seq fun args)

unlimited_bodies : (modules : List ModuleTree) (depth : ℕ) (fun : FunctionTree) (args : List Typed) → Unlimited (Option Typed) (bodies_within modules depth fun args)
unlimited_bodies modules zero fun args = λ world units e. tt
unlimited_bodies modules (suc depth) fun args =
    on_body UnlimitedFirst unlimited_pure unlimited_fails unlimited_ends unlimited_local unlimited_begins unlimited_outer unlimited_seq unlimited_rounds
    modules (bodies_within modules depth) (bodies_within modules depth)
    (λ one given. unlimited_unit (Option Typed) (bodies_within modules depth one given) (unlimited_bodies modules depth one given)) fun args

-- ---- the whole run

stop_has_room : (stop : Stop Cause) (world : World) → IsNotFull stop → HasRoom (seen_of (bad stop world)).progress
stop_has_room (wrong why) world h = tt
stop_has_room (full need left) world h = h
stop_has_room (asks call) world h = tt
stop_has_room astray world h = tt

has_room : (run : Ran (Stop Cause) World (Unit {0})) → EndsUnlimited run → HasRoom (seen_of run).progress
has_room (came value world left) h = tt
has_room (halted status world) h = tt
has_room (bad stop world) h = stop_has_room stop world h
has_room (out world) h = tt

pub unlimited_runs_are_never_full : UnlimitedRunsAreNeverFull
unlimited_runs_are_never_full whole trail units =
    has_room (ran whole (first_world (trail_of None) trail) units)
    (on_main UnlimitedFirst unlimited_pure unlimited_fails unlimited_ends unlimited_local unlimited_begins unlimited_outer unlimited_seq unlimited_rounds
    whole (bodies_within whole.modules (suc units)) (bodies_within whole.modules (suc units))
    (λ one given. unlimited_unit (Option Typed) (bodies_within whole.modules (suc units) one given) (unlimited_bodies whole.modules (suc units) one given))
    (first_world (trail_of None) trail) units refl)
