-- Every way to make a piece makes one that behaves.
use Rattle.std.proofs.Common.{◌≡◌, ℕ, ◌+◌, ℤ, true, List, Option, Result, Ok, Err, refl, sym, subst, arith}
use Rattle.cr_runs.specs.Owes.{Rests}
use Rattle.cr_runs.specs.Runs.{Ran, came, halted, bad, out, bind, state_of}
use Rattle.cr_world.specs.Held.{Held}
use Rattle.cr_world.specs.World.{World, Stop, begun_at, events_of}
use Rattle.ext_calls.specs.declared.call.Call.{Call}
use Rattle.mem_bytes.specs.declared.fault.StoreFault.TheVariants.{Full, Memory}
use Rattle.mem_bytes.specs.declared.value.Ptr.{Ptr}
use Rattle.rs_text.specs.Tree.{OuterTree}
use Rattle.rs_mean.specs.declared.cause.Cause.{Cause}
use Rattle.rs_mean.specs.Calls.{outer_call}
use Rattle.rs_mean.specs.Laws.{LeavesWithin}
use Rattle.rs_mean.specs.Values.{Typed}
use Rattle.rs_mean.specs.World.{Run, pure, fails, ends, seq, takes_unit, Did, after_step, local, after_got, begins, Round, rounds}
use Rattle.rs_mean.proofs.Bounded.{Leaves, bounded_pure, bounded_fails, bounded_ends, bounded_local, bounded_begins, bounded_seq, bounded_unit, bounded_rounds, bounded_outer}
use Rattle.rs_mean.proofs.Extended.{Extends, Later, extends_pure, extends_fails, extends_ends, extends_local, extends_tells, extends_grants, extends_begins, extends_seq, extends_unit, extends_rounds}
use Rattle.rs_mean.proofs.Pieces.{outer_calls}
use Rattle.rs_mean_frames.specs.Behave.{TakesJust, Behaves}

-- ---- without a unit

-- a piece without a unit that shows nothing has none left
rests_by : {A : Type 0} (events : List Call) (run : Ran (Stop Cause) World A) → LeavesWithin 0 run → events_of (state_of run) ≡ events → Rests events_of events run
rests_by events (came value world left) less same = (omega (arith, less), same)
rests_by events (halted status world) less same = same
rests_by events (bad why world) less same = same
rests_by events (out world) less same = same

rests_bind : {A B : Type 0} (events : List Call) (first : Ran (Stop Cause) World A) (next : A → Run B) → Rests events_of events first →
    ((value : A) (world : World) → Rests events_of (events_of world) (next value world 0)) → Rests events_of events (bind first next)
rests_bind events (came value world left) next rests then =
    subst (λ (k : ℕ). Rests events_of events (next value world k)) (sym rests.0)
    (subst (λ (seen : List Call). Rests events_of seen (next value world 0)) rests.1 (then value world))
rests_bind events (halted status world) next rests then = rests
rests_bind events (bad why world) next rests then = rests
rests_bind events (out world) next rests then = rests

-- ---- within more units

-- the words of `rs_mean` and of this crate say the same
just : {A : Type 0} (run later : Ran (Stop Cause) World A) (more : ℕ) → Later run later more → TakesJust run later more
just (came value world left) later more is = is
just (halted status world) later more is = is
just (bad why world) later more is = is
just (out world) later more is = is

later_of : {A : Type 0} (run later : Ran (Stop Cause) World A) (more : ℕ) → TakesJust run later more → Later run later more
later_of (came value world left) later more is = is
later_of (halted status world) later more is = is
later_of (bad why world) later more is = is
later_of (out world) later more is = is

pub extends_of : (A : Type 0) (run : Run A) → Behaves A run → Extends A run run
extends_of A run behaves = record {
  adds = behaves.adds;
  more = λ world units more. later_of (run world units) (run world (units + more)) more (behaves.takes world units more);
}

pub behaves_by : (A : Type 0) (run : Run A) → Leaves A run → ((world : World) → Rests events_of (events_of world) (run world 0)) → Extends A run run → Behaves A run
behaves_by A run leaves rests extends = record {
  leaves = leaves;
  rests = rests;
  adds = extends.adds;
  takes = λ world units more. just (run world units) (run world (units + more)) more (extends.more world units more);
}

-- of the first of two pieces
abbrev pub Behaving : (A : Type 0) → Run A → Run A → Type 0
Behaving A run other = Behaves A run

-- ---- pieces

pub behaves_pure : (A : Type 0) (value : A) → Behaves A (pure value)
unfolding pure
behaves_pure A value = behaves_by A (pure value) (bounded_pure A value) (λ world. (refl, refl)) (extends_pure A value)

pub behaves_fails : (A : Type 0) (why : Cause) → Behaves A (fails why)
unfolding fails
behaves_fails A why = behaves_by A (fails why) (bounded_fails A why) (λ world. refl) (extends_fails A why)

pub behaves_ends : (A : Type 0) (status : ℤ) → Behaves A (ends status)
unfolding ends
behaves_ends A status = behaves_by A (ends status) (bounded_ends A status) (λ world. refl) (extends_ends A status)

step_rests : {A : Type 0} (world : World) (found : Result (Did A) Cause) → Rests events_of (events_of world) (after_step world 0 found)
step_rests world (Ok did) = (refl, refl)
step_rests world (Err why) = refl

pub behaves_local : (A : Type 0) (step : Held → Result (Did A) Cause) → Behaves A (local step)
unfolding local
behaves_local A step = behaves_by A (local step) (bounded_local A step) (λ world. step_rests world (step world.held)) (extends_local A step)

begun_rests : (size align : ℕ) (world : World) (found : _) → Rests events_of (events_of world) (after_got 0 world (begun_at true size align world found))
begun_rests size align world (Ok blocks) = (refl, refl)
begun_rests size align world (Err (Full need left)) = refl
begun_rests size align world (Err Memory) = refl

pub behaves_begins : (size align : ℕ) → Behaves Ptr (begins size align)
unfolding begins
behaves_begins size align = behaves_by Ptr (begins size align) (bounded_begins size align) (λ world. begun_rests size align world _) (extends_begins size align)

rests_seq : (A B : Type 0) (first : Run A) (next : A → Run B) → ((world : World) → Rests events_of (events_of world) (first world 0)) →
    ((value : A) (world : World) → Rests events_of (events_of world) (next value world 0)) → (world : World) → Rests events_of (events_of world) (seq first next world 0)
unfolding seq
rests_seq A B first next rests then world = rests_bind (events_of world) (first world 0) next (rests world) then

pub behaves_seq : (A B : Type 0) (first : Run A) (next : A → Run B) → Behaves A first → ((value : A) → Behaves B (next value)) → Behaves B (seq first next)
behaves_seq A B first next h behaves =
    behaves_by B (seq first next)
    (bounded_seq A B first first next next h.leaves (λ value. (behaves value).leaves))
    (rests_seq A B first next h.rests (λ value. (behaves value).rests))
    (extends_seq A B first first next next (extends_of A first h) (λ value. extends_of B (next value) (behaves value)))

pub seq_behaves : (A B : Type 0) (first other : Run A) (next more : A → Run B) → Behaves A first → ((value : A) → Behaves B (next value)) → Behaves B (seq first next)
seq_behaves A B first other next more h behaves = behaves_seq A B first next h behaves

unit_rests : (A : Type 0) (run : Run A) (world : World) → Rests events_of (events_of world) (takes_unit run world 0)
unfolding takes_unit
unit_rests A run world = refl

-- behind a unit a piece need not be one that shows nothing
unit_behaves_by : (A : Type 0) (run : Run A) → Leaves A run → Extends A run run → Behaves A (takes_unit run)
unit_behaves_by A run leaves extends =
    behaves_by A (takes_unit run) (bounded_unit A run run leaves) (unit_rests A run) (extends_unit A run run extends)

pub behaves_unit : (A : Type 0) (run : Run A) → Behaves A run → Behaves A (takes_unit run)
behaves_unit A run h = unit_behaves_by A run h.leaves (extends_of A run h)

outer_leaves : (fun : OuterTree) (args : List Typed) → Behaves (Option Typed) (takes_unit (outer_call fun args))
outer_leaves fun args =
    let extends : Extends (Option Typed) (outer_call fun args) (outer_call fun args) =
    outer_calls Extends extends_pure extends_fails extends_ends extends_local extends_tells extends_grants extends_seq fun args in
    behaves_by (Option Typed) (takes_unit (outer_call fun args)) (bounded_outer fun args) (unit_rests (Option Typed) (outer_call fun args))
    (extends_unit (Option Typed) (outer_call fun args) (outer_call fun args) extends)

pub behaves_outer : (fun : OuterTree) (args : List Typed) → Behaves (Option Typed) (takes_unit (outer_call fun args))
behaves_outer = outer_leaves

rounds_rests : (S A : Type 0) (turn : S → Run (Round S A)) (state : S) (world : World) → Rests events_of (events_of world) (rounds turn state world 0)
unfolding rounds takes_unit
rounds_rests S A turn state world = refl

pub behaves_rounds : (S A : Type 0) (turn : S → Run (Round S A)) → ((state : S) → Behaves (Round S A) (turn state)) → (state : S) → Behaves A (rounds turn state)
behaves_rounds S A turn h state =
    behaves_by A (rounds turn state) (bounded_rounds S A turn turn (λ one. (h one).leaves) state) (rounds_rests S A turn state)
    (extends_rounds S A turn turn (λ one. extends_of (Round S A) (turn one) (h one)) state)

pub rounds_behave : (S A : Type 0) (turn other : S → Run (Round S A)) → ((state : S) → Behaves (Round S A) (turn state)) → (state : S) → Behaves A (rounds turn state)
rounds_behave S A turn other h state = behaves_rounds S A turn h state
