-- Pieces leave no more units than they had.
use Rattle.std.proofs.Common.{ℕ, zero, suc, ◌≤◌, ℤ, Bool, true, List, Option, Result, Ok, Err, arith}
use Rattle.cr_runs.specs.Runs.{Ran, came, halted, bad, out, bind}
use Rattle.cr_world.specs.Held.{Held}
use Rattle.cr_world.specs.World.{World, Stop, Got, answered, granted, object_begun}
use Rattle.ext_calls.specs.declared.call.Call.{Call}
use Rattle.mem_bytes.specs.declared.value.Ptr.{Ptr}
use Rattle.mem_bytes.specs.declared.value.Value.{Value}
use Rattle.rs_text.specs.Tree.{OuterTree, FunctionTree, ModuleTree}
use Rattle.rs_mean.specs.declared.cause.Cause.{Cause}
use Rattle.rs_mean.specs.Calls.{outer_call}
use Rattle.rs_mean.specs.Laws.{LeavesWithin, LeavesNoMore}
use Rattle.rs_mean.specs.Run.{Bodies, bodies_within}
use Rattle.rs_mean.specs.Values.{Typed}
use Rattle.rs_mean.specs.World.{Run, pure, fails, ends, seq, takes_unit, Did, after_step, local, after_got, tells, grants, begins, Round, again, done, next_turn, turns_within, rounds}
use Rattle.rs_mean.proofs.Pieces.{outer_calls, Related, on_expr, on_stmts, on_body}

abbrev pub Leaves : (A : Type 0) → Run A → Type 0
Leaves A run = (world : World) (units : ℕ) → LeavesWithin units (run world units)

abbrev pub Bounded : (A : Type 0) → Run A → Run A → Type 0
Bounded A run other = Leaves A run

pub within_more : {A : Type 0} (left units : ℕ) (run : Ran (Stop Cause) World A) → left ≤ units → LeavesWithin left run → LeavesWithin units run
within_more left units (came value world less) h w = omega (arith, h, w)
within_more left units (halted status world) h w = tt
within_more left units (bad stop world) h w = tt
within_more left units (out world) h w = tt

pub within_bind : {A B : Type 0} (units : ℕ) (first : Ran (Stop Cause) World A) (next : A → Run B) → LeavesWithin units first → ((value : A) → Leaves B (next value)) →
    LeavesWithin units (bind first next)
within_bind units (came value world left) next h leaves = within_more left units (next value world left) h (leaves value world left)
within_bind units (halted status world) next h leaves = tt
within_bind units (bad stop world) next h leaves = tt
within_bind units (out world) next h leaves = tt

pub bounded_pure : (A : Type 0) (value : A) → Leaves A (pure value)
unfolding pure
bounded_pure A value world units = omega arith

pub bounded_fails : (A : Type 0) (why : Cause) → Leaves A (fails why)
unfolding fails
bounded_fails A why world units = tt

pub bounded_ends : (A : Type 0) (status : ℤ) → Leaves A (ends status)
unfolding ends
bounded_ends A status world units = tt

within_step : {A : Type 0} (world : World) (units : ℕ) (found : Result (Did A) Cause) → LeavesWithin units (after_step world units found)
within_step world units (Ok did) = omega arith
within_step world units (Err why) = tt

pub bounded_local : (A : Type 0) (step : Held → Result (Did A) Cause) → Leaves A (local step)
unfolding local
bounded_local A step world units = within_step world units (step world.held)

within_got : {A : Type 0} (world : World) (units : ℕ) (found : Result (Got A) (Stop Cause)) → LeavesWithin units (after_got units world found)
within_got world units (Ok got) = omega arith
within_got world units (Err stop) = tt

pub bounded_tells : (call : Call) → Leaves ℤ (tells call)
unfolding tells
bounded_tells call world units = within_got world units (answered call world)

pub bounded_grants : (is_zero : Bool) (size : ℕ) → Leaves Value (grants is_zero size)
unfolding grants
bounded_grants is_zero size world units = within_got world units (granted is_zero size world)

pub bounded_begins : (size align : ℕ) → Leaves Ptr (begins size align)
unfolding begins
bounded_begins size align world units = within_got world units (object_begun true size align world)

pub bounded_seq : (A B : Type 0) (first other : Run A) (next more : A → Run B) → Leaves A first → ((value : A) → Leaves B (next value)) → Leaves B (seq first next)
unfolding seq
bounded_seq A B first other next more h k world units = within_bind units (first world units) next (h world units) k

pub bounded_unit : (A : Type 0) (run other : Run A) → Leaves A run → Leaves A (takes_unit run)
unfolding takes_unit
bounded_unit A run other h world zero = tt
bounded_unit A run other h world (suc units) = within_more units (suc units) (run world units) (omega arith) (h world units)

bounded_next : (S A : Type 0) (rest : S → Run A) → ((state : S) → Leaves A (rest state)) → (round : Round S A) → Leaves A (next_turn rest round)
bounded_next S A rest h (again state) = h state
bounded_next S A rest h (done value) = bounded_pure A value

pub bounded_turns : (S A : Type 0) (turn : S → Run (Round S A)) → ((state : S) → Leaves (Round S A) (turn state)) → (most : ℕ) (state : S) → Leaves A (turns_within most turn state)
bounded_turns S A turn h zero state = λ world units. tt
bounded_turns S A turn h (suc most) state =
    bounded_unit A _ (seq (turn state) (next_turn (turns_within most turn)))
    (bounded_seq (Round S A) A (turn state) (turn state) (next_turn (turns_within most turn)) (next_turn (turns_within most turn)) (h state)
    (bounded_next S A (turns_within most turn) (bounded_turns S A turn h most)))

pub bounded_rounds : (S A : Type 0) (turn other : S → Run (Round S A)) → ((state : S) → Leaves (Round S A) (turn state)) → (state : S) → Leaves A (rounds turn state)
unfolding rounds
bounded_rounds S A turn other h state world units = bounded_turns S A turn h (suc units) state world units

pub outer_bounded : (fun : OuterTree) (args : List Typed) → Leaves (Option Typed) (outer_call fun args)
outer_bounded = outer_calls Bounded bounded_pure bounded_fails bounded_ends bounded_local bounded_tells bounded_grants bounded_seq

pub bounded_outer : (fun : OuterTree) (args : List Typed) → Leaves (Option Typed) (takes_unit (outer_call fun args))
bounded_outer fun args = bounded_unit (Option Typed) (outer_call fun args) (outer_call fun args) (outer_bounded fun args)

-- ---- called bodies

abbrev Behind : Bodies → Bodies → Type 0
Behind = Related Bounded bounded_pure bounded_fails bounded_ends bounded_local bounded_begins bounded_outer bounded_seq bounded_rounds

pub bodies_bounded : (modules : List ModuleTree) (depth : ℕ) (fun : FunctionTree) (args : List Typed) → Leaves (Option Typed) (bodies_within modules depth fun args)
bodies_bounded modules zero fun args = λ world units. tt
bodies_bounded modules (suc depth) fun args =
    on_body Bounded bounded_pure bounded_fails bounded_ends bounded_local bounded_begins bounded_outer bounded_seq bounded_rounds
    modules (bodies_within modules depth) (bodies_within modules depth)
    (λ one with_args. bounded_unit (Option Typed) _ (bodies_within modules depth one with_args) (bodies_bounded modules depth one with_args)) fun args

pub behind_bounded : (modules : List ModuleTree) (depth : ℕ) → Behind (bodies_within modules depth) (bodies_within modules depth)
behind_bounded modules depth = λ fun args. bounded_unit (Option Typed) _ (bodies_within modules depth fun args) (bodies_bounded modules depth fun args)

pub leaves_no_more : LeavesNoMore
leaves_no_more = record {
  expr = λ modules depth locals e.
      on_expr Bounded bounded_pure bounded_fails bounded_ends bounded_local bounded_begins bounded_outer bounded_seq bounded_rounds
      (bodies_within modules depth) (bodies_within modules depth) (behind_bounded modules depth) modules locals e;
  stmts = λ modules depth locals ss.
      on_stmts Bounded bounded_pure bounded_fails bounded_ends bounded_local bounded_begins bounded_outer bounded_seq bounded_rounds
      (bodies_within modules depth) (bodies_within modules depth) (behind_bounded modules depth) modules locals ss;
}
