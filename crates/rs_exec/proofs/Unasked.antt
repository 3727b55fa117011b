-- A run asks the host for nothing before it has taken a unit.
use Rattle.std.proofs.Common.{◌≡◌, ℕ, zero, suc, ◌+◌, ◌<◌, ℤ, true, Option, Result, Ok, Err, sym, subst, arith}
use Rattle.cr_runs.specs.Runs.{Ran, came, halted, bad, out, bind}
use Rattle.cr_world.specs.Held.{Held}
use Rattle.cr_world.specs.World.{World, Stop, wrong, full, asks, astray, begun_at}
use Rattle.ext_calls.specs.declared.call.Call.{Call}
use Rattle.mem_bytes.specs.declared.fault.StoreFault.TheVariants.{Full, Memory}
use Rattle.mem_bytes.specs.declared.value.Ptr.{Ptr}
use Rattle.rs_text.specs.Tree.{OuterTree, CrateTree}
use Rattle.rs_mean.specs.declared.cause.Cause.{Cause}
use Rattle.rs_mean.specs.Calls.{outer_call}
use Rattle.rs_mean.specs.Laws.{LeavesWithin, bodies_of}
use Rattle.rs_mean.specs.Run.{run_main}
use Rattle.rs_mean.specs.Values.{Typed}
use Rattle.rs_mean.specs.World.{Run, pure, fails, ends, seq, takes_unit, Did, after_step, local, after_got, begins, Round, rounds}
use Rattle.rs_mean.proofs.Bounded.{Leaves, bounded_pure, bounded_fails, bounded_ends, bounded_local, bounded_begins, bounded_seq, bounded_unit, bounded_rounds, bounded_outer, bodies_bounded}
use Rattle.rs_mean.proofs.Pieces.{on_main}

-- a run that didn't stop at a call
abbrev pub IsUnasked : {A : Type 0} → Ran (Stop Cause) World A → Type 0
IsUnasked (came value world left) = Unit {0}
IsUnasked (halted status world) = Unit {0}
IsUnasked (bad (wrong why) world) = Unit {0}
IsUnasked (bad (full need left) world) = Unit {0}
IsUnasked (bad (asks call) world) = ⊥
IsUnasked (bad astray world) = Unit {0}
IsUnasked (out world) = Unit {0}

record Unasking (A : Type 0) (run other : Run A) : Type 0 where
  pub bounded : Leaves A run
  pub unasking : (world : World) → IsUnasked (run world 0)

unasked_bind : {A B : Type 0} (first : Ran (Stop Cause) World A) (next more : A → Run B) → LeavesWithin 0 first → IsUnasked first →
    ((value : A) → Unasking B (next value) (more value)) → IsUnasked (bind first next)
unasked_bind (came value state left) next more h is unasking =
    let none : left ≡ 0 = omega arith in
    subst (λ (k : ℕ). IsUnasked (next value state k)) (sym none) ((unasking value).unasking state)
unasked_bind (halted status state) next more h is unasking = tt
unasked_bind (bad (wrong why) state) next more h is unasking = tt
unasked_bind (bad (full need left) state) next more h is unasking = tt
unasked_bind (bad (asks call) state) next more h is unasking = absurd is
unasked_bind (bad astray state) next more h is unasking = tt
unasked_bind (out state) next more h is unasking = tt

on_pure : (A : Type 0) (value : A) → Unasking A (pure value) (pure value)
unfolding pure
on_pure A value = record { bounded = bounded_pure A value; unasking = λ world. tt }

on_fails : (A : Type 0) (why : Cause) → Unasking A (fails why) (fails why)
unfolding fails
on_fails A why = record { bounded = bounded_fails A why; unasking = λ world. tt }

on_ends : (A : Type 0) (status : ℤ) → Unasking A (ends status) (ends status)
unfolding ends
on_ends A status = record { bounded = bounded_ends A status; unasking = λ world. tt }

unasked_step : {A : Type 0} (world : World) (found : Result (Did A) Cause) → IsUnasked (after_step world 0 found)
unasked_step world (Ok did) = tt
unasked_step world (Err why) = tt

on_local : (A : Type 0) (step : Held → Result (Did A) Cause) → Unasking A (local step) (local step)
unfolding local
on_local A step = record { bounded = bounded_local A step; unasking = λ world. unasked_step world (step world.held) }

unasked_begun : (size align : ℕ) (world : World) (found : _) → IsUnasked (after_got 0 world (begun_at true size align world found))
unasked_begun size align world (Ok blocks) = tt
unasked_begun size align world (Err (Full need left)) = tt
unasked_begun size align world (Err Memory) = tt

on_begins : (size align : ℕ) → Unasking Ptr (begins size align) (begins size align)
unfolding begins
on_begins size align = record { bounded = bounded_begins size align; unasking = λ world. unasked_begun size align world _ }

on_seq : (A B : Type 0) (first other : Run A) (next more : A → Run B) → Unasking A first other → ((value : A) → Unasking B (next value) (more value)) →
    Unasking B (seq first next) (seq other more)
unfolding seq
on_seq A B first other next more h unasking = record {
  bounded = bounded_seq A B first other next more h.bounded (λ value. (unasking value).bounded);
  unasking = λ world. unasked_bind (first world 0) next more (h.bounded world 0) (h.unasking world) unasking;
}

on_unit : (A : Type 0) (run other : Run A) → Leaves A run → Unasking A (takes_unit run) (takes_unit other)
unfolding takes_unit
on_unit A run other h = record { bounded = bounded_unit A run other h; unasking = λ world. tt }

on_outer : (fun : OuterTree) (args : _) → Unasking (Option Typed) (takes_unit (outer_call fun args)) (takes_unit (outer_call fun args))
unfolding takes_unit
on_outer fun args = record { bounded = bounded_outer fun args; unasking = λ world. tt }

on_rounds : (S A : Type 0) (turn other : S → Run (Round S A)) → ((state : S) → Unasking (Round S A) (turn state) (other state)) → (state : S) →
    Unasking A (rounds turn state) (rounds other state)
unfolding rounds takes_unit
on_rounds S A turn other h state = record {
  bounded = bounded_rounds S A turn other (λ one. (h one).bounded) state;
  unasking = λ world. tt;
}

unasked_main : (whole : CrateTree) (world : World) → IsUnasked (run_main whole (bodies_of whole.modules) world 0)
unasked_main whole =
    (on_main Unasking on_pure on_fails on_ends on_local on_begins on_outer on_seq on_rounds whole (bodies_of whole.modules) (bodies_of whole.modules)
    (λ fun args. on_unit (Option Typed) (bodies_of whole.modules fun args) (bodies_of whole.modules fun args)
    (λ world units. bodies_bounded whole.modules (suc units) fun args world units))).unasking

-- a run that stopped at a call within so many units and none that was left had taken one
pub asked_later : (whole : CrateTree) (world after : World) (call : Call) (taken : ℕ) →
    run_main whole (bodies_of whole.modules) world (taken + 0) ≡ bad (asks call) after → 0 < taken
asked_later whole world after call zero is = absurd (subst (λ (run : Ran (Stop Cause) World (Unit {0})). IsUnasked run) is (unasked_main whole world))
asked_later whole world after call (suc taken) is = omega arith
