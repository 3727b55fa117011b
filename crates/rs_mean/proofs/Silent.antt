-- A piece that has no unit calls nothing outside.
use Rattle.std.proofs.Common.{◌≡◌, ◌∙◌, ℕ, ℤ, true, List, Option, Result, Ok, Err, refl, sym, subst, arith}
use Rattle.cr_runs.specs.Runs.{Ran, came, halted, bad, out, bind, state_of}
use Rattle.cr_world.specs.Held.{Held}
use Rattle.cr_world.specs.World.{World, Stop, begun_at, events_of}
use Rattle.ext_calls.specs.declared.call.Call.{Call}
use Rattle.mem_bytes.specs.declared.fault.StoreFault.TheVariants.{Full, Memory}
use Rattle.mem_bytes.specs.declared.value.Ptr.{Ptr}
use Rattle.rs_text.specs.Tree.{OuterTree, ModuleTree}
use Rattle.rs_mean.specs.declared.cause.Cause.{Cause}
use Rattle.rs_mean.specs.Calls.{outer_call}
use Rattle.rs_mean.specs.Laws.{LeavesWithin, ShowsNothing}
use Rattle.rs_mean.specs.Run.{Bodies, bodies_within}
use Rattle.rs_mean.specs.Values.{Typed}
use Rattle.rs_mean.specs.World.{Run, pure, fails, ends, seq, takes_unit, Did, after_step, local, after_got, begins, Round, rounds}
use Rattle.rs_mean.proofs.Bounded.{Leaves, bounded_pure, bounded_fails, bounded_ends, bounded_local, bounded_begins, bounded_seq, bounded_unit, bounded_rounds, bounded_outer, bodies_bounded}
use Rattle.rs_mean.proofs.Pieces.{Related, on_expr, on_stmts}

pub record Quiet (A : Type 0) (run other : Run A) : Type 0 where
  pub bounded : Leaves A run
  pub quiet : (world : World) → events_of (state_of (run world 0)) ≡ events_of world

quiet_bind : {A B : Type 0} (events : List Call) (first : Ran (Stop Cause) World A) (next more : A → Run B) → LeavesWithin 0 first → events_of (state_of first) ≡ events →
    ((value : A) → Quiet B (next value) (more value)) → events_of (state_of (bind first next)) ≡ events
quiet_bind events (came value state left) next more h e quiet =
    let none : left ≡ 0 = omega arith in
    subst (λ (k : ℕ). events_of (state_of (next value state k)) ≡ events) (sym none) ((quiet value).quiet state ∙ e)
quiet_bind events (halted status state) next more h e quiet = e
quiet_bind events (bad why state) next more h e quiet = e
quiet_bind events (out state) next more h e quiet = e

quiet_pure : (A : Type 0) (value : A) → Quiet A (pure value) (pure value)
unfolding pure
quiet_pure A value = record { bounded = bounded_pure A value; quiet = λ world. refl }

quiet_fails : (A : Type 0) (why : Cause) → Quiet A (fails why) (fails why)
unfolding fails
quiet_fails A why = record { bounded = bounded_fails A why; quiet = λ world. refl }

quiet_ends : (A : Type 0) (status : ℤ) → Quiet A (ends status) (ends status)
unfolding ends
quiet_ends A status = record { bounded = bounded_ends A status; quiet = λ world. refl }

quiet_step : {A : Type 0} (world : World) (found : Result (Did A) Cause) → events_of (state_of (after_step world 0 found)) ≡ events_of world
quiet_step world (Ok did) = refl
quiet_step world (Err why) = refl

quiet_local : (A : Type 0) (step : Held → Result (Did A) Cause) → Quiet A (local step) (local step)
unfolding local
quiet_local A step = record { bounded = bounded_local A step; quiet = λ world. quiet_step world (step world.held) }

quiet_begun : (size align : ℕ) (world : World) (found : _) → events_of (state_of (after_got 0 world (begun_at true size align world found))) ≡ events_of world
quiet_begun size align world (Ok blocks) = refl
quiet_begun size align world (Err (Full need left)) = refl
quiet_begun size align world (Err Memory) = refl

quiet_begins : (size align : ℕ) → Quiet Ptr (begins size align) (begins size align)
unfolding begins
quiet_begins size align = record { bounded = bounded_begins size align; quiet = λ world. quiet_begun size align world _ }

quiet_seq : (A B : Type 0) (first other : Run A) (next more : A → Run B) → Quiet A first other → ((value : A) → Quiet B (next value) (more value)) → Quiet B (seq first next) (seq other more)
unfolding seq
quiet_seq A B first other next more h quiet = record {
  bounded = bounded_seq A B first other next more h.bounded (λ value. (quiet value).bounded);
  quiet = λ world. quiet_bind (events_of world) (first world 0) next more (h.bounded world 0) (h.quiet world) quiet;
}

quiet_unit : (A : Type 0) (run other : Run A) → Leaves A run → Quiet A (takes_unit run) (takes_unit other)
unfolding takes_unit
quiet_unit A run other h = record { bounded = bounded_unit A run other h; quiet = λ world. refl }

quiet_outer : (fun : OuterTree) (args : List Typed) → Quiet (Option Typed) (takes_unit (outer_call fun args)) (takes_unit (outer_call fun args))
unfolding takes_unit
quiet_outer fun args = record { bounded = bounded_outer fun args; quiet = λ world. refl }

quiet_rounds : (S A : Type 0) (turn other : S → Run (Round S A)) → ((state : S) → Quiet (Round S A) (turn state) (other state)) → (state : S) → Quiet A (rounds turn state) (rounds other state)
unfolding rounds takes_unit
quiet_rounds S A turn other h state = record {
  bounded = bounded_rounds S A turn other (λ one. (h one).bounded) state;
  quiet = λ world. refl;
}

abbrev Hush : Bodies → Bodies → Type 0
Hush = Related Quiet quiet_pure quiet_fails quiet_ends quiet_local quiet_begins quiet_outer quiet_seq quiet_rounds

hushed : (modules : List ModuleTree) (depth : ℕ) → Hush (bodies_within modules depth) (bodies_within modules depth)
hushed modules depth = λ fun args. quiet_unit (Option Typed) (bodies_within modules depth fun args) (bodies_within modules depth fun args) (bodies_bounded modules depth fun args)

pub shows_nothing : ShowsNothing
shows_nothing = record {
  expr = λ modules depth locals e.
      (on_expr Quiet quiet_pure quiet_fails quiet_ends quiet_local quiet_begins quiet_outer quiet_seq quiet_rounds
      (bodies_within modules depth) (bodies_within modules depth) (hushed modules depth) modules locals e).quiet;
  stmts = λ modules depth locals ss.
      (on_stmts Quiet quiet_pure quiet_fails quiet_ends quiet_local quiet_begins quiet_outer quiet_seq quiet_rounds
      (bodies_within modules depth) (bodies_within modules depth) (hushed modules depth) modules locals ss).quiet;
}
