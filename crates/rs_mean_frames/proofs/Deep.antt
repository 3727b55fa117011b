-- How deep calls may be nested plays no part, where that isn't less than the units.
use Rattle.std.proofs.Common.{◌≡◌, ◌∙◌, ℕ, zero, suc, ◌≤◌, ◌<◌, ℤ, List, Option, Result, refl, ap, arith}
use Rattle.cr_runs.specs.Runs.{Ran, came, halted, bad, out, bind}
use Rattle.cr_world.specs.Held.{Held}
use Rattle.cr_world.specs.World.{World, Stop}
use Rattle.mem_bytes.specs.declared.value.Ptr.{Ptr}
use Rattle.rs_text.specs.Tree.{OuterTree, FunctionTree, ModuleTree, CrateTree}
use Rattle.rs_mean.specs.declared.cause.Cause.{Cause}
use Rattle.rs_mean.specs.Calls.{outer_call}
use Rattle.rs_mean.specs.Laws.{LeavesWithin, bodies_of}
use Rattle.rs_mean.specs.Run.{bodies_within, run_main}
use Rattle.rs_mean.specs.Values.{Typed}
use Rattle.rs_mean.specs.World.{Run, pure, fails, ends, seq, takes_unit, Did, local, begins, Round, again, done, next_turn, turns_within, rounds}
use Rattle.rs_mean.proofs.Bounded.{Leaves, bounded_pure, bounded_fails, bounded_ends, bounded_local, bounded_begins, bounded_seq, bounded_unit, bounded_rounds, bounded_outer, bodies_bounded}
use Rattle.rs_mean.proofs.Pieces.{on_body, on_main}

-- two pieces are the same at each bound up to one
record Agrees (most : ℕ) (A : Type 0) (run other : Run A) : Type 0 where
  pub bounded : Leaves A run
  pub same : (world : World) (units : ℕ) → units ≤ most → run world units ≡ other world units

module _ (most : ℕ) where
  agree_pure : (A : Type 0) (value : A) → Agrees most A (pure value) (pure value)
  agree_pure A value = record { bounded = bounded_pure A value; same = λ world units w. refl }

  agree_fails : (A : Type 0) (why : Cause) → Agrees most A (fails why) (fails why)
  agree_fails A why = record { bounded = bounded_fails A why; same = λ world units w. refl }

  agree_ends : (A : Type 0) (status : ℤ) → Agrees most A (ends status) (ends status)
  agree_ends A status = record { bounded = bounded_ends A status; same = λ world units w. refl }

  agree_local : (A : Type 0) (step : Held → Result (Did A) Cause) → Agrees most A (local step) (local step)
  agree_local A step = record { bounded = bounded_local A step; same = λ world units w. refl }

  agree_begins : (size align : ℕ) → Agrees most Ptr (begins size align) (begins size align)
  agree_begins size align = record { bounded = bounded_begins size align; same = λ world units w. refl }

  agree_outer : (fun : OuterTree) (args : List Typed) → Agrees most (Option Typed) (takes_unit (outer_call fun args)) (takes_unit (outer_call fun args))
  agree_outer fun args = record { bounded = bounded_outer fun args; same = λ world units w. refl }

  agree_bind : (A B : Type 0) (units : ℕ) (first : Ran (Stop Cause) World A) (next more : A → Run B) → units ≤ most → LeavesWithin units first →
      ((value : A) → Agrees most B (next value) (more value)) → bind first next ≡ bind first more
  agree_bind A B units (came value world left) next more w h agree = (agree value).same world left (omega arith)
  agree_bind A B units (halted status world) next more w h agree = refl
  agree_bind A B units (bad why world) next more w h agree = refl
  agree_bind A B units (out world) next more w h agree = refl

  agree_seq : (A B : Type 0) (first other : Run A) (next more : A → Run B) → Agrees most A first other → ((value : A) → Agrees most B (next value) (more value)) →
      Agrees most B (seq first next) (seq other more)
  unfolding seq
  agree_seq A B first other next more h agree = record {
    bounded = bounded_seq A B first other next more h.bounded (λ value. (agree value).bounded);
    same = λ world units w.
        agree_bind A B units (first world units) next more w (h.bounded world units) agree
        ∙ ap (λ (found : Ran (Stop Cause) World A). bind found more) (h.same world units w);
  }

  turned : (S A : Type 0) (rest other : S → Run A) (units : ℕ) (first : Ran (Stop Cause) World (Round S A)) → LeavesWithin units first →
      ((state : S) (world : World) (left : ℕ) → left ≤ units → rest state world left ≡ other state world left) → bind first (next_turn rest) ≡ bind first (next_turn other)
  turned S A rest other units (came (again state) world left) w same = same state world left w
  turned S A rest other units (came (done value) world left) w same = refl
  turned S A rest other units (halted status world) w same = refl
  turned S A rest other units (bad why world) w same = refl
  turned S A rest other units (out world) w same = refl

  agree_turns : (S A : Type 0) (turn other : S → Run (Round S A)) → ((state : S) → Agrees most (Round S A) (turn state) (other state)) → (k : ℕ) (state : S) (world : World) (units : ℕ) → units ≤ most →
      turns_within k turn state world units ≡ turns_within k other state world units
  unfolding takes_unit seq
  agree_turns S A turn other h zero state world units w = refl
  agree_turns S A turn other h (suc k) state world zero w = refl
  agree_turns S A turn other h (suc k) state world (suc units) w =
      turned S A (turns_within k turn) (turns_within k other) units (turn state world units) ((h state).bounded world units)
      (λ next at left less. agree_turns S A turn other h k next at left (omega arith))
      ∙ ap (λ (found : Ran (Stop Cause) World (Round S A)). bind found (next_turn (turns_within k other))) ((h state).same world units (omega arith))

  agree_rounds : (S A : Type 0) (turn other : S → Run (Round S A)) → ((state : S) → Agrees most (Round S A) (turn state) (other state)) → (state : S) → Agrees most A (rounds turn state) (rounds other state)
  unfolding rounds
  agree_rounds S A turn other h state = record {
    bounded = bounded_rounds S A turn other (λ one. (h one).bounded) state;
    same = λ world units w. agree_turns S A turn other h (suc units) state world units w;
  }

behind_unit : (most : ℕ) (A : Type 0) (run other : Run A) → ((world : World) (units : ℕ) → units < most → run world units ≡ other world units) →
    (world : World) (units : ℕ) → units ≤ most → takes_unit run world units ≡ takes_unit other world units
unfolding takes_unit
behind_unit most A run other same world zero w = refl
behind_unit most A run other same world (suc units) w = same world units (omega arith)

-- a piece behind a unit, where two are the same below a bound
agree_unit : (most : ℕ) (A : Type 0) (run other : Run A) → Leaves A run → ((world : World) (units : ℕ) → units < most → run world units ≡ other world units) →
    Agrees most A (takes_unit run) (takes_unit other)
agree_unit most A run other h same = record { bounded = bounded_unit A run other h; same = behind_unit most A run other same }

-- deeper calls than there are units play no part
pub depth_agree : (modules : List ModuleTree) (k j : ℕ) (fun : FunctionTree) (args : List Typed) (world : World) (units : ℕ) → units < k → units < j →
    bodies_within modules k fun args world units ≡ bodies_within modules j fun args world units
depth_agree modules zero j fun args world units a b = absurd (omega arith)
depth_agree modules (suc k) zero fun args world units a b = absurd (omega arith)
depth_agree modules (suc k) (suc j) fun args world units a b =
    (on_body (Agrees units) (agree_pure units) (agree_fails units) (agree_ends units) (agree_local units) (agree_begins units) (agree_outer units) (agree_seq units) (agree_rounds units)
    modules (bodies_within modules k) (bodies_within modules j)
    (λ one given. agree_unit units (Option Typed) (bodies_within modules k one given) (bodies_within modules j one given) (bodies_bounded modules k one given)
    (λ at left w. depth_agree modules k j one given at left (omega arith) (omega arith))) fun args).same world units (omega arith)

-- the body of a function, as deep as the units go
pub bodies_same_at : (modules : List ModuleTree) (depth : ℕ) (fun : FunctionTree) (args : List Typed) (world : World) (units : ℕ) → units < depth →
    bodies_within modules depth fun args world units ≡ bodies_of modules fun args world units
bodies_same_at modules depth fun args world units less = depth_agree modules depth (suc units) fun args world units less (omega arith)

-- `main.rs`
pub main_at : (whole : CrateTree) (depth units : ℕ) (world : World) → units < suc depth →
    run_main whole (bodies_within whole.modules depth) world units ≡ run_main whole (bodies_of whole.modules) world units
main_at whole depth units world less =
    (on_main (Agrees units) (agree_pure units) (agree_fails units) (agree_ends units) (agree_local units) (agree_begins units) (agree_outer units) (agree_seq units) (agree_rounds units)
    whole (bodies_within whole.modules depth) (bodies_of whole.modules)
    (λ one given. agree_unit units (Option Typed) (bodies_within whole.modules depth one given) (bodies_of whole.modules one given) (bodies_bounded whole.modules depth one given)
    (λ at left w. depth_agree whole.modules depth (suc left) one given at left (omega (arith, w, less)) (omega arith)))).same world units (omega arith)
