-- Lists of statements, loops and bodies unfold.
use Rattle.std.proofs.Common.{◌≡◌, ◌∙◌, ℕ, zero, suc, ◌≤◌, ◌<◌, ℤ, Bool, true, false, List, Option, Result, refl, sym, ap, arith}
use Rattle.cr_runs.specs.Runs.{Ran, came, halted, bad, out, bind}
use Rattle.cr_world.specs.Held.{Held}
use Rattle.cr_world.specs.World.{World, Stop}
use Rattle.mem_bytes.specs.declared.value.Ptr.{Ptr}
use Rattle.rs_text.specs.Tree.{no_stmts, more_stmts, OuterTree, FunctionTree, ModuleTree, CrateTree}
use Rattle.rs_mean.specs.declared.cause.Cause.{Cause}
use Rattle.rs_mean.specs.Calls.{outer_call}
use Rattle.rs_mean.specs.Laws.{LeavesWithin, ListsFollow, LoopsUnfold, BodiesUnfold, behind, frame_in, bodies_of}
use Rattle.rs_mean.specs.Run.{Flow, normal, breaks, continues, returned, run_stmt, run_stmts, after_turn, then_on, bodies_within, run_main, ran}
use Rattle.rs_mean.specs.Values.{Typed}
use Rattle.rs_mean.specs.World.{Run, pure, fails, ends, seq, takes_unit, either, Did, local, begins, Round, again, done, next_turn, turns_within, rounds}
use Rattle.rs_mean.proofs.Bounded.{Leaves, bounded_pure, bounded_fails, bounded_ends, bounded_local, bounded_begins, bounded_seq, bounded_unit, bounded_rounds, bounded_outer, bodies_bounded, leaves_no_more}
use Rattle.rs_mean.proofs.Pieces.{on_body, on_main}

-- ---- statements behind others

bind_bind : {A B C : Type 0} (first : Ran (Stop Cause) World A) (next : A → Run B) (last : B → Run C) →
    bind (bind first next) last ≡ bind first (λ value world left. bind (next value world left) last)
bind_bind (came value world left) next last = refl
bind_bind (halted status world) next last = refl
bind_bind (bad why world) next last = refl
bind_bind (out world) next last = refl

-- two ways to go on that are the same at each value, world and bound
bind_same : {A B : Type 0} (first : Ran (Stop Cause) World A) (next other : A → Run B) →
    ((value : A) (world : World) (left : ℕ) → next value world left ≡ other value world left) → bind first next ≡ bind first other
bind_same (came value world left) next other h = h value world left
bind_same (halted status world) next other h = refl
bind_same (bad why world) next other h = refl
bind_same (out world) next other h = refl

then_follows : (joined first others : Run Flow) → ((world : World) (left : ℕ) → joined world left ≡ bind (first world left) (then_on others)) →
    (flow : Flow) (world : World) (left : ℕ) → then_on joined flow world left ≡ bind (then_on first flow world left) (then_on others)
unfolding pure
then_follows joined first others h normal world left = h world left
then_follows joined first others h (breaks label) world left = refl
then_follows joined first others h (continues label) world left = refl
then_follows joined first others h (returned value) world left = refl

pub lists_follow : ListsFollow
unfolding seq pure
lists_follow frame no_stmts others world units = refl
lists_follow frame (more_stmts s ss) others world units =
    bind_same (run_stmt frame s world units) (then_on (run_stmts frame (behind ss others)))
    (λ flow state left. bind (then_on (run_stmts frame ss) flow state left) (then_on (run_stmts frame others)))
    (then_follows (run_stmts frame (behind ss others)) (run_stmts frame ss) (run_stmts frame others) (lists_follow frame ss others))
    ∙ sym (bind_bind (run_stmt frame s world units) (then_on (run_stmts frame ss)) (then_on (run_stmts frame others)))

-- ---- turns

module _ (S A : Type 0) (turn : S → Run (Round S A)) (h : (state : S) → Leaves (Round S A) (turn state)) where
  turns_bind : (k j : ℕ) (first : Ran (Stop Cause) World (Round S A)) (units : ℕ) → LeavesWithin units first →
      ((state : S) (world : World) (left : ℕ) → left ≤ units → turns_within k turn state world left ≡ turns_within j turn state world left) →
      bind first (next_turn (turns_within k turn)) ≡ bind first (next_turn (turns_within j turn))
  turns_bind k j (came (again state) world left) units w same = same state world left w
  turns_bind k j (came (done value) world left) units w same = refl
  turns_bind k j (halted status world) units w same = refl
  turns_bind k j (bad why world) units w same = refl
  turns_bind k j (out world) units w same = refl

  -- more turns than there are units play no part
  turns_agree : (k j : ℕ) (state : S) (world : World) (units : ℕ) → units < k → units < j → turns_within k turn state world units ≡ turns_within j turn state world units
  unfolding takes_unit seq
  turns_agree zero j state world units a b = absurd (omega arith)
  turns_agree (suc k) zero state world units a b = absurd (omega arith)
  turns_agree (suc k) (suc j) state world zero a b = refl
  turns_agree (suc k) (suc j) state world (suc units) a b =
      turns_bind k j (turn state world units) units (h state world units) (λ next at left w. turns_agree k j next at left (omega arith) (omega arith))

  rounds_bind : (k : ℕ) (first : Ran (Stop Cause) World (Round S A)) → LeavesWithin k first →
      bind first (next_turn (turns_within (suc k) turn)) ≡ bind first (next_turn (rounds turn))
  unfolding rounds
  rounds_bind k (came (again state) world left) w = turns_agree (suc k) (suc left) state world left (omega arith) (omega arith)
  rounds_bind k (came (done value) world left) w = refl
  rounds_bind k (halted status world) w = refl
  rounds_bind k (bad why world) w = refl
  rounds_bind k (out world) w = refl

  pub rounds_unfold : (state : S) (world : World) (units : ℕ) → rounds turn state world units ≡ takes_unit (seq (turn state) (next_turn (rounds turn))) world units
  unfolding rounds takes_unit seq
  rounds_unfold state world zero = refl
  rounds_unfold state world (suc units) = rounds_bind units (turn state world units) (h state world units)

-- ---- loops

bounded_either : (A : Type 0) (test : Bool) (one other : Run A) → Leaves A one → Leaves A other → Leaves A (either test one other)
bounded_either A true one other h k = h
bounded_either A false one other h k = k

bounded_after : (name : Option (List ℕ)) (flow : Flow) → Leaves (Round (Unit {0}) Flow) (after_turn name flow)
bounded_after name normal = bounded_pure _ _
bounded_after name (breaks label) = bounded_either _ _ (pure (done normal)) (pure (done (breaks label))) (bounded_pure _ _) (bounded_pure _ _)
bounded_after name (continues label) = bounded_either _ _ (pure (again tt)) (pure (done (continues label))) (bounded_pure _ _) (bounded_pure _ _)
bounded_after name (returned value) = bounded_pure _ _

pub loops_unfold : LoopsUnfold
loops_unfold modules depth locals label body world units =
    let run : Run Flow = run_stmts (frame_in modules depth locals) body in
    rounds_unfold (Unit {0}) Flow (λ _. seq run (after_turn label))
    (λ _. bounded_seq Flow (Round (Unit {0}) Flow) run run (after_turn label) (after_turn label) (leaves_no_more.stmts modules depth locals body) (bounded_after label))
    tt world units

-- ---- bodies

-- two pieces are the same at each bound up to one
pub record Agrees (most : ℕ) (A : Type 0) (run other : Run A) : Type 0 where
  pub bounded : Leaves A run
  pub same : (world : World) (units : ℕ) → units ≤ most → run world units ≡ other world units

module _ (most : ℕ) where
  agree_pure : (A : Type 0) (value : A) → Agrees most A (pure value) (pure value)
  agree_pure A value = record { bounded = bounded_pure A value; same = λ world units w. refl }

  agree_fails : (A : Type 0) (why : Cause) → Agrees most A (fails why) (fails why)
  agree_fails A why = record { bounded = bounded_fails A why; same = λ world units w. refl }

  agree_ends : (A : Type 0) (status : ℤ) → Agrees most A (ends status) (ends status)
  agree_ends A status = record { bounded = bounded_ends A status; same = λ world units w. refl }

  agree_local : (A : Type 0) (step : Held → Result (Did A) Cause) → Agrees most A (local step) (local step)
  agree_local A step = record { bounded = bounded_local A step; same = λ world units w. refl }

  agree_begins : (size align : ℕ) → Agrees most Ptr (begins size align) (begins size align)
  agree_begins size align = record { bounded = bounded_begins size align; same = λ world units w. refl }

  agree_outer : (fun : OuterTree) (args : List Typed) → Agrees most (Option Typed) (takes_unit (outer_call fun args)) (takes_unit (outer_call fun args))
  agree_outer fun args = record { bounded = bounded_outer fun args; same = λ world units w. refl }

  agree_bind : (A B : Type 0) (units : ℕ) (first : Ran (Stop Cause) World A) (next more : A → Run B) → units ≤ most → LeavesWithin units first →
      ((value : A) → Agrees most B (next value) (more value)) → bind first next ≡ bind first more
  agree_bind A B units (came value world left) next more w h agree = (agree value).same world left (omega arith)
  agree_bind A B units (halted status world) next more w h agree = refl
  agree_bind A B units (bad why world) next more w h agree = refl
  agree_bind A B units (out world) next more w h agree = refl

  agree_seq : (A B : Type 0) (first other : Run A) (next more : A → Run B) → Agrees most A first other → ((value : A) → Agrees most B (next value) (more value)) →
      Agrees most B (seq first next) (seq other more)
  unfolding seq
  agree_seq A B first other next more h agree = record {
    bounded = bounded_seq A B first other next more h.bounded (λ value. (agree value).bounded);
    same = λ world units w.
        agree_bind A B units (first world units) next more w (h.bounded world units) agree
        ∙ ap (λ (found : Ran (Stop Cause) World A). bind found more) (h.same world units w);
  }

  turned : (S A : Type 0) (rest other : S → Run A) (units : ℕ) (first : Ran (Stop Cause) World (Round S A)) → LeavesWithin units first →
      ((state : S) (world : World) (left : ℕ) → left ≤ units → rest state world left ≡ other state world left) → bind first (next_turn rest) ≡ bind first (next_turn other)
  turned S A rest other units (came (again state) world left) w same = same state world left w
  turned S A rest other units (came (done value) world left) w same = refl
  turned S A rest other units (halted status world) w same = refl
  turned S A rest other units (bad why world) w same = refl
  turned S A rest other units (out world) w same = refl

  agree_turns : (S A : Type 0) (turn other : S → Run (Round S A)) → ((state : S) → Agrees most (Round S A) (turn state) (other state)) → (k : ℕ) (state : S) (world : World) (units : ℕ) → units ≤ most →
      turns_within k turn state world units ≡ turns_within k other state world units
  unfolding takes_unit seq
  agree_turns S A turn other h zero state world units w = refl
  agree_turns S A turn other h (suc k) state world zero w = refl
  agree_turns S A turn other h (suc k) state world (suc units) w =
      turned S A (turns_within k turn) (turns_within k other) units (turn state world units) ((h state).bounded world units)
      (λ next at left less. agree_turns S A turn other h k next at left (omega arith))
      ∙ ap (λ (found : Ran (Stop Cause) World (Round S A)). bind found (next_turn (turns_within k other))) ((h state).same world units (omega arith))

  agree_rounds : (S A : Type 0) (turn other : S → Run (Round S A)) → ((state : S) → Agrees most (Round S A) (turn state) (other state)) → (state : S) → Agrees most A (rounds turn state) (rounds other state)
  unfolding rounds
  agree_rounds S A turn other h state = record {
    bounded = bounded_rounds S A turn other (λ one. (h one).bounded) state;
    same = λ world units w. agree_turns S A turn other h (suc units) state world units w;
  }

behind_unit : (most : ℕ) (A : Type 0) (run other : Run A) → ((world : World) (units : ℕ) → units < most → run world units ≡ other world units) →
    (world : World) (units : ℕ) → units ≤ most → takes_unit run world units ≡ takes_unit other world units
unfolding takes_unit
behind_unit most A run other same world zero w = refl
behind_unit most A run other same world (suc units) w = same world units (omega arith)

-- a piece behind a unit, where two are the same below a bound
agree_unit : (most : ℕ) (A : Type 0) (run other : Run A) → Leaves A run → ((world : World) (units : ℕ) → units < most → run world units ≡ other world units) →
    Agrees most A (takes_unit run) (takes_unit other)
agree_unit most A run other h same = record { bounded = bounded_unit A run other h; same = behind_unit most A run other same }

-- deeper calls than there are units play no part
depth_agree : (modules : List ModuleTree) (k j : ℕ) (fun : FunctionTree) (args : List Typed) (world : World) (units : ℕ) → units < k → units < j →
    bodies_within modules k fun args world units ≡ bodies_within modules j fun args world units
depth_agree modules zero j fun args world units a b = absurd (omega arith)
depth_agree modules (suc k) zero fun args world units a b = absurd (omega arith)
depth_agree modules (suc k) (suc j) fun args world units a b =
    (on_body (Agrees units) (agree_pure units) (agree_fails units) (agree_ends units) (agree_local units) (agree_begins units) (agree_outer units) (agree_seq units) (agree_rounds units)
    modules (bodies_within modules k) (bodies_within modules j)
    (λ one given. agree_unit units (Option Typed) (bodies_within modules k one given) (bodies_within modules j one given) (bodies_bounded modules k one given)
    (λ at left w. depth_agree modules k j one given at left (omega arith) (omega arith))) fun args).same world units (omega arith)

pub bodies_unfold : BodiesUnfold
bodies_unfold modules fun args world units =
    (on_body (Agrees units) (agree_pure units) (agree_fails units) (agree_ends units) (agree_local units) (agree_begins units) (agree_outer units) (agree_seq units) (agree_rounds units)
    modules (bodies_within modules units) (bodies_of modules)
    (λ one given. agree_unit units (Option Typed) (bodies_within modules units one given) (bodies_of modules one given) (bodies_bounded modules units one given)
    (λ at left w. depth_agree modules units (suc left) one given at left w (omega arith))) fun args).same world units (omega arith)

-- and it plays no part in a whole run
pub main_unfolds : (whole : CrateTree) (world : World) (units : ℕ) → ran whole world units ≡ run_main whole (bodies_of whole.modules) world units
main_unfolds whole world units =
    (on_main (Agrees units) (agree_pure units) (agree_fails units) (agree_ends units) (agree_local units) (agree_begins units) (agree_outer units) (agree_seq units) (agree_rounds units)
    whole (bodies_within whole.modules (suc units)) (bodies_of whole.modules)
    (λ one given. agree_unit units (Option Typed) (bodies_within whole.modules (suc units) one given) (bodies_of whole.modules one given) (bodies_bounded whole.modules (suc units) one given)
    (λ at left w. depth_agree whole.modules (suc units) (suc left) one given at left (omega (arith, w)) (omega arith)))).same world units (omega arith)
