-- What follows the body of a loop, and statements in a block.
use Rattle.std.proofs.Common.{◌≡◌, ◌∙◌, ℕ, Bool, true, false, List, Option, Some, bytes_eq, refl, sym, ap, subst}
use Rattle.std.proofs.lemmas.Slice.Eq.{bytes_eq-Decides}
use Rattle.cr_runs.specs.Owes.{Rests}
use Rattle.cr_runs.specs.Runs.{Ran, came, halted, bad, out, bind}
use Rattle.cr_runs.proofs.Rules.{bind_tick}
use Rattle.cr_world.specs.World.{World, Stop, events_of}
use Rattle.ext_calls.specs.declared.call.Call.{Call}
use Rattle.rs_mean.specs.declared.cause.Cause.{Cause}
use Rattle.rs_mean.specs.Run.{Frame, Flow, normal, breaks, continues, returned, run_stmt, run_stmts, then_on, after_block, after_turn}
use Rattle.rs_mean.specs.World.{Run, pure, seq, takes_unit, either, Round, again, done, next_turn}
use Rattle.rs_mean_frames.specs.Behave.{Behaves, BodiesBehave}
use Rattle.rs_mean_frames.proofs.Behaving.{behaves_pure}
use Rattle.rs_mean_frames.proofs.Framed.{pieces_behave, loops_unfold, after_behaves}
use Rattle.rs_text.specs.Tree.{Loop, Block, Stmts}
use Rattle.emit_laws.proofs.Runs.{same_runs, seq_seq, pure_seq}

pub same_label : (label : List ℕ) → bytes_eq label label ≡ true
same_label label = (bytes_eq-Decides label label).1 refl

pub unit_seq : {A B : Type 0} (run : Run A) (next : A → Run B) → seq (takes_unit run) next ≡ takes_unit (seq run next)
unfolding seq takes_unit
unit_seq run next = same_runs _ _ (λ world units. bind_tick world (run world) next units)

-- what is silent without a unit is so behind a piece that behaves
rests_then : {A B : Type 0} (world : World) (next : A → Run B) → ((value : A) (after : World) → Rests events_of (events_of after) (next value after 0)) → (run : Ran (Stop Cause) World A) →
    Rests events_of (events_of world) run → Rests events_of (events_of world) (bind run next)
rests_then world next silent (came value after left) is =
    subst (λ (events : List Call). Rests events_of events (next value after left)) is.1 (subst (λ (k : ℕ). Rests events_of (events_of after) (next value after k)) (sym is.0) (silent value after))
rests_then world next silent (halted status after) is = is
rests_then world next silent (bad why after) is = is
rests_then world next silent (out after) is = is

pub silent_seq : {A B : Type 0} (first : Run A) (next : A → Run B) → Behaves A first → ((value : A) (world : World) → Rests events_of (events_of world) (next value world 0)) → (world : World) →
    Rests events_of (events_of world) (seq first next world 0)
unfolding seq
silent_seq first next behaves silent world = rests_then world next silent (first world 0) (behaves.rests world)

module _ (frame : Frame) {B : Type 0} (next : Flow → Run B) where
  -- ---- loops

  module _ (label : List ℕ) (body : Stmts) where
    abbrev pub looped : Run Flow
    looped = run_stmt frame (Loop (Some label) body)

    abbrev goes_round : Round (Unit {0}) Flow → Run B
    goes_round round = seq (next_turn (λ state. looped) round) next

    abbrev one_turn : Bool → Round (Unit {0}) Flow → Round (Unit {0}) Flow → Run B
    one_turn test one other = seq (either test (pure one) (pure other)) goes_round

    abbrev pub after_body : Flow → Run B
    after_body flow = seq (after_turn (Some label) flow) goes_round

    pub loop_is : BodiesBehave frame.bodies → seq looped next ≡ takes_unit (seq (run_stmts frame body) after_body)
    loop_is behave =
        ap (λ (run : Run Flow). seq run next) (same_runs _ _ (loops_unfold frame behave (Some label) body))
        ∙ unit_seq _ next
        ∙ ap takes_unit (seq_seq _ _ next ∙ seq_seq _ _ _)

    pub round_normal : after_body normal ≡ seq looped next
    round_normal = pure_seq _ _

    pub round_continues : after_body (continues label) ≡ seq looped next
    round_continues = by_test (bytes_eq label label) (same_label label)
      where
        by_test : (test : Bool) → test ≡ true → one_turn test (again tt) (done (continues label)) ≡ seq looped next
        by_test true is = pure_seq _ _
        by_test false is = absurd cc

    pub round_breaks : after_body (breaks label) ≡ next normal
    round_breaks = by_test (bytes_eq label label) (same_label label)
      where
        by_test : (test : Bool) → test ≡ true → one_turn test (done normal) (done (breaks label)) ≡ next normal
        by_test true is = pure_seq _ _ ∙ pure_seq normal next
        by_test false is = absurd cc

    pub round_returned : (value : Option _) → after_body (returned value) ≡ next (returned value)
    round_returned value = pure_seq _ _ ∙ pure_seq (returned value) next

    module _ (other : List ℕ) (differ : bytes_eq label other ≡ false) where
      pub round_breaks_other : after_body (breaks other) ≡ next (breaks other)
      round_breaks_other = by_test (bytes_eq label other) differ
        where
          by_test : (test : Bool) → test ≡ false → one_turn test (done normal) (done (breaks other)) ≡ next (breaks other)
          by_test false is = pure_seq _ _ ∙ pure_seq (breaks other) next
          by_test true is = absurd cc

      pub round_continues_other : after_body (continues other) ≡ next (continues other)
      round_continues_other = by_test (bytes_eq label other) differ
        where
          by_test : (test : Bool) → test ≡ false → one_turn test (again tt) (done (continues other)) ≡ next (continues other)
          by_test false is = pure_seq _ _ ∙ pure_seq (continues other) next
          by_test true is = absurd cc

    pub round_silent : BodiesBehave frame.bodies → ((flow : Flow) (world : World) → Rests events_of (events_of world) (next flow world 0)) → (flow : Flow) (world : World) →
        Rests events_of (events_of world) (after_body flow world 0)
    round_silent behave silent flow world = silent_seq _ _ (after_behaves (Some label) flow) (λ round after. silent_seq _ next (turn_behaves round) silent after) world
      where
        turn_behaves : (round : Round (Unit {0}) Flow) → Behaves Flow (next_turn (λ state. looped) round)
        turn_behaves (again state) = pieces_behave.stmt frame behave (Loop (Some label) body)
        turn_behaves (done flow) = behaves_pure Flow flow

  -- ---- blocks

  module _ (label : List ℕ) (rest : Run Flow) where
    abbrev pub after_inside : Flow → Run B
    after_inside flow = seq (after_block label flow) (λ one. seq (then_on rest one) next)

    pub block_is : (body : Stmts) → seq (seq (run_stmt frame (Block label body)) (then_on rest)) next ≡ seq (run_stmts frame body) after_inside
    block_is body = seq_seq _ _ next ∙ seq_seq _ _ _

    pub inside_normal : after_inside normal ≡ seq rest next
    inside_normal = pure_seq _ _

    pub inside_breaks : after_inside (breaks label) ≡ seq rest next
    inside_breaks = by_test (bytes_eq label label) (same_label label)
      where
        by_test : (test : Bool) → test ≡ true → seq (either test (pure normal) (pure (breaks label))) (λ one. seq (then_on rest one) next) ≡ seq rest next
        by_test true is = pure_seq _ _
        by_test false is = absurd cc

    pub inside_returned : (value : Option _) → after_inside (returned value) ≡ next (returned value)
    inside_returned value = pure_seq _ _ ∙ pure_seq (returned value) next

    pub inside_continues : (other : List ℕ) → after_inside (continues other) ≡ next (continues other)
    inside_continues other = pure_seq _ _ ∙ pure_seq (continues other) next

    pub inside_breaks_other : (other : List ℕ) → bytes_eq label other ≡ false → after_inside (breaks other) ≡ next (breaks other)
    inside_breaks_other other differ = by_test (bytes_eq label other) differ
      where
        by_test : (test : Bool) → test ≡ false → seq (either test (pure normal) (pure (breaks other))) (λ one. seq (then_on rest one) next) ≡ next (breaks other)
        by_test false is = pure_seq _ _ ∙ pure_seq (breaks other) next
        by_test true is = absurd cc

    pub inside_silent : Behaves Flow rest → ((flow : Flow) (world : World) → Rests events_of (events_of world) (next flow world 0)) → (flow : Flow) (world : World) →
        Rests events_of (events_of world) (after_inside flow world 0)
    inside_silent behaves silent flow world = silent_seq _ _ (block_behaves flow) (λ one after. silent_seq _ next (on_behaves one) silent after) world
      where
        block_behaves : (flow : Flow) → Behaves Flow (after_block label flow)
        block_behaves normal = behaves_pure Flow normal
        block_behaves (breaks other) = by_test (bytes_eq label other)
          where
            by_test : (test : Bool) → Behaves Flow (either test (pure normal) (pure (breaks other)))
            by_test true = behaves_pure Flow normal
            by_test false = behaves_pure Flow (breaks other)
        block_behaves (continues other) = behaves_pure Flow (continues other)
        block_behaves (returned value) = behaves_pure Flow (returned value)

        on_behaves : (flow : Flow) → Behaves Flow (then_on rest flow)
        on_behaves normal = behaves
        on_behaves (breaks other) = behaves_pure Flow (breaks other)
        on_behaves (continues other) = behaves_pure Flow (continues other)
        on_behaves (returned value) = behaves_pure Flow (returned value)
